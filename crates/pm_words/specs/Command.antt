-- The command of `clap` by which the words are read.
use Rattle.std.specs.Prelude.{◌≡◌, [], List, Some, codes, true}
use Rattle.clap.specs.Words.{App, Rule, Row, Text, new_app, new_rule, with_rule, matches_of, fault_of}
use Rattle.clap.specs.Lexer.{usize_max}

-- an option `--name` of one value
abbrev pub option_rule : Text → Rule
option_rule name = record (new_rule name) { long = Some name }

-- the word that names the action, which is required
abbrev pub action_rule : Rule
action_rule = record (new_rule (codes "action")) { required = true }

-- the other words, however many
abbrev pub rest_rule : Rule
rest_rule = record (new_rule (codes "rest")) {
  range = Some (record { start_inclusive = 0; end_inclusive = usize_max });
}

-- the command without its arguments: the words don't begin with the program's name, and no flag asks for help
abbrev pub bare_app : App
bare_app = let app = new_app (codes "pymtl") in
    record app { top = record app.top { no_binary_name = true; disable_help_flag = true } }

-- the command
abbrev pub the_app : App
the_app = with_rule (with_rule (with_rule (with_rule bare_app
    (option_rule (codes "order"))) (option_rule (codes "reset"))) action_rule) rest_rule

-- the command finds no fault in the words
abbrev pub AreTaken : List Text → Type 0
AreTaken words = fault_of the_app words ≡ []

-- what the command finds in the words
abbrev pub found_in : List Text → List Row
found_in = matches_of the_app
