-- The lines that are skipped: functions that print a component, with the lines inside them.
use Rattle.std.specs.Prelude.{◌&&◌, ◌||◌, Bool, false, List, [], ◌∷◌, codes, if◌then◌else◌}
use Rattle.pm_syn.specs.declared.token.Line.{Line}
use Rattle.pm_syn.specs.declared.token.Token.{Token}
use Rattle.pm_grammar.specs.Prefixes.{begins_with}
use Rattle.pm_grammar.specs.Tokens.{is_word}
use Rattle.pm_parse.specs.Enclosing.{enclosing}

-- a line of these tokens begins with `class`
abbrev pub begins_class : List Token → Bool
begins_class tokens = begins_with (is_word (codes "class")) tokens

-- a line of these tokens begins with `def line_trace` or `def __str__`
abbrev pub begins_printer : List Token → Bool
begins_printer [] = false
begins_printer (word ∷ after) =
    is_word (codes "def") word
    && (begins_with (is_word (codes "line_trace")) after || begins_with (is_word (codes "__str__")) after)

-- the line begins such a function directly in a class; the lines that it is inside are listed innermost first
abbrev pub is_printer : Line → List Line → Bool
is_printer line [] = false
is_printer line (header ∷ outer) = begins_class header.tokens && begins_printer line.tokens

-- one of these lines begins such a function directly in a class; each line is inside those listed after it
abbrev pub has_printer : List Line → Bool
has_printer [] = false
has_printer (line ∷ outer) = is_printer line outer || has_printer outer

-- the line begins such a function or is inside one
abbrev pub is_skipped : Line → List Line → Bool
is_skipped line before = has_printer (line ∷ enclosing (λ (l : Line). l.column) line.column before)

-- of the lines after earlier ones, those that aren't skipped
abbrev pub kept_after : List Line → List Line → List Line
kept_after before [] = []
kept_after before (line ∷ after) =
    if is_skipped line before then kept_after (line ∷ before) after
    else line ∷ kept_after (line ∷ before) after

-- the lines of a file that aren't skipped
abbrev pub kept : List Line → List Line
kept lines = kept_after [] lines
