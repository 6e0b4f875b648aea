-- Which job a list of words asks for: what the command finds in them, and then what each action is given.
use Rattle.std.specs.Prelude.{◌≡◌, ◌≢◌, ◌⊎◌, ◌≤◌, ◌<◌, ◌^◌, ℕ, ℤ, pos, neg_ℤ, List, [], ◌∷◌, ◌++◌, length, Option, Some, None, IfSome, unwrap_or, codes, decimal, IsTrue}
use Rattle.std.specs.Char.{is_digit}
use Rattle.std.specs.List.{list_all}
use Rattle.std.specs.Str.Parse.{digits_value}
use Rattle.clap.specs.Words.{Row, first_of, all_of}
use Rattle.pm_syn.specs.Names.{is_spelled_as_name}
use Rattle.pm_syn.specs.Numbers.{IsLiteral}
use Rattle.pm_elab.specs.declared.parameter.Param.{Param}
use Rattle.pm_elab.specs.declared.parameter.ParamValue.{ParamValue}
use Rattle.pm_elab.specs.declared.parameter.ParamValue.TheVariants as given
use Rattle.pm_words.specs.Command.{AreTaken, found_in}
use Rattle.pm_words.specs.declared.job.Job.{Job}
use Rattle.pm_words.specs.declared.job.Job.TheVariants as job
use Rattle.pm_words.specs.declared.job.Options.{Options}
use Rattle.pm_words.specs.declared.job.Target.{Target}

-- ---- what the command finds

-- the action, the words after it, and the values of the options that are given
pub record Entries : Type 0 where
  pub action : Option (List ℕ)
  pub rest : List (List ℕ)
  pub order : Option (List ℕ)
  pub reset : Option (List ℕ)

-- the entries of what the command finds
abbrev pub entries_of : List Row → Entries
entries_of rows = record {
  action = first_of (codes "action") rows;
  rest = unwrap_or (all_of (codes "rest") rows) [];
  order = first_of (codes "order") rows;
  reset = first_of (codes "reset") rows;
}

-- ---- single words

-- a word that names something: it is neither empty nor `-`
abbrev pub IsOperand : List ℕ → Type 0
IsOperand word = (word ≢ []) × (word ≢ codes "-")

-- one to ten decimal digits, which write the number
pub record IsNumber (number : ℕ) (word : List ℕ) : Type 0 where
  pub some : 1 ≤ length word
  pub short : length word ≤ 10
  pub digits : IsTrue (list_all (λ byte. is_digit byte 10) word)
  pub written : number ≡ digits_value 10 word

-- an integer literal of a design
pub record IsPlain (integer : ℤ) (word : List ℕ) : Type 0 where
  pub size : ℕ
  pub literal : IsLiteral size word
  pub fits : size < 2 ^ 63
  pub written : integer ≡ pos size

-- a minus and an integer literal of a design
pub record IsNegated (integer : ℤ) (word : List ℕ) : Type 0 where
  pub size : ℕ
  pub spelling : List ℕ
  pub spelled : word ≡ 45 ∷ spelling
  pub literal : IsLiteral size spelling
  pub fits : size ≤ 2 ^ 63
  pub written : integer ≡ neg_ℤ (pos size)

-- `BitsN` for the width N, 1 to 128
pub record IsWidth (width : ℕ) (word : List ℕ) : Type 0 where
  pub low : 1 ≤ width
  pub high : width ≤ 128
  pub spelled : word ≡ codes "Bits" ++ decimal width

-- the value of a parameter: an integer of 64 bits, with or without a minus, or `BitsN`
abbrev pub IsValue : ParamValue → List ℕ → Type 0
IsValue (given.Int integer) word = IsPlain integer word ⊎ IsNegated integer word
IsValue (given.Width width) word = IsWidth width word

-- `name=value`
pub record IsParam (param : Param) (word : List ℕ) : Type 0 where
  pub value : List ℕ
  pub spelled : word ≡ param.name ++ 61 ∷ value
  pub named : IsTrue (is_spelled_as_name param.name)
  pub valued : IsValue param.value value

-- `name=value` for each of the parameters
abbrev pub AreParams : List Param → List (List ℕ) → Type 0
AreParams [] [] = Unit {0}
AreParams [] (word ∷ words) = ⊥
AreParams (param ∷ params) [] = ⊥
AreParams (param ∷ params) (word ∷ words) = IsParam param word × AreParams params words

-- ---- what an action is given

-- a file, a class, and `name=value` for each of the parameters
pub record IsTarget (target : Target) (words : List (List ℕ)) : Type 0 where
  pub assignments : List (List ℕ)
  pub words_are : words ≡ target.file ∷ target.class ∷ assignments
  pub file : IsOperand target.file
  pub class : IsOperand target.class
  pub params : AreParams target.params assignments

-- the reset cycles: 0 to 1,000, and 2 if the option isn't given
abbrev pub IsReset : ℕ → Option (List ℕ) → Type 0
IsReset cycles None = cycles ≡ 2
IsReset cycles (Some word) = IsNumber cycles word × (cycles ≤ 1000)

-- the options of a simulation
pub record AreOptions (options : Options) (entries : Entries) : Type 0 where
  pub order : options.order ≡ entries.order
  pub named : IfSome entries.order IsOperand
  pub reset : IsReset options.reset entries.reset

-- no option is given
abbrev pub HasNoOptions : Entries → Type 0
HasNoOptions entries = (entries.order ≡ None) × (entries.reset ≡ None)

-- ---- jobs

-- the job that the entries ask for
abbrev pub IsJob : Job → Entries → Type 0
IsJob (job.Check target) entries = (entries.action ≡ Some (codes "check")) × IsTarget target entries.rest
    × HasNoOptions entries
IsJob (job.Order target) entries = (entries.action ≡ Some (codes "order")) × IsTarget target entries.rest
    × HasNoOptions entries
IsJob (job.Sim target options) entries =
    (entries.action ≡ Some (codes "sim")) × IsTarget target entries.rest × AreOptions options entries

-- the words ask for the job
abbrev pub AskFor : List (List ℕ) → Job → Type 0
AskFor words asked = AreTaken words × IsJob asked (entries_of (found_in words))

-- words ask for at most one job
abbrev pub OneJobAtMost : Type 0
OneJobAtMost = (words : List (List ℕ)) (one other : Job) → AskFor words one → AskFor words other → one ≡ other
