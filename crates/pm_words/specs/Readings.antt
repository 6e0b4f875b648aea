-- What the functions that read words return, step by step. `specs/Words.antt` says what words mean.
use Rattle.std.specs.Prelude.{◌≡◌, ◌≢◌, ◌+◌, ◌*◌, ◌^◌, ◌==◌, ◌&&◌, ℕ, ℤ, pos, neg_ℤ, Bool, true, false, not, nat_lt, nat_le, if◌then◌else◌, List, [], ◌∷◌, ◌++◌, length, find, Option, Some, None, option_map, codes, decimal, Result, Ok, Err}
use Rattle.std.specs.Char.{digit_value, is_digit}
use Rattle.std.specs.List.{list_all, range_with_len}
use Rattle.std.specs.Option.{option_and_then}
use Rattle.std.specs.Str.{bytes_eq}
use Rattle.std.specs.Str.Parse.{digits_value}
use Rattle.pm_syn.specs.Names.{is_spelled_as_name}
use Rattle.pm_syn.specs.Numbers.{base_of}
use Rattle.pm_elab.specs.declared.parameter.Param.{Param}
use Rattle.pm_elab.specs.declared.parameter.ParamValue.{ParamValue}
use Rattle.pm_elab.specs.declared.parameter.ParamValue.TheVariants as given
use Rattle.pm_words.specs.Words.{Entries}
use Rattle.pm_words.specs.declared.action.Action.{Action}
use Rattle.pm_words.specs.declared.action.Action.TheVariants as action
use Rattle.pm_words.specs.declared.fault.WordsFault.{WordsFault}
use Rattle.pm_words.specs.declared.fault.WordsFault.TheVariants as fault
use Rattle.pm_words.specs.declared.job.Job.{Job}
use Rattle.pm_words.specs.declared.job.Job.TheVariants as job
use Rattle.pm_words.specs.declared.job.Options.{Options}
use Rattle.pm_words.specs.declared.job.Target.{Target}
use Rattle.pm_words.specs.declared.literal.Digits.{Digits}

-- what is read, unless memory runs out; nothing to be read is a fault
abbrev pub Gives : {A : Type 0} → Option A → Result A WordsFault → Type 0
Gives read (Ok a) = read ≡ Some a
Gives read (Err e) = e ≢ fault.NoMemory → read ≡ None

-- the second step on what the first one gives, if it gives something
infixr 6 ◌and_then◌
abbrev pub ◌and_then◌ : {A B : Type 0} → Option A → (A → Option B) → Option B
first and_then second = option_and_then second first

-- ---- single words

-- neither empty nor `-`
unfoldable pub is_operand : List ℕ → Bool
is_operand word = nat_lt 0 (length word) && not (bytes_eq word (codes "-"))

-- the number of decimal digits, if it has at most 64 bits
unfoldable pub decimal_of : List ℕ → Option ℕ
decimal_of digits =
    if list_all (λ byte. is_digit byte 10) digits && nat_lt (digits_value 10 digits) (2 ^ 64) then Some
    (digits_value 10 digits) else None

-- the number of one to ten decimal digits, if it has at most 64 bits
unfoldable pub number_of : List ℕ → Option ℕ
number_of word = if nat_lt 0 (length word) && nat_le (length word) 10 then decimal_of word else None

-- the number with one more digit, if it has at most 64 bits
unfoldable pub followed_by : ℕ → ℕ → ℕ → Option ℕ
followed_by number base digit = if nat_lt (number * base + digit) (2 ^ 64) then Some (number * base + digit) else None

-- the digits with one more byte, if that is a digit, or an underscore after one
abbrev pub with_byte : ℕ → Digits → ℕ → Option Digits
with_byte base read byte =
    if is_digit byte base
    then option_map (λ number. record { number = number; is_complete = true })
    (followed_by read.number base (digit_value byte))
    else if read.is_complete && byte == 95 then Some (record { number = read.number; is_complete = false }) else None

-- the digits with more bytes
abbrev pub with_bytes : ℕ → Digits → List ℕ → Option Digits
with_bytes base read [] = Some read
with_bytes base read (byte ∷ bytes) = with_byte base read byte and_then (λ next. with_bytes base next bytes)

-- no byte yet
abbrev pub no_digits : Digits
no_digits = record { number = 0; is_complete = false }

-- the number, unless an underscore is last
abbrev pub number_in : Digits → Option ℕ
number_in read = if read.is_complete then Some read.number else None

-- the number of digits of the base, if it has at most 64 bits
unfoldable pub digits_of : ℕ → List ℕ → Option ℕ
digits_of base bytes = with_bytes base no_digits bytes and_then number_in

-- the number of a literal after its `0`
abbrev pub after_zero : List ℕ → Option ℕ
after_zero [] = Some 0
after_zero (letter ∷ digits) = base_of letter and_then (λ base. digits_of base digits)

-- the number of a literal, if it has at most 64 bits
unfoldable pub literal_of : List ℕ → Option ℕ
literal_of [] = digits_of 10 []
literal_of (first ∷ others) = if first == 48 then after_zero others else digits_of 10 (first ∷ others)

-- the integer of 64 bits that is the number
unfoldable pub plain : ℕ → Option ℤ
plain size = if nat_lt size (2 ^ 63) then Some (pos size) else None

-- the integer of 64 bits that is the number with a minus
unfoldable pub negated : ℕ → Option ℤ
negated size = if nat_le size (2 ^ 63) then Some (neg_ℤ (pos size)) else None

-- the integer of a literal with or without a minus
unfoldable pub integer_of : List ℕ → Option ℤ
integer_of [] = literal_of [] and_then plain
integer_of (first ∷ others) =
    if first == 45 then literal_of others and_then negated else literal_of (first ∷ others) and_then plain

-- `BitsN` for this N
unfoldable pub is_width : List ℕ → ℕ → Bool
is_width word width = bytes_eq word (codes "Bits" ++ decimal width)

-- the width N of `BitsN`, 1 to 128
unfoldable pub width_of : List ℕ → Option ℕ
width_of word = find (is_width word) (range_with_len 1 128)

-- the first, and if there is none the second
abbrev pub or_else : {A : Type 0} → Option A → Option A → Option A
or_else (Some a) second = Some a
or_else None second = second

-- the value of a parameter
unfoldable pub value_of_word : List ℕ → Option ParamValue
value_of_word word = or_else (option_map given.Width (width_of word)) (option_map given.Int (integer_of word))

-- the text before the first `=`, and the text after it
unfoldable pub cut : List ℕ → Option (List ℕ × List ℕ)
cut [] = None
cut (byte ∷ text) = if byte == 61 then Some ([], text) else option_map (λ parts. (byte ∷ parts.0, parts.1)) (cut text)

-- the name, if it is one
unfoldable pub name_in : List ℕ → Option (List ℕ)
name_in word = if is_spelled_as_name word then Some word else None

-- the parameter of `name=value`
unfoldable pub param_of : List ℕ → Option Param
param_of word = cut word and_then (λ parts. value_of_word parts.1
    and_then (λ value. name_in parts.0 and_then (λ name. Some (record { name = name; value = value }))))

-- the parameters of the words
unfoldable pub params_of : List (List ℕ) → Option (List Param)
params_of [] = Some []
params_of (word ∷ words) = param_of word and_then (λ param. params_of words and_then (λ params. Some (param ∷ params)))

-- ---- what an action is given

-- the word, if it names something
unfoldable pub operand_in : List ℕ → Option (List ℕ)
operand_in word = if is_operand word then Some word else None

-- the file, the class and the parameters
unfoldable pub target_with : List ℕ → List ℕ → List (List ℕ) → Option Target
target_with file class assignments = operand_in file and_then (λ file. operand_in class
    and_then (λ class. params_of assignments and_then
    (λ params. Some (record { file = file; class = class; params = params }))))

-- the same, of the words
unfoldable pub target_of : List (List ℕ) → Option Target
target_of [] = None
target_of (file ∷ []) = None
target_of (file ∷ class ∷ assignments) = target_with file class assignments

-- the order file's name, if it is given
unfoldable pub order_of : Option (List ℕ) → Option (Option (List ℕ))
order_of None = Some None
order_of (Some word) = option_map (λ name. Some name) (operand_in word)

-- at most 1,000 cycles
unfoldable pub cycles_in : ℕ → Option ℕ
cycles_in cycles = if nat_le cycles 1000 then Some cycles else None

-- the reset cycles
unfoldable pub reset_of : Option (List ℕ) → Option ℕ
reset_of None = Some 2
reset_of (Some word) = number_of word and_then cycles_in

-- the options of a simulation
unfoldable pub options_of : Entries → Option Options
options_of entries =
    reset_of entries.reset and_then
    (λ reset. order_of entries.order and_then (λ order. Some (record { order = order; reset = reset })))

-- ---- jobs

-- the action of this name
unfoldable pub action_of : List ℕ → Option Action
action_of word =
    if bytes_eq word (codes "check") then Some action.Check
    else if bytes_eq word (codes "order") then Some action.Order
    else if bytes_eq word (codes "sim") then Some action.Sim
    else None

-- the target, if no option is given
unfoldable pub target_alone : Entries → Option Target
target_alone entries = elim entries.order [
  | Some word ↦ None
  | None ↦ elim entries.reset [ Some word ↦ None | None ↦ target_of entries.rest ]
]

-- a simulation with its options
unfoldable pub simulation_of : Entries → Option Job
simulation_of entries =
    options_of entries and_then (λ options. target_of entries.rest and_then (λ target. Some (job.Sim target options)))

-- the job of the action
unfoldable pub job_by : Action → Entries → Option Job
job_by action.Check entries = option_map job.Check (target_alone entries)
job_by action.Order entries = option_map job.Order (target_alone entries)
job_by action.Sim entries = simulation_of entries

-- the job of the entries
unfoldable pub job_in : Entries → Option Job
job_in entries = entries.action and_then (λ word. action_of word and_then (λ named. job_by named entries))
