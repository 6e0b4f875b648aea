-- The header of vectors.
use Rattle.std.specs.Prelude.{◌≡◌, ℕ, ◌&&◌, Bool, not, if◌then◌else◌, List, [], ◌∷◌, ◌++◌, map, find, position, Option, Some, None, is_some, Result, Ok, Err}
use Rattle.std.specs.List.{list_any}
use Rattle.std.specs.Str.{bytes_eq}
use Rattle.pm_values.specs.Tables as Table
use Rattle.pm_values.specs.Tables.{get}
use Rattle.pm_trace.specs.Words.{words_of}
use Rattle.pm_trace.specs.declared.fault.HeadFault.{HeadFault}
use Rattle.pm_trace.specs.declared.fault.HeadFault.TheVariants as fault
use Rattle.pm_trace.specs.declared.header.Columns.{Columns}
use Rattle.pm_trace.specs.declared.header.Header.{Header}

-- the place of the input that a word names
abbrev pub place_of : List (List ℕ) → List ℕ → Option ℕ
place_of names word = position (λ name. bytes_eq name word) names

-- a word is one of the words
abbrev pub is_among : List ℕ → List (List ℕ) → Bool
is_among word words = list_any (bytes_eq word) words

-- the first word that names no input or repeats an earlier word
unfoldable pub first_wrong : List (List ℕ) → List (List ℕ) → List (List ℕ) → Option (List ℕ)
first_wrong names earlier [] = None
first_wrong names earlier (word ∷ words) =
    if is_some (place_of names word) && not (is_among word earlier) then first_wrong names (earlier ++ word ∷ []) words
    else Some word

-- the first input that no word names
unfoldable pub first_missing : List (List ℕ) → List (List ℕ) → Option (List ℕ)
first_missing names words = find (λ name. not (is_among name words)) names

-- the first, and if there is none the second
abbrev pub or_else : Option (List ℕ) → Option (List ℕ) → Option (List ℕ)
or_else (Some first) second = Some first
or_else None second = second

-- why the words are no header
unfoldable pub wrong_word : List (List ℕ) → List (List ℕ) → Option (List ℕ)
wrong_word names words = or_else (first_wrong names [] words) (first_missing names words)

-- a header was read: each word names an input, and each input has one word; or the wrong word is named
abbrev pub ReadsHeader : List (List ℕ) → List ℕ → Result Header HeadFault → Type 0
ReadsHeader names line (Ok header) =
    (wrong_word names (words_of line) ≡ None) × (map Some header.port_of ≡ map (place_of names) (words_of line))
ReadsHeader names line (Err (fault.BadHeader word)) = wrong_word names (words_of line) ≡ Some word
ReadsHeader names line (Err fault.NoMemory) = Unit {0}

-- ---- what the functions of the reader return

-- the place of a word, unless it is one of the words before
abbrev pub new_place : Table.Names ℕ → Table.Names (Unit {0}) → List ℕ → Option ℕ
new_place places words word = if is_some (get words word) then None else get places word

-- the first input that is none of the words
unfoldable pub unnamed : Table.Names (Unit {0}) → List (List ℕ) → Option (List ℕ)
unnamed words inputs = find (λ name. not (is_some (get words name))) inputs

-- the table has these words
abbrev pub HasWords : Table.Names (Unit {0}) → List (List ℕ) → Type 0
HasWords table words = (word : List ℕ) → is_some (get table word) ≡ is_among word words

-- the words name inputs, each once, and the table has them; or the wrong word is named
abbrev pub ReadsColumns : List (List ℕ) → List ℕ → Result Columns HeadFault → Type 0
ReadsColumns names line (Ok columns) =
    (first_wrong names [] (words_of line) ≡ None) × (map Some columns.port_of ≡ map (place_of names) (words_of line))
    × HasWords columns.words (words_of line)
ReadsColumns names line (Err (fault.BadHeader word)) = first_wrong names [] (words_of line) ≡ Some word
ReadsColumns names line (Err fault.NoMemory) = Unit {0}

-- the fault names the word
abbrev pub Names : List ℕ → HeadFault → Type 0
Names word (fault.BadHeader named) = named ≡ word
Names word fault.NoMemory = Unit {0}
