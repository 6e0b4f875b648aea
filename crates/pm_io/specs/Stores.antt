-- What a store of named files tells, and how its calls change it.
use Rattle.std.specs.Prelude.{◌≡◌, ℕ, ◌<◌, ◌≤◌, ◌⊎◌, Bool, true, false, not, List, [], Option, None, Some, length, filter, if◌then◌else◌}
use Rattle.std.specs.Map.{lookup}
use Rattle.std.specs.Str.{bytes_eq}
use Rattle.std.specs.Option.{option_map, option_map_or}
use Rattle.pm_io.specs.Causes.{Rose}
use Rattle.pm_io.specs.Known.{Are}
use Rattle.pm_io.specs.declared.store.Loaded.{Loaded}
use Rattle.pm_io.specs.declared.store.Loaded.TheVariants as loaded
use Rattle.pm_io.specs.declared.store.Made.{Made}
use Rattle.pm_io.specs.declared.store.Made.TheVariants as made
use Rattle.pm_io.specs.declared.store.StoreCall.{StoreCall}

-- ---- what is told

-- the files of a store other than its current one, by name, and whether each other name is missing or has an empty file
pub record Files : Type 0 where
  pub listed : List (List ℕ × List ℕ)
  pub others_empty : Bool

-- what is known of the file of one name
pub data Told : Type 0 where
  nothing : Told
  content : List ℕ → Told
  missing_or_empty : Told

-- what is known of a file by its bytes, if they are told
abbrev pub told_bytes : Option (List ℕ) → Told
told_bytes None = nothing
told_bytes (Some bytes) = content bytes

-- what is known of a name that isn't listed
abbrev pub told_unlisted : Bool → Told
told_unlisted true = missing_or_empty
told_unlisted false = nothing

-- what is known of a name by what is listed of it
abbrev pub told_listed : Option (List ℕ) → Bool → Told
told_listed (Some bytes) others_empty = content bytes
told_listed None others_empty = told_unlisted others_empty

-- what a store tells of the file of a name that isn't its current file's
abbrev pub told_among : Option Files → List ℕ → Told
told_among None name = nothing
told_among (Some files) name = told_listed (lookup (bytes_eq name) files.listed) files.others_empty

-- what a store tells of the file of a name, which may be its current file
abbrev pub told_of : Option Files → Option (List ℕ) → Option (List ℕ) → List ℕ → Told
told_of files current written name =
    if option_map_or (bytes_eq name) current false then told_bytes written else told_among files name

-- the files without the one of this name
abbrev pub without : List ℕ → Files → Files
without name files = record files { listed = filter (λ file. not (bytes_eq name file.0)) files.listed }

-- ---- what a call does

-- by what is known, the file may have these bytes
abbrev pub MayHold : Told → List ℕ → Type 0
MayHold nothing bytes = Unit {0}
MayHold (content known) bytes = bytes ≡ known
MayHold missing_or_empty bytes = bytes ≡ []

-- by what is known, the file may be longer than the limit
abbrev pub MayPass : Told → ℕ → Type 0
MayPass nothing limit = Unit {0}
MayPass (content known) limit = limit < length known
MayPass missing_or_empty limit = ⊥

-- a load gave the whole content, which has at most `limit` bytes, or found that it has more
abbrev pub Loads : Told → ℕ → List ℕ → Loaded → Type 0
Loads told limit into loaded.All = MayHold told into × (length into ≤ limit)
Loads told limit into loaded.TooLarge = MayPass told limit
Loads told limit into loaded.Failed = Unit {0}
Loads told limit into loaded.NoMemory = Unit {0}

-- a create made an empty current file of this name
pub record Creates (files files' : Option Files) (current' written' : Option (List ℕ)) (name : List ℕ) : Type 0 where
  pub named : current' ≡ Some name
  pub empty : Are written' []
  pub others : files' ≡ option_map (without name) files

-- a create that didn't succeed left no current file; the named file is as before, or empty, or missing
pub record CreatesNothing (files files' : Option Files) (current' : Option (List ℕ)) (name : List ℕ) : Type 0 where
  pub no_current : current' ≡ None
  pub others : (files' ≡ files) ⊎ (files' ≡ option_map (without name) files)

-- what a create did, by its result
abbrev pub Makes : Option Files → Option Files → Option (List ℕ) → Option (List ℕ) → List ℕ → Made → Type 0
Makes files files' current' written' name made.Done = Creates files files' current' written' name
Makes files files' current' written' name made.Failed = CreatesNothing files files' current' name
Makes files files' current' written' name made.NoMemory = CreatesNothing files files' current' name

-- ---- faults

-- a call on the file of a name
abbrev pub Call : Type 0
Call = List ℕ × StoreCall

-- the count and the last fault change only in a call that failed; then the count has risen, and that call is the last fault
pub record HasStoreCause (before now : ℕ) (last last' : Option Call) (failed : Type 0) (call : Call) : Type 0 where
  pub later : before ≤ now
  pub cause : failed → Rose before now × (last' ≡ Some call)
  pub only_then : failed ⊎ ((now ≡ before) × (last' ≡ last))
