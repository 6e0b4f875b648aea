-- What the objects hold that never fail.
use Rattle.std.specs.Prelude.{ℕ, min, List, [], ◌∷◌, Option, None, Some, length, unwrap_or}
use Rattle.pm_io.specs.MemoryStores.{file_among, others_of}
use Rattle.pm_io.specs.declared.source.Got.{Got}
use Rattle.pm_io.specs.declared.source.Got.TheVariants as got
use Rattle.pm_io.specs.declared.store.Made.{Made}
use Rattle.pm_io.specs.declared.store.Made.TheVariants as made

-- what a read gives of the bytes that are left: as many as fit
abbrev pub given_of : List ℕ → ℕ → Got
given_of [] room = got.End
given_of (byte ∷ bytes) room = got.Bytes (min room (length (byte ∷ bytes)))

-- what is told about bytes that aren't kept
abbrev pub untold : Option (List ℕ)
untold = None

-- a store that never fails: its files other than the current one, and the name of the current one
pub record SureHolds : Type 0 where
  pub files : List (List ℕ × List ℕ)
  pub current : Option (List ℕ)

-- the content that a load finds under a name: no bytes if no file has the name, and no bytes for the current file
abbrev pub content_of : SureHolds → List ℕ → List ℕ
content_of store name = unwrap_or (file_among store.current [] store.files name) []

-- the store after a create
abbrev pub created_by : Made → List ℕ → SureHolds → SureHolds
created_by made.Done name store = record { files = others_of (Some name) store.files; current = Some name }
created_by made.Failed name store = store
created_by made.NoMemory name store = store
