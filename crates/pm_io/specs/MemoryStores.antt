-- What a store in memory holds, and what its calls do to that.
use Rattle.std.specs.Prelude.{ℕ, ◌+◌, nat_lt, Bool, true, false, ◌||◌, List, ◌++◌, Option, None, Some, length, filter, not, if◌then◌else◌}
use Rattle.std.specs.Map.{lookup}
use Rattle.std.specs.Option.{option_map_or}
use Rattle.std.specs.Str.{bytes_eq}
use Rattle.pm_io.specs.Calls.{Calls, next_fails, called, faulted}
use Rattle.pm_io.specs.Stores.{Call, Files}
use Rattle.pm_io.specs.StoreLogs.{append_call}
use Rattle.pm_io.specs.declared.store.Loaded.{Loaded}
use Rattle.pm_io.specs.declared.store.Loaded.TheVariants as loaded
use Rattle.pm_io.specs.declared.store.Made.{Made}
use Rattle.pm_io.specs.declared.store.Made.TheVariants as made
use Rattle.pm_io.specs.declared.store.StoreCall.TheVariants as call
use Rattle.pm_io.specs.declared.sink.Put.{Put}
use Rattle.pm_io.specs.declared.sink.Put.TheVariants as put

-- a store in memory: its files but the current one, the current one's name, its bytes, how many bytes it can hold,
-- the calls, and the last one that failed
pub record StoreHolds : Type 0 where
  pub files : List (List ℕ × List ℕ)
  pub current : Option (List ℕ)
  pub written : List ℕ
  pub room : ℕ
  pub calls : Calls
  pub last : Option Call

-- the files other than the current one
abbrev pub others_of : Option (List ℕ) → List (List ℕ × List ℕ) → List (List ℕ × List ℕ)
others_of None files = files
others_of (Some name) files = filter (λ file. not (bytes_eq name file.0)) files

-- these files, and no others
abbrev pub told : List (List ℕ × List ℕ) → Files
told files = record { listed = files; others_empty = true }

-- the content of the file of a name: what was written, if it is the current file, or the content of one of the others
abbrev pub file_among : Option (List ℕ) → List ℕ → List (List ℕ × List ℕ) → List ℕ → Option (List ℕ)
file_among current written others name = if option_map_or (bytes_eq name) current false then Some written else lookup (bytes_eq name) others

-- the content of the file of a name in a store
abbrev pub file_of : StoreHolds → List ℕ → Option (List ℕ)
file_of store name = file_among store.current store.written store.files name

-- the store after one more call, which failed or not
abbrev pub store_called : Bool → Option Call → StoreHolds → StoreHolds
store_called failed call store = record store { calls = called failed store.calls; last = if failed then call else store.last }

-- the store after a fault in the call that is being made
abbrev pub faulted_by : Option Call → StoreHolds → StoreHolds
faulted_by call store = record store { calls = faulted store.calls; last = call }

-- ---- load

-- what a load returns that finds a file or none
abbrev pub loaded_by : Option (List ℕ) → ℕ → Loaded
loaded_by None limit = loaded.Failed
loaded_by (Some bytes) limit = if nat_lt limit (length bytes) then loaded.TooLarge else loaded.All

-- what a load returns if there is memory
abbrev pub loaded_of : StoreHolds → List ℕ → ℕ → Loaded
loaded_of store name limit = if next_fails store.calls then loaded.Failed else loaded_by (file_of store name) limit

-- a load failed
abbrev pub load_failed : Loaded → Bool
load_failed loaded.All = false
load_failed loaded.TooLarge = false
load_failed loaded.Failed = true
load_failed loaded.NoMemory = false

-- ---- create

-- the store after a create
abbrev pub after_create : Made → List ℕ → StoreHolds → StoreHolds
after_create made.Done name store = record (store_called false None store) { files = others_of (Some name) store.files; current = Some name }
after_create made.Failed name store = store_called true (Some (name, call.Create)) store
after_create made.NoMemory name store = store_called false None store

-- what a create returns if there is memory
abbrev pub made_of : StoreHolds → Made
made_of store = if next_fails store.calls then made.Failed else made.Done

-- ---- append

-- whether the next append fails: it is to fail, or the piece would pass the room
abbrev pub append_fails : StoreHolds → List ℕ → Bool
append_fails store piece = next_fails store.calls || nat_lt store.room (length store.written + length piece)

-- what an append returns
abbrev pub put_of : StoreHolds → List ℕ → Put
put_of store piece = if append_fails store piece then put.Failed else put.All

-- the store after an append
abbrev pub after_append : StoreHolds → List ℕ → StoreHolds
after_append store piece =
    if append_fails store piece then store_called true (append_call store.current) store
    else record (store_called false None store) { written = store.written ++ piece }
