-- The name of a store's current file, and the last call of the store that failed.
use Rattle.std.specs.Prelude.{ℕ, List, Option, None, Some, IsSome}
use Rattle.std.specs.Option.{option_map}
use Rattle.pm_io.specs.Stores.{Call}
use Rattle.pm_io.specs.declared.store.StoreCall.TheVariants as call
use Rattle.pm_io.specs.declared.store_log.Fault.{Fault}
use Rattle.pm_io.specs.declared.store_log.Fault.TheVariants as fault

-- the name of a store's current file and its last fault
pub record Logged : Type 0 where
  pub current : Option (List ℕ)
  pub last : Option Call

-- an append to the current file, if there is one
abbrev pub append_call : Option (List ℕ) → Option Call
append_call current = option_map (λ name. (name, call.Append)) current

-- the call that failed last, given the current file
abbrev pub last_call : Fault → Option (List ℕ) → Option Call
last_call fault.Never current = None
last_call (fault.Load name) current = Some (name, call.Load)
last_call (fault.Create name) current = Some (name, call.Create)
last_call fault.Append current = append_call current

-- an append failed only if there is a current file
abbrev pub HasItsFile : Fault → Option (List ℕ) → Type 0
HasItsFile fault.Never current = Unit {0}
HasItsFile (fault.Load name) current = Unit {0}
HasItsFile (fault.Create name) current = Unit {0}
HasItsFile fault.Append current = IsSome current
