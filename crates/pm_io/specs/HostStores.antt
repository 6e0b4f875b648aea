-- What is known of a store of the host's files.
use Rattle.std.specs.Prelude.{ℕ, List, Option}
use Rattle.pm_io.specs.Stores.{Call}

-- a store of the host's files: its current file's name, the last call that failed, and how many failed
pub record HostNames : Type 0 where
  pub current : Option (List ℕ)
  pub last : Option Call
  pub faults : ℕ
