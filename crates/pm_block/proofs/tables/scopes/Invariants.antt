use Rattle.std.proofs.Common.{◌≡◌, take}
use Rattle.pm_block.specs.Tables.{scopes_of}
use Rattle.pm_block.proofs.tables.scopes.Given as goal

-- the scopes so far
abbrev pub invariant-loop-instance : goal.invariant-loop-instance
invariant-loop-instance l = l.scopes ≡ take l.instance (scopes_of l.plan)
