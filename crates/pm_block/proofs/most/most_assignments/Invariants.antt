use Rattle.std.proofs.Common.{◌≡◌, max, drop}
use Rattle.pm_block.specs.Tables.{assignments_in, most}
use Rattle.pm_block.proofs.most.most_assignments.Given as goal

-- the most so far, and of the blocks that are left
abbrev pub invariant-loop-flat : goal.invariant-loop-flat
invariant-loop-flat l = max l.most (most (assignments_in l.plan) (drop l.flat-index l.flats)) ≡ most (assignments_in l.plan) l.flats
