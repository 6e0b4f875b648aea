use Rattle.std.proofs.Common.{◌≡◌}
use Rattle.pm_job.specs.Precedence.{indices_of}
use Rattle.pm_job.proofs.order.indices_in_order.Given as goal

abbrev pub invariant-loop-index : goal.invariant-loop-index
invariant-loop-index l = l.indices.items ≡ indices_of l.index
