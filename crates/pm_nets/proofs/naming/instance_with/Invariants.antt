use Rattle.std.proofs.Common.{◌≤◌, ◌-◌}
use Rattle.pm_design.specs.Layout.{instance_of}
use Rattle.pm_instances.specs.Laid.{laid_out}
use Rattle.pm_nets.proofs.naming.instance_with.Given as goal

abbrev pub invariant-loop-next : goal.invariant-loop-next
invariant-loop-next l = (1 ≤ l.next) × ((instance_of (laid_out l.design) (l.next - 1)).first_bit ≤ l.flat)
