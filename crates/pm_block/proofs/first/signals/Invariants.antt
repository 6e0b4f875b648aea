use Rattle.std.proofs.Common.{◌≡◌, ◌++◌, drop}
use Rattle.pm_design.specs.Layout.{signals_of}
use Rattle.pm_block.proofs.first.signals.Given as goal

-- the signals so far, and those of the instances that are left
abbrev pub invariant-loop-i : goal.invariant-loop-i
invariant-loop-i l = l.list.items ++ signals_of l.plan.design (drop l.i l.plan.instances) ≡ signals_of l.plan.design l.plan.instances
