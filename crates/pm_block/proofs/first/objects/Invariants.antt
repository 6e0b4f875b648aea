use Rattle.std.proofs.Common.{◌≡◌, ◌++◌, drop}
use Rattle.pm_block.specs.First.{held_at_first}
use Rattle.pm_block.proofs.first.objects.Given as goal

-- the states so far, and those of the instances that are left
abbrev pub invariant-loop-i : goal.invariant-loop-i
invariant-loop-i l = l.list.items ++ held_at_first l.plan.design (drop l.i l.plan.instances) ≡ held_at_first l.plan.design l.plan.instances
