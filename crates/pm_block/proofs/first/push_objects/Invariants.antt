use Rattle.std.proofs.Common.{◌≡◌, ◌++◌, drop, map}
use Rattle.pm_block.specs.First.{held_first}
use Rattle.pm_block.proofs.first.push_objects.Given as goal

-- the states so far, and those that are left
abbrev pub invariant-loop-state : goal.invariant-loop-state
invariant-loop-state l = l.list.items ++ map held_first (drop l.state-index l.states) ≡ l.initial.list.items ++ map held_first l.states
