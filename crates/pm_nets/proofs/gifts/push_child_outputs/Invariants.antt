use Rattle.std.proofs.Common.{◌≡◌, ◌+◌, ◌++◌, drop}
use Rattle.pm_nets.specs.Givers.{child_outputs}
use Rattle.pm_nets.proofs.gifts.push_child_outputs.Given as goal

abbrev pub invariant-loop-child : goal.invariant-loop-child
invariant-loop-child l = (l.owner ≡ l.child-index + 1)
    × (l.parts.items ++ child_outputs l.design (l.child-index + 1) (drop l.child-index l.children)
    ≡ l.fn.parts.items ++ child_outputs l.design 1 l.children)
