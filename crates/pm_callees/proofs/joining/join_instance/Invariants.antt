use Rattle.std.proofs.Common.{◌≡◌, map, take}
use Rattle.disjoint_sets.specs.Partitions.{Joins}
use Rattle.pm_design.specs.Runnable.{kind_at}
use Rattle.pm_instances.specs.Laid.{laid_out}
use Rattle.pm_callees.specs.Joining.{link_of}
use Rattle.pm_callees.specs.Numbers.{numbered}
use Rattle.pm_callees.proofs.joining.join_instance.Given as goal

abbrev pub invariant-loop-bind : goal.invariant-loop-bind
invariant-loop-bind l =
    (l.bind-items ≡ (kind_at (laid_out l.fn.design) l.fn.i).binds)
    × Joins l.fn.sets l.sets
    (map (λ bind. numbered (laid_out l.fn.design) (link_of (laid_out l.fn.design) l.fn.i bind))
    (take l.bind-index l.bind-items))
