use Rattle.std.proofs.Common.{◌≡◌, ◌++◌, take, map, flat_map}
use Rattle.std.specs.List.{range_with_len}
use Rattle.disjoint_sets.specs.Partitions.{Joins}
use Rattle.pm_design.specs.Runnable.{kind_at}
use Rattle.pm_instances.specs.Laid.{laid_out}
use Rattle.pm_nets.specs.Links.{join_links, reset_link}
use Rattle.pm_nets.proofs.joining.join_instance.Given as goal

abbrev pub invariant-loop-join : goal.invariant-loop-join
invariant-loop-join l =
    (l.join-items ≡ (kind_at (laid_out l.fn.design) l.fn.i).joins)
    × Joins l.fn.sets l.sets (flat_map (join_links (laid_out l.fn.design) l.fn.i) (take l.join-index l.join-items))

abbrev pub invariant-loop-child : goal.invariant-loop-child
invariant-loop-child l =
    Joins l.fn.sets l.sets
    (flat_map (join_links (laid_out l.fn.design) l.fn.i) (kind_at (laid_out l.fn.design) l.fn.i).joins
    ++ map (reset_link (laid_out l.fn.design) l.fn.i) (range_with_len 0 l.child))
