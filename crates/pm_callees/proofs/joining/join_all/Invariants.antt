use Rattle.std.proofs.Common.{map}
use Rattle.disjoint_sets.specs.Partitions.{IsPartition}
use Rattle.pm_instances.specs.Laid.{laid_out}
use Rattle.pm_callees.specs.Numbers.{numbered}
use Rattle.pm_callees.proofs.LinkLists.{first_links}
use Rattle.pm_callees.proofs.joining.join_all.Given as goal

abbrev pub invariant-loop-i : goal.invariant-loop-i
invariant-loop-i l =
    IsPartition l.site.count (map (numbered (laid_out l.design)) (first_links (laid_out l.design) l.i)) l.sets
