use Rattle.std.proofs.Common.{◌*◌, flat_map}
use Rattle.std.specs.List.{range_with_len}
use Rattle.disjoint_sets.specs.Partitions.{IsPartition}
use Rattle.pm_design.specs.Instances.{flat_bits}
use Rattle.pm_instances.specs.Laid.{laid_out}
use Rattle.pm_nets.specs.Ends.{ends_in}
use Rattle.pm_nets.proofs.ends.join_all_ends.Given as goal

abbrev pub invariant-loop-i : goal.invariant-loop-i
invariant-loop-i l =
    IsPartition (2 * flat_bits l.design) (flat_map (ends_in (laid_out l.design)) (range_with_len 0 l.i)) l.sets
