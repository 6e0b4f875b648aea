use Rattle.std.proofs.Common.{◌+◌, map}
use Rattle.std.specs.List.{range_with_len}
use Rattle.disjoint_sets.specs.Partitions.{Joins}
use Rattle.pm_nets.specs.Ends.{end_at}
use Rattle.pm_nets.proofs.ends.join_end_bits.Given as goal

abbrev pub invariant-loop-t : goal.invariant-loop-t
invariant-loop-t l =
    Joins l.fn.sets l.sets
    (map (λ t. (end_at l.fn.a.0 (l.fn.a.1 + t), end_at l.fn.b.0 (l.fn.b.1 + t))) (range_with_len 0 l.t))
