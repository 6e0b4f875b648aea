use Rattle.disjoint_sets.specs.Partitions.{Joins}
use Rattle.pm_nets.specs.Links.{links_between}
use Rattle.pm_nets.proofs.joining.join_bits.Given as goal

abbrev pub invariant-loop-t : goal.invariant-loop-t
invariant-loop-t l = Joins l.fn.sets l.sets (links_between l.fn.a l.fn.b l.t)
