use Rattle.std.proofs.Common.{◌≡◌, map}
use Rattle.std.specs.List.{range_with_len}
use Rattle.pm_instances.specs.Laid.{laid_out}
use Rattle.pm_callees.specs.Numbers.{first_of}
use Rattle.pm_callees.proofs.numbering.firsts.Given as goal

abbrev pub invariant-loop-instance : goal.invariant-loop-instance
invariant-loop-instance l =
    (l.firsts ≡ map (first_of (laid_out l.design)) (range_with_len 0 l.instance-index))
    × (l.count ≡ first_of (laid_out l.design) l.instance-index)
