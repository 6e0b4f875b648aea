use Rattle.std.proofs.Common.{◌≡◌, ◌++◌, length, map, reverse}
use Rattle.pm_elab.specs.Files.{raised}
use Rattle.pm_class.proofs.bitstruct.all_raised.Given as goal

abbrev pub invariant-loop-field : goal.invariant-loop-field
invariant-loop-field l = l.fields ++ map (raised l.by) (reverse l.rest) ≡ map (raised l.by) l.fn.fields

abbrev pub decreases-loop-field : goal.decreases-loop-field
decreases-loop-field l = length l.rest
