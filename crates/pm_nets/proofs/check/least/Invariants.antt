use Rattle.std.proofs.Common.{take}
use Rattle.pm_nets.specs.Faults.{IsLeastIn}
use Rattle.pm_nets.proofs.check.least.Given as goal

abbrev pub invariant-loop-line : goal.invariant-loop-line
invariant-loop-line l = IsLeastIn (take l.line-index l.lines) l.least
