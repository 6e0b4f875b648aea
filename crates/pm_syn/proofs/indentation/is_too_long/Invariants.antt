use Rattle.std.proofs.Common.{◌≡◌, drop, nat_lt}
use Rattle.pm_syn.specs.Faults.{length_of}
use Rattle.pm_syn.proofs.indentation.is_too_long.Given as goal

abbrev pub invariant-loop-token : goal.invariant-loop-token
invariant-loop-token l = nat_lt l.left (length_of (drop l.token-index l.tokens)) ≡ nat_lt 4096 (length_of l.tokens)
