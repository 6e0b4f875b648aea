use Rattle.std.proofs.Common.{arith}
use Rattle.std.proofs.lemmas.List.{append_assoc}
use Rattle.pm_type_expr.proofs.Reached.{bits_more}
use Rattle.pm_type_expr.proofs.picks.bit_parts.Goals as goal

pub loop-index-preserved : goal.loop-index-preserved
loop-index-preserved c = grind (arith, append_assoc, bits_more, c.loop-index.invariant, c.loop-index-test.true)
