use Rattle.std.proofs.Common.{arith, ◌∙◌, ap}
use Rattle.std.specs.Prelude.{unsigned_abs}
use Rattle.std.proofs.lemmas.Int.{ints, to_z-of_z}
use Rattle.pm_bits.proofs.Signs.{word_of-up, word_of-down}
use Rattle.pm_bits.proofs.bits.Bits.of_int.Goals as goal

pub returns-then-c-lt0-clause-value : goal.returns-then-c-lt0-clause-value
returns-then-c-lt0-clause-value c =
    c.of_low_bits.ensures
    ∙ word_of-down c.args.width c.args.c c.from-size.result
    (c.from-size.ensures ∙ c.unsigned_abs.ensures.value ∙ ap unsigned_abs (to_z-of_z _ _ c.ranges.c)) (grind (arith, ints)) (omega arith) (omega arith) (omega arith)

pub returns-clause-value : goal.returns-clause-value
returns-clause-value c =
    c.of_low_bits-2.ensures
    ∙ word_of-up c.args.width c.args.c c.from-size.result
    (c.from-size.ensures ∙ c.unsigned_abs.ensures.value ∙ ap unsigned_abs (to_z-of_z _ _ c.ranges.c)) (grind (arith, ints))
