use Rattle.std.proofs.Common.{arith, inl, refl, sym}
use Rattle.pm_syn.proofs.number.next_digit.Goals as goal
use Rattle.pm_syn.proofs.number.next_digit.Goals.{else-end-gt0-via-then-end-gt0+then-is_digit_at-2+else-text-end-eq95, else-end-gt0-via-then-end-gt0+else-is_digit_at-2, else-end-gt0-via-else-end-gt0}

pub returns-then-is_digit_at : goal.returns-then-is_digit_at
returns-then-is_digit_at c = record {
  within = c.is_digit_at.ensures.within c.if-is_digit_at.true;
  is_digit = sym c.if-is_digit_at.ensures.value;
  near = inl refl;
}

pub returns : goal.returns
returns c = record {
  no_digit = sym c.if-is_digit_at.ensures.value;
  no_spaced = λ some underscore. elim c.else-end-gt0.branch [
    | else-end-gt0-via-then-end-gt0+then-is_digit_at-2+else-text-end-eq95 w ↦ absurd (w.if-text-end-eq95.false underscore)
    | else-end-gt0-via-then-end-gt0+else-is_digit_at-2 w ↦ sym w.if-is_digit_at-2.ensures.value
    | else-end-gt0-via-else-end-gt0 w ↦ absurd (omega (arith, w.if-end-gt0.false, some))
  ];
}
