use Rattle.std.proofs.Common.{◌≡◌, ◌⊎◌, ◌<◌, ℕ, List, [], ◌∷◌, get_or, take, inl, inr, arith, sym, subst, ap, ◌∙◌}
use Rattle.std.proofs.lemmas.Bool.{cases_eq, false≢true}
use Rattle.std.specs.Char.{is_digit}
use Rattle.pm_syn.specs.Heads.{IsNumberRead, BeginsWithDigit}
use Rattle.pm_syn.specs.LiteralParts.{IsNextDigit, HasNoNextDigit}
use Rattle.pm_syn.specs.Numbers.{AreDigits, value_of}
use Rattle.pm_syn.proofs.Digits.{longest_digits, digits_with_next, value_with_next}
use Rattle.pm_syn.proofs.number.digits_at.Goals as goal

pub digits-preserved : goal.digits-preserved
digits-preserved c =
    let base = c.args.base in
    let text = c.args.text.now in
    let end = c.digits.literal.length in
    let position = c.in-Some.position in
    let next : IsNextDigit base text end position = c.in-Some.ensures in
    let read = c.with_digit.ensures (value_of base (take end text)) c.digits.invariant.read in
    record {
      within = omega (arith, next.within);
      read = subst (λ (number : ℕ). IsNumberRead number c.with_digit.result) (sym (value_with_next base text end position (omega arith) next)) read;
      spelled = inr (digits_with_next base text end position c.digits.invariant.spelled next);
    }

-- no next digit at the start is against a digit there
no_digit_first : (base : ℕ) (text : List ℕ) (end : ℕ) → BeginsWithDigit base text → HasNoNextDigit base text end → end ≡ 0 → ⊥
no_digit_first base [] end begins none at = begins
no_digit_first base (byte ∷ text) end begins none at =
    false≢true (sym none.no_digit ∙ ap (λ position. is_digit (get_or (byte ∷ text) position 0) base) at ∙ begins)

-- a digit is at the start, so some digit was read
some_digits : (base : ℕ) (text : List ℕ) (end : ℕ) → BeginsWithDigit base text → HasNoNextDigit base text end → (end ≡ 0) ⊎ AreDigits base (take end text)
    → (0 < end) × AreDigits base (take end text)
some_digits base text end begins none (inl at) = absurd (no_digit_first base text end begins none at)
some_digits base text end begins none (inr digits) =
    elim (cases_eq end 0) [ inl at ↦ absurd (no_digit_first base text end begins none at) | inr apart ↦ (omega (arith, apart), digits) ]

pub returns : goal.returns
returns c =
    let base = c.args.base in
    let text = c.args.text.now in
    let end = c.digits.literal.length in
    let none : HasNoNextDigit base text end = c.in_default.ensures in
    let some = some_digits base text end c.requires.digit none c.digits.invariant.spelled in
    record {
      some = some.0;
      within = c.digits.invariant.within;
      read = c.digits.invariant.read;
      spelled = some.1;
      longest = λ prefix rest same digits. longest_digits text end (omega arith) some.0 c.digits.invariant.within some.1 none digits rest same;
    }
