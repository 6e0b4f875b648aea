-- The least power of 2 that reaches a number.
use Rattle.std.proofs.Common.{◌≡◌, ℕ, zero, suc, ◌+◌, ◌*◌, ◌^◌, ◌<◌, ◌≤◌, refl, ap, sym, subst, add-one, ◌∙◌, arith, true, false, Bool, nat_le, inl, inr}
use Rattle.std.proofs.Math.Pow.{pow_mono}
use Rattle.std.proofs.Math.Nat.{pow-suc, eq-or-lt_of_le}
use Rattle.std.specs.Prelude.{ℤ, pos, negsuc, Option, Some, None, if◌then◌else◌, nat_eq, cond, unsigned_abs, int_lt, ◌-ℤ◌, FitsSigned}
use Rattle.std.specs.Int.{w64, cast_signed, cast_unsigned}
use Rattle.std.proofs.lemmas.Int.{ints, to_z-of_z}
use Rattle.std.specs.List.{find, range_with_len}
use Rattle.pm_values.specs.Integers.{ceiling_log, IsCeilingLog}

step : (n a k : ℕ) (b : Bool) (rest : Option ℕ) → nat_le n (2 ^ a) ≡ b → a ≤ k → IsCeilingLog n k → (a + 1 ≤ k → rest ≡ Some k) → cond b (Some a) rest ≡ Some k
step n a k true rest is low log more = let reached : k ≤ a = log.least a (grind (arith, is)) in ap Some (omega (arith, low, reached))
step n a k false rest is low log more =
    elim (eq-or-lt_of_le low) as (λ _. rest ≡ Some k) [
      | inl same ↦ let reaches : n ≤ 2 ^ a = subst (λ j. n ≤ 2 ^ j) (sym same) log.reaches in absurd (grind (arith, is, reaches))
      | inr under ↦ more (omega (arith, under))
    ]

first_least : (n a len k : ℕ) → a ≤ k → k < a + len → IsCeilingLog n k → find (λ j. nat_le n (2 ^ j)) (range_with_len a len) ≡ Some k
first_least n a zero k low high is = absurd (omega (arith, low, high))
first_least n a (suc len) k low high is =
    step n a k (nat_le n (2 ^ a)) (find (λ j. nat_le n (2 ^ j)) (range_with_len (a + 1) len)) refl low is
    (λ above. first_least n (a + 1) len k above (omega (arith, high)) is)

pub found : (n k : ℕ) → 0 < n → k < 64 → IsCeilingLog n k → ceiling_log (pos n) ≡ Some k
unfolding ceiling_log
found n k some below is =
    let above : nat_eq n 0 ≡ false = grind (arith, some) in
    ap (λ b. if b then None else find (λ j. nat_le n (2 ^ j)) (range_with_len 0 64)) above ∙ first_least n 0 64 k (omega arith) (omega (arith, below)) is

pub log_of_one : IsCeilingLog 1 0
log_of_one = record { reaches = omega arith; least = λ j reaches. omega arith }

over : (n r j : ℕ) (b : Bool) → nat_le j r ≡ b → 2 ^ r ≤ n → n + 1 ≤ 2 ^ j → r + 1 ≤ j
over n r j true is low reaches = let less : 2 ^ j ≤ 2 ^ r = pow_mono (grind (arith, is)) in absurd (omega (arith, less, low, reaches))
over n r j false is low reaches = grind (arith, is)

-- one more than a number between two powers of 2
pub log_after : (n r : ℕ) → 2 ^ r ≤ n → n < 2 * 2 ^ r → IsCeilingLog (n + 1) (r + 1)
log_after n r low high = record {
  reaches = let next : 2 ^ (r + 1) ≡ 2 ^ r * 2 = ap (λ (k : ℕ). 2 ^ k) (add-one r) ∙ pow-suc 2 r in omega (arith, next, high);
  least = λ j reaches. over n r j (nat_le j r) refl low reaches;
}

-- ---- what the code computes

none_at : (n : ℕ) → int_lt (cast_signed w64 (cast_unsigned w64 (pos n))) (pos 1) ≡ true → FitsSigned w64 (pos n) → nat_eq n 0 ≡ true
none_at n is fits = grind (arith, to_z-of_z)

pub none_under : (n : ℤ) → FitsSigned w64 n → int_lt (cast_signed w64 (cast_unsigned w64 n)) (pos 1) ≡ true → None ≡ ceiling_log n
unfolding ceiling_log
none_under (pos n) fits is = ap (λ b. if b then None else find (λ j. nat_le n (2 ^ j)) (range_with_len 0 64)) (sym (none_at n is fits))
none_under (negsuc n) fits is = refl

-- one less, as 64 bits hold it
one_less : ℤ → ℕ
one_less n = unsigned_abs (cast_signed w64 (cast_unsigned w64 (cast_signed w64 (cast_unsigned w64 n) -ℤ pos 1)))

one_less_is : (m : ℕ) → FitsSigned w64 (pos (suc m)) → one_less (pos (suc m)) ≡ m
unfolding one_less
one_less_is m fits =
    let less : pos (suc m) -ℤ pos 1 ≡ pos m = omega (arith, ints) in
    ap (λ z. unsigned_abs (cast_signed w64 (cast_unsigned w64 (z -ℤ pos 1)))) (to_z-of_z w64 (pos (suc m)) fits)
    ∙ ap (λ z. unsigned_abs (cast_signed w64 (cast_unsigned w64 z))) less
    ∙ ap unsigned_abs (to_z-of_z w64 (pos m) (record { sfits = omega (arith, fits.sfits) }))

pub log_between : (n : ℤ) (r : ℕ) → FitsSigned w64 n → int_lt (cast_signed w64 (cast_unsigned w64 n)) (pos 1) ≡ false
    → 2 ^ r ≤ unsigned_abs (cast_signed w64 (cast_unsigned w64 (cast_signed w64 (cast_unsigned w64 n) -ℤ pos 1)))
    → unsigned_abs (cast_signed w64 (cast_unsigned w64 (cast_signed w64 (cast_unsigned w64 n) -ℤ pos 1))) < 2 * 2 ^ r
    → IsCeilingLog (unsigned_abs n) (r + 1)
unfolding one_less
log_between (pos zero) r fits above low high = absurd (grind (arith, above))
log_between (pos (suc m)) r fits above low high =
    let e = one_less_is m fits in
    subst (λ k. IsCeilingLog k (r + 1)) (add-one m) (log_after m r (subst (λ k. 2 ^ r ≤ k) e low) (subst (λ k. k < 2 * 2 ^ r) e high))
log_between (negsuc m) r fits above low high = absurd (grind (arith, above, to_z-of_z))

within : (r m : ℕ) (b : Bool) → nat_le 63 r ≡ b → 2 ^ r ≤ m → m < 2 ^ 63 → r < 63
within r m true is low high = let more : 2 ^ 63 ≤ 2 ^ r = pow_mono {i = 63} {j = r} (grind (arith, is)) in absurd (omega (arith, more, low, high))
within r m false is low high = grind (arith, is)

pub value_between : (n : ℤ) (r : ℕ) → FitsSigned w64 n → int_lt (cast_signed w64 (cast_unsigned w64 n)) (pos 1) ≡ false
    → 2 ^ r ≤ unsigned_abs (cast_signed w64 (cast_unsigned w64 (cast_signed w64 (cast_unsigned w64 n) -ℤ pos 1)))
    → unsigned_abs (cast_signed w64 (cast_unsigned w64 (cast_signed w64 (cast_unsigned w64 n) -ℤ pos 1))) < 2 * 2 ^ r
    → Some (r + 1) ≡ ceiling_log n
unfolding one_less
value_between (pos zero) r fits above low high = absurd (grind (arith, above))
value_between (pos (suc m)) r fits above low high =
    let e = one_less_is m fits in
    let small : r < 63 = within r m (nat_le 63 r) refl (subst (λ k. 2 ^ r ≤ k) e low) (omega (arith, fits.sfits)) in
    sym (found (suc m) (r + 1) (omega arith) (omega (arith, small)) (log_between (pos (suc m)) r fits above low high))
value_between (negsuc m) r fits above low high = absurd (grind (arith, above, to_z-of_z))
