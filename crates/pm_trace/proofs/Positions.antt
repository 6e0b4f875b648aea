-- Lists in which no element passes a test.
use Rattle.std.proofs.Common.{◌≡◌, ◌+◌, ◌<◌, ◌≤◌, ℕ, zero, suc, Bool, false, List, [], ◌∷◌, length, get_or, inl, inr, arith}
use Rattle.std.specs.Prelude.{None, Some, nat_lt, position}
use Rattle.std.specs.List.{position_or_len}
use Rattle.std.proofs.lemmas.Bool.{cases_Bool}
use Rattle.std.proofs.lemmas.Bool.Decides.{nat_tests}

some_none : (n : ℕ) → Some n ≡ None → ⊥
some_none n is = cc

module _ {X : Type 0} where
  later : (test : X → Bool) (x : X) (xs : List X) (d : X) (k : ℕ) → k < length (x ∷ xs) → test x ≡ false
      → ((j : ℕ) → j < length xs → test (get_or xs j d) ≡ false) → test (get_or (x ∷ xs) k d) ≡ false
  later test x xs d zero within fails rest = fails
  later test x xs d (suc k) within fails rest = rest k (omega (arith, within))

  past_the_end : (test : X → Bool) (xs : List X) (d : X) → length xs ≤ position_or_len test xs → (k : ℕ) → k < length xs
      → test (get_or xs k d) ≡ false
  past_the_end test [] d past k within = absurd (omega (arith, within))
  past_the_end test (x ∷ xs) d past k within = elim (cases_Bool (test x)) [
    | inl passes ↦ let none : suc (length xs) ≤ 0 = rw passes at past in absurd (omega (arith, none))
    | inr fails ↦
        let rest : suc (length xs) ≤ 1 + position_or_len test xs = rw fails at past in
        later test x xs d k within fails (λ j below. past_the_end test xs d (omega (arith, rest)) j below)
  ]

  -- no element passes
  pub nowhere : (test : X → Bool) (xs : List X) → position test xs ≡ None → (d : X) (k : ℕ) → k < length xs
      → test (get_or xs k d) ≡ false
  nowhere test xs none d k within = elim (cases_Bool (nat_lt (position_or_len test xs) (length xs))) [
    | inl place ↦ let some : Some (position_or_len test xs) ≡ None = rw place at none in absurd (some_none _ some)
    | inr past ↦ past_the_end test xs d (grind (arith, nat_tests, past)) k within
  ]
