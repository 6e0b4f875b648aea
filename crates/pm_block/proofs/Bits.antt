-- Words in single bits.
use std.Path.{fun_ext}
use Rattle.std.proofs.Common.{◌≡◌, ◌+◌, ◌*◌, ◌<◌, ◌≤◌, ◌^◌, ◌==◌, ℕ, List, refl, sym, ap, subst, Bool, true, false, length, set, arith, eqb-true, add-one}
use Rattle.std.specs.Prelude.{if◌then◌else◌}
use Rattle.std.proofs.lemmas.Bool.{eqb-false}
use Rattle.std.proofs.lemmas.List.{get_or-set_same, get_or-set_other}
use Rattle.std.proofs.lemmas.Grind.{pow_more}
use Rattle.std.proofs.Math.Nat.{pow-le-pow_right}
use Rattle.pm_bits.specs.Word.{Word, bit_of}
use Rattle.pm_block.specs.Stored.{at_of}
use Rattle.pm_block.specs.Places.{Valuation, number_at, put_at, put}

-- one more bit of a number
pub number_at_more : (place : ℕ → ℕ) (i : ℕ) (v : Valuation) → number_at place (i + 1) v ≡ number_at place i v + v (place i) * 2 ^ i
unfolding number_at
number_at_more place i v = rw (add-one) refl

-- one more bit of a word that is put
pub put_at_more : (place : ℕ → ℕ) (i : ℕ) (w : Word) (v : Valuation) → put_at place (i + 1) w v ≡ put (place i) (bit_of w i) (put_at place i w v)
unfolding put_at
put_at_more place i w v = rw (add-one) refl

-- no bit of a number
pub number_at_none : (place : ℕ → ℕ) (v : Valuation) → number_at place 0 v ≡ 0
unfolding number_at
number_at_none place v = refl

-- no bit of a word that is put
pub put_at_none : (place : ℕ → ℕ) (w : Word) (v : Valuation) → put_at place 0 w v ≡ v
unfolding put_at
put_at_none place w v = refl

-- a power of 2, twice
pub twice_power : (i : ℕ) → 2 ^ (i + 1) ≡ 2 ^ i + 2 ^ i
twice_power i = grind (arith, pow_more)

-- a bit below 128
pub power_within : (i n : ℕ) → i < n → n ≤ 128 → 2 ^ i + 2 ^ i ≤ 2 ^ 128
power_within i n lt le = let wide : 2 ^ (i + 1) ≤ 2 ^ 128 = pow-le-pow_right {n = 2} (omega arith) {i = i + 1} {j = 128} (omega arith) in let twice = twice_power i in omega arith

-- another bit of a list
pub at_of_set : (bits : List Bool) (net : ℕ) (b : Bool) → net < length bits → at_of (set bits net b) ≡ put net (if b then 1 else 0) (at_of bits)
at_of_set bits net b lt = fun_ext (λ q. by q (q == net) refl)
  where
    by : (q : ℕ) (t : Bool) → (q == net) ≡ t → at_of (set bits net b) q ≡ (if t then (if b then 1 else 0) else at_of bits q)
    by q true e = subst (λ (r : ℕ). at_of (set bits net b) r ≡ (if b then 1 else 0)) (sym (eqb-true q net e)) (ap (λ (c : Bool). if c then 1 else 0) (get_or-set_same bits net b false lt))
    by q false e = ap (λ (c : Bool). if c then 1 else 0) (get_or-set_other bits net q b false (eqb-false q net e))
