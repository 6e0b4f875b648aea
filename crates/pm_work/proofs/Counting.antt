-- Counts that stop at 2^63.
use Rattle.std.proofs.Common.{◌≡◌, ◌∙◌, ◌⊎◌, ◌+◌, ◌<◌, ◌≤◌, ◌^◌, ℕ, List, length, drop, map, get_or, sym, ap, arith, inl, inr}
use Rattle.std.proofs.lemmas.Bool.{cases_lt}
use Rattle.std.proofs.lemmas.List.{drop_more, drop_all}
use Rattle.std.proofs.Math.Nat.{min-eq_left, min-eq_right}
use Rattle.pm_design.specs.Widths.{total}
use Rattle.pm_work.specs.Work.{counted}

-- a count that has stopped, and some more
pub counted_more : (a b : ℕ) → counted (counted a + b) ≡ counted (a + b)
counted_more a b = go (cases_lt a (2 ^ 63))
  where
    go : (a < 2 ^ 63) ⊎ (2 ^ 63 ≤ a) → counted (counted a + b) ≡ counted (a + b)
    go (inl lt) = ap (λ (n : ℕ). counted (n + b)) (min-eq_left (omega arith))
    go (inr le) =
        ap (λ (n : ℕ). counted (n + b)) (min-eq_right le) ∙
        (min-eq_right (omega arith) ∙ sym (min-eq_right (omega arith)))

pub counted_other : (a b : ℕ) → counted (a + counted b) ≡ counted (a + b)
counted_other a b =
    ap counted (swap a (counted b)) ∙ (counted_more b a ∙ ap counted (swap b a))
  where
    swap : (m n : ℕ) → m + n ≡ n + m
    swap m n = omega arith

pub counted_few : (a : ℕ) → a ≤ 2 ^ 63 → counted a ≡ a
counted_few a le = min-eq_left le

pub counted_low : (a : ℕ) → counted a ≤ 2 ^ 63
counted_low a = go (cases_lt a (2 ^ 63))
  where
    go : (a < 2 ^ 63) ⊎ (2 ^ 63 ≤ a) → counted a ≤ 2 ^ 63
    go (inl lt) = let e : counted a ≡ a = min-eq_left (omega arith) in omega arith
    go (inr le) = let e : counted a ≡ 2 ^ 63 = min-eq_right le in omega arith

pub ruleset counting = (counted_more, counted_other, counted_few, counted_low)

-- one element more
pub each_more : {X : Type 0} (f : X → ℕ) (xs : List X) (i count now whole : ℕ) (x : X) → i < length xs →
    x ≡ get_or xs i x → counted (count + total (map f (drop i xs))) ≡ whole → now ≡ counted (count + f x) →
    counted (now + total (map f (drop (i + 1) xs))) ≡ whole
each_more f xs i count now whole x lt is so_far one =
    let rest : ℕ = total (map f (drop (i + 1) xs)) in
    let e : total (map f (drop i xs)) ≡ f x + rest =
    ap (λ (ys : List _). total (map f ys)) (drop_more xs i x lt) ∙ ap (λ (y : _). f y + rest) (sym is) in
    ap (λ (n : ℕ). counted (n + rest)) one ∙ (counted_more (count + f x) rest ∙
    (ap counted (together count (f x) rest (total (map f (drop i xs))) e) ∙ so_far))
  where
    together : (a b c d : ℕ) → d ≡ b + c → a + b + c ≡ a + d
    together a b c d is = omega arith

-- no element is left
pub each_end : {X : Type 0} (f : X → ℕ) (xs : List X) (i count whole : ℕ) → length xs ≤ i → count ≤ 2 ^ 63 →
    counted (count + total (map f (drop i xs))) ≡ whole → count ≡ whole
each_end f xs i count whole le few so_far =
    sym (counted_few count few) ∙ (ap counted (nothing count (total (map f (drop i xs))) none) ∙ so_far)
  where
    none : total (map f (drop i xs)) ≡ 0
    none = ap (λ (ys : List _). total (map f ys)) (drop_all i xs le)

    nothing : (a b : ℕ) → b ≡ 0 → a ≡ a + b
    nothing a b is = omega arith

pub ruleset each_counted = (each_more, each_end, counted_low)
