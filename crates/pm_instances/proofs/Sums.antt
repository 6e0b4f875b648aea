-- Sums over lists.
use Rattle.std.proofs.Common.{◌≡◌, ◌∙◌, ◌+◌, ◌<◌, ◌≤◌, ℕ, List, length, drop, map, get_or, sym, ap}
use Rattle.std.proofs.Common.{arith}
use Rattle.std.proofs.lemmas.List.{drop_more, drop_all}
use Rattle.pm_design.specs.Widths.{total}

-- one element more
pub total_more : {X : Type 0} (f : X → ℕ) (xs : List X) (i : ℕ) (x : X) → i < length xs → x ≡ get_or xs i x →
    total (map f (drop i xs)) ≡ f x + total (map f (drop (i + 1) xs))
total_more f xs i x lt is =
    ap (λ (ys : List _). total (map f ys)) (drop_more xs i x lt) ∙
    ap (λ (y : _). f y + total (map f (drop (i + 1) xs))) (sym is)

-- the sum so far and that element fit
pub total_fits : {X : Type 0} (f : X → ℕ) (xs : List X) (i sum bound : ℕ) (x : X) → i < length xs →
    x ≡ get_or xs i x →
    sum + total (map f (drop i xs)) ≡ total (map f xs) → total (map f xs) < bound → sum + f x < bound
total_fits f xs i sum bound x lt is so_far few =
    let e : total (map f (drop i xs)) ≡ f x + total (map f (drop (i + 1) xs)) = total_more f xs i x lt is in
    omega arith

-- the sum so far, that element and the rest
pub total_so_far : {X : Type 0} (f : X → ℕ) (xs : List X) (i sum : ℕ) (x : X) → i < length xs → x ≡ get_or xs i x →
    sum + total (map f (drop i xs)) ≡ total (map f xs) → sum + f x + total (map f (drop (i + 1) xs)) ≡ total
    (map f xs)
total_so_far f xs i sum x lt is so_far =
    let e : total (map f (drop i xs)) ≡ f x + total (map f (drop (i + 1) xs)) = total_more f xs i x lt is in
    omega arith

-- no element is left
pub total_end : {X : Type 0} (f : X → ℕ) (xs : List X) (i sum : ℕ) → length xs ≤ i →
    sum + total (map f (drop i xs)) ≡ total (map f xs) → sum ≡ total (map f xs)
total_end f xs i sum le so_far =
    let e : total (map f (drop i xs)) ≡ 0 = ap (λ (ys : List _). total (map f ys)) (drop_all i xs le) in omega arith

pub ruleset sums = (total_fits, total_so_far, total_end)
