-- Words that end in a number.
use Rattle.std.proofs.Common.{◌≡◌, ◌<◌, ◌-◌, ◌+◌, ◌++◌, ℕ, suc, List, [], ◌∷◌, length, drop, refl, ap, Bool, true, false, arith, nat_eq}
use Rattle.std.specs.Prelude.{Some, cond, find}
use Rattle.std.specs.List.{starts_with, range_with_len}
use Rattle.std.specs.Str.{bytes_eq}

-- what begins with a prefix is the prefix and then a number, if what is left is the number
pub prefix_here : (name prefix number : List ℕ) → starts_with nat_eq name prefix ≡ true
    → bytes_eq (drop (length prefix) name) number ≡ bytes_eq name (prefix ++ number)
prefix_here name [] number begins = refl
prefix_here [] (p ∷ ps) number begins = grind (arith, begins)
prefix_here (n ∷ ns) (p ∷ ps) number begins = grind (arith, begins, prefix_here ns ps number)

pub no_prefix : (name prefix number : List ℕ) → starts_with nat_eq name prefix ≡ false
    → false ≡ bytes_eq name (prefix ++ number)
no_prefix name [] number begins = grind (arith, begins)
no_prefix [] (p ∷ ps) number begins = refl
no_prefix (n ∷ ns) (p ∷ ps) number begins = grind (arith, begins, no_prefix ns ps number)

-- the first of the numbers from one on that a test takes
pub find_here : (test : ℕ → Bool) (a b : ℕ) → a < b
    → find test (range_with_len a (b - a)) ≡ cond (test a) (Some a) (find test (range_with_len (a + 1) (b - (a + 1))))
find_here test a b some =
    let left : b - a ≡ suc (b - (a + 1)) = omega (arith, some) in
    ap (λ n. find test (range_with_len a n)) left
