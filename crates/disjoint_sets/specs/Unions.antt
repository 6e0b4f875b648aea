-- Two sets made one, and how many sets come before one.
use Rattle.std.specs.Prelude.{ℕ, zero, suc, ◌+◌, List, Bool, cond, eqb, get_or, map, max, min}

-- the least member of a set, once those with two least members are one
abbrev pub united_least : ℕ → ℕ → ℕ → ℕ
united_least a b c = cond (eqb c (max a b)) (min a b) c

-- the least members, once the sets of two numbers are one
abbrev pub united : List ℕ → ℕ → ℕ → List ℕ
united leasts a b = map (united_least (get_or leasts a 0) (get_or leasts b 0)) leasts

-- how many numbers below a bound pass
unfoldable pub count_below : ℕ → (ℕ → Bool) → ℕ
count_below zero t = 0
count_below (suc n) t = cond (t n) 1 0 + count_below n t

-- the least number of its set
abbrev pub is_least : List ℕ → ℕ → Bool
is_least leasts x = eqb (get_or leasts x 0) x

-- for each number how many sets have a lesser least member than its own
abbrev pub numbers_of : List ℕ → List ℕ
numbers_of leasts = map (λ c. count_below c (is_least leasts)) leasts
