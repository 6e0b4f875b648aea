-- Tests over the numbers below a bound.
use Rattle.std.specs.Prelude.{ℕ, zero, suc, ◌+◌, Bool, true, false, cond, ◌&&◌, ◌||◌, Option, Some, None}

-- whether every number below the bound passes
abbrev pub all_below : ℕ → (ℕ → Bool) → Bool
all_below zero test = true
all_below (suc n) test = test n && all_below n test

-- whether some number below the bound passes
abbrev pub any_below : ℕ → (ℕ → Bool) → Bool
any_below zero test = false
any_below (suc n) test = test n || any_below n test

-- how many numbers below the bound pass
abbrev pub count_below : ℕ → (ℕ → Bool) → ℕ
count_below zero test = 0
count_below (suc n) test = cond (test n) 1 0 + count_below n test

-- the number of the first option, or of the second if there is none
abbrev pub or_else : Option ℕ → Option ℕ → Option ℕ
or_else (Some k) other = Some k
or_else None other = other

-- the least number below the bound that passes
abbrev pub least_below : ℕ → (ℕ → Bool) → Option ℕ
least_below zero test = None
least_below (suc n) test = or_else (least_below n test) (cond (test n) (Some n) None)
