-- The integers of `range( start, stop, step )`, where the step isn't 0.
use Rattle.std.specs.Prelude.{◌↔◌, ℕ, zero, suc, ◌<◌, ℤ, pos, negsuc, ◌+ℤ◌, ◌*ℤ◌, ◌<ℤ◌, List, [], ◌∷◌, Bool, true, false}
use Rattle.std.specs.Int.{int_gap, div_ceil}

-- how many integers it has: the way from the start to the stop in steps, rounded up
abbrev pub range_count : ℤ → ℤ → ℤ → ℕ
range_count start stop (pos step) = div_ceil (int_gap start stop) step
range_count start stop (negsuc step) = div_ceil (int_gap stop start) (suc step)

-- as many integers, each of them a step after the one before
abbrev pub steps_from : ℕ → ℤ → ℤ → List ℤ
steps_from zero start step = []
steps_from (suc count) start step = start ∷ steps_from count (start +ℤ step) step

-- its integers
unfoldable pub range_list : ℤ → ℤ → ℤ → List ℤ
range_list start stop step = steps_from (range_count start stop step) start step

-- the list has an element
abbrev pub is_filled : List ℤ → Bool
is_filled [] = false
is_filled (x ∷ xs) = true

-- a range that counts up has the integer `start + k * step` for those k from 0 for which it is less than the stop
abbrev pub RangeUpwards : Type 0
RangeUpwards = (start stop step : ℤ) (k : ℕ) → pos 0 <ℤ step → (k < range_count start stop step) ↔ ((start +ℤ pos k *ℤ step) <ℤ stop)

-- and one that counts down for those for which it is more
abbrev pub RangeDownwards : Type 0
RangeDownwards = (start stop step : ℤ) (k : ℕ) → step <ℤ pos 0 → (k < range_count start stop step) ↔ (stop <ℤ (start +ℤ pos k *ℤ step))
