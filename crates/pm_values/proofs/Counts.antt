-- How many integers a range has.
use Rattle.std.proofs.Common.{ℕ, zero, suc, ◌-◌, ◌*◌, ◌<◌, arith}
use Rattle.std.proofs.lemmas.Int.{ints}
use Rattle.std.specs.Prelude.{pos, negsuc}
use Rattle.std.specs.Int.{int_gap, div_ceil}
use Rattle.pm_values.specs.Ranges.{RangeUpwards, RangeDownwards}
use Rattle.pm_values.proofs.Steps.{one_more, none_left, gap_is}

-- as many steps as are needed to reach the gap
under : (k g d : ℕ) → 0 < d → k < div_ceil g d → k * d < g
under k zero d step h = absurd (omega (arith, h, none_left d step))
under zero (suc g) d step h = omega arith
under (suc k) (suc g) d step h = omega (arith, under k (suc g - d) d step (omega (arith, h, one_more (suc g) d (omega arith) step)))

over : (k g d : ℕ) → 0 < d → k * d < g → k < div_ceil g d
over k zero d step h = absurd (omega (arith, h))
over zero (suc g) d step h = omega (arith, one_more (suc g) d (omega arith) step)
over (suc k) (suc g) d step h = omega (arith, one_more (suc g) d (omega arith) step, over k (suc g - d) d step (omega (arith, h)))

pub range_upwards : RangeUpwards
range_upwards start stop (pos zero) k above = absurd (omega (arith, ints, above))
range_upwards start stop (pos (suc d)) k above = (
  λ h. omega (arith, ints, gap_is start stop, under k (int_gap start stop) (suc d) (omega arith) h),
  λ h. over k (int_gap start stop) (suc d) (omega arith) (omega (arith, ints, gap_is start stop, h)),
)
range_upwards start stop (negsuc d) k above = absurd (omega (arith, ints, above))

pub range_downwards : RangeDownwards
range_downwards start stop (pos d) k below = absurd (omega (arith, ints, below))
range_downwards start stop (negsuc d) k below = (
  λ h. omega (arith, ints, gap_is stop start, under k (int_gap stop start) (suc d) (omega arith) h),
  λ h. over k (int_gap stop start) (suc d) (omega arith) (omega (arith, ints, gap_is stop start, h)),
)
