-- A range, one integer at a time.
use Rattle.std.proofs.Common.{◌≡◌, ◌≢◌, ℕ, zero, suc, ◌+◌, ◌-◌, ◌/◌, ◌%◌, ◌<◌, min, refl, ap, ap₂, sym, subst, ◌∙◌, arith, true, false, Bool, nat_lt, List, [], ◌∷◌, nat_le}
use Rattle.std.proofs.lemmas.Int.{ints, to_z-of_z}
use Rattle.std.proofs.Math.Nat.{div-eq_of_lt, mod-eq_of_lt, add-div_right, add-mod_right}
use Rattle.std.specs.Prelude.{ℤ, pos, negsuc, ◌+ℤ◌, ◌≤ℤ◌, FitsSigned, int_lt, Option, Some, None, SomeIff}
use Rattle.std.specs.Option.{unwrap_or}
use Rattle.std.specs.Int.{w64, int_gap, div_ceil, cast_signed as to_z, cast_unsigned as of_z}
use borrow.Author.Differences.{up, down}
use Rattle.pm_values.specs.Ranges.{range_count, steps_from, range_list, is_filled}

-- ---- how many

pub none_left : (d : ℕ) → 0 < d → div_ceil 0 d ≡ 0
none_left d some = ap₂ (λ (q r : ℕ). q + min 1 r) (div-eq_of_lt some) (mod-eq_of_lt some) ∙ omega arith

one_more_by : (g d : ℕ) (b : Bool) → nat_le d g ≡ b → 0 < g → 0 < d → div_ceil g d ≡ suc (div_ceil (g - d) d)
one_more_by g d true is some step =
    let whole : g ≡ (g - d) + d = grind (arith, is) in
    let q : ((g - d) + d) / d ≡ (g - d) / d + 1 = add-div_right (g - d) step in
    let r : ((g - d) + d) % d ≡ (g - d) % d = add-mod_right (g - d) d in
    ap (λ k. div_ceil k d) whole ∙ ap₂ (λ (x y : ℕ). x + min 1 y) q r ∙ omega arith
one_more_by g d false is some step =
    let under : g < d = grind (arith, is) in
    let rest : g - d ≡ 0 = omega (arith, under) in
    ap₂ (λ (x y : ℕ). x + min 1 y) (div-eq_of_lt under) (mod-eq_of_lt under) ∙ omega (arith, some) ∙ ap suc (sym (ap (λ k. div_ceil k d) rest ∙ none_left d step))

-- one, and those after it
pub one_more : (g d : ℕ) → 0 < g → 0 < d → div_ceil g d ≡ suc (div_ceil (g - d) d)
one_more g d some step = one_more_by g d (nat_le d g) refl some step

pub gap_is : (a b : ℤ) → int_gap a b ≡ (up b + down a) - (up a + down b)
gap_is (pos a) (pos b) = omega (arith, ints)
gap_is (pos a) (negsuc b) = omega (arith, ints)
gap_is (negsuc a) (pos b) = omega (arith, ints)
gap_is (negsuc a) (negsuc b) = omega (arith, ints)

-- the next integer comes before the stop
abbrev pub before : ℤ → ℤ → ℤ → Bool
before next stop (pos step) = int_lt next stop
before next stop (negsuc step) = int_lt stop next

filled_count : (count : ℕ) (start step : ℤ) → is_filled (steps_from count start step) ≡ nat_lt 0 count
filled_count zero start step = refl
filled_count (suc count) start step = grind arith

some_left : (g d : ℕ) → 0 < d → nat_lt 0 (div_ceil g d) ≡ nat_lt 0 g
some_left zero d step = ap (nat_lt 0) (none_left d step)
some_left (suc g) d step = ap (nat_lt 0) (one_more (suc g) d (omega arith) step) ∙ grind arith

gap_test : (a b : ℤ) → nat_lt 0 (int_gap a b) ≡ int_lt a b
gap_test (pos a) (pos b) = grind arith
gap_test (pos a) (negsuc b) = grind arith
gap_test (negsuc a) (pos b) = grind arith
gap_test (negsuc a) (negsuc b) = grind arith

pub filled_is : (next stop step : ℤ) → step ≢ pos 0 → is_filled (range_list next stop step) ≡ before next stop step
unfolding range_list
filled_is next stop (pos zero) some = absurd (some refl)
filled_is next stop (pos (suc d)) some =
    filled_count (div_ceil (int_gap next stop) (suc d)) next (pos (suc d)) ∙ some_left (int_gap next stop) (suc d) (omega arith) ∙ gap_test next stop
filled_is next stop (negsuc d) some =
    filled_count (div_ceil (int_gap stop next) (suc d)) next (negsuc d) ∙ some_left (int_gap stop next) (suc d) (omega arith) ∙ gap_test stop next

test_gap : (a b : ℤ) → int_lt a b ≡ true → 0 < int_gap a b
test_gap a b is = let some : nat_lt 0 (int_gap a b) ≡ true = gap_test a b ∙ is in grind (arith, some)

count_more : (next stop step : ℤ) → step ≢ pos 0 → before next stop step ≡ true → range_count next stop step ≡ suc (range_count (next +ℤ step) stop step)
count_more next stop (pos zero) some is = absurd (some refl)
count_more next stop (pos (suc d)) some is =
    let gap : int_gap next stop - suc d ≡ int_gap (next +ℤ pos (suc d)) stop = omega (arith, ints, gap_is next stop, gap_is (next +ℤ pos (suc d)) stop) in
    one_more (int_gap next stop) (suc d) (test_gap next stop is) (omega arith) ∙ ap (λ k. suc (div_ceil k (suc d))) gap
count_more next stop (negsuc d) some is =
    let gap : int_gap stop next - suc d ≡ int_gap stop (next +ℤ negsuc d) = omega (arith, ints, gap_is stop next, gap_is stop (next +ℤ negsuc d)) in
    one_more (int_gap stop next) (suc d) (test_gap stop next is) (omega arith) ∙ ap (λ k. suc (div_ceil k (suc d))) gap

pub list_more : (next stop step : ℤ) → step ≢ pos 0 → before next stop step ≡ true → range_list next stop step ≡ next ∷ range_list (next +ℤ step) stop step
unfolding range_list
list_more next stop step some is = ap (λ k. steps_from k next step) (count_more next stop step some is)

-- ---- the end

none_by : (xs : List ℤ) → is_filled xs ≡ false → xs ≡ []
none_by [] is = refl
none_by (x ∷ xs) is = absurd cc

count_none : (next stop step : ℤ) → step ≢ pos 0 → before next stop step ≡ false → range_list next stop step ≡ []
unfolding range_list
count_none next stop step some is = none_by (range_list next stop step) (filled_is next stop step some ∙ is)

fits_between : (low x high : ℤ) → FitsSigned w64 low → FitsSigned w64 high → low ≤ℤ x → int_lt x high ≡ true → FitsSigned w64 x
fits_between low (pos k) (pos h) fl fh above below = record { sfits = let less : k < h = grind (arith, below) in omega (arith, less, fh.sfits) }
fits_between low (pos k) (negsuc h) fl fh above below = absurd cc
fits_between (pos l) (negsuc k) high fl fh above below = absurd (omega (arith, ints, above))
fits_between (negsuc l) (negsuc k) high fl fh above below = record { sfits = omega (arith, ints, above, fl.sfits) }

-- upwards past what 64 bits hold
past_above : (next stop step : ℤ) (b : Bool) → int_lt (next +ℤ step) stop ≡ b → pos 0 ≤ℤ step → FitsSigned w64 next → FitsSigned w64 stop → (FitsSigned w64 (next +ℤ step) → ⊥) → int_lt (next +ℤ step) stop ≡ false
past_above next stop step true is up_ fn fs never =
    let more : next ≤ℤ (next +ℤ step) = omega (arith, ints, up_) in absurd (never (fits_between next (next +ℤ step) stop fn fs more is))
past_above next stop step false is up_ fn fs never = is

fits_below : (low x high : ℤ) → FitsSigned w64 low → FitsSigned w64 high → x ≤ℤ high → int_lt low x ≡ true → FitsSigned w64 x
fits_below low (pos k) (pos h) fl fh below above = record { sfits = omega (arith, ints, below, fh.sfits) }
fits_below low (pos k) (negsuc h) fl fh below above = absurd (omega (arith, ints, below))
fits_below (pos l) (negsuc k) high fl fh below above = absurd cc
fits_below (negsuc l) (negsuc k) high fl fh below above = record { sfits = let less : k < l = grind (arith, above) in omega (arith, less, fl.sfits) }

past_below : (next stop step : ℤ) (b : Bool) → int_lt stop (next +ℤ step) ≡ b → step ≤ℤ pos 0 → FitsSigned w64 next → FitsSigned w64 stop → (FitsSigned w64 (next +ℤ step) → ⊥) → int_lt stop (next +ℤ step) ≡ false
past_below next stop step true is down_ fn fs never =
    let less : (next +ℤ step) ≤ℤ next = omega (arith, ints, down_) in absurd (never (fits_below stop (next +ℤ step) next fs fn less is))
past_below next stop step false is down_ fn fs never = is

past : (next stop step : ℤ) → FitsSigned w64 next → FitsSigned w64 stop → (FitsSigned w64 (next +ℤ step) → ⊥) → before (next +ℤ step) stop step ≡ false
past next stop (pos d) fn fs never = past_above next stop (pos d) (int_lt (next +ℤ pos d) stop) refl (omega (arith, ints)) fn fs never
past next stop (negsuc d) fn fs never = past_below next stop (negsuc d) (int_lt stop (next +ℤ negsuc d)) refl (omega (arith, ints)) fn fs never

not_before : (stop step : ℤ) → before stop stop step ≡ false
not_before (pos n) (pos d) = grind arith
not_before (negsuc n) (pos d) = grind arith
not_before (pos n) (negsuc d) = grind arith
not_before (negsuc n) (negsuc d) = grind arith

-- the stop serves as the next integer where the next one doesn't fit
pub next_or_stop : (next stop step : ℤ) (r : Option ℤ) → step ≢ pos 0 → FitsSigned w64 next → FitsSigned w64 stop → SomeIff r (FitsSigned w64 (next +ℤ step)) (next +ℤ step)
    → range_list (next +ℤ step) stop step ≡ range_list (unwrap_or r stop) stop step
next_or_stop next stop step (Some x) some fn fs is = ap (λ k. range_list k stop step) (sym is.1)
next_or_stop next stop step None some fn fs never =
    count_none (next +ℤ step) stop step some (past next stop step fn fs never) ∙ sym (count_none stop stop step some (not_before stop step))

pub tested_up : (next stop step : ℤ) → step ≢ pos 0 → FitsSigned w64 next → FitsSigned w64 stop → FitsSigned w64 step → int_lt (pos 0) (to_z w64 (of_z w64 step)) ≡ true
    → int_lt (to_z w64 (of_z w64 next)) (to_z w64 (of_z w64 stop)) ≡ is_filled (range_list next stop step)
tested_up next stop (pos d) some fn fs ft is = ap₂ int_lt (to_z-of_z w64 next fn) (to_z-of_z w64 stop fs) ∙ sym (filled_is next stop (pos d) some)
tested_up next stop (negsuc d) some fn fs ft is = absurd (grind (arith, is, to_z-of_z))

pub tested_down : (next stop step : ℤ) → step ≢ pos 0 → FitsSigned w64 next → FitsSigned w64 stop → FitsSigned w64 step → int_lt (pos 0) (to_z w64 (of_z w64 step)) ≡ false
    → int_lt (to_z w64 (of_z w64 stop)) (to_z w64 (of_z w64 next)) ≡ is_filled (range_list next stop step)
tested_down next stop (pos zero) some fn fs ft is = absurd (some refl)
tested_down next stop (pos (suc d)) some fn fs ft is = absurd (grind (arith, is, to_z-of_z))
tested_down next stop (negsuc d) some fn fs ft is = ap₂ int_lt (to_z-of_z w64 stop fs) (to_z-of_z w64 next fn) ∙ sym (filled_is next stop (negsuc d) some)

-- the integer that is taken, and those that are left
pub taken : (next stop step r : ℤ) (o : Option ℤ) → step ≢ pos 0 → FitsSigned w64 next → FitsSigned w64 stop → FitsSigned w64 step → FitsSigned w64 r
    → SomeIff o (FitsSigned w64 (to_z w64 (of_z w64 next) +ℤ to_z w64 (of_z w64 step))) (to_z w64 (of_z w64 next) +ℤ to_z w64 (of_z w64 step))
    → r ≡ unwrap_or o (to_z w64 (of_z w64 stop)) → true ≡ is_filled (range_list next stop step)
    → range_list next stop step ≡ to_z w64 (of_z w64 next) ∷ range_list (to_z w64 (of_z w64 r)) stop step
taken next stop step r o some fn fs ft fr sum is filled =
    let n = to_z-of_z w64 next fn in
    let t = to_z-of_z w64 step ft in
    let fits : SomeIff o (FitsSigned w64 (next +ℤ step)) (next +ℤ step) = subst (λ z. SomeIff o (FitsSigned w64 z) z) (ap₂ (λ x y. x +ℤ y) n t) sum in
    let same : unwrap_or o stop ≡ to_z w64 (of_z w64 r) = ap (unwrap_or o) (sym (to_z-of_z w64 stop fs)) ∙ (sym is ∙ sym (to_z-of_z w64 r fr)) in
    list_more next stop step some (sym (filled_is next stop step some) ∙ sym filled)
    ∙ ap₂ (λ x xs. x ∷ xs) (sym n) (next_or_stop next stop step o some fn fs fits ∙ ap (λ k. range_list k stop step) same)
