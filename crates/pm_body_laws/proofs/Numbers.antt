-- Bodies by line, and what was typed for each number.
use Rattle.std.proofs.Common.{◌≡◌, ◌∙◌, ◌+◌, ◌==◌, ◌||◌, ℕ, suc, Bool, true, false, List, [], ◌∷◌, refl, ap, subst, length, arith}
use Rattle.std.specs.Prelude.{IsTrue, nat_lt, if◌then◌else◌, is_some, Option, Some, slice_get}
use Rattle.std.specs.List.{list_all, list_any}
use Rattle.std.proofs.lemmas.Bool.{and_parts, eqb-true, false≢true}
use Rattle.pm_design.specs.declared.body.Block.{Block}
use Rattle.pm_design.specs.declared.body.Ex.{Ex}
use Rattle.pm_design.specs.declared.body.Method.{Method}
use Rattle.pm_types.specs.declared.bodies.TypedBody.{TypedBody}
use Rattle.pm_types.specs.declared.bodies.TypedBody.TheVariants as typed
use Rattle.pm_types.specs.declared.filling.Filling.{Filling}
use Rattle.pm_types.specs.ByLine.{by_rank, placed}
use Rattle.pm_types.specs.Filled.{block_in, filled_block, filled_blocks, filled_methods, found, guard_in, method_in, with_filling, with_guard}
use Rattle.pm_type_laws.specs.Views.{Each}
use Rattle.pm_type_laws.proofs.Yields.{Where}
use Rattle.pm_type_laws.proofs.Values.{both}

-- ---- by line

module _ {X : Type 0} (test : X → Bool) (rank : X → ℕ) where
  all_placed : (x : X) (ys : List X) → IsTrue (test x) → IsTrue (list_all test ys) → IsTrue (list_all test (placed rank x ys))
  unfolding placed
  all_placed x [] is all = both (test x) true is refl
  all_placed x (y ∷ ys) is all =
      let parts = and_parts (test y) (list_all test ys) all in
      by (nat_lt (rank y) (rank x)) (both (test y) _ parts.0 (all_placed x ys is parts.1))
    where
      by : (b : Bool) → IsTrue (list_all test (y ∷ placed rank x ys)) → IsTrue (list_all test (if b then y ∷ placed rank x ys else x ∷ y ∷ ys))
      by true later = later
      by false later = both (test x) _ is all

  -- what each passes, each passes by rank
  pub all_by_rank : (xs : List X) → IsTrue (list_all test xs) → IsTrue (list_all test (by_rank rank xs))
  unfolding by_rank
  all_by_rank [] all = refl
  all_by_rank (x ∷ xs) all =
      let parts = and_parts (test x) (list_all test xs) all in
      all_placed x (by_rank rank xs) parts.0 (all_by_rank xs parts.1)

  or_right : (a b : Bool) → IsTrue b → IsTrue (a || b)
  or_right true b is = refl
  or_right false b is = is

  -- one more, wherever it stands
  any_placed : (x : X) (ys : List X) → list_any test (placed rank x ys) ≡ (test x || list_any test ys)
  unfolding placed
  any_placed x [] = refl
  any_placed x (y ∷ ys) = by (nat_lt (rank y) (rank x)) (any_placed x ys)
    where
      swapped : (a b c : Bool) → (a || (b || c)) ≡ (b || (a || c))
      swapped true true c = refl
      swapped true false c = refl
      swapped false b c = refl

      by : (b : Bool) → list_any test (placed rank x ys) ≡ (test x || list_any test ys)
          → list_any test (if b then y ∷ placed rank x ys else x ∷ y ∷ ys) ≡ (test x || (test y || list_any test ys))
      by true same = ap (λ (b : Bool). test y || b) same ∙ swapped (test y) (test x) (list_any test ys)
      by false same = refl

  -- what one passes, one passes by rank
  pub any_by_rank : (xs : List X) → list_any test (by_rank rank xs) ≡ list_any test xs
  unfolding by_rank
  any_by_rank [] = refl
  any_by_rank (x ∷ xs) = any_placed x (by_rank rank xs) ∙ ap (λ (b : Bool). test x || b) (any_by_rank xs)

-- ---- what was typed for a number

-- a method of a number
abbrev pub is_method : ℕ → TypedBody → Bool
is_method k (typed.Method m out temps answer) = m == k
is_method k _ = false

chosen : {A : Type 0} (P : A → Type 0) (b : Bool) (a : A) (other : Option A) → (b ≡ true → P a) → Where P other
    → Where P (if b then Some a else other)
chosen P true a other first second = first refl
chosen P false a other first second = second

module _ (P : TypedBody → Type 0) where
  pub block_found : (ts : List TypedBody) (k : ℕ) → Each P ts → Where (λ (f : Filling). P (typed.Block k f.out f.temps)) (block_in ts k)
  unfolding block_in
  block_found [] k each = tt
  block_found (typed.Block b out temps ∷ ts) k each =
      chosen (λ (f : Filling). P (typed.Block k f.out f.temps)) (b == k) _ (block_in ts k)
      (λ same. subst (λ (n : ℕ). P (typed.Block n out temps)) (eqb-true b k same) each.0) (block_found ts k each.1)
  block_found (typed.Method m out temps answer ∷ ts) k each = block_found ts k each.1
  block_found (typed.Guard m e ∷ ts) k each = block_found ts k each.1

  pub method_found : (ts : List TypedBody) (k : ℕ) → Each P ts → Where (λ (f : Filling). P (typed.Method k f.out f.temps f.answer)) (method_in ts k)
  unfolding method_in
  method_found [] k each = tt
  method_found (typed.Block b out temps ∷ ts) k each = method_found ts k each.1
  method_found (typed.Method m out temps answer ∷ ts) k each =
      chosen (λ (f : Filling). P (typed.Method k f.out f.temps f.answer)) (m == k) _ (method_in ts k)
      (λ same. subst (λ (n : ℕ). P (typed.Method n out temps answer)) (eqb-true m k same) each.0) (method_found ts k each.1)
  method_found (typed.Guard m e ∷ ts) k each = method_found ts k each.1

  pub guard_found : (ts : List TypedBody) (k : ℕ) → Each P ts → Where (λ (e : Ex). P (typed.Guard k e)) (guard_in ts k)
  unfolding guard_in
  guard_found [] k each = tt
  guard_found (typed.Block b out temps ∷ ts) k each = guard_found ts k each.1
  guard_found (typed.Method m out temps answer ∷ ts) k each = guard_found ts k each.1
  guard_found (typed.Guard m e ∷ ts) k each =
      chosen (λ (e : Ex). P (typed.Guard k e)) (m == k) e (guard_in ts k)
      (λ same. subst (λ (n : ℕ). P (typed.Guard n e)) (eqb-true m k same) each.0) (guard_found ts k each.1)

-- a method that was typed is found
pub method_there : (ts : List TypedBody) (k : ℕ) → IsTrue (list_any (is_method k) ts) → IsTrue (is_some (method_in ts k))
unfolding method_in
method_there [] k any = absurd (false≢true any)
method_there (typed.Block b out temps ∷ ts) k any = method_there ts k any
method_there (typed.Method m out temps answer ∷ ts) k any = by (m == k) any (λ any. method_there ts k any)
  where
    by : (b : Bool) → IsTrue (b || list_any (is_method k) ts) → (IsTrue (list_any (is_method k) ts) → IsTrue (is_some (method_in ts k)))
        → IsTrue (is_some (if b then Some (record { out = out; temps = temps; answer = answer }) else method_in ts k))
    by true any later = refl
    by false any later = later any
method_there (typed.Guard m e ∷ ts) k any = method_there ts k any

-- ---- each in its place

-- blocks with their bodies
pub blocks_filled : (test : Block → Bool) (at : ℕ → Option Filling) (bs : List Block) (n : ℕ)
    → ((i : ℕ) (b : Block) → slice_get bs i ≡ Some b → IsTrue (test (filled_block b (at (n + i)))))
    → IsTrue (list_all test (filled_blocks bs (found at n (length bs))))
unfolding filled_blocks found
blocks_filled test at [] n each = refl
blocks_filled test at (b ∷ bs) n each =
    let same : n + 0 ≡ n = omega arith in
    both (test (filled_block b (at n))) _
    (subst (λ (k : ℕ). IsTrue (test (filled_block b (at k)))) same (each 0 b refl))
    (blocks_filled test at bs (n + 1)
    (λ i x is. subst (λ (k : ℕ). IsTrue (test (filled_block x (at k)))) (next n i) (each (suc i) x is)))
  where
    next : (n i : ℕ) → n + suc i ≡ (n + 1) + i
    next n i = omega arith

-- methods with their bodies and guards
pub methods_filled : (test : Method → Bool) (at : ℕ → Option Filling) (on : ℕ → Option Ex) (ms : List Method) (n : ℕ)
    → ((i : ℕ) (m : Method) → slice_get ms i ≡ Some m → IsTrue (test (with_guard (with_filling m (at (n + i))) (on (n + i)))))
    → IsTrue (list_all test (filled_methods ms (found at n (length ms)) (found on n (length ms))))
unfolding filled_methods found
methods_filled test at on [] n each = refl
methods_filled test at on (m ∷ ms) n each =
    let same : n + 0 ≡ n = omega arith in
    both (test (with_guard (with_filling m (at n)) (on n))) _
    (subst (λ (k : ℕ). IsTrue (test (with_guard (with_filling m (at k)) (on k)))) same (each 0 m refl))
    (methods_filled test at on ms (n + 1)
    (λ i x is. subst (λ (k : ℕ). IsTrue (test (with_guard (with_filling x (at k)) (on k)))) (next n i) (each (suc i) x is)))
  where
    next : (n i : ℕ) → n + suc i ≡ (n + 1) + i
    next n i = omega arith
