-- A walk that takes the least block at each step.
use Rattle.std.proofs.Common.{◌≡◌, ℕ, zero, suc, ◌+◌, ◌-◌, ◌<◌, ◌≤◌, ◌⊎◌, List, [], ◌∷◌, ◌++◌, length, Bool, true, false, ◌&&◌, Result, Ok, Err, IfOk, Some, None, sym, ap, subst, ◌∙◌, inl, inr, arith, append_assoc, append-nil, le-leb}
use Rattle.std.proofs.lemmas.Bool.{and_parts, both_ways, cases_order}
use mathlib.Core.Path.{fun_ext}
use Rattle.bit_table.specs.Tables.{Table, is_set}
use Rattle.pm_cons.specs.Below.{least_below}
use Rattle.pm_cons.specs.Precedence.{Precedence, IsOfBlocks, precedes, has_loop}
use Rattle.pm_cons.specs.Cycles.{LeadsAlong, IsReportedCycle}
use Rattle.pm_cons.specs.Walks.{walks, IsLeastWalk}
use Rattle.pm_cons.proofs.Below.{any_below_from, any_below_at, least_below_some, least_below_none, least_below_least}
use Rattle.pm_cons.proofs.Cycles.{least_none, least_cons, walk_of, precedes_of_goes, cycle_some}
use Rattle.pm_cons.proofs.Paths.{steps_all}
use Rattle.pm_cons.proofs.Erasing.{cycle_short}
use Rattle.pm_sched.specs.Cycles.{AreLayers}
use Rattle.pm_sched.specs.Tables.{precedence_in}

-- the tests of a step are those of the walk
pub step_is : (predecessors layers : Table) (a k i at : ℕ) → i < k → AreLayers predecessors layers a k →
    least_below predecessors.rows (λ b. is_set predecessors b at && is_set layers (k - 1 - i) b)
    ≡ least_below predecessors.rows (λ b. is_set predecessors b at && walks (k - 1 - i) (precedence_in predecessors) b a)
step_is predecessors layers a k i at li are = ap (least_below predecessors.rows) (fun_ext (λ b. ap (λ (t : Bool). is_set predecessors b at && t)
    (are.bits (k - 1 - i) b ∙ ap (λ (t : Bool). t && walks (k - 1 - i) (precedence_in predecessors) b a) (le-leb (k - 1 - i) k (omega arith)))))

-- so many steps were taken, and each least walk on from here makes a least walk
pub record IsWalked (g : Precedence) (k a i at : ℕ) (list : List ℕ) : Type 0 where
  pub known : at < g.count
  pub there : walks (k - i) g at a ≡ true
  pub done : List ℕ
  pub list_is : list ≡ a ∷ done
  pub goes_on : (rest : List ℕ) → IsLeastWalk g (k - i) at a rest → IsLeastWalk g k a a (done ++ rest)

left_is : (k i : ℕ) → i < k → k - i ≡ suc (k - 1 - i)
left_is k i lt = omega arith

next_left : (k i : ℕ) → i < k → k - 1 - i ≡ k - (i + 1)
next_left k i lt = omega arith

pub more_walked : (g : Precedence) → IsOfBlocks g → (k a i at c : ℕ) (list list' : List ℕ) → i < k → IsWalked g k a i at list → Some c ≡ least_below g.count (λ x. g.before at x && walks (k - 1 - i) g x a) → list' ≡ list ++ c ∷ [] → IsWalked g k a (i + 1) c list'
more_walked g within k a i at c list list' lt walked is added = record {
  known = got.0;
  there = subst (λ (n : ℕ). walks n g c a ≡ true) (next_left k i lt) parts.1;
  done = walked.done ++ c ∷ [];
  list_is = added ∙ ap (λ (l : List ℕ). l ++ c ∷ []) walked.list_is;
  goes_on = λ rest walk. subst (λ (l : List ℕ). IsLeastWalk g k a a l) (sym (append_assoc walked.done (c ∷ []) rest)) (walked.goes_on (c ∷ rest) (subst (λ (n : ℕ). IsLeastWalk g n at a (c ∷ rest)) (sym (left_is k i lt))
      (least_cons g within (k - 1 - i) at a c rest (sym is) (subst (λ (n : ℕ). IsLeastWalk g n c a rest) (sym (next_left k i lt)) walk))));
}
  where
    got : (c < g.count) × ((g.before at c && walks (k - 1 - i) g c a) ≡ true)
    got = least_below_some g.count (λ x. g.before at x && walks (k - 1 - i) g x a) c (sym is)

    parts : (g.before at c ≡ true) × (walks (k - 1 - i) g c a ≡ true)
    parts = and_parts (g.before at c) (walks (k - 1 - i) g c a) got.1

pub never_none : (g : Precedence) (k a i at : ℕ) (list : List ℕ) → i < k → IsWalked g k a i at list → None ≡ least_below g.count (λ x. g.before at x && walks (k - 1 - i) g x a) → ⊥
unfolding walks
never_none g k a i at list lt walked none = let there : walks (suc (k - 1 - i)) g at a ≡ true = subst (λ (n : ℕ). walks n g at a ≡ true) (left_is k i lt) walked.there in
    let found = any_below_at g.count (λ x. g.before at x && walks (k - 1 - i) g x a) there in
    both_ways (g.before at found.0 && walks (k - 1 - i) g found.0 a) (least_below_none g.count (λ x. g.before at x && walks (k - 1 - i) g x a) (sym none) found.0 found.1) found.2

pub all_walked : (g : Precedence) (k a i at : ℕ) (list : List ℕ) → k ≤ i → IsWalked g k a i at list → (xs : List ℕ) × (list ≡ a ∷ xs) × IsLeastWalk g k a a xs
unfolding walks
all_walked g k a i at list le walked = (
  walked.done,
  walked.list_is,
  subst (λ (l : List ℕ). IsLeastWalk g k a a l) (append-nil walked.done) (walked.goes_on [] (subst (λ (n : ℕ). IsLeastWalk g n at a []) (let e : 0 ≡ k - i = omega arith in e)
      (least_none g at a (subst (λ (n : ℕ). walks n g at a ≡ true) (let e : k - i ≡ zero = omega arith in e) walked.there)))),
)

-- the least block on a loop is led back to in fewer steps than there are blocks
pub some_length : (g : Precedence) → IsOfBlocks g → (a : ℕ) → a < g.count → ((b : ℕ) → b < a → precedes g b b ≡ false) → precedes g a a ≡ true → has_loop g ≡ true → ((j : ℕ) → j < g.count → walks j g a a ≡ false) → ⊥
some_length g within a lt below on loop none = go (cycle_some g within loop)
  where
    go : (b : ℕ) × (xs : List ℕ) × IsReportedCycle g b xs → ⊥
    go cycle = by_case (cases_order a cycle.0)
      where
        by_case : (a ≡ cycle.0) ⊎ ((a < cycle.0) ⊎ (cycle.0 < a)) → ⊥
        by_case (inl e) = both_ways (walks (length cycle.1) g a a) (none (length cycle.1) (cycle_short g within cycle.0 cycle.1 cycle.2))
            (walk_of g within cycle.1 a a (subst (λ (b : ℕ). LeadsAlong g b cycle.1 b) (sym e) cycle.2.loop))
        by_case (inr (inl l)) = both_ways (precedes g a a) (cycle.2.least_block a l) on
        by_case (inr (inr l)) = both_ways (precedes g cycle.0 cycle.0) (below cycle.0 l) (steps_all g within cycle.0 cycle.0 (precedes_of_goes g cycle.1 cycle.0 cycle.0 cycle.2.loop))

pub if_ok : {T E : Type 0} (r : Result T E) (P Q : T → Type 0) → ((x : T) → P x → Q x) → IfOk r P → IfOk r Q
if_ok (Ok x) P Q f h = f x h
if_ok (Err e) P Q f h = h

pub has_loop_at : (g : Precedence) (a : ℕ) → a < g.count → precedes g a a ≡ true → has_loop g ≡ true
has_loop_at g a lt on = any_below_from g.count (λ b. precedes g b b) a lt on

-- the least block that precedes itself, in two ways to say the same precedence
pub least_tells : (p g : Precedence) → p ≡ g → (a : ℕ) → Some a ≡ least_below g.count (λ b. precedes g b b) →
    (a < p.count) × (precedes p a a ≡ true) × ((b : ℕ) → b < a → precedes p b b ≡ false)
least_tells p g same a is = (got.0, got.1, least_below_least p.count (λ b. precedes p b b) a least)
  where
    least : least_below p.count (λ b. precedes p b b) ≡ Some a
    least = subst (λ (q : Precedence). least_below q.count (λ b. precedes q b b) ≡ Some a) (sym same) (sym is)

    got : (a < p.count) × (precedes p a a ≡ true)
    got = least_below_some p.count (λ b. precedes p b b) a least

pub some_on_loop : (g : Precedence) → has_loop g ≡ true → None ≡ least_below g.count (λ b. precedes g b b) → ⊥
some_on_loop g loop none =
    let found = any_below_at g.count (λ b. precedes g b b) loop in
    both_ways (precedes g found.0 found.0) (least_below_none g.count (λ b. precedes g b b) (sym none) found.0 found.1) found.2
