-- The default order, as far as it is made.
use Rattle.std.proofs.Common.{◌≡◌, ℕ, zero, suc, ◌+◌, ◌-◌, ◌<◌, List, [], ◌∷◌, ◌++◌, length, get_or, set, Bool, true, false, not, ◌||◌, eqb, Option, Some, None, refl, sym, ap, subst, ◌∙◌, ⊎_elim, arith, eqb-true, append_assoc, append-nil, get_or-set_other, get_or-set_same}
use Rattle.std.proofs.lemmas.Bool.{and_parts, and_cases, both_ways, cases_eq, false_from_ne_true, not-true, not-false, eqb-false}
use mathlib.Core.Path.{fun_ext}
use Rattle.pm_cons.specs.Below.{all_below, count_below}
use Rattle.pm_cons.specs.Precedence.{Precedence, IsOfBlocks, IsAcyclic, precedes, has_loop}
use Rattle.pm_cons.specs.Orders.{has, MayRun, Completes, IsTopological}
use Rattle.pm_cons.proofs.Below.{all_below_at, any_below_from, any_below_at, least_below_some, least_below_none, count_below_all, count_below_full}
use Rattle.pm_cons.proofs.Runs.{HaveRun, runs_acyclic, count_runs, stand_all}
use Rattle.pm_cons.proofs.Closure.{rank}
use Rattle.pm_sched.specs.Tables.{flag}
use Rattle.pm_sched.specs.Ordering.{AreStarts, IsDefaultOrder}
use Rattle.bit_table.specs.Tables.{Table}
use Rattle.pm_cons.specs.DefaultOrder.{is_ready, next_block, then_more, order_after, default_order_of}

-- the marked blocks are those of the order, it begins the default order, and what completes it makes it topological
pub record IsMade (g : Precedence) (marked : ℕ → Bool) (order : List ℕ) (turn : ℕ) : Type 0 where
  pub listed : List ℕ
  pub run : HaveRun g listed
  pub flags : (b : ℕ) → marked b ≡ has listed b
  pub size : length listed ≡ turn
  pub front : default_order_of g ≡ order ++ order_after (g.count - turn) g listed
  pub follows : (rest : List ℕ) → Completes g listed rest → IsTopological g (order ++ rest)

-- a test that fails gives a block that fails it
waits_for : (n : ℕ) (t : ℕ → Bool) → all_below n t ≡ false → (a : ℕ) × (a < n) × (t a ≡ false)
waits_for zero t h = absurd (both_ways false refl (sym h))
waits_for (suc n) t h = ⊎_elim (λ (e : t n ≡ false). (n, omega arith, e)) (λ (e : all_below n t ≡ false). let w = waits_for n t e in (w.0, omega arith, w.2)) (and_cases (t n) (all_below n t) h)

splits : (x y : Bool) → (not x || y) ≡ false → (x ≡ true) × (y ≡ false)
splits true false h = (refl, refl)
splits true true h = absurd (both_ways true h refl)
splits false y h = absurd (both_ways true h refl)

may_from : (g : Precedence) → IsOfBlocks g → (marked : ℕ → Bool) (bs : List ℕ) → ((b : ℕ) → marked b ≡ has bs b) → (b : ℕ) → b < g.count → is_ready g marked b ≡ true → MayRun g bs b
may_from g within marked bs flags b lt h = let parts = and_parts (not (marked b)) (all_below g.count (λ a. not (g.before a b) || marked a)) h in record {
  known = lt;
  new = sym (flags b) ∙ not-true (marked b) parts.0;
  ready = λ a edge. sym (flags a) ∙ ready a edge (all_below_at g.count (λ a. not (g.before a b) || marked a) parts.1 a (within a b edge).0);
}
  where
    second : (x y : Bool) → (not x || y) ≡ true → x ≡ true → y ≡ true
    second true y h e = h
    second false y h e = absurd (both_ways false refl e)

    ready : (a : ℕ) → g.before a b ≡ true → (not (g.before a b) || marked a) ≡ true → marked a ≡ true
    ready a edge h = second (g.before a b) (marked a) h edge

-- the next block is made
pub more_made : (g : Precedence) → IsOfBlocks g → (marked marked' : ℕ → Bool) (order : List ℕ) (turn b : ℕ) → turn < g.count → IsMade g marked order turn → next_block g marked ≡ Some b → marked' b ≡ true → ((k : ℕ) → ¬ (k ≡ b) → marked' k ≡ marked k) → IsMade g marked' (order ++ b ∷ []) (turn + 1)
unfolding next_block order_after
more_made g within marked marked' order turn b lt made is here other = record {
  listed = b ∷ made.listed;
  run = (may, made.run);
  flags = λ k. flagged k (eqb b k) refl;
  size = let same : length made.listed ≡ turn = made.size in omega arith;
  front = made.front ∙ (ap (λ (l : List ℕ). order ++ l) opened ∙ sym (append_assoc order (b ∷ []) (order_after (g.count - (turn + 1)) g (b ∷ made.listed))));
  follows = λ rest h. subst (λ (l : List ℕ). IsTopological g l) (sym (append_assoc order (b ∷ []) rest)) (made.follows (b ∷ rest) (may, h));
}
  where
    got : (b < g.count) × (is_ready g marked b ≡ true)
    got = least_below_some g.count (is_ready g marked) b is

    may : MayRun g made.listed b
    may = may_from g within marked made.listed made.flags b got.0 got.1

    flagged : (k : ℕ) (t : Bool) → eqb b k ≡ t → marked' k ≡ (t || has made.listed k)
    flagged k true e = subst (λ (j : ℕ). marked' j ≡ true) (eqb-true b k e) here
    flagged k false e = other k (λ (x : k ≡ b). eqb-false b k e (sym x)) ∙ made.flags k

    next_is : next_block g (has made.listed) ≡ Some b
    next_is = ap (λ (t : ℕ → Bool). next_block g t) (sym (fun_ext made.flags)) ∙ is

    count_is : g.count - turn ≡ suc (g.count - (turn + 1))
    count_is = omega arith

    opened : order_after (g.count - turn) g made.listed ≡ b ∷ order_after (g.count - (turn + 1)) g (b ∷ made.listed)
    opened = ap (λ (k : ℕ). order_after k g made.listed) count_is ∙ ap (λ (o : Option ℕ). then_more o (λ x. order_after (g.count - (turn + 1)) g (x ∷ made.listed))) next_is

-- once all blocks are made, all are listed
pub all_stand : (g : Precedence) (marked : ℕ → Bool) (order : List ℕ) → (turn : ℕ) → turn ≡ g.count → (made : IsMade g marked order turn) → (b : ℕ) → b < g.count → has made.listed b ≡ true
all_stand g marked order turn e made = count_below_all g.count (has made.listed) (count_runs g made.listed made.run ∙ (made.size ∙ e))

pub all_made : (g : Precedence) (marked : ℕ → Bool) (order : List ℕ) (turn : ℕ) → turn ≡ g.count → IsMade g marked order turn → IsDefaultOrder g order
unfolding order_after
all_made g marked order turn e made = record {
  default = sym (made.front ∙ (ap (λ (k : ℕ). order ++ order_after k g made.listed) zero_is ∙ append-nil order));
  topological = subst (λ (l : List ℕ). IsTopological g l) (append-nil order) (made.follows [] (all_stand g marked order turn e made));
  no_loop = false_from_ne_true (has_loop g) (λ loop. let found = any_below_at g.count (λ b. precedes g b b) loop in both_ways (precedes g found.0 found.0) (runs_acyclic g made.listed made.run found.0 (all_stand g marked order turn e made found.0 found.1)) found.2);
}
  where
    zero_is : g.count - turn ≡ zero
    zero_is = omega arith

-- if no block is ready and not all are made, there is a loop
pub none_ready : (g : Precedence) → IsOfBlocks g → (marked : ℕ → Bool) (order : List ℕ) (turn : ℕ) → turn < g.count → IsMade g marked order turn → next_block g marked ≡ None → has_loop g ≡ true
unfolding next_block
none_ready g within marked order turn lt made none = go (has_loop g) refl
  where
    waits : (b : ℕ) → b < g.count → marked b ≡ false → (a : ℕ) × (g.before a b ≡ true) × (marked a ≡ false)
    waits b below new = ⊎_elim (λ (e : not (marked b) ≡ false). absurd (both_ways (marked b) new (not-false (marked b) e)))
        (λ (e : all_below g.count (λ a. not (g.before a b) || marked a) ≡ false). let w = waits_for g.count (λ a. not (g.before a b) || marked a) e in let s = splits (g.before w.0 b) (marked w.0) w.2 in (w.0, s.0, s.1))
        (and_cases (not (marked b)) (all_below g.count (λ a. not (g.before a b) || marked a)) (least_below_none g.count (is_ready g marked) none b below))

    go : (t : Bool) → has_loop g ≡ t → has_loop g ≡ true
    go true e = e
    go false e = absurd (fewer (count_runs g made.listed made.run) (count_below_full g.count (has made.listed) (λ b below. sym (made.flags b) ∙ stand_all g within acyclic marked waits (suc (rank g b)) b below (omega arith))) made.size)
      where
        acyclic : IsAcyclic g
        acyclic b below = false_from_ne_true (precedes g b b) (λ to. both_ways (has_loop g) e (any_below_from g.count (λ b. precedes g b b) b below to))

        fewer : count_below g.count (has made.listed) ≡ length made.listed → count_below g.count (has made.listed) ≡ g.count → length made.listed ≡ turn → ⊥
        fewer x y z = omega arith

-- a flag that is set, and the others
pub flag_set : (flags : List Bool) (b : ℕ) → b < length flags → get_or (set flags b true) b false ≡ true
flag_set flags b lt = get_or-set_same flags b true false lt

pub flag_else : (flags : List Bool) (b : ℕ) → b < length flags → (k : ℕ) → ¬ (k ≡ b) → get_or (set flags b true) k false ≡ get_or flags k false
flag_else flags b lt k ne = get_or-set_other flags b k true false ne

-- what was passed is still listed
pub still_passed : (t : Table) (flags : List Bool) (starts : List ℕ) (b : ℕ) → b < length flags → AreStarts t (flag flags) starts → AreStarts t (flag (set flags b true)) starts
still_passed t flags starts b lt up = record {
  rows = up.rows;
  within = up.within;
  passed = λ c a l edge. ⊎_elim (λ (x : a ≡ b). subst (λ (k : ℕ). get_or (set flags b true) k false ≡ true) (sym x) (flag_set flags b lt)) (λ (x : a ≡ b → ⊥). flag_else flags b lt a x ∙ up.passed c a l edge) (cases_eq a b);
}
