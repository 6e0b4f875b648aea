-- Blocks that ran one after another, each after its predecessors.
use Rattle.std.proofs.Common.{◌≡◌, ℕ, zero, suc, ◌<◌, List, [], ◌∷◌, length, Bool, true, false, ◌||◌, eqb, refl, sym, ap, subst, ◌∙◌, ⊎_elim, arith, eqb-true, eq-eqb}
use Rattle.std.proofs.lemmas.Bool.{or_cases, or_left, or_right, both_ways, false_from_ne_true}
use Rattle.pm_cons.specs.Below.{count_below}
use Rattle.pm_cons.specs.Precedence.{Precedence, IsOfBlocks, IsAcyclic, precedes}
use Rattle.pm_cons.specs.Orders.{has, MayRun}
use Rattle.pm_cons.proofs.Below.{count_below_none, count_below_more}
use Rattle.pm_cons.proofs.Closure.{through_back, through_into, precedes_step, rank, rank_lt}

-- each of the blocks, latest first, ran when it was allowed to
abbrev pub HaveRun : Precedence → List ℕ → Type 0
HaveRun g [] = Unit {0}
HaveRun g (b ∷ blocks) = MayRun g blocks b × HaveRun g blocks

-- the direct predecessors of what ran have run
pub runs_back : (g : Precedence) (bs : List ℕ) → HaveRun g bs → (a b : ℕ) → g.before a b ≡ true → has bs b ≡ true →
    has bs a ≡ true
runs_back g [] runs a b edge h = h
runs_back g (x ∷ bs) runs a b edge h =
    ⊎_elim
    (λ (e : eqb x b ≡ true). or_right (eqb x a) (has bs a)
    (runs.0.ready a (subst (λ (y : ℕ). g.before a y ≡ true) (sym (eqb-true x b e)) edge)))
    (λ (e : has bs b ≡ true). or_right (eqb x a) (has bs a) (runs_back g bs runs.1 a b edge e))
    (or_cases (eqb x b) (has bs b) h)

pub runs_leads : (g : Precedence) (bs : List ℕ) → HaveRun g bs → (a b : ℕ) → precedes g a b ≡ true →
    has bs b ≡ true → has bs a ≡ true
runs_leads g bs runs a b h = through_back g.count g.before (λ (c : ℕ). has bs c ≡ true) (runs_back g bs runs) a b h

-- all that precede the next block have run
pub next_leads : (g : Precedence) (bs : List ℕ) (b : ℕ) → MayRun g bs b → HaveRun g bs → (a : ℕ) →
    precedes g a b ≡ true → has bs a ≡ true
next_leads g bs b may runs =
    through_into g.count g.before (λ (c : ℕ). has bs c ≡ true) b may.ready (runs_back g bs runs)

-- no block that ran precedes itself
pub runs_acyclic : (g : Precedence) (bs : List ℕ) → HaveRun g bs → (b : ℕ) → has bs b ≡ true → precedes g b b ≡ false
runs_acyclic g [] runs b h = absurd (cc)
runs_acyclic g (x ∷ bs) runs b h =
    ⊎_elim
    (λ (e : eqb x b ≡ true). subst (λ (y : ℕ). precedes g y y ≡ false) (eqb-true x b e)
    (false_from_ne_true (precedes g x x)
    (λ to. both_ways (has bs x) runs.0.new (next_leads g bs x runs.0 runs.1 x to))))
    (λ (e : has bs b ≡ true). runs_acyclic g bs runs.1 b e) (or_cases (eqb x b) (has bs b) h)

-- no block is counted twice
pub count_runs : (g : Precedence) (bs : List ℕ) → HaveRun g bs → count_below g.count (has bs) ≡ length bs
count_runs g [] runs = count_below_none g.count
count_runs g (x ∷ bs) runs =
    count_below_more g.count (has bs) (has (x ∷ bs)) x runs.0.known runs.0.new
    (or_left (eqb x x) (has bs x) (eq-eqb x x refl)) (λ k ne. same k (eqb x k) refl ne) ∙ ap suc
    (count_runs g bs runs.1)
  where
    same : (k : ℕ) (t : Bool) → eqb x k ≡ t → ¬ (k ≡ x) → has bs k ≡ (t || has bs k)
    same k true e ne = absurd (ne (sym (eqb-true x k e)))
    same k false e ne = refl

-- if each block that didn't run waits for another that didn't, then all ran, or there is a loop
pub stand_all : (g : Precedence) → IsOfBlocks g → IsAcyclic g → (stands : ℕ → Bool) →
    ((b : ℕ) → b < g.count → stands b ≡ false → (a : ℕ) × (g.before a b ≡ true) × (stands a ≡ false)) → (k b : ℕ) →
    b < g.count → rank g b < k → stands b ≡ true
stand_all g within acyclic stands waits zero b lt less = absurd (omega arith)
stand_all g within acyclic stands waits (suc k) b lt less =
    go (stands b) refl
    (λ a edge. let fewer : rank g a < rank g b = rank_lt g within acyclic a b (precedes_step g a b edge) in
    stand_all g within acyclic stands waits k a (within a b edge).0 (omega arith))
  where
    go : (t : Bool) → stands b ≡ t → ((a : ℕ) → g.before a b ≡ true → stands a ≡ true) → stands b ≡ true
    go true e ih = e
    go false e ih = let w = waits b lt e in absurd (both_ways (stands w.0) w.2 (ih w.0 w.1))
