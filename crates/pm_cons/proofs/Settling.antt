-- Every topological order settles: along the order, each place has what its latest writer leaves.
use Rattle.std.proofs.Common.{◌≡◌, ℕ, ◌<◌, ◌⊎◌, List, [], ◌∷◌, Bool, true, false, not, cond, ◌&&◌, ◌||◌, eqb, Option, Some, None, refl, sym, ap, subst, ◌∙◌, inl, inr, ⊎_elim, eqb-true, eq-eqb}
use Rattle.std.specs.List.{find}
use Rattle.std.proofs.lemmas.Bool.{and_from, or_cases, or_left, or_right, both_ways, false_from_ne_true, cases_Bool, eqb-false}
use Rattle.pm_cons.specs.Below.{least_below}
use Rattle.pm_cons.specs.UpdateBlocks.{UpdateBlocks, Valuation, IsWithin, IsLocal, IsOrdered, touches}
use Rattle.pm_cons.specs.Precedence.{precedes}
use Rattle.pm_cons.specs.Orders.{has, MayRun, Completes, IsTopological, run_in_turn}
use Rattle.pm_cons.specs.Settled.{is_last, last_of, left_or, left, seen, settled}
use Rattle.pm_cons.proofs.Below.{all_below_from, least_below_only, least_below_empty}
use Rattle.pm_cons.proofs.Runs.{HaveRun, runs_leads, next_leads}
use Rattle.pm_cons.proofs.Left.{IsLast-from, left_is}

-- the latest writer of a place among the blocks that ran
abbrev pub latest : {P : Type 0} → UpdateBlocks P → List ℕ → P → Option ℕ
latest d bs p = find (λ w. d.writes w p) bs

-- w ran, writes p, and precedes no other writer that ran
pub record IsLatest {P : Type 0} (d : UpdateBlocks P) (bs : List ℕ) (p : P) (w : ℕ) : Type 0 where
  pub came : has bs w ≡ true
  pub writes : d.writes w p ≡ true
  pub others : (u : ℕ) → has bs u ≡ true → d.writes u p ≡ true → (u ≡ w) ⊎ (precedes d.precedence w u ≡ false)

latest_here : {P : Type 0} (d : UpdateBlocks P) (x : ℕ) (bs : List ℕ) (p : P) → HaveRun d.precedence (x ∷ bs) →
    d.writes x p ≡ true → IsLatest d (x ∷ bs) p x
latest_here d x bs p runs is = record {
  came = or_left (eqb x x) (has bs x) (eq-eqb x x refl);
  writes = is;
  others = λ u h w. ⊎_elim (λ (e : eqb x u ≡ true). inl (sym (eqb-true x u e)))
      (λ (e : has bs u ≡ true). inr
      (false_from_ne_true (precedes d.precedence x u)
      (λ to. both_ways (has bs x) runs.0.new (runs_leads d.precedence bs runs.1 x u to e))))
      (or_cases (eqb x u) (has bs u) h);
}

latest_more : {P : Type 0} (d : UpdateBlocks P) (x : ℕ) (bs : List ℕ) (p : P) (w : ℕ) → d.writes x p ≡ false → IsLatest d bs p w →
    IsLatest d (x ∷ bs) p w
latest_more d x bs p w is last = record {
  came = or_right (eqb x w) (has bs w) last.came;
  writes = last.writes;
  others =
      λ u h wr. ⊎_elim
      (λ (e : eqb x u ≡ true). absurd
      (both_ways (d.writes u p) (subst (λ (y : ℕ). d.writes y p ≡ false) (eqb-true x u e) is) wr))
      (λ (e : has bs u ≡ true). last.others u e wr) (or_cases (eqb x u) (has bs u) h);
}

latest_some : {P : Type 0} (d : UpdateBlocks P) (bs : List ℕ) (p : P) (w : ℕ) → HaveRun d.precedence bs → latest d bs p ≡ Some w →
    IsLatest d bs p w
latest_some d [] p w runs e = absurd (cc)
latest_some d (x ∷ bs) p w runs e = go (d.writes x p) refl e (latest_some d bs p w runs.1)
  where
    go : (t : Bool) → d.writes x p ≡ t → cond t (Some x) (latest d bs p) ≡ Some w →
        (latest d bs p ≡ Some w → IsLatest d bs p w) → IsLatest d (x ∷ bs) p w
    go true is e ih =
        let same : x ≡ w = cc in subst (λ (y : ℕ). IsLatest d (x ∷ bs) p y) same (latest_here d x bs p runs is)
    go false is e ih = latest_more d x bs p w is (ih e)

latest_none : {P : Type 0} (d : UpdateBlocks P) (bs : List ℕ) (p : P) → latest d bs p ≡ None → (w : ℕ) → has bs w ≡ true →
    d.writes w p ≡ false
latest_none d [] p e w h = absurd (cc)
latest_none d (x ∷ bs) p e w h = go (d.writes x p) refl e (latest_none d bs p)
  where
    go : (t : Bool) → d.writes x p ≡ t → cond t (Some x) (latest d bs p) ≡ None →
        (latest d bs p ≡ None → (w : ℕ) → has bs w ≡ true → d.writes w p ≡ false) → d.writes w p ≡ false
    go true is e ih = absurd (cc)
    go false is e ih =
        ⊎_elim (λ (s : eqb x w ≡ true). subst (λ (y : ℕ). d.writes y p ≡ false) (eqb-true x w s) is)
        (λ (s : has bs w ≡ true). ih e w s) (or_cases (eqb x w) (has bs w) h)

-- of the writers of p, exactly those that ran pass
pub record AreThose {P : Type 0} (d : UpdateBlocks P) (bs : List ℕ) (among : ℕ → Bool) (p : P) : Type 0 where
  pub came : (w : ℕ) → d.writes w p ≡ true → among w ≡ true → has bs w ≡ true
  pub passes : (w : ℕ) → d.writes w p ≡ true → has bs w ≡ true → among w ≡ true

unless : (a b x y : Bool) → (a ≡ true → b ≡ true → (x ≡ true) ⊎ (y ≡ true)) → (not (a && b) || (x || y)) ≡ true
unless true true x y h = ⊎_elim (λ (e : x ≡ true). or_left x y e) (λ (e : y ≡ true). or_right x y e) (h refl refl)
unless false b x y h = refl
unless true false x y h = refl

pub last_is_latest : {P : Type 0} (d : UpdateBlocks P) → IsWithin d → IsOrdered d → (bs : List ℕ) (among : ℕ → Bool) (p : P) →
    HaveRun d.precedence bs → AreThose d bs among p → last_of d among p ≡ latest d bs p
unfolding last_of
last_is_latest d within ordered bs among p runs those = go (latest d bs p) refl
  where
    ordered_by : (w u : ℕ) → d.writes w p ≡ true → d.writes u p ≡ true → ¬ (u ≡ w) →
        precedes d.precedence w u ≡ false → precedes d.precedence u w ≡ true
    ordered_by w u x y ne z =
        ⊎_elim (λ (e : precedes d.precedence u w ≡ true). e)
        (λ (e : precedes d.precedence w u ≡ true). absurd (both_ways (precedes d.precedence w u) z e))
        (ordered.pairs u w p ne (within.writers u p y) (within.writers w p x) y
        (or_right (d.reads w p) (d.writes w p) x))

    test : (w : ℕ) → IsLatest d bs p w → is_last d among p w ≡ true
    test w last =
        and_from _ _ last.writes
        (and_from _ _ (those.passes w last.writes last.came)
        (all_below_from d.precedence.count _
        (λ u lt. unless (d.writes u p) (among u) (eqb u w) (precedes d.precedence u w)
        (λ wr pass. ⊎_elim (λ (e : u ≡ w). inl (eq-eqb u w e))
        (λ (e : precedes d.precedence w u ≡ false). ⊎_elim (λ (s : eqb u w ≡ true). inl s)
        (λ (s : eqb u w ≡ false). inr (ordered_by w u last.writes wr (eqb-false u w s) e))
        (cases_Bool (eqb u w))) (last.others u (those.came u wr pass) wr)))))

    one : (w : ℕ) → IsLatest d bs p w → (k : ℕ) → k < d.precedence.count → is_last d among p k ≡ true → k ≡ w
    one w last k lt is = let of_k = IsLast-from d among p k lt is in
        ⊎_elim (λ (e : k ≡ w). e)
        (λ (e : precedes d.precedence w k ≡ false). ⊎_elim (λ (s : w ≡ k). sym s)
        (λ (s : precedes d.precedence w k ≡ true). absurd (both_ways (precedes d.precedence w k) e s))
        (of_k.others w (within.writers w p last.writes) last.writes (those.passes w last.writes last.came)))
        (last.others k (those.came k of_k.writes of_k.passes) of_k.writes)

    go : (o : Option ℕ) → latest d bs p ≡ o → least_below d.precedence.count (is_last d among p) ≡ latest d bs p
    go None e =
        least_below_empty d.precedence.count (is_last d among p)
        (λ k lt. false_from_ne_true (is_last d among p k)
        (λ is. let of_k = IsLast-from d among p k lt is in both_ways (d.writes k p)
        (latest_none d bs p e k (those.came k of_k.writes of_k.passes)) of_k.writes)) ∙ sym e
    go (Some w) e =
        let last = latest_some d bs p w runs e in least_below_only d.precedence.count (is_last d among p) w
        (within.writers w p last.writes) (test w last) (one w last) ∙ sym e

-- if the next block touches p, the writers of p that precede it are those that ran
next_those : {P : Type 0} (d : UpdateBlocks P) → IsWithin d → IsOrdered d → (bs : List ℕ) (b : ℕ) (p : P) → MayRun d.precedence bs b →
    HaveRun d.precedence bs → touches d b p ≡ true → AreThose d bs (λ w. precedes d.precedence w b) p
next_those d within ordered bs b p may runs touch = record {
  came = λ w wr to. next_leads d.precedence bs b may runs w to;
  passes =
      λ w wr h. let ne : ¬ (w ≡ b) = λ (e : w ≡ b). both_ways (has bs b) may.new
      (subst (λ (y : ℕ). has bs y ≡ true) e h) in
      ⊎_elim (λ (e : precedes d.precedence w b ≡ true). e)
      (λ (e : precedes d.precedence b w ≡ true). absurd
      (both_ways (has bs b) may.new (runs_leads d.precedence bs runs b w e h)))
      (ordered.pairs w b p ne (within.writers w p wr) may.known wr touch);
}

-- the invariant: each place has what its latest writer leaves, or its start value
abbrev pub Stands : {P : Type 0} → UpdateBlocks P → Valuation P → List ℕ → Valuation P → Type 0
Stands {P} d start bs v = (p : P) → v p ≡ left_or (left d start) start (latest d bs p) p

pub stands_more : {P : Type 0} (d : UpdateBlocks P) → IsWithin d → IsLocal d → IsOrdered d →
    (start : Valuation P) (bs : List ℕ) (b : ℕ) (v : Valuation P) → MayRun d.precedence bs b → HaveRun d.precedence bs →
    Stands d start bs v → Stands d start (b ∷ bs) (d.run b v)
stands_more {P} d within local ordered start bs b v may runs stands p = go (d.writes b p) refl
  where
    sees : (q : P) → touches d b q ≡ true → v q ≡ seen d start b q
    sees q touch =
        stands q ∙ ap (λ (o : Option ℕ). left_or (left d start) start o q)
        (sym
        (last_is_latest d within ordered bs (λ w. precedes d.precedence w b) q runs
        (next_those d within ordered bs b q may runs touch)))

    go : (t : Bool) → d.writes b p ≡ t →
        d.run b v p ≡ left_or (left d start) start (cond t (Some b) (latest d bs p)) p
    go true is =
        local.depends b v (seen d start b) sees p is ∙ ap (λ (w : Valuation P). w p)
        (sym (left_is d start within ordered b))
    go false is = local.changes b v p is ∙ stands p

-- once all blocks ran, each place has its settled value
pub stands_all : {P : Type 0} (d : UpdateBlocks P) → IsWithin d → IsOrdered d → (start : Valuation P) (bs : List ℕ) (v : Valuation P) →
    HaveRun d.precedence bs → ((b : ℕ) → b < d.precedence.count → has bs b ≡ true) → Stands d start bs v → (p : P) →
    v p ≡ settled d start p
unfolding settled
stands_all {P} d within ordered start bs v runs all stands p =
    stands p ∙ ap (λ (o : Option ℕ). left_or (left d start) start o p)
    (sym (last_is_latest d within ordered bs (λ _. true) p runs those))
  where
    those : AreThose d bs (λ _. true) p
    those = record { came = λ w wr pass. all w (within.writers w p wr); passes = λ w wr h. refl }

run_settles_from : {P : Type 0} (d : UpdateBlocks P) → IsWithin d → IsLocal d → IsOrdered d →
    (start : Valuation P) (bs order : List ℕ) (v : Valuation P) → HaveRun d.precedence bs →
    Completes d.precedence bs order → Stands d start bs v → (p : P) → run_in_turn d order v p ≡ settled d start p
run_settles_from d within local ordered start bs [] v runs rest stands p =
    stands_all d within ordered start bs v runs rest stands p
run_settles_from d within local ordered start bs (b ∷ order) v runs rest stands p =
    run_settles_from d within local ordered start (b ∷ bs) order (d.run b v) (rest.0, runs) rest.1
    (stands_more d within local ordered start bs b v rest.0 runs stands) p

pub run_settles : {P : Type 0} (d : UpdateBlocks P) → IsWithin d → IsLocal d → IsOrdered d → (start : Valuation P) (order : List ℕ) →
    IsTopological d.precedence order → (p : P) → run_in_turn d order start p ≡ settled d start p
run_settles d within local ordered start order topological p =
    run_settles_from d within local ordered start [] order start tt topological (λ q. refl) p
