-- What fired blocks record is what they leave.
use Rattle.std.proofs.Common.{◌≡◌, ℕ, ◌<◌, ◌⊎◌, List, [], ◌∷◌, Bool, true, false, cond, eqb, Option, Some, None, refl, sym, ap, subst, ◌∙◌, inl, inr, ⊎_elim, eqb-true, eq-eqb}
use Rattle.std.proofs.lemmas.Bool.{or_cases, or_right, both_ways}
use Rattle.pm_cons.specs.UpdateBlocks.{UpdateBlocks, Valuation, IsWithin, IsOrdered}
use Rattle.pm_cons.specs.Precedence.{precedes}
use Rattle.pm_cons.specs.Orders.{has}
use Rattle.pm_cons.specs.Settled.{last_of, last_before, left_or, seen_by, left, settled}
use Rattle.pm_cons.specs.Firing.{State, none_fired, MayFire, fire, fire_all, MayAllFire, joined}
use Rattle.pm_cons.proofs.Closure.{through_back}
use Rattle.pm_cons.proofs.Left.{last_of_some, run_on_left}

-- the direct predecessors of each fired block have fired, and it recorded what it leaves
pub record IsReached {P : Type 0} (d : UpdateBlocks P) (start : Valuation P) (s : State P) : Type 0 where
  pub behind : (a b : ℕ) → d.precedence.before a b ≡ true → has s.fired b ≡ true → has s.fired a ≡ true
  pub records : (b : ℕ) → has s.fired b ≡ true → s.recorded b ≡ left d start b

pub first_reached : {P : Type 0} (d : UpdateBlocks P) (start : Valuation P) → IsReached d start none_fired
first_reached d start = record { behind = λ a b edge h. h; records = λ b h. absurd (cc) }

-- all that precede a block that may fire have fired, apart from the block itself
may_precede : {P : Type 0} (d : UpdateBlocks P) (start : Valuation P) (s : State P) (b : ℕ) → IsReached d start s → MayFire d s b →
    (a : ℕ) → precedes d.precedence a b ≡ true → (a ≡ b) ⊎ (has s.fired a ≡ true)
may_precede d start s b reached may a h =
    through_back d.precedence.count d.precedence.before (λ (c : ℕ). (c ≡ b) ⊎ (has s.fired c ≡ true)) back a b h
    (inl refl)
  where
    back : (x y : ℕ) → d.precedence.before x y ≡ true → (y ≡ b) ⊎ (has s.fired y ≡ true) →
        (x ≡ b) ⊎ (has s.fired x ≡ true)
    back x y edge (inl e) = inr (may.ready x (subst (λ (z : ℕ). d.precedence.before x z ≡ true) e edge))
    back x y edge (inr e) = inr (reached.behind x y edge e)

-- a block that may fire leaves what is defined
pub fire_left : {P : Type 0} (d : UpdateBlocks P) (start : Valuation P) → IsWithin d → IsOrdered d → (s : State P) (b : ℕ) →
    IsReached d start s → MayFire d s b → d.run b (seen_by d s.recorded start b) ≡ left d start b
fire_left {P} d start within ordered s b reached may = run_on_left d start within ordered s.recorded b same
  where
    same : (p : P) (w : ℕ) → last_before d b p ≡ Some w → s.recorded w p ≡ left d start w p
    same p w e = let last = last_of_some d (λ u. precedes d.precedence u b) p w e in
        ⊎_elim (λ (x : w ≡ b). absurd (both_ways (precedes d.precedence b b) (ordered.no_loop b may.known)
        (subst (λ (y : ℕ). precedes d.precedence y b ≡ true) x last.passes)))
        (λ (x : has s.fired w ≡ true). ap (λ (v : Valuation P). v p) (reached.records w x))
        (may_precede d start s b reached may w last.passes)

pub fire_reached : {P : Type 0} (d : UpdateBlocks P) (start : Valuation P) → IsWithin d → IsOrdered d → (s : State P) (b : ℕ) →
    IsReached d start s → MayFire d s b → IsReached d start (fire d start s b)
fire_reached d start within ordered s b reached may = record {
  behind =
      λ x y edge h. ⊎_elim
      (λ (e : eqb b y ≡ true). or_right (eqb b x) (has s.fired x)
      (may.ready x (subst (λ (z : ℕ). d.precedence.before x z ≡ true) (sym (eqb-true b y e)) edge)))
      (λ (e : has s.fired y ≡ true). or_right (eqb b x) (has s.fired x) (reached.behind x y edge e))
      (or_cases (eqb b y) (has s.fired y) h);
  records = λ a h. new a h (eqb a b) refl;
}
  where
    new : (a : ℕ) → has (b ∷ s.fired) a ≡ true → (t : Bool) → eqb a b ≡ t →
        cond t (d.run b (seen_by d s.recorded start b)) (s.recorded a) ≡ left d start a
    new a h true e = fire_left d start within ordered s b reached may ∙ ap (left d start) (sym (eqb-true a b e))
    new a h false e =
        ⊎_elim (λ (x : eqb b a ≡ true). absurd (both_ways (eqb a b) e (eq-eqb a b (sym (eqb-true b a x)))))
        (λ (x : has s.fired a ≡ true). reached.records a x) (or_cases (eqb b a) (has s.fired a) h)

pub fire_all_reached : {P : Type 0} (d : UpdateBlocks P) (start : Valuation P) → IsWithin d → IsOrdered d →
    (s : State P) (events : List ℕ) → IsReached d start s → MayAllFire d start s events →
    IsReached d start (fire_all d start s events)
fire_all_reached d start within ordered s [] reached may = reached
fire_all_reached d start within ordered s (b ∷ bs) reached may =
    fire_all_reached d start within ordered (fire d start s b) bs
    (fire_reached d start within ordered s b reached may.0) may.1

pub joined_settled : {P : Type 0} (d : UpdateBlocks P) (start : Valuation P) → IsWithin d → (s : State P) → IsReached d start s →
    ((b : ℕ) → b < d.precedence.count → has s.fired b ≡ true) → (p : P) → joined d start s p ≡ settled d start p
unfolding settled
joined_settled {P} d start within s reached all p = go (last_of d (λ _. true) p) refl
  where
    go : (o : Option ℕ) → last_of d (λ _. true) p ≡ o →
        left_or s.recorded start o p ≡ left_or (left d start) start o p
    go None e = refl
    go (Some w) e =
        let last = last_of_some d (λ _. true) p w e in ap (λ (v : Valuation P). v p)
        (reached.records w (all w last.known))
