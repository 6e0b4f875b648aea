-- What each block leaves: it solves its equation, and nothing else does.
use Rattle.std.proofs.Common.{◌≡◌, ℕ, zero, suc, ◌<◌, ◌≤◌, ◌⊎◌, Bool, true, false, not, ◌&&◌, ◌||◌, eqb, Option, Some, None, refl, sym, ap, ◌∙◌, inl, inr, ⊎_elim, arith, eqb-true}
use Rattle.std.proofs.lemmas.Bool.{and_parts, or_cases}
use mathlib.Core.Path.{fun_ext}
use Rattle.pm_cons.specs.UpdateBlocks.{UpdateBlocks, Valuation, IsWithin, IsOrdered}
use Rattle.pm_cons.specs.Precedence.{precedes}
use Rattle.pm_cons.specs.Settled.{is_last, last_of, last_before, left_or, seen_by, left_to, left, seen, IsLeft}
use Rattle.pm_cons.proofs.Below.{all_below_at, least_below_some}
use Rattle.pm_cons.proofs.Closure.{rank, rank_le, rank_lt}

-- equal valuations have the same at each place
pub same_at : {P : Type 0} (v w : Valuation P) → v ≡ w → (p : P) → v p ≡ w p
same_at {P} v w same p = ap (λ (x : Valuation P). x p) same

-- a last writer: it writes, it passes, and every other writer that passes precedes it
pub record IsLast {P : Type 0} (d : UpdateBlocks P) (among : ℕ → Bool) (p : P) (w : ℕ) : Type 0 where
  pub known : w < d.precedence.count
  pub writes : d.writes w p ≡ true
  pub passes : among w ≡ true
  pub others : (u : ℕ) → u < d.precedence.count → d.writes u p ≡ true → among u ≡ true →
      (u ≡ w) ⊎ (precedes d.precedence u w ≡ true)

other : (a b x y : Bool) → (not (a && b) || (x || y)) ≡ true → a ≡ true → b ≡ true → (x ≡ true) ⊎ (y ≡ true)
other true true x y h p q = or_cases x y h
other false b x y h p q = absurd (cc)
other true false x y h p q = absurd (cc)

pub IsLast-from : {P : Type 0} (d : UpdateBlocks P) (among : ℕ → Bool) (p : P) (w : ℕ) → w < d.precedence.count →
    is_last d among p w ≡ true → IsLast d among p w
IsLast-from d among p w lt h = let parts = and_parts _ _ h in let more = and_parts _ _ parts.1 in record {
  known = lt;
  writes = parts.0;
  passes = more.0;
  others =
      λ u below wr pass. ⊎_elim (λ (e : eqb u w ≡ true). inl (eqb-true u w e))
      (λ (e : precedes d.precedence u w ≡ true). inr e)
      (other (d.writes u p) (among u) (eqb u w) (precedes d.precedence u w)
      (all_below_at d.precedence.count _ more.1 u below) wr pass);
}

pub last_of_some : {P : Type 0} (d : UpdateBlocks P) (among : ℕ → Bool) (p : P) (w : ℕ) → last_of d among p ≡ Some w → IsLast d among p w
unfolding last_of
last_of_some d among p w e =
    let got = least_below_some d.precedence.count (is_last d among p) w e in IsLast-from d among p w got.0 got.1

-- what a block sees hangs on what the blocks that precede it leave
pick : {P : Type 0} (d : UpdateBlocks P) (start : Valuation P) (f g : ℕ → Valuation P) (b : ℕ) (p : P) →
    ((w : ℕ) → precedes d.precedence w b ≡ true → f w ≡ g w) → (o : Option ℕ) → last_before d b p ≡ o →
    left_or f start o p ≡ left_or g start o p
pick {P} d start f g b p same None e = refl
pick {P} d start f g b p same (Some w) e =
    let last = last_of_some d (λ w. precedes d.precedence w b) p w e in ap (λ (v : Valuation P). v p)
    (same w last.passes)

pub seen_by_same : {P : Type 0} (d : UpdateBlocks P) (start : Valuation P) (f g : ℕ → Valuation P) (b : ℕ) →
    ((w : ℕ) → precedes d.precedence w b ≡ true → f w ≡ g w) → seen_by d f start b ≡ seen_by d g start b
seen_by_same {P} d start f g b same = fun_ext (λ p. pick d start f g b p same (last_before d b p) refl)

-- any two depths above the rank of a block give the same
deep : {P : Type 0} (d : UpdateBlocks P) (start : Valuation P) → IsWithin d → IsOrdered d → (k m b : ℕ) → rank d.precedence b < k →
    rank d.precedence b < m → left_to k d start b ≡ left_to m d start b
unfolding left_to
deep {P} d start within ordered zero m b x y = absurd (omega arith)
deep {P} d start within ordered (suc k) zero b x y = absurd (omega arith)
deep {P} d start within ordered (suc k) (suc m) b x y =
    ap (d.run b)
    (seen_by_same d start (left_to k d start) (left_to m d start) b
    (λ w to. let less : rank d.precedence w < rank d.precedence b = rank_lt d.precedence within.precedence
    ordered.no_loop w b to in deep d start within ordered k m w (omega arith) (omega arith)))

pub left_to_enough : {P : Type 0} (d : UpdateBlocks P) (start : Valuation P) → IsWithin d → IsOrdered d → (k b : ℕ) →
    d.precedence.count < k → left_to k d start b ≡ left d start b
unfolding left
left_to_enough {P} d start within ordered k b lt =
    let le : rank d.precedence b ≤ d.precedence.count = rank_le d.precedence b in deep d start within ordered k
    (suc d.precedence.count) b (omega arith) (omega arith)

-- a block leaves its run on what it sees
pub left_is : {P : Type 0} (d : UpdateBlocks P) (start : Valuation P) → IsWithin d → IsOrdered d → (b : ℕ) →
    left d start b ≡ d.run b (seen d start b)
unfolding left left_to
left_is {P} d start within ordered b =
    ap (d.run b) (seen_by_same d start (left_to d.precedence.count d start) (left d start) b (λ w to.
    let less : rank d.precedence w < rank d.precedence b = rank_lt d.precedence within.precedence ordered.no_loop w
    b to in let le : rank d.precedence b ≤ d.precedence.count = rank_le d.precedence b in
    deep d start within ordered d.precedence.count (suc d.precedence.count) w (omega arith) (omega arith)))

-- two solutions of the equations are the same
agree : {P : Type 0} (d : UpdateBlocks P) (start : Valuation P) → IsWithin d → IsOrdered d → (f g : ℕ → Valuation P) →
    IsLeft d start f → IsLeft d start g → (k b : ℕ) → rank d.precedence b < k → f b ≡ g b
agree {P} d start within ordered f g hf hg zero b lt = absurd (omega arith)
agree {P} d start within ordered f g hf hg (suc k) b lt =
    fun_ext (λ p. hf b p ∙ (ap (λ (v : Valuation P). d.run b v p) (seen_by_same d start f g b (λ w to.
    let less : rank d.precedence w < rank d.precedence b = rank_lt d.precedence within.precedence ordered.no_loop w
    b to in agree d start within ordered f g hf hg k w (omega arith))) ∙ sym (hg b p)))

pub only_left : {P : Type 0} (d : UpdateBlocks P) (start : Valuation P) → IsWithin d → IsOrdered d → (f : ℕ → Valuation P) →
    IsLeft d start f → (b : ℕ) → f b ≡ left d start b
only_left {P} d start within ordered f h b =
    agree d start within ordered f (left d start) h
    (λ b p. ap (λ (v : Valuation P). v p) (left_is d start within ordered b)) (suc (rank d.precedence b)) b
    (omega arith)

-- if the last writers before b left what is given at their places, then the run of b on it leaves what b leaves
pub run_on_left : {P : Type 0} (d : UpdateBlocks P) (start : Valuation P) → IsWithin d → IsOrdered d →
    (given : ℕ → Valuation P) (b : ℕ) →
    ((p : P) (w : ℕ) → last_before d b p ≡ Some w → given w p ≡ left d start w p) →
    d.run b (seen_by d given start b) ≡ left d start b
run_on_left {P} d start within ordered given b same =
    ap (d.run b) (fun_ext (λ p. go p (last_before d b p) refl)) ∙ sym (left_is d start within ordered b)
  where
    go : (p : P) (o : Option ℕ) → last_before d b p ≡ o → left_or given start o p ≡ left_or (left d start) start o p
    go p None e = refl
    go p (Some w) e = same p w e
