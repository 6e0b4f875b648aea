-- A list has no break if and only if it is a topological order.
use Rattle.std.proofs.Common.{◌≡◌, ℕ, ◌+◌, ◌<◌, ◌≤◌, List, [], ◌∷◌, Bool, true, false, not, cond, ◌||◌, ltb, Option, Some, None, refl, ap, ◌∙◌, arith, lt-ltb, ltb-true}
use Rattle.std.proofs.lemmas.Bool.{both_ways, false_from_ne_true, not-false, not_from_true}
use Rattle.pm_cons.specs.Below.{all_below, least_below}
use Rattle.pm_cons.specs.Precedence.{Precedence, IsOfBlocks}
use Rattle.pm_cons.specs.Orders.{has, Completes}
use Rattle.pm_cons.proofs.Below.{all_below_at, all_below_from, least_below_none, least_below_empty}
use Rattle.pm_cons.specs.Breaks.{break_at, missing_of, else_break, break_from}
use Rattle.pm_cons.specs.declared.breaks.Break.{Break}
use Rattle.pm_cons.specs.declared.breaks.Break.TheVariants.{Unknown, Repeated, Early}

unless : (x y : Bool) → (x ≡ true → y ≡ true) → (not x || y) ≡ true
unless true y h = h refl
unless false y h = refl

fails : (x y : Bool) → x ≡ true → y ≡ false → (not x || y) ≡ true → ⊥
fails true false p q h = both_ways false refl h
fails true true p q h = both_ways true q refl
fails false y p q h = both_ways false refl p

pub ready_yes : (g : Precedence) (stands : ℕ → Bool) (b p : ℕ) → g.count ≤ p →
    ((a : ℕ) → 0 ≤ a → a < p → g.before a b ≡ true → stands a ≡ true) →
    all_below g.count (λ a. not (g.before a b) || stands a) ≡ true
ready_yes g stands b p le ready =
    all_below_from g.count (λ a. not (g.before a b) || stands a)
    (λ a lt. unless (g.before a b) (stands a) (ready a (omega arith) (omega arith)))

pub ready_no : (g : Precedence) (stands : ℕ → Bool) (b a : ℕ) → a < g.count → g.before a b ≡ true →
    stands a ≡ false → all_below g.count (λ a. not (g.before a b) || stands a) ≡ false
ready_no g stands b a lt edge waits =
    false_from_ne_true (all_below g.count (λ c. not (g.before c b) || stands c))
    (λ all. fails (g.before a b) (stands a) edge waits
    (all_below_at g.count (λ c. not (g.before c b) || stands c) all a lt))

-- the break of a new block that waits for a predecessor
pub early : (g : Precedence) (stands : ℕ → Bool) (place b : ℕ) → b < g.count → stands b ≡ false →
    all_below g.count (λ a. not (g.before a b) || stands a) ≡ false → break_at g stands place b ≡ Some (Early place)
early g stands place b lt new waits =
    ap
    (λ (t : Bool). cond (not t) (Some (Unknown place))
    (cond (stands b) (Some (Repeated place))
    (cond (all_below g.count (λ a. not (g.before a b) || stands a)) None (Some (Early place)))))
    (lt-ltb b g.count lt)
    ∙ (ap
    (λ (t : Bool). cond t (Some (Repeated place))
    (cond (all_below g.count (λ a. not (g.before a b) || stands a)) None (Some (Early place)))) new ∙ ap
    (λ (t : Bool). cond t None (Some (Early place))) waits)

pub no_fault : (g : Precedence) (stands : ℕ → Bool) (place b : ℕ) → b < g.count → stands b ≡ false →
    all_below g.count (λ a. not (g.before a b) || stands a) ≡ true → break_at g stands place b ≡ None
no_fault g stands place b lt new ready =
    ap
    (λ (t : Bool). cond (not t) (Some (Unknown place))
    (cond (stands b) (Some (Repeated place))
    (cond (all_below g.count (λ a. not (g.before a b) || stands a)) None (Some (Early place)))))
    (lt-ltb b g.count lt)
    ∙ (ap
    (λ (t : Bool). cond t (Some (Repeated place))
    (cond (all_below g.count (λ a. not (g.before a b) || stands a)) None (Some (Early place)))) new ∙ ap
    (λ (t : Bool). cond t None (Some (Early place))) ready)

-- what it means that a place has no break
tells : (place : ℕ) (s t u : Bool) →
    cond (not s) (Some (Unknown place)) (cond t (Some (Repeated place)) (cond u None (Some (Early place)))) ≡ None →
    (s ≡ true) × (t ≡ false) × (u ≡ true)
tells place true false true h = (refl, refl, refl)
tells place false t u h = absurd (cc)
tells place true true u h = absurd (cc)
tells place true false false h = absurd (cc)

both_none : (o p : Option Break) → else_break o p ≡ None → (o ≡ None) × (p ≡ None)
both_none None p h = (refl, h)
both_none (Some x) p h = absurd (cc)

none_missing : (o : Option ℕ) → missing_of o ≡ None → o ≡ None
none_missing None h = refl
none_missing (Some b) h = absurd (cc)

second : (x y : Bool) → (not x || y) ≡ true → x ≡ true → y ≡ true
second true y h e = h
second false y h e = absurd (both_ways false refl e)

pub none_completes : (g : Precedence) → IsOfBlocks g → (order ran : List ℕ) (place : ℕ) →
    break_from g ran place order ≡ None → Completes g ran order
none_completes g within [] ran place h =
    λ b lt. not-false (has ran b)
    (least_below_none g.count (λ b. not (has ran b)) (none_missing (least_below g.count (λ b. not (has ran b))) h) b
    lt)
none_completes g within (b ∷ bs) ran place h =
    let parts = both_none (break_at g (has ran) place b) (break_from g (b ∷ ran) (place + 1) bs) h in
    let told = tells place (ltb b g.count) (has ran b) (all_below g.count (λ a. not (g.before a b) || has ran a))
    parts.0 in (
      record
          { known = ltb-true b g.count told.0; new = told.1; ready = λ a edge. second (g.before a b) (has ran a) (all_below_at g.count (λ a. not (g.before a b) || has ran a) told.2 a (within a b edge).0) edge },
      none_completes g within bs (b ∷ ran) (place + 1) parts.1,
    )

pub completes_none : (g : Precedence) (order ran : List ℕ) (place : ℕ) → Completes g ran order →
    break_from g ran place order ≡ None
completes_none g [] ran place h =
    ap missing_of (least_below_empty g.count (λ b. not (has ran b)) (λ b lt. not_from_true (has ran b) (h b lt)))
completes_none g (b ∷ bs) ran place h =
    ap (λ (o : Option Break). else_break o (break_from g (b ∷ ran) (place + 1) bs))
    (no_fault g (has ran) place b h.0.known h.0.new
    (all_below_from g.count (λ a. not (g.before a b) || has ran a)
    (λ a lt. unless (g.before a b) (has ran a) (h.0.ready a))))
    ∙ completes_none g bs (b ∷ ran) (place + 1) h.1
