-- Whether a block is ready, by where the search for a missing predecessor ends.
use Rattle.std.proofs.Common.{◌≡◌, ℕ, ◌<◌, ◌≤◌, ◌⊎◌, Bool, true, false, not, ◌||◌, eqb, Some, None, refl, sym, subst, ◌∙◌, inl, inr, ⊎_elim, arith, eq-eqb, ne_eqb}
use Rattle.std.proofs.lemmas.Bool.{and_from, and_right, both_ways, cases_lt, false_from_ne_true, not_from_false}
use Rattle.pm_cons.specs.Below.{all_below}
use Rattle.pm_cons.specs.Precedence.{Precedence, IsOfBlocks}
use Rattle.pm_cons.proofs.Below.{all_below_at, all_below_from, least_below_at, least_below_empty}
use Rattle.bit_table.proofs.Views.{set_outside}
use Rattle.pm_sched.specs.Tables.{precedence_in}
use Rattle.bit_table.specs.Tables.{Table, is_set}
use Rattle.pm_cons.specs.DefaultOrder.{is_ready, next_block}

unless : (x y : Bool) → (x ≡ true → y ≡ true) → (not x || y) ≡ true
unless true y h = h refl
unless false y h = refl

pub ready_yes : (g : Precedence) (marked : ℕ → Bool) (b : ℕ) → marked b ≡ false → ((a : ℕ) → a < g.count → g.before a b ≡ true → marked a ≡ true) → is_ready g marked b ≡ true
ready_yes g marked b new ready = and_from _ _ (not_from_false (marked b) new) (all_below_from g.count _ (λ a lt. unless (g.before a b) (marked a) (ready a lt)))

fails : (x y : Bool) → x ≡ true → y ≡ false → (not x || y) ≡ true → ⊥
fails true false p q h = both_ways false refl h
fails true true p q h = both_ways true q refl
fails false y p q h = both_ways false refl p

pub ready_no : (g : Precedence) (marked : ℕ → Bool) (b a : ℕ) → a < g.count → g.before a b ≡ true → marked a ≡ false → is_ready g marked b ≡ false
ready_no g marked b a lt edge waits = and_right (not (marked b)) (all_below g.count (λ c. not (g.before c b) || marked c)) (false_from_ne_true (all_below g.count (λ c. not (g.before c b) || marked c)) (λ all. fails (g.before a b) (marked a) edge waits (all_below_at g.count (λ c. not (g.before c b) || marked c) all a lt)))

-- the block is ready if the search for a missing predecessor comes to the end
pub start_tells : (t : Table) (marked : ℕ → Bool) (b from p : ℕ) → marked b ≡ false → ((a : ℕ) → a < from → is_set t b a ≡ true → marked a ≡ true) → ((a : ℕ) → from ≤ a → a < p → is_set t b a ≡ true → marked a ≡ true) → p ≤ t.rows → (p < t.rows → (is_set t b p ≡ true) × (marked p ≡ false)) → eqb p t.rows ≡ is_ready (precedence_in t) marked b
start_tells t marked b from p new passed more le stuck = go (cases_lt p t.rows)
  where
    go : (p < t.rows) ⊎ (t.rows ≤ p) → eqb p t.rows ≡ is_ready (precedence_in t) marked b
    go (inl lt) = let s = stuck lt in ne_eqb p t.rows (λ x. let y : ⊥ = omega arith in y) ∙ sym (ready_no (precedence_in t) marked b p lt s.0 s.1)
    go (inr ge) = eq-eqb p t.rows (omega arith) ∙ sym (ready_yes (precedence_in t) marked b new (λ a lt edge. ⊎_elim (λ (l : a < from). passed a l edge) (λ (l : from ≤ a). more a l (omega arith) edge) (cases_lt a from)))

pub next_here : (g : Precedence) (marked : ℕ → Bool) (b : ℕ) → b < g.count → is_ready g marked b ≡ true → ((k : ℕ) → k < b → is_ready g marked k ≡ false) → next_block g marked ≡ Some b
unfolding next_block
next_here g marked b lt is before = least_below_at g.count (is_ready g marked) b lt is before

pub next_none : (g : Precedence) (marked : ℕ → Bool) → ((k : ℕ) → k < g.count → is_ready g marked k ≡ false) → next_block g marked ≡ None
unfolding next_block
next_none g marked none = least_below_empty g.count (is_ready g marked) none

-- only blocks precede blocks in a square table
pub blocks_in : (t : Table) → t.columns ≡ t.rows → IsOfBlocks (precedence_in t)
blocks_in t square a b edge = (column (cases_lt a t.rows), row (cases_lt b t.rows))
  where
    column : (a < t.rows) ⊎ (t.rows ≤ a) → a < t.rows
    column (inl lt) = lt
    column (inr ge) = absurd (both_ways (is_set t b a) (set_outside t b a (inr (subst (λ (n : ℕ). n ≤ a) (sym square) ge))) edge)

    row : (b < t.rows) ⊎ (t.rows ≤ b) → b < t.rows
    row (inl lt) = lt
    row (inr ge) = absurd (both_ways (is_set t b a) (set_outside t b a (inl ge)) edge)
