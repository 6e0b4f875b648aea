-- Topological orders by how they split at each of their blocks.
use Rattle.std.proofs.Common.{◌≡◌, ℕ, ◌<◌, List, [], ◌∷◌, ◌++◌, Bool, true, false, ◌||◌, eqb, refl, sym, ap, subst, ◌∙◌, ⊎_elim, eqb-true, eq-eqb, append_assoc, append-nil}
use Rattle.std.proofs.lemmas.Bool.{or_cases, or_left, or_right}
use Rattle.pm_cons.specs.Precedence.{Precedence}
use Rattle.pm_cons.specs.Orders.{has, MayRun, Completes, IsTopological}
use Rattle.pm_cons.specs.Listing.{ListsInOrder}

-- the blocks of a list, latest first, onto those that ran before
abbrev pub ran_after : List ℕ → List ℕ → List ℕ
ran_after ran [] = ran
ran_after ran (b ∷ blocks) = ran_after (b ∷ ran) blocks

or_swap : (x y z : Bool) → (x || (y || z)) ≡ (y || (x || z))
or_swap true true z = refl
or_swap true false z = refl
or_swap false true z = refl
or_swap false false z = refl

-- a block ran if it ran before or is in the list
ran_either : (blocks ran : List ℕ) (b : ℕ) → has (ran_after ran blocks) b ≡ (has blocks b || has ran b)
ran_either [] ran b = refl
ran_either (x ∷ blocks) ran b =
    ran_either blocks (x ∷ ran) b
    ∙ (or_swap (has blocks b) (eqb x b) (has ran b) ∙ sym (or_assoc (eqb x b) (has blocks b) (has ran b)))
  where
    or_assoc : (x y z : Bool) → ((x || y) || z) ≡ (x || (y || z))
    or_assoc true y z = refl
    or_assoc false y z = refl

or_none : (x : Bool) → (x || false) ≡ x
or_none true = refl
or_none false = refl

ran_alone : (blocks : List ℕ) (b : ℕ) → has (ran_after [] blocks) b ≡ has blocks b
ran_alone blocks b = ran_either blocks [] b ∙ or_none (has blocks b)

-- the block after a prefix of a topological order may run there
split_at : (g : Precedence) (earlier later ran : List ℕ) (b : ℕ) →
    Completes g ran (earlier ++ b ∷ later) → MayRun g (ran_after ran earlier) b
split_at g [] later ran b rest = rest.0
split_at g (x ∷ earlier) later ran b rest = split_at g earlier later (x ∷ ran) b rest.1

all_run : (g : Precedence) (order ran : List ℕ) → Completes g ran order →
    (b : ℕ) → b < g.count → has (ran_after ran order) b ≡ true
all_run g [] ran rest = rest
all_run g (x ∷ order) ran rest = all_run g order (x ∷ ran) rest.1

all_known : (g : Precedence) (order ran : List ℕ) → Completes g ran order → (b : ℕ) → has order b ≡ true → b < g.count
all_known g [] ran rest b h = absurd (cc)
all_known g (x ∷ order) ran rest b h =
    ⊎_elim (λ (e : eqb x b ≡ true). subst (λ (y : ℕ). y < g.count) (eqb-true x b e) rest.0.known)
    (λ (e : has order b ≡ true). all_known g order (x ∷ ran) rest.1 b e) (or_cases (eqb x b) (has order b) h)

pub lists_in_order : (g : Precedence) (order : List ℕ) → IsTopological g order → ListsInOrder g order
lists_in_order g order rest = record {
  known = all_known g order [] rest;
  all = λ b lt. sym (ran_alone order b) ∙ all_run g order [] rest b lt;
  once = λ earlier later b e. sym (ran_alone earlier b) ∙ (at earlier later b e).new;
  before = λ earlier later a b e edge. sym (ran_alone earlier a) ∙ (at earlier later b e).ready a edge;
}
  where
    at : (earlier later : List ℕ) (b : ℕ) → order ≡ earlier ++ b ∷ later → MayRun g (ran_after [] earlier) b
    at earlier later b e = split_at g earlier later [] b (subst (λ (blocks : List ℕ). Completes g [] blocks) e rest)

-- a list contains the block at which it splits
has_middle : (earlier later : List ℕ) (b : ℕ) → has (earlier ++ b ∷ later) b ≡ true
has_middle [] later b = or_left (eqb b b) (has later b) (eq-eqb b b refl)
has_middle (x ∷ earlier) later b = or_right (eqb x b) (has (earlier ++ b ∷ later) b) (has_middle earlier later b)

ran_more : (earlier ran : List ℕ) (b : ℕ) → ran_after ran (earlier ++ b ∷ []) ≡ b ∷ ran_after ran earlier
ran_more [] ran b = refl
ran_more (x ∷ earlier) ran b = ran_more earlier (x ∷ ran) b

completes_rest : (g : Precedence) (order : List ℕ) → ListsInOrder g order → (earlier rest : List ℕ) →
    order ≡ earlier ++ rest → Completes g (ran_after [] earlier) rest
completes_rest g order lists earlier [] e = λ b lt.
    ran_alone earlier b ∙ (ap (λ (blocks : List ℕ). has blocks b) (sym (e ∙ append-nil earlier)) ∙ lists.all b lt)
completes_rest g order lists earlier (b ∷ rest) e = (
  record {
    known = lists.known b (ap (λ (blocks : List ℕ). has blocks b) e ∙ has_middle earlier rest b);
    new = ran_alone earlier b ∙ lists.once earlier rest b e;
    ready = λ a edge. ran_alone earlier a ∙ lists.before earlier rest a b e edge;
  },
  subst (λ (ran : List ℕ). Completes g ran rest) (ran_more earlier [] b)
      (completes_rest g order lists (earlier ++ b ∷ []) rest (e ∙ sym (append_assoc earlier (b ∷ []) rest))),
)

pub topological : (g : Precedence) (order : List ℕ) → ListsInOrder g order → IsTopological g order
topological g order lists = completes_rest g order lists [] order refl
