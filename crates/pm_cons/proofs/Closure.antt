-- The closure: transitive, within the blocks, and what it carries along.
use Rattle.std.proofs.Common.{◌≡◌, ℕ, zero, suc, ◌<◌, ◌≤◌, ◌⊎◌, Bool, true, ◌&&◌, subst, inl, inr, ⊎_elim, arith}
use Rattle.std.proofs.lemmas.Bool.{and_parts, and_from, or_cases, or_left, or_right}
use Rattle.pm_cons.specs.Below.{count_below}
use Rattle.pm_cons.specs.Precedence.{Precedence, IsOfBlocks, IsAcyclic, precedes_through, precedes}
use Rattle.pm_cons.proofs.Below.{below_suc, count_below_le, count_below_lt}

pub through_more : (k : ℕ) (r : ℕ → ℕ → Bool) (a b : ℕ) → precedes_through k r a b ≡ true →
    precedes_through (suc k) r a b ≡ true
unfolding precedes_through
through_more k r a b h = or_left _ _ h

pub through_step : (k : ℕ) (r : ℕ → ℕ → Bool) (a b : ℕ) → r a b ≡ true → precedes_through k r a b ≡ true
unfolding precedes_through
through_step zero r a b h = h
through_step (suc k) r a b h = or_left _ _ (through_step k r a b h)

-- one more block between adds nothing to what precedes that block, or what it precedes
to_mid : (k : ℕ) (r : ℕ → ℕ → Bool) (a : ℕ) → precedes_through (suc k) r a k ≡ true → precedes_through k r a k ≡ true
unfolding precedes_through
to_mid k r a h =
    ⊎_elim (λ (e : precedes_through k r a k ≡ true). e)
    (λ (e : (precedes_through k r a k && precedes_through k r k k) ≡ true). (and_parts _ _ e).0) (or_cases _ _ h)

from_mid : (k : ℕ) (r : ℕ → ℕ → Bool) (b : ℕ) → precedes_through (suc k) r k b ≡ true →
    precedes_through k r k b ≡ true
unfolding precedes_through
from_mid k r b h =
    ⊎_elim (λ (e : precedes_through k r k b ≡ true). e)
    (λ (e : (precedes_through k r k k && precedes_through k r k b) ≡ true). (and_parts _ _ e).1) (or_cases _ _ h)

joined : (k : ℕ) (r : ℕ → ℕ → Bool) (a c b : ℕ) →
    ((a c b : ℕ) → c < k → precedes_through k r a c ≡ true → precedes_through k r c b ≡ true → precedes_through k r
    a b ≡ true) → c < k →
    precedes_through k r a c ≡ true ⊎ (precedes_through k r a k && precedes_through k r k c) ≡ true →
    precedes_through k r c b ≡ true ⊎ (precedes_through k r c k && precedes_through k r k b) ≡ true →
    precedes_through (suc k) r a b ≡ true
unfolding precedes_through
joined k r a c b ih l (inl x) (inl y) = or_left _ _ (ih a c b l x y)
joined k r a c b ih l (inl x) (inr y) = let p = and_parts _ _ y in or_right _ _ (and_from _ _ (ih a c k l x p.0) p.1)
joined k r a c b ih l (inr x) (inl y) = let p = and_parts _ _ x in or_right _ _ (and_from _ _ p.0 (ih k c b l p.1 y))
joined k r a c b ih l (inr x) (inr y) =
    let p = and_parts (precedes_through k r a k) (precedes_through k r k c) x in let q = and_parts
    (precedes_through k r c k) (precedes_through k r k b) y in
    or_right (precedes_through k r a b) (precedes_through k r a k && precedes_through k r k b)
    (and_from (precedes_through k r a k) (precedes_through k r k b) p.0 q.1)

pub precedes_through-join : (k : ℕ) (r : ℕ → ℕ → Bool) (a c b : ℕ) → c < k → precedes_through k r a c ≡ true →
    precedes_through k r c b ≡ true → precedes_through k r a b ≡ true
unfolding precedes_through
precedes_through-join zero r a c b lt f g = absurd (omega arith)
precedes_through-join (suc k) r a c b lt f g =
    ⊎_elim
    (λ (e : c ≡ k). or_right _ _
    (and_from _ _ (to_mid k r a (subst (λ (x : ℕ). precedes_through (suc k) r a x ≡ true) e f))
    (from_mid k r b (subst (λ (x : ℕ). precedes_through (suc k) r x b ≡ true) e g))))
    (λ (l : c < k). joined k r a c b (precedes_through-join k r) l (or_cases _ _ f) (or_cases _ _ g))
    (below_suc c k lt)

-- what passes from each block to its direct predecessors passes to all that precede it
pub through_back : (k : ℕ) (r : ℕ → ℕ → Bool) (P : ℕ → Type 0) → ((a b : ℕ) → r a b ≡ true → P b → P a) →
    (a b : ℕ) → precedes_through k r a b ≡ true → P b → P a
unfolding precedes_through
through_back zero r P step a b h p = step a b h p
through_back (suc k) r P step a b h p =
    ⊎_elim (λ (e : precedes_through k r a b ≡ true). through_back k r P step a b e p)
    (λ (e : (precedes_through k r a k && precedes_through k r k b) ≡ true). through_back k r P step a k
    (and_parts _ _ e).0 (through_back k r P step k b (and_parts _ _ e).1 p)) (or_cases _ _ h)

-- what holds of the direct predecessors of b, and passes back, holds of all that precede b
pub through_into : (k : ℕ) (r : ℕ → ℕ → Bool) (P : ℕ → Type 0) (b : ℕ) → ((a : ℕ) → r a b ≡ true → P a) →
    ((a c : ℕ) → r a c ≡ true → P c → P a) → (a : ℕ) → precedes_through k r a b ≡ true → P a
unfolding precedes_through
through_into zero r P b last step a h = last a h
through_into (suc k) r P b last step a h =
    ⊎_elim (λ (e : precedes_through k r a b ≡ true). through_into k r P b last step a e)
    (λ (e : (precedes_through k r a k && precedes_through k r k b) ≡ true). through_back k r P step a k
    (and_parts _ _ e).0 (through_into k r P b last step k (and_parts _ _ e).1)) (or_cases _ _ h)

pub through_ends : (k : ℕ) (r : ℕ → ℕ → Bool) (n : ℕ) → ((a b : ℕ) → r a b ≡ true → (a < n) × (b < n)) → (a b : ℕ) →
    precedes_through k r a b ≡ true → (a < n) × (b < n)
unfolding precedes_through
through_ends zero r n step a b h = step a b h
through_ends (suc k) r n step a b h =
    ⊎_elim (λ (e : precedes_through k r a b ≡ true). through_ends k r n step a b e)
    (λ (e : (precedes_through k r a k && precedes_through k r k b) ≡ true). let l = through_ends k r n step a k
    (and_parts _ _ e).0 in let m = through_ends k r n step k b (and_parts _ _ e).1 in (l.0, m.1))
    (or_cases _ _ h)

pub precedes_step : (g : Precedence) (a b : ℕ) → g.before a b ≡ true → precedes g a b ≡ true
precedes_step g a b h = through_step g.count g.before a b h

pub precedes_ends : (g : Precedence) → IsOfBlocks g → (a b : ℕ) → precedes g a b ≡ true →
    (a < g.count) × (b < g.count)
precedes_ends g within = through_ends g.count g.before g.count within

pub precedes-join : (g : Precedence) → IsOfBlocks g → (a c b : ℕ) → precedes g a c ≡ true → precedes g c b ≡ true →
    precedes g a b ≡ true
precedes-join g within a c b h k = precedes_through-join g.count g.before a c b (precedes_ends g within a c h).1 h k

-- how many blocks precede one: without a loop, fewer than precede any block after it
unfoldable pub rank : Precedence → ℕ → ℕ
rank g b = count_below g.count (λ a. precedes g a b)

pub rank_le : (g : Precedence) (b : ℕ) → rank g b ≤ g.count
unfolding rank
rank_le g b = count_below_le g.count (λ a. precedes g a b)

pub rank_lt : (g : Precedence) → IsOfBlocks g → IsAcyclic g → (a b : ℕ) → precedes g a b ≡ true → rank g a < rank g b
unfolding rank
rank_lt g within acyclic a b h = let ends = precedes_ends g within a b h in
    count_below_lt g.count (λ c. precedes g c a) (λ c. precedes g c b)
    (λ c lt to. precedes-join g within c a b to h) a ends.0 (acyclic a ends.0) h
