-- The closure as a test is the closure as paths.
use Rattle.std.proofs.Common.{◌≡◌, ℕ, zero, suc, Bool, true, ◌&&◌, ⊎_elim}
use Rattle.std.proofs.lemmas.Bool.{and_parts, or_cases}
use Rattle.pm_cons.specs.Precedence.{Precedence, IsOfBlocks, precedes_through, precedes, Path}
use Rattle.pm_cons.specs.Precedence.Path.{Edge, Onward}
use Rattle.pm_cons.proofs.Closure.{precedes_step, precedes-join}

join : (r : ℕ → ℕ → Bool) (a b c : ℕ) → Path r a b → Path r b c → Path r a c
join r _ _ c (Edge a b h) k = Onward a b c h k
join r _ _ c (Onward a x b h more) k = Onward a x c h (join r x b c more k)

through_steps : (k : ℕ) (r : ℕ → ℕ → Bool) (a b : ℕ) → precedes_through k r a b ≡ true → Path r a b
unfolding precedes_through
through_steps zero r a b h = Edge a b h
through_steps (suc k) r a b h = ⊎_elim (λ (e : precedes_through k r a b ≡ true). through_steps k r a b e)
    (λ (e : (precedes_through k r a k && precedes_through k r k b) ≡ true). join r a k b
    (through_steps k r a k (and_parts _ _ e).0) (through_steps k r k b (and_parts _ _ e).1))
    (or_cases _ _ h)

pub steps_some : (g : Precedence) (a b : ℕ) → precedes g a b ≡ true → Path g.before a b
steps_some g a b h = through_steps g.count g.before a b h

pub steps_all : (g : Precedence) → IsOfBlocks g → (a b : ℕ) → Path g.before a b → precedes g a b ≡ true
steps_all g within _ _ (Edge a b h) = precedes_step g a b h
steps_all g within _ _ (Onward a b c h more) =
    precedes-join g within a b c (precedes_step g a b h) (steps_all g within b c more)
