-- The two blocks of the sample are ordered, and the loop of the other is found.
use Rattle.std.proofs.Common.{◌≡◌, ℕ, zero, suc, ◌<◌, ◌⊎◌, true, refl, inl, inr, arith}
use Rattle.pm_cons.specs.Precedence.{precedes, precedes_through, has_loop, IsAcyclic}
use Rattle.pm_cons.specs.UpdateBlocks.{IsOrdered}
use Rattle.pm_cons.specs.Sample as sample

acyclic : IsAcyclic sample.precedence
unfolding precedes_through
acyclic zero lt = refl
acyclic (suc zero) lt = refl
acyclic (suc (suc b)) lt = absurd (omega arith)

first_precedes : precedes sample.precedence 0 1 ≡ true
unfolding precedes_through
first_precedes = refl

one_precedes : (a b : ℕ) → ¬ (a ≡ b) → a < 2 → b < 2 →
    (precedes sample.precedence a b ≡ true) ⊎ (precedes sample.precedence b a ≡ true)
one_precedes zero zero apart la lb = absurd (apart refl)
one_precedes zero (suc zero) apart la lb = inl first_precedes
one_precedes (suc zero) zero apart la lb = inr first_precedes
one_precedes (suc zero) (suc zero) apart la lb = absurd (apart refl)
one_precedes (suc (suc a)) b apart la lb = absurd (omega arith)
one_precedes zero (suc (suc b)) apart la lb = absurd (omega arith)
one_precedes (suc zero) (suc (suc b)) apart la lb = absurd (omega arith)

pub blocks_ordered : IsOrdered sample.blocks
blocks_ordered = record { no_loop = acyclic; pairs = λ a b p apart la lb writes touch. one_precedes a b apart la lb }

pub loop_found : has_loop sample.loop ≡ true
unfolding precedes_through
loop_found = refl
