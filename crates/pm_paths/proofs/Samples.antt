-- The plan of the sample has one scheduled block, which is ordered.
use Rattle.std.proofs.Common.{◌≡◌, ◌<◌, ℕ, zero, suc, refl, arith}
use Rattle.pm_design.specs.Sample.{sample_plan}
use Rattle.pm_cons.specs.Precedence.{precedes_through}
use Rattle.pm_cons.specs.UpdateBlocks.{IsOrdered}
use Rattle.pm_paths.specs.PlanBlocks.{IsFor, blocks_of}
use Rattle.pm_paths.specs.Sample as sample

pub single_is_for : IsFor sample_plan sample.single
single_is_for = record { count = refl; edges = λ a b edge. absurd (cc) }

alone : (a b : ℕ) → a < 1 → b < 1 → a ≡ b
alone zero zero la lb = refl
alone (suc a) b la lb = absurd (omega arith)
alone zero (suc b) la lb = absurd (omega arith)

pub single_is_ordered : IsOrdered (blocks_of sample_plan sample.single)
unfolding precedes_through
single_is_ordered = record {
  no_loop = λ b lt. refl;
  pairs = λ a b p apart la lb writes touch. absurd (apart (alone a b la lb));
}
