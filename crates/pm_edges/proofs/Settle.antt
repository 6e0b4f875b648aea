-- The blocks of a plan settle by its own edges.
use Rattle.std.proofs.Common.{◌≡◌, ◌<◌, ℕ, zero, suc, [], ◌∷◌, refl, subst, sym, arith}
use Rattle.pm_design.specs.Sample.{sample_plan}
use Rattle.std.specs.Prelude.{IsTrue, false, true}
use Rattle.std.proofs.lemmas.Bool.{both_ways}
use Rattle.pm_cons.specs.Orders.{IsTopological, has}
use Rattle.pm_cons.specs.Precedence.{IsAcyclic, precedes_through}
use Rattle.pm_cons.specs.UpdateBlocks.{IsOrdered}
use Rattle.pm_paths.specs.PlanBlocks.{blocks_of}
use Rattle.pm_paths.proofs.PlansSettle.{plans_settle}
use Rattle.pm_edges.specs.Between.{PlansSettleByTheirEdges, precedence_of_plan}
use Rattle.pm_edges.proofs.OfBlocks.{edges_are_of_blocks}

pub settle_by_edges : PlansSettleByTheirEdges
settle_by_edges plan m order q ordered topological =
    plans_settle plan (precedence_of_plan plan) m order q
    (record { count = refl; edges = edges_are_of_blocks plan }) ordered topological

alone : (a b : ℕ) → a < 1 → b < 1 → a ≡ b
alone zero zero la lb = refl
alone (suc a) b la lb = absurd (omega arith)
alone zero (suc b) la lb = absurd (omega arith)

acyclic : IsAcyclic (precedence_of_plan sample_plan)
unfolding precedes_through
acyclic zero lt = refl
acyclic (suc b) lt = absurd (omega arith)

pub sample_ordered : IsOrdered (blocks_of sample_plan (precedence_of_plan sample_plan))
sample_ordered = record {
  no_loop = acyclic;
  pairs = λ a b p apart la lb writes touch. absurd (apart (alone a b la lb));
}

-- no edge leads to its only block
none_before : (precedence_of_plan sample_plan).before 0 0 ≡ false
none_before = refl

no_edge : (a : ℕ) → (precedence_of_plan sample_plan).before a 0 ≡ true → a < 0
no_edge a edge =
    let same : 0 ≡ a = let lt : a < 1 = (edges_are_of_blocks sample_plan a 0 edge).0 in omega (arith, lt) in
    absurd (both_ways ((precedence_of_plan sample_plan).before 0 0) none_before
    (subst (λ (b : ℕ). (precedence_of_plan sample_plan).before b 0 ≡ true) (sym same) edge))

pub sample_topological : IsTopological (precedence_of_plan sample_plan) (0 ∷ [])
sample_topological = (
  record { known = omega arith; new = refl; ready = λ a edge. absurd (omega (arith, no_edge a edge)) },
  listed,
)
  where
    listed : (b : ℕ) → b < 1 → IsTrue (has (0 ∷ []) b)
    listed zero lt = refl
    listed (suc b) lt = absurd (omega arith)
