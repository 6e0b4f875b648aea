-- Each edge leads from a scheduled block to a scheduled block.
use Rattle.std.proofs.Common.{◌≡◌, ◌&&◌, ◌||◌, refl, Bool, true, false, length, nat_lt, ltb-true}
use Rattle.std.specs.Prelude.{IsTrue, ◌==◌, not}
use Rattle.pm_edges.specs.Between.{EdgesAreOfBlocks, feeds, is_asked, is_explicit}

-- the first two tests of one of two rows of tests
either : (s t u v : Bool) → IsTrue ((s && (t && u)) || (s && (t && v))) → (s ≡ true) × (t ≡ true)
either true true u v h = (refl, refl)
either true false u v h = absurd (cc)
either false t u v h = absurd (cc)

pub edges_are_of_blocks : EdgesAreOfBlocks
edges_are_of_blocks plan a b h = (ltb-true _ _ there.0, ltb-true _ _ there.1)
  where
    there : (nat_lt a (length plan.scheduled) ≡ true) × (nat_lt b (length plan.scheduled) ≡ true)
    there = either (nat_lt a (length plan.scheduled)) (nat_lt b (length plan.scheduled))
        (not (a == b) && is_asked plan a b) (not (a == b) && (feeds plan a b && not (is_explicit plan b a))) h
