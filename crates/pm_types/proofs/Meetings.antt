-- Names that two paths leave, where one of them has no more.
use Rattle.std.proofs.Common.{◌≡◌, ◌∙◌, ◌≤◌, ℕ, List, [], ◌∷◌, length, drop, refl, ap}
use Rattle.pm_typing.specs.declared.frame.Bound.{Bound}
use Rattle.pm_types.proofs.Drops.{drop_all}
use Rattle.pm_types.specs.Statements.{meet_from}

meet_none : (done a : List Bound) → meet_from done a [] ≡ done
unfolding meet_from
meet_none done [] = refl
meet_none done (x ∷ a) = refl

pub meet_past : (done a b : List Bound) (k : ℕ) → length b ≤ k → meet_from done (drop k a) (drop k b) ≡ done
meet_past done a b k all = ap (meet_from done (drop k a)) (drop_all b k all) ∙ meet_none done (drop k a)
