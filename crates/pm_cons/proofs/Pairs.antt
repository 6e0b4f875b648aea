-- Without a loop and without an unordered pair, the blocks are ordered.
use Rattle.std.proofs.Common.{◌≡◌, ℕ, ◌<◌, ◌⊎◌, List, Bool, true, false, not, ◌&&◌, refl, inl, inr, ⊎_elim}
use Rattle.std.proofs.lemmas.Bool.{and_from, or_left, or_right, both_ways, cases_order, false_from_ne_true, not_from_false}
use Rattle.pm_cons.specs.UpdateBlocks.{UpdateBlocks, IsOrdered, touches}
use Rattle.pm_cons.specs.Precedence.{Precedence, precedes, has_loop}
use Rattle.pm_cons.proofs.Below.{any_below_from}
use Rattle.pm_cons.specs.Edges.{is_listed}
use Rattle.pm_cons.specs.Conflicts.{AreAllListed}
use Rattle.pm_cons.specs.Conflicts.{is_unordered}

ordered_of : (g : Precedence) (conflicts : List (List ℕ)) (a b : ℕ) → is_listed conflicts a b ≡ true →
    is_unordered g conflicts a b ≡ false → (precedes g a b ≡ true) ⊎ (precedes g b a ≡ true)
ordered_of g conflicts a b listed none = go (precedes g a b) (precedes g b a) refl refl
  where
    go : (s t : Bool) → precedes g a b ≡ s → precedes g b a ≡ t → (precedes g a b ≡ true) ⊎ (precedes g b a ≡ true)
    go true t e f = inl e
    go false true e f = inr f
    go false false e f =
        absurd
        (both_ways (is_unordered g conflicts a b) none
        (and_from (is_listed conflicts a b) (not (precedes g a b) && not (precedes g b a)) listed
        (and_from (not (precedes g a b)) (not (precedes g b a)) (not_from_false (precedes g a b) e)
        (not_from_false (precedes g b a) f))))

pub ordered : {P : Type 0} (d : UpdateBlocks P) (conflicts : List (List ℕ)) → AreAllListed d conflicts →
    has_loop d.precedence ≡ false → ((a b : ℕ) → is_unordered d.precedence conflicts a b ≡ false) → IsOrdered d
ordered {P} d conflicts listed loop none = record {
  no_loop =
      λ b lt. false_from_ne_true (precedes d.precedence b b)
      (λ to. both_ways (has_loop d.precedence) loop
      (any_below_from d.precedence.count (λ b. precedes d.precedence b b) b lt to));
  pairs = λ a b p ne la lb writes touch. go a b p ne la lb writes touch (cases_order a b);
}
  where
    go : (a b : ℕ) (p : P) → ¬ (a ≡ b) → a < d.precedence.count → b < d.precedence.count → d.writes a p ≡ true →
        touches d b p ≡ true → (a ≡ b) ⊎ ((a < b) ⊎ (b < a)) →
        (precedes d.precedence a b ≡ true) ⊎ (precedes d.precedence b a ≡ true)
    go a b p ne la lb writes touch (inl e) = absurd (ne e)
    go a b p ne la lb writes touch (inr (inl l)) =
        ordered_of d.precedence conflicts a b
        (listed a b p l lb
        (or_left (d.writes a p && touches d b p) (d.writes b p && touches d a p)
        (and_from (d.writes a p) (touches d b p) writes touch))) (none a b)
    go a b p ne la lb writes touch (inr (inr l)) =
        ⊎_elim (λ (x : precedes d.precedence b a ≡ true). inr x) (λ (x : precedes d.precedence a b ≡ true). inl x)
        (ordered_of d.precedence conflicts b a
        (listed b a p l la
        (or_right (d.writes b p && touches d a p) (d.writes a p && touches d b p)
        (and_from (d.writes a p) (touches d b p) writes touch))) (none b a))
