-- Elements of a list that all pass a test.
use Rattle.std.proofs.Common.{◌≡◌, ◌<◌, ℕ, zero, suc, List, [], ◌∷◌, Bool, length, arith, subst, sym}
use Rattle.std.specs.Prelude.{IsTrue, slice_index_or}
use Rattle.std.specs.List.{list_all}
use Rattle.std.proofs.lemmas.Bool.{and_parts}

-- an element of a list whose elements all pass
pub element_passes : {X : Type 0} (test : X → Bool) (xs : List X) (i : ℕ) (d : X) → IsTrue (list_all test xs) → i < length xs → IsTrue (test (slice_index_or xs i d))
element_passes test [] i d all lt = absurd (omega arith)
element_passes test (x ∷ xs) zero d all lt = (and_parts (test x) (list_all test xs) all).0
element_passes test (x ∷ xs) (suc i) d all lt = element_passes test xs i d (and_parts (test x) (list_all test xs) all).1 (omega arith)

-- an element that is its own default
pub item_passes : {X : Type 0} (test : X → Bool) (xs : List X) (i : ℕ) (x : X) → IsTrue (list_all test xs) → i < length xs → x ≡ slice_index_or xs i x → IsTrue (test x)
item_passes test xs i x all lt is = subst (λ (y : _). IsTrue (test y)) (sym is) (element_passes test xs i x all lt)
