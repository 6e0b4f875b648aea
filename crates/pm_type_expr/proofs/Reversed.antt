-- Lists from their ends.
use Rattle.std.proofs.Common.{◌≡◌, List, [], ◌∷◌, ◌++◌, reverse}
use Rattle.std.proofs.lemmas.List.{reverse-append, append-nil}

pub append_none : {X : Type 0} (xs : List X) → xs ++ [] ≡ xs
append_none xs = append-nil xs

pub reverse_more : {X : Type 0} (xs : List X) (x : X) → reverse (xs ++ x ∷ []) ≡ x ∷ reverse xs
reverse_more xs x = reverse-append xs (x ∷ [])
