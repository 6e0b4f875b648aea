-- What a read leaves of the pieces of a source in memory.
use Rattle.std.proofs.Common.{◌≡◌, ℕ, zero, suc, ◌-◌, ◌<◌, ◌≤◌, nat_lt, Bool, true, false, List, [], ◌∷◌, ◌++◌, length, take, drop, slice_get, Some, None, if◌then◌else◌, refl, ap, arith, append_assoc, take-append-drop, take_all, length-drop, ltb-true, ltb-false, le-ltb}
use Rattle.std.proofs.lemmas.Grind.{common_steps}
use Rattle.pm_io.specs.Memory.{AreFilled, cut_first, pieces_from, first_of, joined, left_after}

-- from the start nothing is cut
pub cut_first-zero : (pieces : List (List ℕ)) → cut_first 0 pieces ≡ pieces
cut_first-zero [] = refl
cut_first-zero (piece ∷ pieces) = refl

-- from an index that holds an item, that item is first
pub drop_at_item : {A : Type 0} (items : List A) (at : ℕ) (item : A) → slice_get items at ≡ Some item → drop at items ≡ item ∷ drop (suc at) items
drop_at_item [] at item is = cc
drop_at_item (first ∷ items) zero item is = ap (λ one. one ∷ items) (grind arith)
drop_at_item (first ∷ items) (suc at) item is = drop_at_item items at item is

-- from a place that holds no item, nothing is left
pub drop_at_none : {A : Type 0} (items : List A) (at : ℕ) → slice_get items at ≡ None → drop at items ≡ []
drop_at_none [] zero is = refl
drop_at_none [] (suc at) is = refl
drop_at_none (first ∷ items) zero is = cc
drop_at_none (first ∷ items) (suc at) is = drop_at_none items at is

-- the pieces from a place inside of one
pub pieces_from-item : (piece at : ℕ) (pieces : List (List ℕ)) (item : List ℕ) → slice_get pieces piece ≡ Some item
    → pieces_from piece at pieces ≡ drop at item ∷ drop (suc piece) pieces
pieces_from-item piece at pieces item is = ap (cut_first at) (drop_at_item pieces piece item is)

-- there are no pieces after the last
pub pieces_from-none : (piece at : ℕ) (pieces : List (List ℕ)) → slice_get pieces piece ≡ None → pieces_from piece at pieces ≡ []
pieces_from-none piece at pieces is = ap (cut_first at) (drop_at_none pieces piece is)

-- the pieces after the one at an index
pub pieces_from-next : (piece at : ℕ) (pieces : List (List ℕ)) → pieces_from (suc piece) 0 pieces ≡ drop 1 (pieces_from piece at pieces)
pieces_from-next zero at [] = refl
pieces_from-next zero at (first ∷ pieces) = cut_first-zero pieces
pieces_from-next (suc piece) at [] = refl
pieces_from-next (suc piece) at (first ∷ pieces) = pieces_from-next piece at pieces

-- once all of the first piece was read, the others are left
pub left_after_all : (count : ℕ) (pieces : List (List ℕ)) → length (first_of pieces) ≤ count → left_after count pieces ≡ drop 1 pieces
left_after_all count [] past = refl
left_after_all count (piece ∷ pieces) past = rw (le-ltb count (length piece) past) refl

-- what remains of filled pieces after the first is filled
pub filled_rest : (piece : List ℕ) (pieces : List (List ℕ)) → AreFilled (piece ∷ pieces) → AreFilled pieces
filled_rest piece pieces filled k d within = filled (suc k) d (omega arith)

-- filled pieces after a filled one are filled
pub filled_with : (piece : List ℕ) (pieces : List (List ℕ)) → 0 < length piece → AreFilled pieces → AreFilled (piece ∷ pieces)
filled_with piece pieces here others zero d within = here
filled_with piece pieces here others (suc k) d within = others k d (omega arith)

-- a place from which all pieces are filled is inside of its piece
pub within_item : (piece at : ℕ) (pieces : List (List ℕ)) (item : List ℕ) → slice_get pieces piece ≡ Some item → AreFilled (pieces_from piece at pieces) → at < length item
within_item piece at pieces item is filled =
    let same = pieces_from-item piece at pieces item is in
    let ahead : AreFilled (drop at item ∷ drop (suc piece) pieces) = rw same at filled in
    let here : 0 < length (drop at item) = ahead 0 item (omega arith) in
    let some : 0 < length item - at = rw length-drop at here in
    omega arith

-- no piece that a read leaves is empty
pub filled-left_after : (count : ℕ) (pieces : List (List ℕ)) → AreFilled pieces → AreFilled (left_after count pieces)
filled-left_after count [] filled = filled
filled-left_after count (piece ∷ pieces) filled = go (nat_lt count (length piece)) refl where
  go : (inside : Bool) → nat_lt count (length piece) ≡ inside → AreFilled (if inside then drop count piece ∷ pieces else pieces)
  go true is = filled_with (drop count piece) pieces (rw length-drop (omega (arith, ltb-true _ _ is))) (filled_rest piece pieces filled)
  go false is = filled_rest piece pieces filled

-- the bytes that were read come before the bytes that are left
pub joined-left_after : (count : ℕ) (pieces : List (List ℕ)) → count ≤ length (first_of pieces)
    → joined pieces ≡ take count (first_of pieces) ++ joined (left_after count pieces)
joined-left_after count [] within = grind (arith, common_steps)
joined-left_after count (piece ∷ pieces) within = go (nat_lt count (length piece)) refl where
  go : (inside : Bool) → nat_lt count (length piece) ≡ inside
      → joined (piece ∷ pieces) ≡ take count piece ++ joined (if inside then drop count piece ∷ pieces else pieces)
  go true is = rw (← append_assoc, take-append-drop) refl
  go false is = let past : length piece ≤ count = ltb-false _ _ is in rw (take_all) refl
