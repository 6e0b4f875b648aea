-- How changes of the bytes of an object follow one another.
use Rattle.std.proofs.Common.{◌∙◌, ◌++◌, ◌+◌, ◌-◌, ℕ, List, [], length, take, drop, refl, ap, sym, subst, append_assoc, append-nil}
use Rattle.std.specs.Prelude.{Option, None, Some}
use Rattle.std.proofs.lemmas.List.{take_rest}
use Rattle.std.proofs.lemmas.List.{take-append-drop}
use Rattle.std.proofs.Math.Seq.{take-add}
use Rattle.pm_io.specs.Known.{Keeps, Grows, GrowsByFront}

-- nothing changes in no call
pub keeps_same : (known : Option (List ℕ)) → Keeps known known
keeps_same None = tt
keeps_same (Some bytes) = refl

-- what stays as it was has grown by nothing
pub grows_nothing : (old new : Option (List ℕ)) → Keeps old new → Grows old new []
grows_nothing None new same = tt
grows_nothing (Some bytes) new same = same ∙ ap Some (sym (append-nil bytes))

-- growth after growth
pub grows_on : (old mid new : Option (List ℕ)) (first second : List ℕ) → Grows old mid first → Grows mid new second → Grows old new (first ++ second)
grows_on None mid new first second one two = tt
grows_on (Some bytes) mid new first second one two =
    let grown : Grows (Some (bytes ++ first)) new second = subst (λ (known : Option (List ℕ)). Grows known new second) one two in
    grown ∙ ap Some (append_assoc bytes first second)

-- growth by one more prefix of what remains of a piece
pub grows_along : (old mid new : Option (List ℕ)) (piece : List ℕ) (taken count : ℕ) → Grows old mid (take taken piece)
    → Grows mid new (take count (take (length piece - taken) (drop taken piece))) → Grows old new (take (taken + count) piece)
grows_along old mid new piece taken count one two =
    let more : Grows mid new (take count (drop taken piece)) = rw take_rest at two in
    subst (Grows old new) (sym (take-add taken count piece)) (grows_on old mid new (take taken piece) (take count (drop taken piece)) one more)

-- a prefix of some bytes is a prefix of more bytes
pub grows_in_longer : (old new : Option (List ℕ)) (bytes more : List ℕ) → GrowsByFront old new bytes → GrowsByFront old new (bytes ++ more)
grows_in_longer old new bytes more part =
    (part.0, part.1 ++ more, ap (λ (xs : List ℕ). xs ++ more) part.2 ∙ append_assoc part.0 part.1 more, part.3)

-- growth by a prefix, counted in bytes
pub grows_by_take : (old new : Option (List ℕ)) (whole : List ℕ) (count : ℕ) → Grows old new (take count whole) → GrowsByFront old new whole
grows_by_take old new whole count grown = (take count whole, drop count whole, sym (take-append-drop count whole), grown)

-- growth after growth, the later one by a prefix
pub grows_on_by_front : (old mid new : Option (List ℕ)) (first second : List ℕ) → Grows old mid first → GrowsByFront mid new second → GrowsByFront old new (first ++ second)
grows_on_by_front old mid new first second one part =
    (first ++ part.0, part.1, ap (λ (xs : List ℕ). first ++ xs) part.2 ∙ sym (append_assoc first part.0 part.1), grows_on old mid new first part.0 one part.3)

-- growth by a prefix, and then no change
pub grows_by_take_kept : (old mid new : Option (List ℕ)) (whole : List ℕ) (count : ℕ) → Grows old mid (take count whole) → Keeps mid new → GrowsByFront old new whole
grows_by_take_kept old mid new whole count grown kept =
    grows_by_take old new whole count (subst (Grows old new) (append-nil (take count whole)) (grows_on old mid new (take count whole) [] grown (grows_nothing mid new kept)))
