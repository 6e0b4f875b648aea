-- The last of some things, as it is seen in a slice.
use Rattle.std.proofs.Common.{◌≡◌, ◌∙◌, ◌++◌, ◌-◌, suc, List, [], ◌∷◌, Some, None, arith, ap, length, refl, subst, sym, take, drop}
use Rattle.std.specs.Prelude.{slice_get}
use Rattle.std.proofs.lemmas.List.{take-append-drop}
use Rattle.std.proofs.lemmas.Option.{slice_get-get_or, slice_get_within}
use Rattle.std.proofs.Math.Seq.{drop-length}
use Rattle.pm_io.proofs.Pieces.{drop_at_item}

-- where there is no last one, there is none
pub no_last : {A : Type 0} (things seen : List A) → seen ≡ things → None ≡ slice_get seen (length seen - 1) → things ≡ []
no_last {A} [] seen is none = refl
no_last {A} (thing ∷ things) seen is none =
    let there = slice_get-get_or (thing ∷ things) (length (thing ∷ things) - 1) thing (omega arith) in
    let not_there = subst (λ (xs : List A). None ≡ slice_get xs (length xs - 1)) is none in
    cc

-- the last one comes after the others
pub some_last : {A : Type 0} (things seen : List A) (last : A) → seen ≡ things → Some last ≡ slice_get seen (length seen - 1) → things ≡ take (length things - 1) things ++ last ∷ []
some_last {A} things seen last is some =
    let found : slice_get things (length things - 1) ≡ Some last = sym (subst (λ (xs : List A). Some last ≡ slice_get xs (length xs - 1)) is some) in
    let within = slice_get_within things (length things - 1) last found in
    let all : suc (length things - 1) ≡ length things = omega arith in
    let after : drop (suc (length things - 1)) things ≡ [] = rw all (drop-length things) in
    sym (take-append-drop (length things - 1) things)
    ∙ ap (λ (xs : List A). take (length things - 1) things ++ xs) (drop_at_item things (length things - 1) last found ∙ ap (λ (xs : List A). last ∷ xs) after)
