-- One item more that is moved from the end of a list.
use Rattle.std.proofs.Common.{◌≡◌, ◌∙◌, ◌++◌, ◌∷◌, [], List, map, reverse, ap, sym}
use Rattle.std.proofs.lemmas.List.{append_assoc, reverse-append}

-- the last item of what is left is the next
pub item_moved : {A B : Type 0} (f : A → B) (done more all : List B) (before left : List A) (item : A)
    → before ≡ left ++ item ∷ [] → more ≡ done ++ f item ∷ [] → done ++ map f (reverse before) ≡ all
    → more ++ map f (reverse left) ≡ all
item_moved f done more all before left item last added earlier =
    ap (λ xs. xs ++ map f (reverse left)) added
    ∙ (append_assoc done (f item ∷ []) (map f (reverse left))
    ∙ (ap (λ xs. done ++ map f xs) (sym (ap reverse last ∙ reverse-append left (item ∷ []))) ∙ earlier))
