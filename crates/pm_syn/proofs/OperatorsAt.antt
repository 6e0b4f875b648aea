-- Operators of a known number of bytes at the start of a text.
use Rattle.std.proofs.Common.{◌≡◌, ◌++◌, ◌≤◌, ℕ, Bool, true, false, List, [], ◌∷◌, length, get_or, refl, ap, sym, ◌∙◌, length-append, arith}
use Rattle.std.proofs.lemmas.Bool.{false≢true, le-leb, and_from}
use Rattle.std.proofs.lemmas.Bool.Decides.{same_from_decides, Decides-like, nat_tests}
use Rattle.std.proofs.lemmas.List.{take_at}
use Rattle.std.proofs.lemmas.Slice.Eq.{bytes_eq-Decides}
use Rattle.std.specs.List.{list_any}
use Rattle.std.specs.Str.{bytes_eq}
use Rattle.pm_syn.specs.Heads.{HasNoOperator, has_operator}
use Rattle.pm_syn.specs.Operators.{is_operator, two_bytes, three_bytes}

-- bytes are compared in either order
bytes_eq-swap : (bytes others : List ℕ) → bytes_eq bytes others ≡ bytes_eq others bytes
bytes_eq-swap bytes others =
    same_from_decides (bytes_eq bytes others) (bytes_eq others bytes) (bytes_eq-Decides bytes others) (Decides-like (bytes_eq others bytes) sym sym (bytes_eq-Decides others bytes))

-- two tests that agree pass the same lists
list_any-same : (test other : List ℕ → Bool) → ((item : List ℕ) → test item ≡ other item) → (items : List (List ℕ)) → list_any test items ≡ list_any other items
list_any-same test other agree [] = refl
list_any-same test other agree (item ∷ items) = rw (agree item, list_any-same test other agree items) refl

-- the operators of two bytes, each compared with the text's first two
pub has_operator-two : (text : List ℕ) → 2 ≤ length text → list_any (λ known. bytes_eq known (get_or text 0 0 ∷ get_or text 1 0 ∷ [])) two_bytes ≡ has_operator 2 text
has_operator-two [] long = absurd (omega arith)
has_operator-two (a ∷ []) long = absurd (omega arith)
has_operator-two (a ∷ b ∷ text) long =
    rw (le-leb 2 (length (a ∷ b ∷ text)) (omega arith))
    (list_any-same (λ known. bytes_eq known (a ∷ b ∷ [])) (bytes_eq (a ∷ b ∷ [])) (λ known. bytes_eq-swap known (a ∷ b ∷ [])) two_bytes)

-- the operators of three bytes, each compared with the text's first three
pub has_operator-three : (text : List ℕ) → 3 ≤ length text
    → list_any (λ known. bytes_eq known (get_or text 0 0 ∷ get_or text 1 0 ∷ get_or text 2 0 ∷ [])) three_bytes ≡ has_operator 3 text
has_operator-three [] long = absurd (omega arith)
has_operator-three (a ∷ []) long = absurd (omega arith)
has_operator-three (a ∷ b ∷ []) long = absurd (omega arith)
has_operator-three (a ∷ b ∷ c ∷ text) long =
    rw (le-leb 3 (length (a ∷ b ∷ c ∷ text)) (omega arith))
    (list_any-same (λ known. bytes_eq known (a ∷ b ∷ c ∷ [])) (bytes_eq (a ∷ b ∷ c ∷ [])) (λ known. bytes_eq-swap known (a ∷ b ∷ c ∷ [])) three_bytes)

-- no operator has more than three bytes
no_operator-long : (a b c d : ℕ) (more : List ℕ) → is_operator (a ∷ b ∷ c ∷ d ∷ more) ≡ false
no_operator-long a b c d more = grind (arith, nat_tests)

-- an operator at the start of a text, by its length
has_operator-prefix : (prefix rest text : List ℕ) → prefix ++ rest ≡ text → is_operator prefix ≡ true → has_operator (length prefix) text ≡ true
has_operator-prefix prefix rest text same is =
    let here : has_operator (length prefix) (prefix ++ rest) ≡ true =
    and_from _ _ (le-leb (length prefix) (length (prefix ++ rest)) (omega (arith, length-append prefix rest))) (ap is_operator (take_at prefix rest (length prefix) refl) ∙ is) in
    ap (has_operator (length prefix)) (sym same) ∙ here

-- no operator of one to three bytes at the start is no operator there
pub no_operator : (text : List ℕ) → has_operator 3 text ≡ false → has_operator 2 text ≡ false → has_operator 1 text ≡ false → HasNoOperator text
no_operator text three two one [] rest same is = false≢true is
no_operator text three two one (a ∷ []) rest same is = false≢true (sym one ∙ has_operator-prefix (a ∷ []) rest text same is)
no_operator text three two one (a ∷ b ∷ []) rest same is = false≢true (sym two ∙ has_operator-prefix (a ∷ b ∷ []) rest text same is)
no_operator text three two one (a ∷ b ∷ c ∷ []) rest same is = false≢true (sym three ∙ has_operator-prefix (a ∷ b ∷ c ∷ []) rest text same is)
no_operator text three two one (a ∷ b ∷ c ∷ d ∷ more) rest same is = false≢true (sym (no_operator-long a b c d more) ∙ is)
