-- The operators and punctuation.
use Rattle.std.specs.Prelude.{◌==◌, ℕ, Bool, false, List, [], ◌∷◌, codes}
use Rattle.std.specs.List.{list_any}
use Rattle.std.specs.Str.{bytes_eq}

abbrev pub three_bytes : List (List ℕ)
three_bytes = codes "..." ∷ codes "**=" ∷ codes "//=" ∷ codes "<<=" ∷ codes ">>=" ∷ []

abbrev pub two_bytes : List (List ℕ)
two_bytes =
    codes "->" ∷ codes ":=" ∷ codes "**" ∷ codes "//" ∷ codes "<<" ∷ codes ">>" ∷ codes "==" ∷ codes "!=" ∷ codes "<=" ∷ codes ">="
    ∷ codes "@=" ∷ codes "+=" ∷ codes "-=" ∷ codes "*=" ∷ codes "/=" ∷ codes "%=" ∷ codes "&=" ∷ codes "|=" ∷ codes "^=" ∷ []

abbrev pub one_byte : List ℕ
one_byte = codes "+-*/%&|^~<>=()[]{},:.;@"

-- one of the operators
abbrev pub is_operator : List ℕ → Bool
is_operator [] = false
is_operator (a ∷ []) = list_any (λ known. known == a) one_byte
is_operator (a ∷ b ∷ []) = list_any (bytes_eq (a ∷ b ∷ [])) two_bytes
is_operator (a ∷ b ∷ c ∷ rest) = list_any (bytes_eq (a ∷ b ∷ c ∷ rest)) three_bytes
