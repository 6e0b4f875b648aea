-- Names and reserved words.
use Rattle.std.specs.Prelude.{◌&&◌, Bool, false, not, ℕ, List, [], ◌∷◌, codes}
use Rattle.std.specs.List.{list_all, list_any}
use Rattle.std.specs.Str.{bytes_eq}
use Rattle.pm_syn.specs.Bytes.{begins_name, continues_name}

-- a letter or an underscore, then letters, digits and underscores
abbrev pub is_spelled_as_name : List ℕ → Bool
is_spelled_as_name [] = false
is_spelled_as_name (first ∷ others) = begins_name first && list_all continues_name others

-- the reserved words
abbrev pub keywords : List (List ℕ)
keywords =
    codes "and" ∷ codes "as" ∷ codes "assert" ∷ codes "class" ∷ codes "def" ∷ codes "elif" ∷ codes "else" ∷ codes "for"
    ∷ codes "from" ∷ codes "if" ∷ codes "import" ∷ codes "in" ∷ codes "is" ∷ codes "lambda" ∷ codes "None" ∷ codes "not"
    ∷ codes "or" ∷ codes "pass" ∷ codes "return" ∷ codes "True" ∷ codes "False" ∷ codes "while" ∷ []

-- a reserved word
unfoldable pub is_keyword : List ℕ → Bool
is_keyword word = list_any (bytes_eq word) keywords

-- spelled as a name, and not reserved
abbrev pub is_proper_name : List ℕ → Bool
is_proper_name word = is_spelled_as_name word && not (is_keyword word)
