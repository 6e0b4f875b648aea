-- What tokens begin with.
use Rattle.std.specs.Prelude.{◌≡◌, Bool, false, IsTrue, List, [], ◌∷◌}
use Rattle.pm_syn.specs.declared.token.Token.{Token}

-- a token that passes the test comes first, and this comes after it
abbrev pub IsAfter : (Token → Bool) → List Token → List Token → Type 0
IsAfter test tokens tail = (first : Token) × (tokens ≡ first ∷ tail) × IsTrue (test first)

-- no token that passes the test comes first
abbrev pub IsNotFirst : (Token → Bool) → List Token → Type 0
IsNotFirst test [] = Unit {0}
IsNotFirst test (first ∷ tokens) = test first ≡ false

-- a token that passes the test comes first
abbrev pub begins_with : (Token → Bool) → List Token → Bool
begins_with test [] = false
begins_with test (first ∷ tokens) = test first
