-- The space between the tokens of a text, and how it and the brackets part its logical lines.
use Rattle.std.specs.Prelude.{◌≡◌, ◌⊎◌, ◌≤◌, ℕ, suc, List, [], ◌∷◌, ◌++◌, All, length, drop, codes}
use Rattle.std.specs.List.{between, flat_map}
use Rattle.pm_syn.specs.Bytes.{IsLineEnd}
use Rattle.pm_syn.specs.Lexemes.{IsGap}
use Rattle.pm_syn.specs.declared.token.Line.{Line}
use Rattle.pm_syn.specs.declared.token.Token.{Token}

-- space before this text: gaps, and the given number of line ends; a line end after a backslash is a gap
pub data IsSpace : ℕ → List ℕ → List ℕ → Type 0 where
  nothing : (after : List ℕ) → IsSpace 0 [] after
  gap : (count : ℕ) (bytes more after : List ℕ) → IsGap bytes (more ++ after) → IsSpace count more after → IsSpace count (bytes ++ more) after
  line_end : (count : ℕ) (bytes more after : List ℕ) → IsLineEnd bytes → IsSpace count more after → IsSpace (suc count) (bytes ++ more) after

-- between these positions of the text is nothing but space with the given number of line ends
abbrev pub HasSpace : List ℕ → ℕ → ℕ → ℕ → Type 0
HasSpace text from to count = (from ≤ to) × IsSpace count (between from to text) (drop to text)

-- nothing but space is from this position to the first token, between the tokens, and from the last to the end position
abbrev pub IsSpacedUpTo : List ℕ → ℕ → ℕ → List Token → Type 0
IsSpacedUpTo text end from [] = (count : ℕ) × HasSpace text from end count
IsSpacedUpTo text end from (token ∷ tokens) = ((count : ℕ) × HasSpace text from token.start count) × IsSpacedUpTo text end token.end tokens

-- the same up to the end of the text
abbrev pub IsSpaced : List ℕ → ℕ → List Token → Type 0
IsSpaced text from tokens = IsSpacedUpTo text (length text) from tokens

-- the brackets of a pair
abbrev pub IsPair : List ℕ → List ℕ → Type 0
IsPair opening closing =
    ((opening ≡ codes "(") × (closing ≡ codes ")")) ⊎ ((opening ≡ codes "[") × (closing ≡ codes "]")) ⊎ ((opening ≡ codes "{") × (closing ≡ codes "}"))

-- a bracket of a pair
abbrev pub IsBracket : List ℕ → Type 0
IsBracket bytes = (other : List ℕ) × (IsPair bytes other ⊎ IsPair other bytes)

-- each bracket among the tokens has the other one of its pair, and the brackets between the two match too
pub data AreMatched : List Token → Type 0 where
  nothing : AreMatched []
  no_bracket : (token : Token) (more : List Token) → (IsBracket token.text → ⊥) → AreMatched more → AreMatched (token ∷ more)
  pair : (opening : Token) (inner : List Token) (closing : Token) (more : List Token) → IsPair opening.text closing.text → AreMatched inner → AreMatched more → AreMatched (opening ∷ (inner ++ closing ∷ more))

-- if the brackets up to a token match, so that none is open after it, no line end is before the next token
abbrev pub AreJoined : List ℕ → List Token → Type 0
AreJoined text tokens = (prefix back : List Token) (token next : Token) → tokens ≡ prefix ++ token ∷ next ∷ back → AreMatched (prefix ++ token ∷ []) → HasSpace text token.end next.start 0

-- at least one line end is between the last of the tokens and the first of the others
abbrev pub AreParted : List ℕ → List Token → List Token → Type 0
AreParted text tokens others = (prefix back : List Token) (token first : Token) → tokens ≡ prefix ++ token ∷ [] → others ≡ first ∷ back → (count : ℕ) × HasSpace text token.end first.start (suc count)

-- nothing but space is between the tokens; the brackets of a logical line match, it has line ends only where one is open, and at least one line end is between it and the next
pub record AreSpacedIn (text : List ℕ) (lines : List Line) : Type 0 where
  pub filled : IsSpaced text 0 (flat_map (λ line. line.tokens) lines)
  pub matched : All (λ line. AreMatched line.tokens) lines
  pub joined : All (λ line. AreJoined text line.tokens) lines
  pub parted : (prefix back : List Line) (line next : Line) → lines ≡ prefix ++ line ∷ next ∷ back → AreParted text line.tokens next.tokens
