-- Proof that tokens whose brackets match close the brackets that they open, each by the one that fits.
use Rattle.std.proofs.Common.{◌≡◌, ℕ, List, [], ◌∷◌, ◌++◌, map, refl, inl, inr, sym, ap, subst, ◌∙◌, append-nil, append_assoc, eq-eqb}
use Rattle.std.specs.Prelude.{None}
use Rattle.pm_syn.specs.Reading.{bad_nesting, byte_of, closing_of, nested, nesting_of}
use Rattle.pm_syn.specs.Spaces.{AreMatched, IsPair}
use Rattle.pm_syn.specs.declared.bracket.Bracket.{Bracket}
use Rattle.pm_syn.specs.declared.bracket.Nesting.{Nesting}
use Rattle.pm_syn.specs.declared.bracket.Nesting.TheVariants as nesting
use Rattle.pm_syn.specs.declared.token.Token.{Token}
use Rattle.pm_syn.proofs.MatchedBrackets.{none_keeps, pair_nests}

-- what holds after a bracket, where these opening brackets are open before it
abbrev AfterBracket : Nesting → ℕ → (List ℕ → Type 0) → List ℕ → Type 0
AfterBracket nesting.Opens byte later opened = later (byte ∷ opened)
AfterBracket nesting.Keeps byte later opened = later opened
AfterBracket nesting.Closes byte later [] = ⊥
AfterBracket nesting.Closes byte later (innermost ∷ outer) = (closing_of innermost ≡ byte) × later outer

-- the tokens close these opening brackets and those that they open
abbrev pub Close : List Token → List ℕ → Type 0
Close [] opened = opened ≡ []
Close (token ∷ tokens) opened = AfterBracket (nesting_of token.text) (byte_of token.text) (Close tokens) opened

-- the bytes of a pair
pub pair_closes : (opening closing : List ℕ) → IsPair opening closing → closing_of (byte_of opening) ≡ byte_of closing
pair_closes opening closing (inl round) = ap (λ (bytes : List ℕ). closing_of (byte_of bytes)) round.0 ∙ sym (ap byte_of round.1)
pair_closes opening closing (inr (inl square)) = ap (λ (bytes : List ℕ). closing_of (byte_of bytes)) square.0 ∙ sym (ap byte_of square.1)
pair_closes opening closing (inr (inr curly)) = ap (λ (bytes : List ℕ). closing_of (byte_of bytes)) curly.0 ∙ sym (ap byte_of curly.1)

-- tokens whose brackets match leave the others to those after them
matched_close : (tokens : List Token) → AreMatched tokens → (more : List Token) (opened : List ℕ) → Close more opened → Close (tokens ++ more) opened
matched_close tokens AreMatched.nothing more opened close = close
matched_close tokens (AreMatched.no_bracket token later none are) more opened close =
    let keeps = none_keeps token.text none (nesting_of token.text) refl in
    subst (λ (nests : Nesting). AfterBracket nests (byte_of token.text) (Close (later ++ more)) opened) (sym keeps) (
    matched_close later are more opened close)
matched_close tokens (AreMatched.pair opening inner closing later fits within are) more opened close =
    let nests = pair_nests opening.text closing.text fits in
    let rest : Close (later ++ more) opened = matched_close later are more opened close in
    let closed : Close (closing ∷ (later ++ more)) (byte_of opening.text ∷ opened) =
    subst (λ (nests : Nesting). AfterBracket nests (byte_of closing.text) (Close (later ++ more)) (byte_of opening.text ∷ opened)) (sym nests.1) (
      pair_closes opening.text closing.text fits,
      rest,
    ) in
    let inside : Close (inner ++ closing ∷ (later ++ more)) (byte_of opening.text ∷ opened) =
    matched_close inner within (closing ∷ (later ++ more)) (byte_of opening.text ∷ opened) closed in
    let moved : Close ((inner ++ closing ∷ later) ++ more) (byte_of opening.text ∷ opened) =
    subst (λ (rest : List Token). Close rest (byte_of opening.text ∷ opened)) (sym (append_assoc inner (closing ∷ later) more)) inside in
    subst (λ (nests : Nesting). AfterBracket nests (byte_of opening.text) (Close ((inner ++ closing ∷ later) ++ more)) opened) (sym nests.0) moved

-- tokens whose brackets match close them all
pub all_close : (tokens : List Token) → AreMatched tokens → Close tokens []
all_close tokens are = subst (λ (all : List Token). Close all []) (append-nil tokens) (matched_close tokens are [] [] refl)

-- the opening brackets
abbrev pub bytes_opened : List Bracket → List ℕ
bytes_opened brackets = map (λ (bracket : Bracket). bracket.byte) brackets

-- the next token closes no bracket wrongly, and the others close those that are open after it
pub close_next : (nests : Nesting) (line byte : ℕ) (later : List ℕ → Type 0) (brackets : List Bracket)
    → AfterBracket nests byte later (bytes_opened brackets)
    → (bad_nesting nests line byte brackets ≡ None) × later (bytes_opened (nested nests line byte brackets))
close_next nesting.Opens line byte later brackets close = (refl, close)
close_next nesting.Keeps line byte later brackets close = (refl, close)
close_next nesting.Closes line byte later [] close = absurd close
close_next nesting.Closes line byte later (innermost ∷ outer) close = (rw (eq-eqb (closing_of innermost.byte) byte close.0) refl, close.1)
