-- Which brackets are open after tokens.
use Rattle.std.proofs.Common.{◌≡◌, ◌==◌, ◌⊎◌, ℕ, List, [], ◌∷◌, ◌++◌, map, Some, None, refl, inl, inr, sym, ap, subst, ◌∙◌, append-nil, append_assoc, eq-eqb}
use Rattle.std.proofs.lemmas.Bool.{cases_Bool, eqb-true, false≢true}
use Rattle.std.proofs.lemmas.Option.{same_Some}
use Rattle.pm_syn.specs.BadTokens.{AreOpenAfter, IsClosing, IsOpening, line_at}
use Rattle.pm_syn.specs.Reading.{bad_nesting, byte_of, closing_of, nested, nesting_of, unclosed, wrongly_closed}
use Rattle.pm_syn.specs.Spaces.{AreMatched, IsPair}
use Rattle.pm_syn.specs.declared.bracket.Bracket.{Bracket}
use Rattle.pm_syn.specs.declared.bracket.Nesting.{Nesting}
use Rattle.pm_syn.specs.declared.bracket.Nesting.TheVariants as nesting
use Rattle.pm_syn.specs.declared.token.Token.{Token}
use Rattle.pm_syn.proofs.BracketsClosed.{pair_closes}
use Rattle.pm_syn.proofs.MatchedBrackets.{closing_pair, fits_innermost, keeps_none, matched_append, none_keeps, opening_pair, pair_nests}

-- ---- brackets and what they do

opening_opens : (bytes : List ℕ) → IsOpening bytes → nesting_of bytes ≡ nesting.Opens
opening_opens bytes is = (pair_nests bytes is.0 is.1).0

pub closing_closes : (bytes : List ℕ) → IsClosing bytes → nesting_of bytes ≡ nesting.Closes
closing_closes bytes is = (pair_nests is.0 bytes is.1).1

opens_opening : (bytes : List ℕ) → nesting_of bytes ≡ nesting.Opens → IsOpening bytes
opens_opening bytes opens = (closing_of (byte_of bytes) ∷ [], opening_pair bytes opens)

pub closes_closing : (bytes : List ℕ) → nesting_of bytes ≡ nesting.Closes → IsClosing bytes
closes_closing bytes closes = (closing_pair bytes closes).0

-- an opening bracket and the closing one of its pair
pair_of_bytes : (opening closing : List ℕ) → IsOpening opening → nesting_of closing ≡ nesting.Closes → closing_of (byte_of opening) ≡ byte_of closing
    → IsPair opening closing
pair_of_bytes opening closing is closes same =
    let bytes : closing_of (byte_of opening) ∷ [] ≡ closing = ap (λ (byte : ℕ). byte ∷ []) same ∙ sym (closing_pair closing closes).1 in
    subst (IsPair opening) bytes (opening_pair opening (opening_opens opening is))

-- ---- from the tokens before to the brackets after them

-- what holds after a token, where these brackets are open before it
abbrev AfterToken : Nesting → Token → (List Token → Type 0) → List Token → Type 0
AfterToken nesting.Opens token later brackets = later (token ∷ brackets)
AfterToken nesting.Keeps token later brackets = later brackets
AfterToken nesting.Closes token later [] = ⊥
AfterToken nesting.Closes token later (innermost ∷ outer) = IsPair innermost.text token.text × later outer

-- the tokens leave these brackets open, where some are open before them
abbrev pub Leave : List Token → List Token → List Token → Type 0
Leave left [] brackets = brackets ≡ left
Leave left (token ∷ tokens) brackets = AfterToken (nesting_of token.text) token (Leave left tokens) brackets

-- tokens whose brackets match leave the others
matched_leave : (left tokens : List Token) → AreMatched tokens → (more brackets : List Token) → Leave left more brackets → Leave left (tokens ++ more) brackets
matched_leave left tokens AreMatched.nothing more brackets leave = leave
matched_leave left tokens (AreMatched.no_bracket token later none are) more brackets leave =
    let keeps = none_keeps token.text none (nesting_of token.text) refl in
    subst (λ (nests : Nesting). AfterToken nests token (Leave left (later ++ more)) brackets) (sym keeps) (
    matched_leave left later are more brackets leave)
matched_leave left tokens (AreMatched.pair opening inner closing later fits within are) more brackets leave =
    let nests = pair_nests opening.text closing.text fits in
    let rest : Leave left (later ++ more) brackets = matched_leave left later are more brackets leave in
    let closed : Leave left (closing ∷ (later ++ more)) (opening ∷ brackets) =
    subst (λ (nests : Nesting). AfterToken nests closing (Leave left (later ++ more)) (opening ∷ brackets)) (sym nests.1) (fits, rest) in
    let inside : Leave left (inner ++ closing ∷ (later ++ more)) (opening ∷ brackets) =
    matched_leave left inner within (closing ∷ (later ++ more)) (opening ∷ brackets) closed in
    let moved : Leave left ((inner ++ closing ∷ later) ++ more) (opening ∷ brackets) =
    subst (λ (rest : List Token). Leave left rest (opening ∷ brackets)) (sym (append_assoc inner (closing ∷ later) more)) inside in
    subst (λ (nests : Nesting). AfterToken nests opening (Leave left ((inner ++ closing ∷ later) ++ more)) brackets) (sym nests.0) moved

open_leave : (left brackets tokens : List Token) → AreOpenAfter brackets tokens → (more : List Token) → Leave left more brackets → Leave left (tokens ++ more) []
open_leave left [] tokens are more leave = matched_leave left tokens are more [] leave
open_leave left (bracket ∷ outer) tokens (prefix, inner, is, opening, are, within) more leave =
    let inside : Leave left (inner ++ more) (bracket ∷ outer) = matched_leave left inner within more (bracket ∷ outer) leave in
    let opened : Leave left (bracket ∷ (inner ++ more)) outer =
    subst (λ (nests : Nesting). AfterToken nests bracket (Leave left (inner ++ more)) outer) (sym (opening_opens bracket.text opening)) inside in
    subst (λ (all : List Token). Leave left all []) (sym (ap (λ (all : List Token). all ++ more) is ∙ append_assoc prefix (bracket ∷ inner) more)) (
    open_leave left outer prefix are (bracket ∷ (inner ++ more)) opened)

-- the brackets that are open after tokens are those that they leave
pub all_left : (brackets tokens : List Token) → AreOpenAfter brackets tokens → Leave brackets tokens []
all_left brackets tokens are =
    subst (λ (all : List Token). Leave brackets all []) (append-nil tokens) (open_leave brackets brackets tokens are [] refl)

-- ---- brackets as the reading has them

-- the bracket of a token
abbrev pub bracket_of : List ℕ → Token → Bracket
bracket_of text token = record { byte = byte_of token.text; line = line_at text token.start }

abbrev pub brackets_in : List ℕ → List Token → List Bracket
brackets_in text tokens = map (bracket_of text) tokens

-- the next token closes no bracket wrongly, and the others leave those that they leave
pub record IsNestedNext (text : List ℕ) (nests : Nesting) (line byte : ℕ) (later : List Token → Type 0) (brackets : List Token) : Type 0 where
  pub fits : bad_nesting nests line byte (brackets_in text brackets) ≡ None
  pub next : List Token
  pub later_holds : later next
  pub same : nested nests line byte (brackets_in text brackets) ≡ brackets_in text next

pub leave_next : (text : List ℕ) (nests : Nesting) (line : ℕ) (token : Token) (later : List Token → Type 0) (brackets : List Token)
    → line ≡ line_at text token.start → AfterToken nests token later brackets → IsNestedNext text nests line (byte_of token.text) later brackets
leave_next text nesting.Opens line token later brackets here holds = record {
  fits = refl;
  next = token ∷ brackets;
  later_holds = holds;
  same = ap (λ (n : ℕ). let bracket : Bracket = record { byte = byte_of token.text; line = n } in bracket ∷ brackets_in text brackets) here;
}
leave_next text nesting.Keeps line token later brackets here holds = record { fits = refl; next = brackets; later_holds = holds; same = refl }
leave_next text nesting.Closes line token later [] here holds = absurd holds
leave_next text nesting.Closes line token later (innermost ∷ outer) here holds = record {
  fits = rw (eq-eqb (closing_of (byte_of innermost.text)) (byte_of token.text) (pair_closes innermost.text token.text holds.0)) refl;
  next = outer;
  later_holds = holds.1;
  same = refl;
}

-- ---- one more token

open_more : (brackets tokens more : List Token) → AreOpenAfter brackets tokens → AreMatched more → AreOpenAfter brackets (tokens ++ more)
open_more [] tokens more are too = matched_append tokens more are too
open_more (bracket ∷ outer) tokens more (prefix, inner, is, opening, are, within) too =
    (prefix, inner ++ more, ap (λ (all : List Token). all ++ more) is ∙ append_assoc prefix (bracket ∷ inner) more, opening, are, matched_append inner more within too)

-- the brackets that are open after one more token
pub record AreOpenNext (text : List ℕ) (nests : Nesting) (line : ℕ) (token : Token) (brackets tokens : List Token) : Type 0 where
  pub next : List Token
  pub are : AreOpenAfter next (tokens ++ token ∷ [])
  pub same : nested nests line (byte_of token.text) (brackets_in text brackets) ≡ brackets_in text next

pub open_next : (text : List ℕ) (nests : Nesting) (line : ℕ) (token : Token) (brackets tokens : List Token) → nesting_of token.text ≡ nests
    → line ≡ line_at text token.start → bad_nesting nests line (byte_of token.text) (brackets_in text brackets) ≡ None
    → AreOpenAfter brackets tokens → AreOpenNext text nests line token brackets tokens
open_next text nesting.Keeps line token brackets tokens is here fits are = record {
  next = brackets;
  are = open_more brackets tokens (token ∷ []) are (AreMatched.no_bracket token [] (keeps_none token.text is) AreMatched.nothing);
  same = refl;
}
open_next text nesting.Opens line token brackets tokens is here fits are = record {
  next = token ∷ brackets;
  are = (tokens, [], refl, opens_opening token.text is, are, AreMatched.nothing);
  same = ap (λ (n : ℕ). let bracket : Bracket = record { byte = byte_of token.text; line = n } in bracket ∷ brackets_in text brackets) here;
}
open_next text nesting.Closes line token [] tokens is here fits are = absurd (cc)
open_next text nesting.Closes line token (innermost ∷ outer) tokens is here fits (prefix, inner, all, opening, are, within) =
    let same = fits_innermost line (byte_of token.text) (bracket_of text innermost) (brackets_in text outer) fits in
    let pair : IsPair innermost.text token.text = pair_of_bytes innermost.text token.text opening is same in
    record {
      next = outer;
      are = subst (AreOpenAfter outer) (sym (ap (λ (known : List Token). known ++ token ∷ []) all ∙ append_assoc prefix (innermost ∷ inner) (token ∷ []))) (
          open_more outer prefix (innermost ∷ (inner ++ token ∷ [])) are (AreMatched.pair innermost inner token [] pair within AreMatched.nothing));
      same = refl;
    }

-- ---- brackets that don't fit

-- a closing bracket that doesn't fit: none is open, or the innermost open one is of another pair
pub wrong_closing : (text bytes : List ℕ) (line named : ℕ) (brackets tokens : List Token) → nesting_of bytes ≡ nesting.Closes → AreOpenAfter brackets tokens
    → wrongly_closed line (byte_of bytes) (brackets_in text brackets) ≡ Some named
    → ((brackets ≡ []) × (line ≡ named)) ⊎ ((innermost : Token) × (outer : List Token) × (brackets ≡ innermost ∷ outer) × (line_at text innermost.start ≡ named) × (IsPair innermost.text bytes → ⊥))
wrong_closing text bytes line named [] tokens closes are is = inl (refl, same_Some line named is)
wrong_closing text bytes line named (innermost ∷ outer) tokens closes are is = elim (cases_Bool (closing_of (byte_of innermost.text) == byte_of bytes)) [
  | inl fits ↦ let wrong : None ≡ Some named = rw fits at is in absurd (cc)
  | inr other ↦ inr (
    innermost,
    outer,
    refl,
    same_Some (line_at text innermost.start) named (rw other at is),
    λ pair. false≢true (sym other ∙ eq-eqb (closing_of (byte_of innermost.text)) (byte_of bytes) (pair_closes innermost.text bytes pair)),
  )
]

-- the innermost open bracket is of another pair
pub wrong_pair : (text bytes : List ℕ) (line : ℕ) (innermost : Token) (outer tokens : List Token) → nesting_of bytes ≡ nesting.Closes
    → AreOpenAfter (innermost ∷ outer) tokens → (IsPair innermost.text bytes → ⊥)
    → wrongly_closed line (byte_of bytes) (brackets_in text (innermost ∷ outer)) ≡ Some (line_at text innermost.start)
wrong_pair text bytes line innermost outer tokens closes (prefix, inner, is, opening, are, within) other = elim (cases_Bool (closing_of (byte_of innermost.text) == byte_of bytes)) [
  | inl fits ↦ absurd (other (pair_of_bytes innermost.text bytes opening closes (eqb-true (closing_of (byte_of innermost.text)) (byte_of bytes) fits)))
  | inr apart ↦ rw apart refl
]

-- the outermost of brackets that are open
pub outermost_of : (text : List ℕ) (brackets : List Token) (line : ℕ) → unclosed (brackets_in text brackets) ≡ Some line
    → (inner : List Token) × (outermost : Token) × (brackets ≡ inner ++ outermost ∷ []) × (line_at text outermost.start ≡ line)
outermost_of text [] line is = absurd (cc)
outermost_of text (outermost ∷ []) line is = ([], outermost, refl, same_Some (line_at text outermost.start) line is)
outermost_of text (bracket ∷ next ∷ brackets) line is =
    let rest = outermost_of text (next ∷ brackets) line is in
    (bracket ∷ rest.0, rest.1, ap (λ (all : List Token). bracket ∷ all) rest.2, rest.3)

pub unclosed_outermost : (text : List ℕ) (inner : List Token) (outermost : Token) → unclosed (brackets_in text (inner ++ outermost ∷ [])) ≡ Some (line_at text outermost.start)
unclosed_outermost text [] outermost = refl
unclosed_outermost text (bracket ∷ []) outermost = refl
unclosed_outermost text (bracket ∷ next ∷ inner) outermost = unclosed_outermost text (next ∷ inner) outermost
