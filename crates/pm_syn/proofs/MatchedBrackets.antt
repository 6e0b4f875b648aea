-- Proof that the brackets of each logical line match.
use Rattle.std.proofs.Common.{◌≡◌, ◌⊎◌, ◌+◌, ℕ, Bool, true, false, if◌then◌else◌, List, [], ◌∷◌, ◌++◌, length, arith, refl, inl, inr, sym, ap, subst, ◌∙◌, append_assoc}
use Rattle.std.specs.Prelude.{All, Option, None, Some}
use Rattle.std.specs.Option.{option_to_list}
use Rattle.std.proofs.lemmas.Bool.Decides.{nat_tests}
use Rattle.std.proofs.lemmas.List.{nil_from_length}
use Rattle.std.proofs.lemmas.List.Elements.{All-nil, All-cons, All-append}
use Rattle.pm_syn.specs.Bytes.{IsLineEnd}
use Rattle.pm_syn.specs.Lexemes.{IsGap, Lexeme, Stands}
use Rattle.pm_syn.specs.LogicalLines.{begun_after, begun_line, continued, drafts_of, ended_after, ended_lines, token_of}
use Rattle.pm_syn.specs.Positions.{last_line}
use Rattle.pm_syn.specs.Reading.{Reads, Stops, are_closed, bad_nesting, brackets_of, byte_of, bytes_of, closing_of, is_name_after_number, line_of, misfit, nested, nesting_of, sort_before, unclosed, wrongly_closed}
use Rattle.pm_syn.specs.Spaces.{AreMatched, IsBracket, IsPair}
use Rattle.pm_syn.specs.declared.bracket.Bracket.{Bracket}
use Rattle.pm_syn.specs.declared.bracket.Nesting.{Nesting}
use Rattle.pm_syn.specs.declared.bracket.Nesting.TheVariants as nesting
use Rattle.pm_syn.specs.declared.draft.Draft.{Draft}
use Rattle.pm_syn.specs.declared.lexeme.Sort.{Sort}
use Rattle.pm_syn.specs.declared.lexeme.Sort.TheVariants as sort
use Rattle.pm_syn.specs.declared.token.Token.{Token}
use Rattle.pm_syn.proofs.OneReading.{read_one, stop_cases}

-- ---- one token

opening_byte : (a : ℕ) → nesting_of (a ∷ []) ≡ nesting.Opens → (a ≡ 40) ⊎ (a ≡ 91) ⊎ (a ≡ 123)
opening_byte a opens = grind (arith, nat_tests)

closing_byte : (a : ℕ) → nesting_of (a ∷ []) ≡ nesting.Closes → (a ≡ 41) ⊎ (a ≡ 93) ⊎ (a ≡ 125)
closing_byte a closes = grind (arith, nat_tests)

-- an opening bracket's pair
pub opening_pair : (bytes : List ℕ) → nesting_of bytes ≡ nesting.Opens → IsPair bytes (closing_of (byte_of bytes) ∷ [])
opening_pair [] opens = absurd (cc)
opening_pair (a ∷ b ∷ bytes) opens = absurd (cc)
opening_pair (a ∷ []) opens =
    let P : ℕ → Type 0 = λ byte. IsPair (byte ∷ []) (closing_of byte ∷ []) in
    elim (opening_byte a opens) [
      | inl round ↦ subst P (sym round) (inl (refl, refl))
      | inr (inl square) ↦ subst P (sym square) (inr (inl (refl, refl)))
      | inr (inr curly) ↦ subst P (sym curly) (inr (inr (refl, refl)))
    ]

-- a closing bracket's pair, and its only byte
pub closing_pair : (bytes : List ℕ) → nesting_of bytes ≡ nesting.Closes → ((opening : List ℕ) × IsPair opening bytes) × (bytes ≡ byte_of bytes ∷ [])
closing_pair [] closes = absurd (cc)
closing_pair (a ∷ b ∷ bytes) closes = absurd (cc)
closing_pair (a ∷ []) closes =
    let P : ℕ → Type 0 = λ byte. (opening : List ℕ) × IsPair opening (byte ∷ []) in (
      elim (closing_byte a closes) [
        | inl round ↦ subst P (sym round) (40 ∷ [], inl (refl, refl))
        | inr (inl square) ↦ subst P (sym square) (91 ∷ [], inr (inl (refl, refl)))
        | inr (inr curly) ↦ subst P (sym curly) (123 ∷ [], inr (inr (refl, refl)))
      ],
      refl,
    )

-- what the brackets of a pair do
pub pair_nests : (opening closing : List ℕ) → IsPair opening closing → (nesting_of opening ≡ nesting.Opens) × (nesting_of closing ≡ nesting.Closes)
pair_nests opening closing (inl round) = (ap nesting_of round.0, ap nesting_of round.1)
pair_nests opening closing (inr (inl square)) = (ap nesting_of square.0, ap nesting_of square.1)
pair_nests opening closing (inr (inr curly)) = (ap nesting_of curly.0, ap nesting_of curly.1)

-- what keeps the brackets is none
pub keeps_none : (bytes : List ℕ) → nesting_of bytes ≡ nesting.Keeps → IsBracket bytes → ⊥
keeps_none bytes keeps (other, inl opening) = let opens = (pair_nests bytes other opening).0 in cc
keeps_none bytes keeps (other, inr closing) = let closes = (pair_nests other bytes closing).1 in cc

-- what is no bracket keeps them
pub none_keeps : (bytes : List ℕ) → (IsBracket bytes → ⊥) → (nests : Nesting) → nesting_of bytes ≡ nests → nesting_of bytes ≡ nesting.Keeps
none_keeps bytes none nesting.Opens is = absurd (none (closing_of (byte_of bytes) ∷ [], inl (opening_pair bytes is)))
none_keeps bytes none nesting.Closes is = let pair = (closing_pair bytes is).0 in absurd (none (pair.0, inr pair.1))
none_keeps bytes none nesting.Keeps is = is

-- ---- tokens whose brackets match

pub matched_append : (tokens more : List Token) → AreMatched tokens → AreMatched more → AreMatched (tokens ++ more)
matched_append tokens more AreMatched.nothing too = too
matched_append tokens more (AreMatched.no_bracket token after none are) too = AreMatched.no_bracket token (after ++ more) none (matched_append after more are too)
matched_append tokens more (AreMatched.pair opening inner closing after fits within are) too =
    subst (λ (rest : List Token). AreMatched (opening ∷ rest)) (sym (append_assoc inner (closing ∷ after) more)) (
    AreMatched.pair opening inner closing (after ++ more) fits within (matched_append after more are too))

-- these brackets are open after the tokens, from the innermost to the outermost, and the others match
abbrev pub AreOpen : List Bracket → List Token → Type 0
AreOpen [] tokens = AreMatched tokens
AreOpen (bracket ∷ outer) tokens =
    (prefix : List Token) × (opening : Token) × (inner : List Token) × (tokens ≡ prefix ++ opening ∷ inner)
    × IsPair opening.text (closing_of bracket.byte ∷ []) × AreOpen outer prefix × AreMatched inner

open_append : (brackets : List Bracket) (tokens more : List Token) → AreOpen brackets tokens → AreMatched more → AreOpen brackets (tokens ++ more)
open_append [] tokens more are too = matched_append tokens more are too
open_append (bracket ∷ outer) tokens more (prefix, opening, inner, is, pair, are, within) too =
    (prefix, opening, inner ++ more, ap (λ (all : List Token). all ++ more) is ∙ append_assoc prefix (opening ∷ inner) more, pair, are, matched_append inner more within too)

-- the innermost open bracket is closed by the byte that fits it
pub fits_innermost : (line byte : ℕ) (innermost : Bracket) (outer : List Bracket) → wrongly_closed line byte (innermost ∷ outer) ≡ None → closing_of innermost.byte ≡ byte
fits_innermost line byte innermost outer none = grind (arith, nat_tests)

-- one more token
open_with : (nests : Nesting) (line : ℕ) (token : Token) (brackets : List Bracket) (tokens : List Token) → nesting_of token.text ≡ nests
    → bad_nesting nests line (byte_of token.text) brackets ≡ None → AreOpen brackets tokens
    → AreOpen (nested nests line (byte_of token.text) brackets) (tokens ++ token ∷ [])
open_with nesting.Keeps line token brackets tokens is fits are =
    open_append brackets tokens (token ∷ []) are (AreMatched.no_bracket token [] (keeps_none token.text is) AreMatched.nothing)
open_with nesting.Opens line token brackets tokens is fits are =
    (tokens, token, [], refl, opening_pair token.text is, are, AreMatched.nothing)
open_with nesting.Closes line token [] tokens is fits are = absurd (cc)
open_with nesting.Closes line token (innermost ∷ outer) tokens is fits (prefix, opening, inner, all, pair, are, within) =
    let closing : closing_of innermost.byte ∷ [] ≡ token.text =
    ap (λ (byte : ℕ). byte ∷ []) (fits_innermost line (byte_of token.text) innermost outer fits) ∙ sym (closing_pair token.text is).1 in
    subst (AreOpen outer) (sym (ap (λ (known : List Token). known ++ token ∷ []) all ∙ append_assoc prefix (opening ∷ inner) (token ∷ []))) (
    open_append outer prefix (opening ∷ (inner ++ token ∷ [])) are (
    AreMatched.pair opening inner token [] (subst (IsPair opening.text) closing pair) within AreMatched.nothing))

-- ---- how many brackets are open

-- how many brackets something opens, and how many it closes
abbrev opens : Nesting → ℕ
opens nesting.Opens = 1
opens nesting.Closes = 0
opens nesting.Keeps = 0

abbrev closes : Nesting → ℕ
closes nesting.Opens = 0
closes nesting.Closes = 1
closes nesting.Keeps = 0

-- the same for all tokens
abbrev count_of : (Nesting → ℕ) → List Token → ℕ
count_of counted [] = 0
count_of counted (token ∷ tokens) = counted (nesting_of token.text) + count_of counted tokens

count_append : (counted : Nesting → ℕ) (tokens more : List Token) → count_of counted (tokens ++ more) ≡ count_of counted tokens + count_of counted more
count_append counted [] more = omega arith
count_append counted (token ∷ tokens) more = let rest = count_append counted tokens more in omega (arith, rest)

-- brackets that match are opened and closed as often
matched_count : (tokens : List Token) → AreMatched tokens → count_of opens tokens ≡ count_of closes tokens
matched_count tokens AreMatched.nothing = refl
matched_count tokens (AreMatched.no_bracket token more none are) =
    let keeps = none_keeps token.text none (nesting_of token.text) refl in
    let opened : opens (nesting_of token.text) ≡ 0 = ap opens keeps in
    let closed : closes (nesting_of token.text) ≡ 0 = ap closes keeps in
    omega (arith, opened, closed, matched_count more are)
matched_count tokens (AreMatched.pair opening inner closing more fits within are) =
    let nests = pair_nests opening.text closing.text fits in
    let opened : opens (nesting_of opening.text) ≡ 1 = ap opens nests.0 in
    let unclosed : closes (nesting_of opening.text) ≡ 0 = ap closes nests.0 in
    let unopened : opens (nesting_of closing.text) ≡ 0 = ap opens nests.1 in
    let closed : closes (nesting_of closing.text) ≡ 1 = ap closes nests.1 in
    omega (
      arith,
      opened,
      unclosed,
      unopened,
      closed,
      count_append opens inner (closing ∷ more),
      count_append closes inner (closing ∷ more),
      matched_count inner within,
      matched_count more are,
    )

-- the open brackets are those that weren't closed
open_count : (brackets : List Bracket) (tokens : List Token) → AreOpen brackets tokens
    → count_of opens tokens ≡ count_of closes tokens + length brackets
open_count [] tokens are = omega (arith, matched_count tokens are)
open_count (bracket ∷ outer) tokens (prefix, opening, inner, is, pair, are, within) =
    let nests = pair_nests opening.text _ pair in
    let opened : opens (nesting_of opening.text) ≡ 1 = ap opens nests.0 in
    let unclosed : closes (nesting_of opening.text) ≡ 0 = ap closes nests.0 in
    omega (
      arith,
      opened,
      unclosed,
      ap (count_of opens) is,
      ap (count_of closes) is,
      count_append opens prefix (opening ∷ inner),
      count_append closes prefix (opening ∷ inner),
      matched_count inner within,
      open_count outer prefix are,
    )

-- where the brackets of the tokens match, none is open
pub none_open : (brackets : List Bracket) (tokens : List Token) → AreOpen brackets tokens → AreMatched tokens → brackets ≡ []
none_open brackets tokens are matched = nil_from_length brackets (omega (arith, open_count brackets tokens are, matched_count tokens matched))

-- ---- lexemes that are read

-- a byte that keeps the brackets does so with more bytes
keeps_after : (a : ℕ) (bytes : List ℕ) → nesting_of (a ∷ []) ≡ nesting.Keeps → nesting_of (a ∷ bytes) ≡ nesting.Keeps
keeps_after a [] keeps = keeps
keeps_after a (b ∷ bytes) keeps = refl

pub gap_keeps : (bytes after : List ℕ) → IsGap bytes after → nesting_of bytes ≡ nesting.Keeps
gap_keeps bytes after (inl blank) = ap nesting_of blank
gap_keeps bytes after (inr (inl tab)) = ap nesting_of tab
gap_keeps bytes after (inr (inr (inl comment))) = ap nesting_of comment.spelled ∙ keeps_after 35 comment.text refl
gap_keeps bytes after (inr (inr (inr joining))) = ap nesting_of joining.spelled ∙ keeps_after 92 joining.line_end refl

pub line_end_keeps : (bytes : List ℕ) → IsLineEnd bytes → nesting_of bytes ≡ nesting.Keeps
line_end_keeps bytes (inl short) = ap nesting_of short
line_end_keeps bytes (inr long) = ap nesting_of long

-- the tokens of the logical line that has begun
abbrev pub tokens_begun : Option Draft → List Token
tokens_begun None = []
tokens_begun (Some draft) = draft.tokens

-- a line end
open_after_end : (brackets : List Bracket) (begun : Option Draft) → AreOpen brackets (tokens_begun begun)
    → AreOpen brackets (tokens_begun (if are_closed brackets then None else begun))
open_after_end [] begun are = AreMatched.nothing
open_after_end (bracket ∷ outer) begun are = are

-- a token
tokens_continued : (line : ℕ) (indent : List ℕ) (begun : Option Draft) (token : Token)
    → (continued line indent begun token).tokens ≡ tokens_begun begun ++ token ∷ []
tokens_continued line indent None token = refl
tokens_continued line indent (Some draft) token = refl

-- the brackets of a lexeme that is no misfit fit
pub nesting_fits : (after_number : Bool) (line : ℕ) (bad : Option ℕ) → (if after_number then Some line else bad) ≡ None → bad ≡ None
nesting_fits true line bad fits = absurd (cc)
nesting_fits false line bad fits = fits

open_with_lexeme : (before : List Lexeme) (sort : Sort) (bytes after : List ℕ) → Stands sort bytes after
    → misfit before (record { sort = sort; bytes = bytes }) ≡ None → AreOpen (brackets_of before) (tokens_begun (begun_line before))
    → AreOpen (nested (nesting_of bytes) (line_of before) (byte_of bytes) (brackets_of before)) (tokens_begun (begun_after before bytes sort (begun_line before)))
open_with_lexeme before sort.Gap bytes after stands fits are = rw (gap_keeps bytes after stands) are
open_with_lexeme before sort.LineEnd bytes after stands fits are =
    rw (line_end_keeps bytes stands) (open_after_end (brackets_of before) (begun_line before) are)
open_with_lexeme before (sort.Token kind) bytes after stands fits are =
    let token : Token = token_of before kind bytes in
    let bad : Option ℕ = bad_nesting (nesting_of bytes) (line_of before) (byte_of bytes) (brackets_of before) in
    subst (AreOpen (nested (nesting_of bytes) (line_of before) (byte_of bytes) (brackets_of before))) (
    sym (tokens_continued (line_of before) (last_line (bytes_of before)) (begun_line before) token)) (
    open_with (nesting_of bytes) (line_of before) token (brackets_of before) (tokens_begun (begun_line before)) refl (
    nesting_fits (is_name_after_number (sort_before before) (sort.Token kind)) (line_of before) bad fits) are)

-- the open brackets are those of the logical line that has begun
pub open_after : (text : List ℕ) (before : List Lexeme) (rest : List ℕ) → Reads text before rest
    → AreOpen (brackets_of before) (tokens_begun (begun_line before))
open_after text [] rest read = AreMatched.nothing
open_after text (lexeme ∷ before) rest read =
    let last = read_one text lexeme before rest read in
    open_with_lexeme before lexeme.sort lexeme.bytes rest last.1 last.2 (open_after text before (lexeme.bytes ++ rest) last.0)

-- ---- logical lines

-- the brackets of the logical line match
abbrev pub IsMatched : Draft → Type 0
IsMatched draft = AreMatched draft.tokens

-- the logical line that has begun, where no bracket is open
begun_matched : (begun : Option Draft) → AreMatched (tokens_begun begun) → All IsMatched (option_to_list begun)
begun_matched None are = All-nil IsMatched
begun_matched (Some draft) are = All-cons IsMatched draft [] are (All-nil IsMatched)

-- with the logical line that a line end ends
matched_after_end : (brackets : List Bracket) (ended : List Draft) (begun : Option Draft) → AreOpen brackets (tokens_begun begun) → All IsMatched ended
    → All IsMatched (if are_closed brackets then ended ++ option_to_list begun else ended)
matched_after_end [] ended begun are matched = All-append IsMatched ended (option_to_list begun) matched (begun_matched begun are)
matched_after_end (bracket ∷ outer) ended begun are matched = matched

matched_with : (before : List Lexeme) (sort : Sort) → AreOpen (brackets_of before) (tokens_begun (begun_line before))
    → All IsMatched (ended_lines before) → All IsMatched (ended_after before sort (ended_lines before))
matched_with before sort.Gap are matched = matched
matched_with before sort.LineEnd are matched = matched_after_end (brackets_of before) (ended_lines before) (begun_line before) are matched
matched_with before (sort.Token kind) are matched = matched

ended_matched : (text : List ℕ) (before : List Lexeme) (rest : List ℕ) → Reads text before rest → All IsMatched (ended_lines before)
ended_matched text [] rest read = All-nil IsMatched
ended_matched text (lexeme ∷ before) rest read =
    let last = read_one text lexeme before rest read in
    matched_with before lexeme.sort (open_after text before (lexeme.bytes ++ rest) last.0) (ended_matched text before (lexeme.bytes ++ rest) last.0)

unclosed_none : (brackets : List Bracket) → unclosed brackets ≡ None → brackets ≡ []
unclosed_none [] none = refl
unclosed_none (outermost ∷ []) none = absurd (cc)
unclosed_none (inner ∷ outer ∷ brackets) none = let rest = unclosed_none (outer ∷ brackets) none in absurd (cc)

-- no bracket is open where a text without a bad token ends
closed_at_end : (before : List Lexeme) → Stops before [] None → brackets_of before ≡ []
closed_at_end before stops = elim (stop_cases before [] None stops) [
  | inl ended ↦ unclosed_none (brackets_of before) (sym ended.1)
  | inr (inl none) ↦ let named = none.named in absurd (cc)
  | inr (inr bad) ↦ let named = bad.named in absurd (cc)
]

-- the brackets of each logical line of a text match
pub all_matched : (text : List ℕ) (before : List Lexeme) → Reads text before [] → Stops before [] None → All IsMatched (drafts_of before)
all_matched text before read stops =
    let are = open_after text before [] read in
    let last : AreMatched (tokens_begun (begun_line before)) =
    subst (λ (brackets : List Bracket). AreOpen brackets (tokens_begun (begun_line before))) (closed_at_end before stops) are in
    All-append IsMatched (ended_lines before) (option_to_list (begun_line before)) (ended_matched text before [] read) (begun_matched (begun_line before) last)
