-- Proof that a reading which stops at a bad token has found one.
use Rattle.std.proofs.Common.{◌≡◌, ℕ, true, List, [], ◌∷◌, ◌++◌, length, take, drop, Option, Some, None, refl, inl, inr, sym, ap, subst, ◌∙◌, append-nil, arith}
use Rattle.std.specs.Prelude.{All}
use Rattle.std.proofs.Math.Seq.{drop-append_seam, take-append_seam}
use Rattle.std.proofs.lemmas.Bool.{cases_Bool, false≢true}
use Rattle.std.proofs.lemmas.List.{length-append}
use Rattle.std.proofs.lemmas.List.Elements.{All-append, All-head, All-nil, All-tail}
use Rattle.std.proofs.lemmas.Option.{same_Some}
use Rattle.pm_syn.specs.BadTokens.{AreOpenAfter, AreTokensUpTo, BeginsNothing, HasBadToken, HasWideLiteral, line_at}
use Rattle.pm_syn.specs.CutLines.{IsCutFrom}
use Rattle.pm_syn.specs.Lexemes.{Lexeme, Stands}
use Rattle.pm_syn.specs.LogicalLines.{begun_line, drafts_of, ended_lines, token_of}
use Rattle.pm_syn.specs.Operators.{is_operator}
use Rattle.pm_syn.specs.Positions.{last_line, line_after}
use Rattle.pm_syn.specs.Progress.{named}
use Rattle.pm_syn.specs.Reading.{Reads, Stops, are_closed, bad_nesting, brackets_of, byte_of, bytes_of, is_name_after_number, line_of, misfit, nested, nesting_of, sort_before, unclosed}
use Rattle.pm_syn.specs.Spaces.{AreMatched, IsSpacedUpTo}
use Rattle.pm_syn.specs.Tokens.{IsLongestToken}
use Rattle.pm_syn.specs.declared.bracket.Bracket.{Bracket}
use Rattle.pm_syn.specs.declared.bracket.Nesting.{Nesting}
use Rattle.pm_syn.specs.declared.bracket.Nesting.TheVariants as nesting
use Rattle.pm_syn.specs.declared.draft.Draft.{Draft}
use Rattle.pm_syn.specs.declared.lexeme.Sort.{Sort}
use Rattle.pm_syn.specs.declared.lexeme.Sort.TheVariants as sort
use Rattle.pm_syn.specs.declared.token.Token.{Token}
use Rattle.pm_syn.specs.declared.token.TokenKind.{TokenKind}
use Rattle.pm_syn.specs.declared.token.TokenKind.TheVariants as kind
use Rattle.pm_syn.proofs.BracketsOpened.{brackets_in, closes_closing, open_next, outermost_of, wrong_closing}
use Rattle.pm_syn.proofs.CutFromText.{IsReadFrom, all_read, lines-line_end, lines_with, tokens-continued, tokens_in, whole}
use Rattle.pm_syn.proofs.HeadsDecided.{decided}
use Rattle.pm_syn.proofs.MatchedBrackets.{gap_keeps, line_end_keeps, nesting_fits}
use Rattle.pm_syn.proofs.NumbersApart.{all_separated}
use Rattle.pm_syn.proofs.OneReading.{HasNoLexeme, read_one, stop_cases}
use Rattle.pm_syn.proofs.SpaceBetween.{no_space, spaced}
use Rattle.pm_syn.proofs.TokenKinds.{one_kind}

-- ---- what was read, as tokens

-- the brackets that are open after what was read
record AreOpenHere (text : List ℕ) (before : List Lexeme) (tokens : List Token) : Type 0 where
  brackets : List Token
  are : AreOpenAfter brackets tokens
  same : brackets_of before ≡ brackets_in text brackets

-- a lexeme that keeps the brackets
kept_open : (text : List ℕ) (before : List Lexeme) (lexeme : Lexeme) (tokens : List Token) → nesting_of lexeme.bytes ≡ nesting.Keeps
    → AreOpenHere text before tokens → AreOpenHere text (lexeme ∷ before) tokens
kept_open text before lexeme tokens keeps here = record {
  brackets = here.brackets;
  are = here.are;
  same = ap (λ (nests : Nesting). nested nests (line_of before) (byte_of lexeme.bytes) (brackets_of before)) keeps ∙ here.same;
}

-- a token
token_open : (text : List ℕ) (before : List Lexeme) (token : Token) (tokens : List Token) (kept : Sort) → line_of before ≡ line_at text token.start
    → bad_nesting (nesting_of token.text) (line_of before) (byte_of token.text) (brackets_of before) ≡ None
    → AreOpenHere text before tokens → AreOpenHere text (record { sort = kept; bytes = token.text } ∷ before) (tokens ++ token ∷ [])
token_open text before token tokens kept line fits here =
    let moved : bad_nesting (nesting_of token.text) (line_of before) (byte_of token.text) (brackets_in text here.brackets) ≡ None =
    ap (λ (all : List Bracket). bad_nesting (nesting_of token.text) (line_of before) (byte_of token.text) all) (sym here.same) ∙ fits in
    let next = open_next text (nesting_of token.text) (line_of before) token here.brackets tokens refl line moved here.are in
    record {
      brackets = next.next;
      are = next.are;
      same = ap (λ (all : List Bracket). nested (nesting_of token.text) (line_of before) (byte_of token.text) all) here.same ∙ next.same;
    }

-- the line of what follows
line_here : (text : List ℕ) (before : List Lexeme) (rest : List ℕ) → Reads text before rest → line_of before ≡ line_at text (length (bytes_of before))
line_here text before rest read =
    ap line_after (sym (ap (λ (all : List ℕ). take (length (bytes_of before)) all) (whole text before rest read) ∙ take-append_seam (bytes_of before) rest))

open_with : (text : List ℕ) (before : List Lexeme) (kept : Sort) (bytes rest : List ℕ) → Reads text before (bytes ++ rest) → Stands kept bytes rest
    → misfit before (record { sort = kept; bytes = bytes }) ≡ None → AreOpenHere text before (tokens_in (drafts_of before))
    → AreOpenHere text (record { sort = kept; bytes = bytes } ∷ before) (tokens_in (lines_with before kept bytes))
open_with text before sort.Gap bytes rest read stands fits here =
    kept_open text before (record { sort = sort.Gap; bytes = bytes }) (tokens_in (drafts_of before)) (gap_keeps bytes rest stands) here
open_with text before sort.LineEnd bytes rest read stands fits here =
    subst (λ (drafts : List Draft). AreOpenHere text (record { sort = sort.LineEnd; bytes = bytes } ∷ before) (tokens_in drafts)) (
    sym (lines-line_end (are_closed (brackets_of before)) (ended_lines before) (begun_line before))) (
    kept_open text before (record { sort = sort.LineEnd; bytes = bytes }) (tokens_in (drafts_of before)) (line_end_keeps bytes stands) here)
open_with text before (sort.Token kept) bytes rest read stands fits here =
    let bad : Option ℕ = bad_nesting (nesting_of bytes) (line_of before) (byte_of bytes) (brackets_of before) in
    subst (AreOpenHere text (record { sort = sort.Token kept; bytes = bytes } ∷ before)) (
    sym (tokens-continued (line_of before) (last_line (bytes_of before)) (ended_lines before) (begun_line before) (token_of before kept bytes))) (
    token_open text before (token_of before kept bytes) (tokens_in (drafts_of before)) (sort.Token kept) (line_here text before (bytes ++ rest) read) (
    nesting_fits (is_name_after_number (sort_before before) (sort.Token kept)) (line_of before) bad fits) here)

open_here : (text : List ℕ) (before : List Lexeme) (rest : List ℕ) → Reads text before rest → AreOpenHere text before (tokens_in (drafts_of before))
open_here text [] rest read = record { brackets = []; are = AreMatched.nothing; same = refl }
open_here text (lexeme ∷ before) rest read =
    let last = read_one text lexeme before rest read in
    open_with text before lexeme.sort lexeme.bytes rest last.0 last.1 last.2 (open_here text before (lexeme.bytes ++ rest) last.0)

-- the tokens of all logical lines are cut from the text
tokens_cut : (text : List ℕ) (drafts : List Draft) → All (IsReadFrom text) drafts → All (IsCutFrom text) (tokens_in drafts)
tokens_cut text [] all = All-nil (IsCutFrom text)
tokens_cut text (draft ∷ drafts) all =
    let first = All-head (IsReadFrom text) draft drafts all in
    All-append (IsCutFrom text) draft.tokens (tokens_in drafts) first.cut (tokens_cut text drafts (All-tail (IsReadFrom text) draft drafts all))

-- what was read, up to the position that was reached
up_to_here : (text : List ℕ) (before : List Lexeme) (rest : List ℕ) → Reads text before rest → (here : AreOpenHere text before (tokens_in (drafts_of before)))
    → AreTokensUpTo text (length (bytes_of before)) (tokens_in (drafts_of before)) here.brackets
up_to_here text before rest read here =
    let position : ℕ = length (bytes_of before) in
    record {
      within = omega (arith, ap length (whole text before rest read), length-append (bytes_of before) rest);
      cut = tokens_cut text (drafts_of before) (all_read text before rest read);
      separated = all_separated text before rest read;
      spaced = subst (IsSpacedUpTo text position 0) (append-nil (tokens_in (drafts_of before))) (
          spaced text position before rest read [] (0, no_space text position));
      nested = here.are;
    }

rest_here : (text : List ℕ) (before : List Lexeme) (rest : List ℕ) → Reads text before rest → drop (length (bytes_of before)) text ≡ rest
rest_here text before rest read =
    ap (λ (all : List ℕ). drop (length (bytes_of before)) all) (whole text before rest read) ∙ drop-append_seam (bytes_of before) rest

-- ---- where there is no lexeme

found_no_lexeme : (text : List ℕ) (before : List Lexeme) (rest : List ℕ) → Reads text before rest → (none : HasNoLexeme before rest (Some (line_of before)))
    → HasBadToken text (line_of before)
found_no_lexeme text before [] read none = absurd (none.some refl)
found_no_lexeme text before (a ∷ others) read none =
    let here = open_here text before (a ∷ others) read in
    let up = up_to_here text before (a ∷ others) read here in
    let left = rest_here text before (a ∷ others) read in
    subst (HasBadToken text) (sym (line_here text before (a ∷ others) read)) (elim (decided a others) [
      | inl found ↦ absurd (none.no_lexeme found.lexeme found.after found.is found.stands)
      | inr (inl wide) ↦
          HasBadToken.too_wide (length (bytes_of before)) (tokens_in (drafts_of before)) here.brackets up (subst HasWideLiteral (sym left) wide)
      | inr (inr nothing) ↦
          HasBadToken.nothing_begins (length (bytes_of before)) (tokens_in (drafts_of before)) here.brackets up (
          omega (arith, ap length (whole text before (a ∷ others) read), length-append (bytes_of before) (a ∷ others))) (
          subst BeginsNothing (sym left) nothing)
    ])

-- ---- a misfit

-- a name after a number
after_number : (last kept : Sort) → is_name_after_number last kept ≡ true → (number : ℕ) × (last ≡ sort.Token (kind.Int number)) × (kept ≡ sort.Token kind.Name)
after_number (sort.Token (kind.Int number)) (sort.Token kind.Name) is = (number, refl, refl)
after_number _ _ is = absurd (false≢true is)

-- the number is the last token
last_number : (text : List ℕ) (before : List Lexeme) (rest : List ℕ) (number : ℕ) → Reads text before rest → sort_before before ≡ sort.Token (kind.Int number)
    → (prefix : List Token) × (token : Token) × (tokens_in (drafts_of before) ≡ prefix ++ token ∷ []) × (token.kind ≡ kind.Int number) × (token.end ≡ length (bytes_of before))
last_number text [] rest number read is = absurd (cc)
last_number text (lexeme ∷ before) rest number read is =
    let token : Token = token_of before (kind.Int number) lexeme.bytes in (
      tokens_in (drafts_of before),
      token,
      ap (λ (kept : Sort). tokens_in (lines_with before kept lexeme.bytes)) is
          ∙ tokens-continued (line_of before) (last_line (bytes_of before)) (ended_lines before) (begun_line before) token,
      refl,
      sym (length-append (bytes_of before) lexeme.bytes),
    )

found_name : (text : List ℕ) (before : List Lexeme) (lexeme : Lexeme) (after : List ℕ) → Reads text before (lexeme.bytes ++ after)
    → Stands lexeme.sort lexeme.bytes after → is_name_after_number (sort_before before) lexeme.sort ≡ true → HasBadToken text (line_of before)
found_name text before lexeme after read stands is =
    let rest = lexeme.bytes ++ after in
    let number = after_number (sort_before before) lexeme.sort is in
    let here = open_here text before rest read in
    let last = last_number text before rest number.0 read number.1 in
    let name : Stands (sort.Token kind.Name) lexeme.bytes after = subst (λ (kept : Sort). Stands kept lexeme.bytes after) number.2 stands in
    subst (HasBadToken text) (sym (line_here text before rest read)) (
    HasBadToken.name_after_number (length (bytes_of before)) (tokens_in (drafts_of before)) here.brackets (up_to_here text before rest read here) last.0 last.1 number.0
    last.2 last.3 last.4 lexeme.bytes after (rest_here text before rest read) name.0)

-- a closing bracket is an operator
closing_operator : (bytes : List ℕ) → nesting_of bytes ≡ nesting.Closes → is_operator bytes ≡ true
closing_operator bytes closes = elim (closes_closing bytes closes).1 [
  | inl round ↦ ap is_operator round.1
  | inr (inl square) ↦ ap is_operator square.1
  | inr (inr curly) ↦ ap is_operator curly.1
]

closing_token : (kept : Sort) (bytes after : List ℕ) → nesting_of bytes ≡ nesting.Closes → Stands kept bytes after → IsLongestToken kind.Op bytes after
closing_token sort.Gap bytes after closes stands = let keeps = gap_keeps bytes after stands in absurd (cc)
closing_token sort.LineEnd bytes after closes stands = let keeps = line_end_keeps bytes stands in absurd (cc)
closing_token (sort.Token kept) bytes after closes stands =
    subst (λ (kind : TokenKind). IsLongestToken kind bytes after) (one_kind kept kind.Op bytes after stands.0.spelled (closing_operator bytes closes)) stands.0

-- what doesn't fit closes a bracket
closes_wrongly : (nests : Nesting) (line byte named : ℕ) (brackets : List Bracket) → bad_nesting nests line byte brackets ≡ Some named → nests ≡ nesting.Closes
closes_wrongly nesting.Closes line byte named brackets is = refl
closes_wrongly nesting.Opens line byte named brackets is = absurd (cc)
closes_wrongly nesting.Keeps line byte named brackets is = absurd (cc)

found_closing : (text : List ℕ) (before : List Lexeme) (lexeme : Lexeme) (after : List ℕ) (line : ℕ) → Reads text before (lexeme.bytes ++ after)
    → Stands lexeme.sort lexeme.bytes after → bad_nesting (nesting_of lexeme.bytes) (line_of before) (byte_of lexeme.bytes) (brackets_of before) ≡ Some line
    → HasBadToken text line
found_closing text before lexeme after line read stands bad =
    let rest = lexeme.bytes ++ after in
    let position : ℕ = length (bytes_of before) in
    let closes = closes_wrongly (nesting_of lexeme.bytes) (line_of before) (byte_of lexeme.bytes) line (brackets_of before) bad in
    let here = open_here text before rest read in
    let up = up_to_here text before rest read here in
    let token = closing_token lexeme.sort lexeme.bytes after closes stands in
    let wrong =
    ap (λ (all : List Bracket). bad_nesting nesting.Closes (line_of before) (byte_of lexeme.bytes) all) (sym here.same)
    ∙ ap (λ (nests : Nesting). bad_nesting nests (line_of before) (byte_of lexeme.bytes) (brackets_of before)) (sym closes)
    ∙ bad in
    elim (wrong_closing text lexeme.bytes (line_of before) line here.brackets (tokens_in (drafts_of before)) closes here.are wrong) [
      | inl none ↦
          subst (HasBadToken text) (sym (line_here text before rest read) ∙ none.1) (
          HasBadToken.never_opened position (tokens_in (drafts_of before)) (subst (AreTokensUpTo text position (tokens_in (drafts_of before))) none.0 up)
          lexeme.bytes after (rest_here text before rest read) token (closes_closing lexeme.bytes closes))
      | inr some ↦
          subst (HasBadToken text) some.3 (
          HasBadToken.closed_wrongly position (tokens_in (drafts_of before)) some.0 some.1 (subst (AreTokensUpTo text position (tokens_in (drafts_of before))) some.2 up)
          lexeme.bytes after (rest_here text before rest read) token (closes_closing lexeme.bytes closes) some.4)
    ]

found_misfit : (text : List ℕ) (before : List Lexeme) (lexeme : Lexeme) (after : List ℕ) (line : ℕ) → Reads text before (lexeme.bytes ++ after)
    → Stands lexeme.sort lexeme.bytes after → misfit before lexeme ≡ Some line → HasBadToken text line
found_misfit text before lexeme after line read stands unfit = elim (cases_Bool (is_name_after_number (sort_before before) lexeme.sort)) [
  | inl name ↦
      let here : line_of before ≡ line = same_Some (line_of before) line (rw name at unfit) in
      subst (HasBadToken text) here (found_name text before lexeme after read stands name)
  | inr other ↦ found_closing text before lexeme after line read stands (rw other at unfit)
]

-- ---- the end of the text

found_end : (text : List ℕ) (before : List Lexeme) (line : ℕ) → Reads text before [] → unclosed (brackets_of before) ≡ Some line → HasBadToken text line
found_end text before line read named =
    let here = open_here text before [] read in
    let up = up_to_here text before [] read here in
    let all : length (bytes_of before) ≡ length text = sym (ap length (whole text before [] read ∙ append-nil (bytes_of before))) in
    let last = outermost_of text here.brackets line (ap unclosed (sym here.same) ∙ named) in
    subst (HasBadToken text) last.3 (
    HasBadToken.never_closed (tokens_in (drafts_of before)) last.0 last.1 (
    subst (λ (position : ℕ). AreTokensUpTo text position (tokens_in (drafts_of before)) (last.0 ++ last.1 ∷ [])) all (
    subst (AreTokensUpTo text (length (bytes_of before)) (tokens_in (drafts_of before))) last.2 up)))

-- a reading that stops at a bad token has found one
pub found : (text : List ℕ) (before : List Lexeme) (rest : List ℕ) (line : ℕ) → Reads text before rest → Stops before rest (Some line) → HasBadToken text line
found text before rest line read stops = elim (stop_cases before rest (Some line) stops) [
  | inl ended ↦ found_end text before line (subst (Reads text before) ended.0 read) (sym ended.1)
  | inr (inl none) ↦
      let here : line ≡ line_of before = same_Some line (line_of before) none.named in
      subst (HasBadToken text) (sym here) (
      found_no_lexeme text before rest read (subst (λ (named : ℕ). HasNoLexeme before rest (Some named)) here none))
  | inr (inr bad) ↦
      let here : line ≡ bad.line = same_Some line bad.line bad.named in
      subst (HasBadToken text) (sym here) (
      found_misfit text before bad.lexeme bad.after bad.line (subst (Reads text before) bad.left read) bad.stands bad.unfit)
]
