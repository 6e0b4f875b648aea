-- Proof that no name of a text begins directly where a number ends.
use Rattle.std.proofs.Common.{◌≡◌, ◌⊎◌, ◌<◌, ◌+◌, ℕ, suc, false, if◌then◌else◌, List, [], ◌∷◌, ◌++◌, length, refl, inl, inr, sym, ap, subst, ◌∙◌, arith}
use Rattle.std.specs.Prelude.{All, None, Option, Some}
use Rattle.std.proofs.lemmas.List.{length-append}
use Rattle.std.proofs.lemmas.List.Elements.{All-nil, All-push, All-weaker}
use Rattle.std.proofs.lemmas.List.Quantifiers.{all_pairs_push}
use Rattle.pm_syn.specs.CutLines.{AreSeparated}
use Rattle.pm_syn.specs.Lexemes.{Lexeme, Stands}
use Rattle.pm_syn.specs.LogicalLines.{begun_line, drafts_of, ended_lines, token_of}
use Rattle.pm_syn.specs.Positions.{last_line}
use Rattle.pm_syn.specs.Reading.{Reads, are_closed, bad_nesting, brackets_of, byte_of, bytes_of, is_name_after_number, line_of, misfit, nesting_of, sort_before}
use Rattle.pm_syn.specs.declared.draft.Draft.{Draft}
use Rattle.pm_syn.specs.declared.lexeme.Sort.{Sort}
use Rattle.pm_syn.specs.declared.lexeme.Sort.TheVariants as sort
use Rattle.pm_syn.specs.declared.token.Token.{Token}
use Rattle.pm_syn.specs.declared.token.TokenKind.{TokenKind}
use Rattle.pm_syn.specs.declared.token.TokenKind.TheVariants as kind
use Rattle.pm_syn.proofs.CutFromText.{lines-line_end, lines_with, tokens-continued, tokens_in}
use Rattle.pm_syn.proofs.FirstBytes.{lexeme_begins}
use Rattle.pm_syn.proofs.OneReading.{read_one}

-- ---- names after numbers

-- a gap and a line end are no names
pub gap_no_name : (last : Sort) → is_name_after_number last sort.Gap ≡ false
gap_no_name sort.Gap = refl
gap_no_name sort.LineEnd = refl
gap_no_name (sort.Token kind.Name) = refl
gap_no_name (sort.Token (kind.Int number)) = refl
gap_no_name (sort.Token kind.Str) = refl
gap_no_name (sort.Token kind.Op) = refl

pub line_end_no_name : (last : Sort) → is_name_after_number last sort.LineEnd ≡ false
line_end_no_name sort.Gap = refl
line_end_no_name sort.LineEnd = refl
line_end_no_name (sort.Token kind.Name) = refl
line_end_no_name (sort.Token (kind.Int number)) = refl
line_end_no_name (sort.Token kind.Str) = refl
line_end_no_name (sort.Token kind.Op) = refl

-- tokens of which the first is no number, or the second no name
pub no_name_after : (one other : TokenKind) → ((number : ℕ) → one ≡ kind.Int number → other ≡ kind.Name → ⊥)
    → is_name_after_number (sort.Token one) (sort.Token other) ≡ false
no_name_after kind.Name other none = refl
no_name_after kind.Str other none = refl
no_name_after kind.Op other none = refl
no_name_after (kind.Int number) kind.Name none = absurd (none number refl refl)
no_name_after (kind.Int number) (kind.Int other) none = refl
no_name_after (kind.Int number) kind.Str none = refl
no_name_after (kind.Int number) kind.Op none = refl

-- an operator is no name
pub operator_no_name : (last : Sort) → is_name_after_number last (sort.Token kind.Op) ≡ false
operator_no_name sort.Gap = refl
operator_no_name sort.LineEnd = refl
operator_no_name (sort.Token kind.Name) = refl
operator_no_name (sort.Token (kind.Int number)) = refl
operator_no_name (sort.Token kind.Str) = refl
operator_no_name (sort.Token kind.Op) = refl

-- a gap or a line end
abbrev pub IsLayoutSort : Sort → Type 0
IsLayoutSort kept = (kept ≡ sort.Gap) ⊎ (kept ≡ sort.LineEnd)

-- no name directly after a gap or a line end
pub layout_no_name : (last : Sort) (other : TokenKind) → IsLayoutSort last → is_name_after_number last (sort.Token other) ≡ false
layout_no_name last other (inl gap) = ap (λ (kept : Sort). is_name_after_number kept (sort.Token other)) gap
layout_no_name last other (inr ends) = ap (λ (kept : Sort). is_name_after_number kept (sort.Token other)) ends

-- ---- tokens that are apart

-- the tokens but the first
pub separated_tail : (token : Token) (tokens : List Token) → AreSeparated (token ∷ tokens) → AreSeparated tokens
separated_tail token tokens separated i j default less within = separated (suc i) (suc j) default (omega (arith, less)) (omega (arith, within))

-- the first two tokens
pub separated_next : (token next : Token) (tokens : List Token) → AreSeparated (token ∷ next ∷ tokens)
    → (number : ℕ) → token.kind ≡ kind.Int number → next.kind ≡ kind.Name → token.end < next.start
separated_next token next tokens separated = separated 0 1 token (omega arith) (omega arith)

-- ---- the tokens that were read

-- the token ends before this position, or there, and is then the last lexeme
abbrev IsLastBy : Sort → ℕ → Token → Type 0
IsLastBy last position token = (token.end < position) ⊎ ((token.end ≡ position) × (last ≡ sort.Token token.kind))

-- no name begins where a number ends, up to this position
record AreApart (last : Sort) (position : ℕ) (tokens : List Token) : Type 0 where
  separated : AreSeparated tokens
  past : All (IsLastBy last position) tokens

past_more : (last next : Sort) (position more : ℕ) (tokens : List Token) → position < more → All (IsLastBy last position) tokens → All (IsLastBy next more) tokens
past_more last next position more tokens less past = All-weaker (IsLastBy last position) (IsLastBy next more) (λ token by. later token by) tokens past where
  later : (token : Token) → IsLastBy last position token → IsLastBy next more token
  later token (inl before) = inl (omega (arith, before, less))
  later token (inr here) = inl (omega (arith, here.0, less))

-- a name that is no misfit doesn't begin where a number ends
name_fits : (last : Sort) (line : ℕ) (bad : Option ℕ) (token : Token) (position : ℕ)
    → (if is_name_after_number last (sort.Token kind.Name) then Some line else bad) ≡ None → IsLastBy last position token
    → (number : ℕ) → token.kind ≡ kind.Int number → token.end < position
name_fits last line bad token position fits (inl before) number is = before
name_fits last line bad token position fits (inr here) number is =
    let same : last ≡ sort.Token (kind.Int number) = here.1 ∙ ap sort.Token is in
    let wrong : Some line ≡ None =
    ap (λ (kept : Sort). if is_name_after_number kept (sort.Token kind.Name) then Some line else bad) (sym same) ∙ fits in
    absurd (cc)

apart_token : (before : List Lexeme) (kept : TokenKind) (bytes : List ℕ) (tokens : List Token) → 0 < length bytes
    → misfit before (record { sort = sort.Token kept; bytes = bytes }) ≡ None
    → AreApart (sort_before before) (length (bytes_of before)) tokens
    → AreApart (sort.Token kept) (length (bytes_of before) + length bytes) (tokens ++ token_of before kept bytes ∷ [])
apart_token before kept bytes tokens some fits are =
    let token : Token = token_of before kept bytes in
    let bad : Option ℕ = bad_nesting (nesting_of bytes) (line_of before) (byte_of bytes) (brackets_of before) in
    record {
      separated = all_pairs_push (λ token later. (number : ℕ) → token.kind ≡ kind.Int number → later.kind ≡ kind.Name → token.end < later.start) tokens token are.separated (
          All-weaker (IsLastBy (sort_before before) (length (bytes_of before))) (λ one. (number : ℕ) → one.kind ≡ kind.Int number → kept ≡ kind.Name → one.end < length (bytes_of before)) (
          λ one by number is named. name_fits (sort_before before) (line_of before) bad one (length (bytes_of before)) (
          subst (λ (other : TokenKind). (if is_name_after_number (sort_before before) (sort.Token other) then Some (line_of before) else bad) ≡ None) named fits) by number is) tokens are.past);
      past = All-push (IsLastBy (sort.Token kept) (length (bytes_of before) + length bytes)) tokens token (
          past_more (sort_before before) (sort.Token kept) (length (bytes_of before)) _ tokens (omega (arith, some)) are.past) (inr (refl, refl));
    }

apart_with : (before : List Lexeme) (kept : Sort) (bytes rest : List ℕ) → Stands kept bytes rest
    → misfit before (record { sort = kept; bytes = bytes }) ≡ None
    → AreApart (sort_before before) (length (bytes_of before)) (tokens_in (drafts_of before))
    → AreApart kept (length (bytes_of before) + length bytes) (tokens_in (lines_with before kept bytes))
apart_with before kept bytes rest stands fits are = go kept stands fits where
  some : (kept : Sort) → Stands kept bytes rest → 0 < length bytes
  some kept stands = let begun = lexeme_begins kept bytes rest stands in omega (arith, ap length begun.2)

  layout : (kept : Sort) → Stands kept bytes rest → AreApart kept (length (bytes_of before) + length bytes) (tokens_in (drafts_of before))
  layout kept stands = record {
    separated = are.separated;
    past = past_more (sort_before before) kept (length (bytes_of before)) _ (tokens_in (drafts_of before)) (let more = some kept stands in omega (arith, more)) are.past;
  }

  go : (kept : Sort) → Stands kept bytes rest → misfit before (record { sort = kept; bytes = bytes }) ≡ None
      → AreApart kept (length (bytes_of before) + length bytes) (tokens_in (lines_with before kept bytes))
  go sort.Gap stands fits = layout sort.Gap stands
  go sort.LineEnd stands fits =
      subst (λ (drafts : List Draft). AreApart sort.LineEnd (length (bytes_of before) + length bytes) (tokens_in drafts)) (
      sym (lines-line_end (are_closed (brackets_of before)) (ended_lines before) (begun_line before))) (layout sort.LineEnd stands)
  go (sort.Token kept) stands fits =
      subst (AreApart (sort.Token kept) (length (bytes_of before) + length bytes)) (
      sym (tokens-continued (line_of before) (last_line (bytes_of before)) (ended_lines before) (begun_line before) (token_of before kept bytes))) (
      apart_token before kept bytes (tokens_in (drafts_of before)) (some (sort.Token kept) stands) fits are)

all_apart : (text : List ℕ) (before : List Lexeme) (rest : List ℕ) → Reads text before rest
    → AreApart (sort_before before) (length (bytes_of before)) (tokens_in (drafts_of before))
all_apart text [] rest read = record {
  separated = λ i j token less within. absurd (omega (arith, within));
  past = All-nil (IsLastBy sort.Gap 0);
}
all_apart text (lexeme ∷ before) rest read =
    let last = read_one text lexeme before rest read in
    subst (λ (position : ℕ). AreApart lexeme.sort position (tokens_in (drafts_of (lexeme ∷ before)))) (sym (length-append (bytes_of before) lexeme.bytes)) (
    apart_with before lexeme.sort lexeme.bytes rest last.1 last.2 (all_apart text before (lexeme.bytes ++ rest) last.0))

-- no name among the tokens that were read begins where a number ends
pub all_separated : (text : List ℕ) (before : List Lexeme) (rest : List ℕ) → Reads text before rest → AreSeparated (tokens_in (drafts_of before))
all_separated text before rest read = (all_apart text before rest read).separated
