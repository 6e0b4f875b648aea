-- Proof that a text is read up to its bad token.
use Rattle.std.proofs.Common.{◌≡◌, ◌≢◌, ◌⊎◌, ◌<◌, ◌≤◌, ℕ, false, List, [], ◌∷◌, ◌++◌, length, drop, Option, Some, None, refl, inl, inr, ap, subst, ◌∙◌, append_assoc, arith}
use Rattle.std.specs.Prelude.{All}
use Rattle.std.specs.List.{between}
use Rattle.std.proofs.lemmas.List.{drop_all, length-append, length-drop, same_from_push}
use Rattle.std.proofs.lemmas.List.Edits.{length-between}
use Rattle.std.proofs.lemmas.List.Elements.{All-head, All-tail}
use Rattle.pm_syn.specs.BadTokens.{AreTokensUpTo, BeginsNothing, HasBadToken, HasWideLiteral, IsClosing, line_at}
use Rattle.pm_syn.specs.CutLines.{AreSeparated, IsCutFrom}
use Rattle.pm_syn.specs.Lexemes.{Lexeme, Stands}
use Rattle.pm_syn.specs.Positions.{line_after}
use Rattle.pm_syn.specs.Reading.{Reads, Stops, bad_nesting, brackets_of, byte_of, is_name_after_number, line_of, misfit, nested, nesting_of, sort_before, unclosed, wrongly_closed}
use Rattle.pm_syn.specs.Spaces.{HasSpace, IsSpacedUpTo}
use Rattle.pm_syn.specs.Tokens.{IsLongestToken}
use Rattle.pm_syn.specs.declared.bracket.Bracket.{Bracket}
use Rattle.pm_syn.specs.declared.bracket.Nesting.TheVariants as nesting
use Rattle.pm_syn.specs.declared.lexeme.Sort.{Sort}
use Rattle.pm_syn.specs.declared.lexeme.Sort.TheVariants as sort
use Rattle.pm_syn.specs.declared.token.Token.{Token}
use Rattle.pm_syn.specs.declared.token.TokenKind.TheVariants as kind
use Rattle.pm_syn.proofs.BracketsOpened.{Leave, all_left, brackets_in, closing_closes, leave_next, unclosed_outermost, wrong_pair}
use Rattle.pm_syn.proofs.FirstBytes.{token_some}
use Rattle.pm_syn.proofs.HeadsDecided.{no_head}
use Rattle.pm_syn.proofs.NumbersApart.{IsLayoutSort, layout_no_name, no_name_after, operator_no_name, separated_next, separated_tail}
use Rattle.pm_syn.proofs.PiecesRead.{IsSpaceRead, read_up_to, space_there, token_there}

-- ---- tokens

-- the text was read up to a position, where these brackets are open
record IsReadTo (text : List ℕ) (position : ℕ) (brackets : List Token) : Type 0 where
  before : List Lexeme
  read : Reads text before (drop position text)
  brackets_are : brackets_of before ≡ brackets_in text brackets

-- the text was read up to a token, after which the others leave these brackets open
record IsReadToToken (text : List ℕ) (left others : List Token) (token : Token) : Type 0 where
  brackets : List Token
  at : IsReadTo text token.end brackets
  leave : Leave left others brackets
  last : sort_before at.before ≡ sort.Token token.kind

-- the sort of the last lexeme, where space was read
after_space : (text : List ℕ) (before : List Lexeme) (start end count : ℕ) → start ≤ end → end ≤ length text
    → (step : IsSpaceRead text before count (between start end text) (drop end text))
    → ((start ≡ end) × (step.now ≡ before)) ⊎ ((start < end) × IsLayoutSort (sort_before step.now))
after_space text before start end count le within step = elim step.last as (λ _. ((start ≡ end) × (step.now ≡ before)) ⊎ ((start < end) × IsLayoutSort (sort_before step.now))) [
  | inl none ↦ inl (omega (arith, none.0, length-between text start end within, le), none.1)
  | inr some ↦ inr (omega (arith, some.0, length-between text start end within, le), some.1)
]

-- one more token
token_step : (text : List ℕ) (left others : List Token) (start count : ℕ) (brackets : List Token) (next : Token) → (at : IsReadTo text start brackets)
    → HasSpace text start next.start count → IsCutFrom text next → Leave left (next ∷ others) brackets
    → (start ≡ next.start → is_name_after_number (sort_before at.before) (sort.Token next.kind) ≡ false)
    → IsReadToToken text left others next
token_step text left others start count brackets next at space cut leave fits =
    let within : next.start ≤ length text = (let some = cut.some in let inside = cut.within in omega (arith, some, inside)) in
    let step = space_there text at.before start next.start count space at.read in
    let no_name : is_name_after_number (sort_before step.now) (sort.Token next.kind) ≡ false =
    elim (after_space text at.before start next.start count space.0 within step) as (λ _. is_name_after_number (sort_before step.now) (sort.Token next.kind) ≡ false) [
      | inl same ↦ ap (λ (lexemes : List Lexeme). is_name_after_number (sort_before lexemes) (sort.Token next.kind)) same.1 ∙ fits same.0
      | inr layout ↦ layout_no_name (sort_before step.now) next.kind layout.1
    ] in
    let here : line_of step.now ≡ line_at text next.start = ap line_after (read_up_to text step.now next.start within step.read) in
    let known : brackets_of step.now ≡ brackets_in text brackets = step.brackets ∙ at.brackets_are in
    let nested_next = leave_next text (nesting_of next.text) (line_of step.now) next (Leave left others) brackets here leave in
    let nesting_fits : bad_nesting (nesting_of next.text) (line_of step.now) (byte_of next.text) (brackets_of step.now) ≡ None =
    ap (λ (all : List Bracket). bad_nesting (nesting_of next.text) (line_of step.now) (byte_of next.text) all) known ∙ nested_next.fits in
    let token = token_there text step.now next cut step.read no_name nesting_fits in
    record {
      brackets = nested_next.next;
      at = record {
        before = record { sort = sort.Token next.kind; bytes = next.text } ∷ step.now;
        read = token.read;
        brackets_are = nested_grown text step.now next brackets nested_next.next known nested_next.same;
      };
      leave = nested_next.later_holds;
      last = refl;
    } where
      nested_grown : (text : List ℕ) (now : List Lexeme) (next : Token) (brackets after : List Token) → brackets_of now ≡ brackets_in text brackets
          → nested (nesting_of next.text) (line_of now) (byte_of next.text) (brackets_in text brackets) ≡ brackets_in text after
          → brackets_of (record { sort = sort.Token next.kind; bytes = next.text } ∷ now) ≡ brackets_in text after
      nested_grown text now next brackets after known same =
          ap (λ (all : List Bracket). nested (nesting_of next.text) (line_of now) (byte_of next.text) all) known ∙ same

-- all tokens up to a position were read
record AreTokensRead (text : List ℕ) (position : ℕ) (left tokens : List Token) : Type 0 where
  at : IsReadTo text position left
  last : (prefix : List Token) (token : Token) → tokens ≡ prefix ++ token ∷ [] → token.end ≡ position → sort_before at.before ≡ sort.Token token.kind

tokens_after : (text : List ℕ) (end : ℕ) (left taken : List Token) (token : Token) (others : List Token) → end ≤ length text → All (IsCutFrom text) others
    → IsSpacedUpTo text end token.end others → AreSeparated (token ∷ others) → IsReadToToken text left others token
    → AreTokensRead text end left (taken ++ token ∷ others)
tokens_after text end left taken token [] within cut spaced separated was =
    let step = space_there text was.at.before token.end end spaced.0 spaced.1 was.at.read in
    record {
      at = record {
        before = step.now;
        read = step.read;
        brackets_are = step.brackets ∙ was.at.brackets_are ∙ ap (brackets_in text) was.leave;
      };
      last = λ prefix other is ends. (elim (after_space text was.at.before token.end end spaced.0 spaced.1.0 within step) [
        | inl same ↦
            let kind : token.kind ≡ other.kind = ap (λ (one : Token). one.kind) (same_from_push taken prefix token other is).1 in
            ap sort_before same.1 ∙ was.last ∙ ap sort.Token kind
        | inr more ↦
            let position : token.end ≡ other.end = ap (λ (one : Token). one.end) (same_from_push taken prefix token other is).1 in
            absurd (omega (arith, more.0, position, ends))
      ]);
    }
tokens_after text end left taken token (next ∷ others) within cut spaced separated was =
    let step = token_step text left others token.end spaced.0.0 was.brackets next was.at spaced.0.1 (All-head (IsCutFrom text) next others cut) was.leave (
    λ same. ap (λ (kept : Sort). is_name_after_number kept (sort.Token next.kind)) was.last
    ∙ no_name_after token.kind next.kind (
    λ number is named. (let less = separated_next token next others separated number is named in omega (arith, less, same)))) in
    subst (AreTokensRead text end left) (append_assoc taken (token ∷ []) (next ∷ others)) (
    tokens_after text end left (taken ++ token ∷ []) next others within (All-tail (IsCutFrom text) next others cut) spaced.1 (
    separated_tail token (next ∷ others) separated) step)

tokens_read : (text : List ℕ) (position : ℕ) (tokens brackets : List Token) → AreTokensUpTo text position tokens brackets → AreTokensRead text position brackets tokens
tokens_read text position [] brackets are =
    let step = space_there text [] 0 position are.spaced.0 are.spaced.1 Reads.begin in
    let none : [] ≡ brackets = all_left brackets [] are.nested in
    record {
      at = record {
        before = step.now;
        read = step.read;
        brackets_are = step.brackets ∙ ap (brackets_in text) none;
      };
      last = λ prefix token is ends. absurd (omega (arith, ap length is, length-append prefix (token ∷ [])));
    }
tokens_read text position (first ∷ others) brackets are =
    let start : IsReadTo text 0 [] = record { before = []; read = Reads.begin; brackets_are = refl } in
    let step = token_step text brackets others 0 are.spaced.0.0 [] first start are.spaced.0.1 (All-head (IsCutFrom text) first others are.cut) (
    all_left brackets (first ∷ others) are.nested) (λ same. refl) in
    tokens_after text position brackets [] first others are.within (All-tail (IsCutFrom text) first others are.cut) are.spaced.1 are.separated step

-- ---- the bad token

-- the reading stops at a bad token on this line
pub record StopsAtBadToken (text : List ℕ) (line : ℕ) : Type 0 where
  pub lexemes : List Lexeme
  pub rest : List ℕ
  pub read : Reads text lexemes rest
  pub stopped : Stops lexemes rest (Some line)

-- nothing that may be read is there
no_lexeme_stops : (text : List ℕ) (position : ℕ) (tokens brackets : List Token) → AreTokensUpTo text position tokens brackets → drop position text ≢ []
    → HasWideLiteral (drop position text) ⊎ BeginsNothing (drop position text) → StopsAtBadToken text (line_at text position)
no_lexeme_stops text position tokens brackets are some none =
    let was = (tokens_read text position tokens brackets are).at in
    let here : line_of was.before ≡ line_at text position = ap line_after (read_up_to text was.before position are.within was.read) in
    record {
      lexemes = was.before;
      rest = drop position text;
      read = was.read;
      stopped = subst (λ (line : ℕ). Stops was.before (drop position text) (Some line)) here (
          Stops.at_no_lexeme was.before (drop position text) some (no_head (drop position text) none));
    }

-- a lexeme that is a misfit is there
misfit_stops : (text : List ℕ) (position line : ℕ) (before : List Lexeme) (lexeme : Lexeme) (after : List ℕ) → Reads text before (drop position text)
    → drop position text ≡ lexeme.bytes ++ after → Stands lexeme.sort lexeme.bytes after → misfit before lexeme ≡ Some line → StopsAtBadToken text line
misfit_stops text position line before lexeme after read is stands bad = record {
  lexemes = before;
  rest = lexeme.bytes ++ after;
  read = subst (Reads text before) is read;
  stopped = Stops.at_misfit before lexeme after line stands bad;
}

-- a closing bracket that doesn't fit
closing_stops : (text : List ℕ) (position line : ℕ) (tokens brackets : List Token) → AreTokensUpTo text position tokens brackets
    → (bytes after : List ℕ) → drop position text ≡ bytes ++ after → IsLongestToken kind.Op bytes after → IsClosing bytes
    → wrongly_closed (line_at text position) (byte_of bytes) (brackets_in text brackets) ≡ Some line → StopsAtBadToken text line
closing_stops text position line tokens brackets are bytes after is longest closing wrong =
    let was = (tokens_read text position tokens brackets are).at in
    let here : line_of was.before ≡ line_at text position = ap line_after (read_up_to text was.before position are.within was.read) in
    let closes : nesting_of bytes ≡ nesting.Closes = closing_closes bytes closing in
    let bad : wrongly_closed (line_of was.before) (byte_of bytes) (brackets_of was.before) ≡ Some line =
    ap (λ (n : ℕ). wrongly_closed n (byte_of bytes) (brackets_of was.before)) here
    ∙ ap (λ (all : List Bracket). wrongly_closed (line_at text position) (byte_of bytes) all) was.brackets_are
    ∙ wrong in
    let unfit : misfit was.before (record { sort = sort.Token kind.Op; bytes = bytes }) ≡ Some line =
    rw (operator_no_name (sort_before was.before), closes) bad in
    misfit_stops text position line was.before (record { sort = sort.Token kind.Op; bytes = bytes }) after was.read is (longest, tt) unfit

-- a name directly after a number
name_stops : (text : List ℕ) (position : ℕ) (tokens brackets : List Token) → AreTokensUpTo text position tokens brackets
    → (prefix : List Token) (token : Token) (number : ℕ) → tokens ≡ prefix ++ token ∷ [] → token.kind ≡ kind.Int number → token.end ≡ position
    → (name after : List ℕ) → drop position text ≡ name ++ after → IsLongestToken kind.Name name after → StopsAtBadToken text (line_at text position)
name_stops text position tokens brackets are prefix token number last is_number ends name after is longest =
    let all = tokens_read text position tokens brackets are in
    let was = all.at in
    let here : line_of was.before ≡ line_at text position = ap line_after (read_up_to text was.before position are.within was.read) in
    let kept : sort_before was.before ≡ sort.Token (kind.Int number) = all.last prefix token last ends ∙ ap sort.Token is_number in
    let unfit : misfit was.before (record { sort = sort.Token kind.Name; bytes = name }) ≡ Some (line_at text position) =
    rw kept (ap Some here) in
    misfit_stops text position (line_at text position) was.before (record { sort = sort.Token kind.Name; bytes = name }) after was.read is (longest, tt) unfit

-- brackets that are open at the end
end_stops : (text : List ℕ) (tokens inner : List Token) (outermost : Token) → AreTokensUpTo text (length text) tokens (inner ++ outermost ∷ [])
    → StopsAtBadToken text (line_at text outermost.start)
end_stops text tokens inner outermost are =
    let was = (tokens_read text (length text) tokens (inner ++ outermost ∷ []) are).at in
    let named : unclosed (brackets_of was.before) ≡ Some (line_at text outermost.start) =
    ap unclosed was.brackets_are ∙ unclosed_outermost text inner outermost in
    record {
      lexemes = was.before;
      rest = [];
      read = subst (Reads text was.before) (drop_all (length text) text (omega arith)) was.read;
      stopped = subst (λ (bad : Option ℕ). Stops was.before [] bad) named (Stops.at_end was.before);
    }

-- more is left where the position is before the end
some_left : (text : List ℕ) (position : ℕ) → position < length text → drop position text ≢ []
some_left text position less none = omega (arith, ap length none, length-drop position text, less)

wide_left : (text : List ℕ) → HasWideLiteral text → text ≢ []
wide_left text wide none =
    let some = token_some (kind.Int wide.number) wide.bytes wide.after wide.longest.spelled in
    omega (arith, some, ap length wide.is, ap length none, length-append wide.bytes wide.after)

-- a text is read up to its bad token
pub bad_token_stops : (text : List ℕ) (line : ℕ) → HasBadToken text line → StopsAtBadToken text line
bad_token_stops text line (HasBadToken.nothing_begins position tokens brackets are less none) =
    no_lexeme_stops text position tokens brackets are (some_left text position less) (inr none)
bad_token_stops text line (HasBadToken.too_wide position tokens brackets are wide) =
    no_lexeme_stops text position tokens brackets are (wide_left (drop position text) wide) (inl wide)
bad_token_stops text line (HasBadToken.name_after_number position tokens brackets are prefix token number last is_number ends name after is longest) =
    name_stops text position tokens brackets are prefix token number last is_number ends name after is longest
bad_token_stops text line (HasBadToken.never_opened position tokens are bytes after is longest closing) =
    closing_stops text position (line_at text position) tokens [] are bytes after is longest closing refl
bad_token_stops text line (HasBadToken.closed_wrongly position tokens innermost outer are bytes after is longest closing other) =
    closing_stops text position (line_at text innermost.start) tokens (innermost ∷ outer) are bytes after is longest closing (
    wrong_pair text bytes (line_at text position) innermost outer tokens (closing_closes bytes closing) are.nested other)
bad_token_stops text line (HasBadToken.never_closed tokens inner outermost are) = end_stops text tokens inner outermost are
