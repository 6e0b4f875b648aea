-- Proof that a line which is cut from a text, spaced and matched can be read after those before it.
use Rattle.std.proofs.Common.{◌≡◌, ◌⊎◌, ◌<◌, ◌≤◌, ◌==◌, ℕ, zero, suc, true, false, List, [], ◌∷◌, ◌++◌, map, length, take, drop, Option, Some, None, refl, inl, inr, sym, ap, subst, ◌∙◌, append-nil, append_assoc, arith}
use Rattle.std.specs.Prelude.{All, replicate}
use Rattle.std.specs.List.{flat_map, list_any}
use Rattle.std.proofs.lemmas.Bool.{cases_Bool}
use Rattle.std.proofs.lemmas.List.Edits.{length-between}
use Rattle.std.proofs.lemmas.List.Elements.{All-head, All-tail}
use Rattle.pm_syn.specs.CutLines.{AreSeparated, IsCutFrom, IsLineOf}
use Rattle.pm_syn.specs.Lexemes.{Lexeme}
use Rattle.pm_syn.specs.LogicalLines.{begun_line, continued, ended_lines, indentation_of, line_from, token_of}
use Rattle.pm_syn.specs.Positions.{last_line, line_after}
use Rattle.pm_syn.specs.Reading.{Reads, are_closed, brackets_of, byte_of, bytes_of, is_name_after_number, line_of, nesting_of, sort_before}
use Rattle.pm_syn.specs.Spaces.{AreJoined, AreMatched, HasSpace, IsSpaced}
use Rattle.pm_syn.specs.declared.bracket.Bracket.{Bracket}
use Rattle.pm_syn.specs.declared.draft.Draft.{Draft}
use Rattle.pm_syn.specs.declared.draft.Indentation.TheVariants as indentation
use Rattle.pm_syn.specs.declared.draft.Indentation.{Indentation}
use Rattle.pm_syn.specs.declared.lexeme.Sort.{Sort}
use Rattle.pm_syn.specs.declared.lexeme.Sort.TheVariants as sort
use Rattle.pm_syn.specs.declared.token.Line.{Line}
use Rattle.pm_syn.specs.declared.token.Token.{Token}
use Rattle.pm_syn.specs.declared.token.TokenKind.TheVariants as kind
use Rattle.pm_syn.proofs.BracketsClosed.{Close, all_close, bytes_opened, close_next}
use Rattle.pm_syn.proofs.MatchedBrackets.{AreOpen, open_after, tokens_begun}
use Rattle.pm_syn.proofs.NumbersApart.{IsLayoutSort, layout_no_name, no_name_after, separated_next, separated_tail}
use Rattle.pm_syn.proofs.PiecesRead.{read_up_to, space_there, token_there}

-- ---- lines as they are read

-- the logical line as it is read
abbrev pub draft_of : Line → Draft
draft_of line = record { number = line.number; indentation = indentation.Blanks line.column; tokens = line.tokens }

-- with its first tokens alone
abbrev pub begun_with : Line → List Token → Draft
begun_with line tokens = record { number = line.number; indentation = indentation.Blanks line.column; tokens = tokens }

abbrev pub tokens_of : List Line → List Token
tokens_of lines = flat_map (λ (line : Line). line.tokens) lines

pub lines_of_drafts : (lines : List Line) → map line_from (map draft_of lines) ≡ lines
lines_of_drafts [] = refl
lines_of_drafts (line ∷ lines) = ap (λ (rest : List Line). line ∷ rest) (lines_of_drafts lines)

pub map_push : (lines : List Line) (line : Line) → map draft_of (lines ++ line ∷ []) ≡ map draft_of lines ++ draft_of line ∷ []
map_push [] line = refl
map_push (first ∷ lines) line = ap (λ (rest : List Draft). draft_of first ∷ rest) (map_push lines line)

none_opened : (brackets : List Bracket) → bytes_opened brackets ≡ [] → brackets ≡ []
none_opened [] is = refl
none_opened (bracket ∷ brackets) is = absurd (cc)

closed_none : (brackets : List Bracket) → are_closed brackets ≡ true → brackets ≡ []
closed_none [] is = refl
closed_none (bracket ∷ brackets) is = absurd (cc)

-- blanks make a column
no_tab : (count : ℕ) → list_any (λ byte. byte == 9) (replicate count 32) ≡ false
no_tab zero = refl
no_tab (suc count) = no_tab count

blanks_counted : (count : ℕ) → length {A = ℕ} (replicate count 32) ≡ count
blanks_counted zero = refl
blanks_counted (suc count) = let rest = blanks_counted count in omega (arith, rest)

blanks_indent : (count : ℕ) → indentation_of (replicate count 32) ≡ indentation.Blanks count
blanks_indent count = rw (no_tab count) (ap indentation.Blanks (blanks_counted count))

-- the tokens but some first ones
pub separated_drop : (tokens more : List Token) → AreSeparated (tokens ++ more) → AreSeparated more
separated_drop [] more separated = separated
separated_drop (token ∷ tokens) more separated = separated_drop tokens more (separated_tail token (tokens ++ more) separated)

-- ---- one line

-- the text was read up to the first token of a line, after these lines
pub record IsBeforeLine (text : List ℕ) (done : List Line) (position : ℕ) : Type 0 where
  pub before : List Lexeme
  pub read : Reads text before (drop position text)
  pub ended : ended_lines before ≡ map draft_of done
  pub begun : begun_line before ≡ None
  pub closed : brackets_of before ≡ []
  pub last : IsLayoutSort (sort_before before)

-- the text was read up to this token of a line, whose other tokens close all brackets
record IsInLine (text : List ℕ) (done : List Line) (line : Line) (taken : List Token) (token : Token) (others : List Token) : Type 0 where
  before : List Lexeme
  read : Reads text before (drop token.end text)
  ended : ended_lines before ≡ map draft_of done
  begun : begun_line before ≡ Some (begun_with line (taken ++ token ∷ []))
  close : Close others (bytes_opened (brackets_of before))
  last : sort_before before ≡ sort.Token token.kind

-- the text was read up to the last token of a line
pub record IsAfterLine (text : List ℕ) (done : List Line) (line : Line) (taken : List Token) (token : Token) : Type 0 where
  pub before : List Lexeme
  pub read : Reads text before (drop token.end text)
  pub ended : ended_lines before ≡ map draft_of done
  pub begun : begun_line before ≡ Some (draft_of line)
  pub closed : brackets_of before ≡ []
  pub tokens : line.tokens ≡ taken ++ token ∷ []

-- the first token
first_read : (text : List ℕ) (done : List Line) (line : Line) (first : Token) (others : List Token) → line.tokens ≡ first ∷ others
    → AreMatched line.tokens → IsCutFrom text first → line.number ≡ line_after (take first.start text)
    → last_line (take first.start text) ≡ replicate line.column 32
    → IsBeforeLine text done first.start → IsInLine text done line [] first others
first_read text done line first others is matched cut number column at =
    let close : Close (first ∷ others) (bytes_opened (brackets_of at.before)) =
    subst (λ (brackets : List Bracket). Close (first ∷ others) (bytes_opened brackets)) (sym at.closed) (
    subst (λ (tokens : List Token). Close tokens []) is (all_close line.tokens matched)) in
    let next = close_next (nesting_of first.text) (line_of at.before) (byte_of first.text) (Close others) (brackets_of at.before) close in
    let token = token_there text at.before first cut at.read (layout_no_name (sort_before at.before) first.kind at.last) next.0 in
    let within : first.start ≤ length text = (let some = cut.some in let inside = cut.within in omega (arith, some, inside)) in
    let bytes : bytes_of at.before ≡ take first.start text = read_up_to text at.before first.start within at.read in
    let indent : indentation_of (last_line (bytes_of at.before)) ≡ indentation.Blanks line.column =
    ap (λ (part : List ℕ). indentation_of (last_line part)) bytes ∙ ap indentation_of column ∙ blanks_indent line.column in
    let here : line_of at.before ≡ line.number = ap line_after bytes ∙ sym number in
    record {
      before = record { sort = sort.Token first.kind; bytes = first.text } ∷ at.before;
      read = token.read;
      ended = at.ended;
      begun =
          ap (λ (begun : Option Draft). Some (continued (line_of at.before) (last_line (bytes_of at.before)) begun (token_of at.before first.kind first.text))) at.begun
          ∙ ap (λ (made : Token). Some (continued (line_of at.before) (last_line (bytes_of at.before)) None made)) token.same
          ∙ ap (λ (kept : Indentation). let draft : Draft = record { number = line_of at.before; indentation = kept; tokens = first ∷ [] } in Some draft) indent
          ∙ ap (λ (n : ℕ). let draft : Draft = record { number = n; indentation = indentation.Blanks line.column; tokens = first ∷ [] } in Some draft) here;
      close = next.1;
      last = refl;
    }

-- the space before another token
record IsBeforeToken (text : List ℕ) (done : List Line) (line : Line) (taken : List Token) (token next : Token) (others : List Token) : Type 0 where
  before : List Lexeme
  read : Reads text before (drop next.start text)
  ended : ended_lines before ≡ map draft_of done
  begun : begun_line before ≡ Some (begun_with line (taken ++ token ∷ []))
  close : Close (next ∷ others) (bytes_opened (brackets_of before))
  last : ((token.end ≡ next.start) × (sort_before before ≡ sort.Token token.kind)) ⊎ IsLayoutSort (sort_before before)

spaced_on : (text : List ℕ) (done : List Line) (line : Line) (taken : List Token) (token next : Token) (others : List Token) (count : ℕ) → next.start ≤ length text
    → (at : IsInLine text done line taken token (next ∷ others)) → HasSpace text token.end next.start count
    → (count ≡ 0) ⊎ (are_closed (brackets_of at.before) ≡ false) → IsBeforeToken text done line taken token next others
spaced_on text done line taken token next others count within at space inside =
    let step = space_there text at.before token.end next.start count space at.read in
    let same = step.inside inside in
    record {
      before = step.now;
      read = step.read;
      ended = same.0 ∙ at.ended;
      begun = same.1 ∙ at.begun;
      close = subst (λ (brackets : List Bracket). Close (next ∷ others) (bytes_opened brackets)) (sym step.brackets) at.close;
      last = elim step.last as (λ _. ((token.end ≡ next.start) × (sort_before step.now ≡ sort.Token token.kind)) ⊎ IsLayoutSort (sort_before step.now)) [
        | inl none ↦ inl (
          omega (arith, none.0, length-between text token.end next.start within, space.0),
          ap sort_before none.1 ∙ at.last,
        )
        | inr layout ↦ inr layout.1
      ];
    }

-- another token
token_on : (text : List ℕ) (done : List Line) (line : Line) (taken : List Token) (token next : Token) (others : List Token) → IsCutFrom text next
    → ((number : ℕ) → token.kind ≡ kind.Int number → next.kind ≡ kind.Name → token.end < next.start)
    → IsBeforeToken text done line taken token next others → IsInLine text done line (taken ++ token ∷ []) next others
token_on text done line taken token next others cut separated at =
    let fits = close_next (nesting_of next.text) (line_of at.before) (byte_of next.text) (Close others) (brackets_of at.before) at.close in
    let no_name : is_name_after_number (sort_before at.before) (sort.Token next.kind) ≡ false =
    elim at.last as (λ _. is_name_after_number (sort_before at.before) (sort.Token next.kind) ≡ false) [
      | inl here ↦
          ap (λ (kept : Sort). is_name_after_number kept (sort.Token next.kind)) here.1
          ∙ no_name_after token.kind next.kind (λ number is named. let less = separated number is named in omega (arith, less, here.0))
      | inr layout ↦ layout_no_name (sort_before at.before) next.kind layout
    ] in
    let step = token_there text at.before next cut at.read no_name fits.0 in
    record {
      before = record { sort = sort.Token next.kind; bytes = next.text } ∷ at.before;
      read = step.read;
      ended = at.ended;
      begun =
          ap (λ (begun : Option Draft). Some (continued (line_of at.before) (last_line (bytes_of at.before)) begun (token_of at.before next.kind next.text))) at.begun
          ∙ ap (λ (made : Token). Some (continued (line_of at.before) (last_line (bytes_of at.before)) (Some (begun_with line (taken ++ token ∷ []))) made)) step.same;
      close = fits.1;
      last = refl;
    }

-- the space before another token of the line, in which line ends are only where a bracket is open
token_space : (text : List ℕ) (done : List Line) (line : Line) (taken : List Token) (token next : Token) (others : List Token) → next.start ≤ length text
    → line.tokens ≡ (taken ++ token ∷ []) ++ next ∷ others → AreJoined text line.tokens → (count : ℕ) → HasSpace text token.end next.start count
    → IsInLine text done line taken token (next ∷ others) → IsBeforeToken text done line taken token next others
token_space text done line taken token next others within is joined count space at = elim (cases_Bool (are_closed (brackets_of at.before))) [
  | inl closed ↦
      let none : brackets_of at.before ≡ [] = closed_none (brackets_of at.before) closed in
      let opened : AreOpen (brackets_of at.before) (tokens_begun (begun_line at.before)) = open_after text at.before (drop token.end text) at.read in
      let matched : AreMatched (tokens_begun (begun_line at.before)) =
      subst (λ (brackets : List Bracket). AreOpen brackets (tokens_begun (begun_line at.before))) none opened in
      let so_far : AreMatched (taken ++ token ∷ []) = subst (λ (begun : Option Draft). AreMatched (tokens_begun begun)) at.begun matched in
      let all : line.tokens ≡ taken ++ token ∷ next ∷ others = is ∙ append_assoc taken (token ∷ []) (next ∷ others) in
      spaced_on text done line taken token next others 0 within at (joined taken others token next all so_far) (inl refl)
  | inr opened ↦ spaced_on text done line taken token next others count within at space (inr opened)
]

-- the last token of a line, and what is left to be read
pub record IsLineRead (text : List ℕ) (done : List Line) (line : Line) (later : List Token) : Type 0 where
  pub taken : List Token
  pub token : Token
  pub at : IsAfterLine text done line taken token
  pub spaced : IsSpaced text token.end later

tokens_read : (text : List ℕ) (done : List Line) (line : Line) (later taken : List Token) (token : Token) (others : List Token)
    → line.tokens ≡ (taken ++ token ∷ []) ++ others → AreJoined text line.tokens → All (IsCutFrom text) others
    → IsSpaced text token.end (others ++ later) → AreSeparated (token ∷ (others ++ later)) → IsInLine text done line taken token others
    → IsLineRead text done line later
tokens_read text done line later taken token [] is joined cut spaced separated at =
    let all : line.tokens ≡ taken ++ token ∷ [] = is ∙ append-nil (taken ++ token ∷ []) in
    record {
      taken = taken;
      token = token;
      at = record {
        before = at.before;
        read = at.read;
        ended = at.ended;
        begun = at.begun ∙ ap (λ (tokens : List Token). Some (begun_with line tokens)) (sym all);
        closed = none_opened (brackets_of at.before) at.close;
        tokens = all;
      };
      spaced = spaced;
    }
tokens_read text done line later taken token (next ∷ others) is joined cut spaced separated at =
    let here : IsCutFrom text next = All-head (IsCutFrom text) next others cut in
    let within : next.start ≤ length text = (let some = here.some in let inside = here.within in omega (arith, some, inside)) in
    let before = token_space text done line taken token next others within is joined spaced.0.0 spaced.0.1 at in
    let after = token_on text done line taken token next others here (separated_next token next (others ++ later) separated) before in
    tokens_read text done line later (taken ++ token ∷ []) next others (is ∙ sym (append_assoc (taken ++ token ∷ []) (next ∷ []) others)) joined (
    All-tail (IsCutFrom text) next others cut) spaced.1 (separated_tail token (next ∷ (others ++ later)) separated) after

-- a line
pub line_read : (text : List ℕ) (done : List Line) (line : Line) (later : List Token) (of : IsLineOf text line) → AreMatched line.tokens → AreJoined text line.tokens
    → IsSpaced text of.first.end (of.others ++ later) → AreSeparated (line.tokens ++ later) → IsBeforeLine text done of.first.start
    → IsLineRead text done line later
line_read text done line later of matched joined spaced separated at =
    let cut : All (IsCutFrom text) (of.first ∷ of.others) = subst (All (IsCutFrom text)) of.tokens of.cut in
    let here = All-head (IsCutFrom text) of.first of.others cut in
    let apart : AreSeparated (of.first ∷ (of.others ++ later)) = subst (λ (tokens : List Token). AreSeparated (tokens ++ later)) of.tokens separated in
    tokens_read text done line later [] of.first of.others of.tokens joined (All-tail (IsCutFrom text) of.first of.others cut) spaced apart (
    first_read text done line of.first of.others of.tokens matched here of.number of.column at)
