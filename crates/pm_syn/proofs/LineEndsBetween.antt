-- Where line ends are between tokens: in a logical line only where a bracket is open, and one between each two logical lines.
use Rattle.std.proofs.Common.{◌≡◌, ◌⊎◌, ◌+◌, ℕ, if◌then◌else◌, List, [], ◌∷◌, ◌++◌, suc, map, length, arith, refl, inl, inr, sym, ap, subst, ◌∙◌, append-nil, append_assoc}
use Rattle.std.specs.Prelude.{All, Option, None, Some}
use Rattle.std.specs.Option.{option_to_list}
use Rattle.std.proofs.lemmas.List.{length-append, same_from_push}
use Rattle.std.proofs.lemmas.List.Elements.{All-map, All-nil, All-push}
use Rattle.pm_syn.specs.Laws.{GapsAndLineEndsStandBetweenTokens}
use Rattle.pm_syn.specs.Lexemes.{Lexeme, Stands}
use Rattle.pm_syn.specs.LogicalLines.{begun_after, begun_line, continued, drafts_of, ended_after, ended_lines, line_from, token_of}
use Rattle.pm_syn.specs.Positions.{last_line}
use Rattle.pm_syn.specs.Reading.{Reads, are_closed, brackets_of, bytes_of, line_of}
use Rattle.pm_syn.specs.Spaces.{AreJoined, AreMatched, AreParted, AreSpacedIn, HasSpace, IsSpaced}
use Rattle.pm_syn.specs.declared.bracket.Bracket.{Bracket}
use Rattle.pm_syn.specs.declared.draft.Draft.{Draft}
use Rattle.pm_syn.specs.declared.lexeme.Sort.{Sort}
use Rattle.pm_syn.specs.declared.lexeme.Sort.TheVariants as sort
use Rattle.pm_syn.specs.declared.token.Line.{Line}
use Rattle.pm_syn.specs.declared.token.Token.{Token}
use Rattle.pm_syn.proofs.CutFromText.{tokens_of_lines, whole}
use Rattle.pm_syn.proofs.MatchedBrackets.{AreOpen, all_matched, none_open, open_after, tokens_begun}
use Rattle.pm_syn.proofs.OneReading.{read_one}
use Rattle.pm_syn.proofs.SpaceBetween.{all_spaced, gap_before, line_end_before, no_space}

-- ---- neighbours in a list

-- a list is empty, or has a last element
last_or_none : {X : Type 0} (xs : List X) → (xs ≡ []) ⊎ ((prefix : List X) × (last : X) × (xs ≡ prefix ++ last ∷ []))
last_or_none [] = inl refl
last_or_none {X = X} (x ∷ xs) = elim (last_or_none xs) [
  | inl none ↦ inr ([], x, ap (λ (after : List X). x ∷ after) none)
  | inr some ↦ inr (x ∷ some.0, some.1, ap (λ (after : List X). x ∷ after) some.2)
]

-- neighbours where one more element is after the others
neighbours_push : {X : Type 0} (P : List X → X → X → Type 0) (xs : List X) (x : X)
    → ((prefix back : List X) (one next : X) → xs ≡ prefix ++ one ∷ next ∷ back → P prefix one next)
    → ((prefix : List X) (one : X) → xs ≡ prefix ++ one ∷ [] → P prefix one x)
    → (prefix back : List X) (one next : X) → xs ++ x ∷ [] ≡ prefix ++ one ∷ next ∷ back → P prefix one next
neighbours_push {X = X} P xs x inside last prefix back one next is = elim (last_or_none back) [
  | inl none ↦
      let same = same_from_push xs (prefix ++ one ∷ []) x next (
      is ∙ ap (λ (after : List X). prefix ++ one ∷ next ∷ after) none ∙ sym (append_assoc prefix (one ∷ []) (next ∷ []))) in
      subst (P prefix one) same.1 (last prefix one same.0)
  | inr some ↦
      let same = same_from_push xs (prefix ++ one ∷ next ∷ some.0) x some.1 (
      is ∙ ap (λ (after : List X). prefix ++ one ∷ next ∷ after) some.2 ∙ sym (append_assoc prefix (one ∷ next ∷ some.0) (some.1 ∷ []))) in
      inside prefix some.0 one next same.0
]

-- ---- logical lines so far

-- a line end comes after these tokens, before this position
abbrev EndBefore : List ℕ → List Token → ℕ → Type 0
EndBefore text tokens to = (prefix : List Token) (token : Token) → tokens ≡ prefix ++ token ∷ [] → (count : ℕ) × HasSpace text token.end to (suc count)

-- a line end comes after the last of the logical lines, before this position
abbrev LastEndsBefore : List ℕ → List Draft → ℕ → Type 0
LastEndsBefore text drafts to = (prefix : List Draft) (draft : Draft) → drafts ≡ prefix ++ draft ∷ [] → EndBefore text draft.tokens to

-- line ends are between the logical lines, and in them only where a bracket is open
record AreApart (text : List ℕ) (drafts : List Draft) : Type 0 where
  joined : All (λ draft. AreJoined text draft.tokens) drafts
  parted : (prefix back : List Draft) (draft next : Draft) → drafts ≡ prefix ++ draft ∷ next ∷ back → AreParted text draft.tokens next.tokens

-- the logical line has begun after the ended ones, and was read up to this position
record HasBegun (text : List ℕ) (ended : List Draft) (draft : Draft) (position : ℕ) : Type 0 where
  first : Token
  others : List Token
  tokens : draft.tokens ≡ first ∷ others
  parted : LastEndsBefore text ended first.start
  joined : AreJoined text draft.tokens
  after : (prefix : List Token) (token : Token) (to count : ℕ) → draft.tokens ≡ prefix ++ token ∷ [] → AreMatched draft.tokens
      → HasSpace text position to count → HasSpace text token.end to count

-- the same, read up to another position
read_on : (text : List ℕ) (ended : List Draft) (draft : Draft) (position next : ℕ) → HasBegun text ended draft position
    → ((prefix : List Token) (token : Token) (to count : ℕ) → draft.tokens ≡ prefix ++ token ∷ [] → AreMatched draft.tokens
    → HasSpace text next to count → HasSpace text token.end to count)
    → HasBegun text ended draft next
read_on text ended draft position next is after = record {
  first = is.first;
  others = is.others;
  tokens = is.tokens;
  parted = is.parted;
  joined = is.joined;
  after = after;
}

-- what comes after the last token, up to this position
abbrev IsReadTo : List ℕ → List Draft → Option Draft → ℕ → Type 0
IsReadTo text ended None position = (to count : ℕ) → HasSpace text position to count → LastEndsBefore text ended to
IsReadTo text ended (Some draft) position = HasBegun text ended draft position

-- with the logical line that has begun
with_begun : (text : List ℕ) (ended : List Draft) (begun : Option Draft) (position : ℕ) → IsReadTo text ended begun position → AreApart text ended
    → AreApart text (ended ++ option_to_list begun)
with_begun text ended None position last are = rw append-nil are
with_begun text ended (Some draft) position last are = record {
  joined = All-push (λ draft. AreJoined text draft.tokens) ended draft are.joined last.joined;
  parted = neighbours_push (λ prefix one next. AreParted text one.tokens next.tokens) ended draft are.parted (
      λ prefix one is start back token first ends begins.
      let same : last.first ≡ first = cc (last.tokens, begins) in
      subst (λ (after : Token). (count : ℕ) × HasSpace text token.end after.start (suc count)) same (last.parted prefix one is start token ends));
}

-- a gap
after_gap : (text : List ℕ) (ended : List Draft) (begun : Option Draft) (position next : ℕ)
    → ((to count : ℕ) → HasSpace text next to count → HasSpace text position to count) → IsReadTo text ended begun position → IsReadTo text ended begun next
after_gap text ended None position next more last = λ to count space. last to count (more to count space)
after_gap text ended (Some draft) position next more last =
    read_on text ended draft position next last (λ prefix token to count is matched space. last.after prefix token to count is matched (more to count space))

-- a line end
after_end : (text : List ℕ) (brackets : List Bracket) (ended : List Draft) (begun : Option Draft) (position next : ℕ)
    → AreOpen brackets (tokens_begun begun) → ((to count : ℕ) → HasSpace text next to count → HasSpace text position to (suc count))
    → IsReadTo text ended begun position
    → IsReadTo text (if are_closed brackets then ended ++ option_to_list begun else ended) (if are_closed brackets then None else begun) next
after_end text [] ended None position next opened more last = λ to count space. rw append-nil (last to (suc count) (more to count space))
after_end text [] ended (Some draft) position next opened more last = λ to count space prefix other is start token ends.
    let same : draft ≡ other = (same_from_push ended prefix draft other is).1 in
    (count, last.after start token to (suc count) (ap (λ (one : Draft). one.tokens) same ∙ ends) opened (more to count space))
after_end text (bracket ∷ outer) ended None position next opened more last = λ to count space. last to (suc count) (more to count space)
after_end text (bracket ∷ outer) ended (Some draft) position next opened more last =
    read_on text ended draft position next last (
    λ prefix token to count is matched space. let none = none_open (bracket ∷ outer) draft.tokens opened matched in absurd (cc))

-- a token
after_token : (text : List ℕ) (line : ℕ) (indent : List ℕ) (ended : List Draft) (begun : Option Draft) (token : Token)
    → IsReadTo text ended begun token.start → IsReadTo text ended (Some (continued line indent begun token)) token.end
after_token text line indent ended None token last = record {
  first = token;
  others = [];
  tokens = refl;
  parted = last token.start 0 (no_space text token.start);
  joined = λ prefix back one next is matched. absurd (omega (arith, ap length is, length-append prefix (one ∷ next ∷ back)));
  after = λ prefix one to count is matched space.
      subst (λ (other : Token). HasSpace text other.end to count) (same_from_push [] prefix token one is).1 space;
}
after_token text line indent ended (Some draft) token last = record {
  first = last.first;
  others = last.others ++ token ∷ [];
  tokens = ap (λ (tokens : List Token). tokens ++ token ∷ []) last.tokens;
  parted = last.parted;
  joined = neighbours_push (λ prefix one next. AreMatched (prefix ++ one ∷ []) → HasSpace text one.end next.start 0) draft.tokens token last.joined (
      λ prefix one is matched. last.after prefix one token.start 0 is (subst AreMatched (sym is) matched) (no_space text token.start));
  after = λ prefix one to count is matched space.
      subst (λ (other : Token). HasSpace text other.end to count) (same_from_push draft.tokens prefix token one is).1 space;
}

-- ---- logical lines as they are read

-- the logical lines are apart, up to this position
record AreReadTo (text : List ℕ) (ended : List Draft) (begun : Option Draft) (position : ℕ) : Type 0 where
  apart : AreApart text ended
  last : IsReadTo text ended begun position

-- the logical lines that have ended, with the one that a line end ends
apart_with_end : (text : List ℕ) (brackets : List Bracket) (ended : List Draft) (begun : Option Draft) (position : ℕ) → IsReadTo text ended begun position
    → AreApart text ended → AreApart text (if are_closed brackets then ended ++ option_to_list begun else ended)
apart_with_end text [] ended begun position last are = with_begun text ended begun position last are
apart_with_end text (bracket ∷ outer) ended begun position last are = are

read_with : (text : List ℕ) (before : List Lexeme) (sort : Sort) (bytes rest : List ℕ) → text ≡ bytes_of before ++ (bytes ++ rest)
    → Stands sort bytes rest → AreOpen (brackets_of before) (tokens_begun (begun_line before))
    → AreReadTo text (ended_lines before) (begun_line before) (length (bytes_of before))
    → AreReadTo text (ended_after before sort (ended_lines before)) (begun_after before bytes sort (begun_line before)) (length (bytes_of before) + length bytes)
read_with text before sort.Gap bytes rest is stands opened are = record {
  apart = are.apart;
  last = after_gap text (ended_lines before) (begun_line before) (length (bytes_of before)) _ (
      λ to count space. gap_before text (bytes_of before) bytes rest to count is stands space) are.last;
}
read_with text before sort.LineEnd bytes rest is stands opened are = record {
  apart = apart_with_end text (brackets_of before) (ended_lines before) (begun_line before) (length (bytes_of before)) are.last are.apart;
  last = after_end text (brackets_of before) (ended_lines before) (begun_line before) (length (bytes_of before)) _ opened (
      λ to count space. line_end_before text (bytes_of before) bytes rest to count is stands space) are.last;
}
read_with text before (sort.Token kind) bytes rest is stands opened are = record {
  apart = are.apart;
  last = after_token text (line_of before) (last_line (bytes_of before)) (ended_lines before) (begun_line before) (token_of before kind bytes) are.last;
}

read_to : (text : List ℕ) (before : List Lexeme) (rest : List ℕ) → Reads text before rest
    → AreReadTo text (ended_lines before) (begun_line before) (length (bytes_of before))
read_to text [] rest read = record {
  apart = record {
    joined = All-nil (λ draft. AreJoined text draft.tokens);
    parted = λ prefix back draft next is. absurd (omega (arith, ap length is, length-append prefix (draft ∷ next ∷ back)));
  };
  last = λ to count space prefix draft is. absurd (omega (arith, ap length is, length-append prefix (draft ∷ [])));
}
read_to text (lexeme ∷ before) rest read =
    let last = read_one text lexeme before rest read in
    subst (AreReadTo text (ended_lines (lexeme ∷ before)) (begun_line (lexeme ∷ before))) (sym (length-append (bytes_of before) lexeme.bytes)) (
    read_with text before lexeme.sort lexeme.bytes rest (whole text before (lexeme.bytes ++ rest) last.0) last.1 (
    open_after text before (lexeme.bytes ++ rest) last.0) (read_to text before (lexeme.bytes ++ rest) last.0))

all_apart : (text : List ℕ) (before : List Lexeme) (rest : List ℕ) → Reads text before rest → AreApart text (drafts_of before)
all_apart text before rest read =
    let are = read_to text before rest read in
    with_begun text (ended_lines before) (begun_line before) (length (bytes_of before)) are.last are.apart

-- lines that are made of logical lines
lines_parted : (text : List ℕ) (drafts : List Draft)
    → ((prefix back : List Draft) (draft next : Draft) → drafts ≡ prefix ++ draft ∷ next ∷ back → AreParted text draft.tokens next.tokens)
    → (prefix back : List Line) (line next : Line) → map line_from drafts ≡ prefix ++ line ∷ next ∷ back → AreParted text line.tokens next.tokens
lines_parted text [] parted [] back line next is = absurd (cc)
lines_parted text [] parted (other ∷ prefix) back line next is = absurd (cc)
lines_parted text (draft ∷ []) parted [] back line next is = absurd (cc)
lines_parted text (draft ∷ second ∷ drafts) parted [] back line next is =
    let one : line_from draft ≡ line = cc in
    let two : line_from second ≡ next = cc in
    subst (λ (made : Line). AreParted text made.tokens next.tokens) one (
    subst (λ (made : Line). AreParted text draft.tokens made.tokens) two (parted [] drafts draft second refl))
lines_parted text (draft ∷ drafts) parted (other ∷ prefix) back line next is =
    let rest : map line_from drafts ≡ prefix ++ line ∷ next ∷ back = cc in
    lines_parted text drafts (λ start after one two same. parted (draft ∷ start) after one two (ap (λ (all : List Draft). draft ∷ all) same)) prefix back line next rest

pub lines_spaced : GapsAndLineEndsStandBetweenTokens
lines_spaced text lines is =
    let drafts : List Draft = drafts_of is.lexemes in
    let apart = all_apart text is.lexemes [] is.read in
    subst (AreSpacedIn text) (sym is.made) (record {
      filled = subst (IsSpaced text 0) (sym (tokens_of_lines drafts)) (all_spaced text is.lexemes is.read);
      matched = All-map (λ line. AreMatched line.tokens) line_from drafts (all_matched text is.lexemes is.read is.closed);
      joined = All-map (λ line. AreJoined text line.tokens) line_from drafts apart.joined;
      parted = lines_parted text drafts apart.parted;
    })
