-- Proof that logical lines begin on later and later lines of the text, and which of their faults is the first.
use Rattle.std.proofs.Common.{◌≡◌, ◌<◌, ◌≤◌, ◌+◌, ℕ, Bool, true, false, if◌then◌else◌, nat_lt, List, [], ◌∷◌, ◌++◌, arith, refl, inl, inr, sym, ap, subst, ◌∙◌, append-nil, suc}
use Rattle.std.specs.Prelude.{All, Option, None, Some, slice_get}
use Rattle.std.specs.List.{AllPairs}
use Rattle.std.specs.Option.{option_to_list}
use Rattle.std.proofs.lemmas.List.Elements.{All-nil, All-cons, All-head, All-tail, All-append, All-push, All-weaker}
use Rattle.std.proofs.lemmas.List.Quantifiers.{all_pairs_push}
use Rattle.std.proofs.lemmas.Option.{same_Some, slice_get_within, get_or_from_slice_get}
use Rattle.pm_syn.specs.Bytes.{IsLineEnd}
use Rattle.pm_syn.specs.Faults.{IsFirst, ComesBy, faults_of_lines, faults_of_line, length_of, line_faults, line_named}
use Rattle.pm_syn.specs.Indentation.{is_allowed, columns_with}
use Rattle.pm_syn.specs.Lexemes.{Lexeme, Stands}
use Rattle.pm_syn.specs.LogicalLines.{drafts_of, ended_lines, begun_line, begun_after, ended_after, continued, token_of}
use Rattle.pm_syn.specs.Positions.{last_line, line_ends}
use Rattle.pm_syn.specs.Reading.{Reads, are_closed, brackets_of, bytes_of, line_of}
use Rattle.pm_syn.specs.declared.draft.Draft.{Draft}
use Rattle.pm_syn.specs.declared.fault.TextFault.{TextFault}
use Rattle.pm_syn.specs.declared.fault.TextFault.TheVariants as fault
use Rattle.pm_syn.specs.declared.lexeme.Sort.{Sort}
use Rattle.pm_syn.specs.declared.lexeme.Sort.TheVariants as sort
use Rattle.pm_syn.specs.declared.token.Token.{Token}
use Rattle.pm_syn.proofs.LineEnds.{line_ends-append}
use Rattle.pm_syn.proofs.OneReading.{read_one}

-- ---- lists of logical lines that ascend

-- each logical line begins on an earlier line of the text than all later ones
abbrev pub Ascend : List Draft → Type 0
Ascend drafts = AllPairs (λ draft next. draft.number < next.number) drafts

-- it begins before this line
abbrev Before : ℕ → Draft → Type 0
Before line draft = draft.number < line

-- it begins after this line
abbrev IsAfter : ℕ → Draft → Type 0
IsAfter line draft = line < draft.number

ascend_none : Ascend []
ascend_none i j draft less within = absurd (omega (arith, within))

-- one more logical line that begins after all others
ascend_push : (drafts : List Draft) (draft : Draft) → Ascend drafts → All (Before draft.number) drafts → Ascend (drafts ++ draft ∷ [])
ascend_push drafts draft ascend before = all_pairs_push (λ draft next. draft.number < next.number) drafts draft ascend before

-- all logical lines begin after the first
ascend_after : (first : Draft) (drafts : List Draft) → Ascend (first ∷ drafts) → All (IsAfter first.number) drafts
ascend_after first drafts ascend k draft within = ascend 0 (suc k) draft (omega arith) (omega (arith, within))

ascend_tail : (first : Draft) (drafts : List Draft) → Ascend (first ∷ drafts) → Ascend drafts
ascend_tail first drafts ascend i j draft less within = ascend (suc i) (suc j) draft (omega (arith, less)) (omega (arith, within))

-- ---- the logical lines up to a line

-- the logical lines that have ended begin before this line, and the one that has begun after those and no later than on it
record AreUpTo (line : ℕ) (ended : List Draft) (begun : Option Draft) : Type 0 where
  ascend : Ascend ended
  past : All (Before line) ended
  last : (draft : Draft) → begun ≡ Some draft → All (Before draft.number) ended × (draft.number ≤ line)

later : (line next : ℕ) (ended : List Draft) (begun : Option Draft) → line ≤ next → AreUpTo line ended begun → AreUpTo next ended begun
later line next ended begun more are = record {
  ascend = are.ascend;
  past = All-weaker (Before line) (Before next) (λ draft less. omega (arith, less, more)) ended are.past;
  last = λ draft is. (let facts = are.last draft is in (facts.0, omega (arith, facts.1, more)));
}

none_last : (line : ℕ) (ended : List Draft) → Ascend ended → All (Before line) ended → AreUpTo line ended None
none_last line ended ascend past = record { ascend = ascend; past = past; last = λ draft is. absurd (cc) }

-- a line end after the logical line
line_ended : (line next : ℕ) (drafts : List Draft) (begun : Option Draft) → line < next → AreUpTo line drafts begun
    → AreUpTo next (drafts ++ option_to_list begun) None
line_ended line next drafts None more are =
    let past = All-weaker (Before line) (Before next) (λ draft less. omega (arith, less, more)) drafts are.past in
    rw append-nil (none_last next drafts are.ascend past)
line_ended line next drafts (Some draft) more are =
    let facts = are.last draft refl in
    let past = All-weaker (Before line) (Before next) (λ draft less. omega (arith, less, more)) drafts are.past in
    none_last next (drafts ++ draft ∷ []) (ascend_push drafts draft are.ascend facts.0) (
    All-push (Before next) drafts draft past (omega (arith, facts.1, more)))

-- a line end, which ends the logical line where no bracket is open
line_end : (closed : Bool) (line next : ℕ) (drafts : List Draft) (begun : Option Draft) → line < next → AreUpTo line drafts begun
    → AreUpTo next (if closed then drafts ++ option_to_list begun else drafts) (if closed then None else begun)
line_end true line next drafts begun more are = line_ended line next drafts begun more are
line_end false line next drafts begun more are = later line next drafts begun (omega (arith, more)) are

-- a first token, which begins a logical line on this line
begun_here : (line : ℕ) (drafts : List Draft) (draft : Draft) → draft.number ≡ line → AreUpTo line drafts None → AreUpTo line drafts (Some draft)
begun_here line drafts draft here are = record {
  ascend = are.ascend;
  past = are.past;
  last = λ other is. (
      let number : line ≡ other.number = sym here ∙ ap (λ (kept : Draft). kept.number) (same_Some draft other is) in
      (subst (λ (bound : ℕ). All (Before bound) drafts) number are.past, omega (arith, number))
      );
}

-- another token, which leaves the number of its logical line
begun_more : (line : ℕ) (drafts : List Draft) (draft longer : Draft) → longer.number ≡ draft.number → AreUpTo line drafts (Some draft)
    → AreUpTo line drafts (Some longer)
begun_more line drafts draft longer same are = record {
  ascend = are.ascend;
  past = are.past;
  last = λ other is. (
      let facts = are.last draft refl in
      let number : draft.number ≡ other.number = sym same ∙ ap (λ (kept : Draft). kept.number) (same_Some longer other is) in
      (subst (λ (bound : ℕ). All (Before bound) drafts) number facts.0, omega (arith, number, facts.1))
      );
}

-- a token
with_token : (before : List Lexeme) (token : Token) (drafts : List Draft) (begun : Option Draft) → AreUpTo (line_of before) drafts begun
    → AreUpTo (line_of before) drafts (Some (continued (line_of before) (last_line (bytes_of before)) begun token))
with_token before token drafts None are = begun_here (line_of before) drafts (continued (line_of before) (last_line (bytes_of before)) None token) refl are
with_token before token drafts (Some draft) are = begun_more (line_of before) drafts draft (continued (line_of before) (last_line (bytes_of before)) (Some draft) token) refl are

-- ---- the logical lines of lexemes that were read

-- a line end has one
pub line_ends-line_end : (bytes : List ℕ) → IsLineEnd bytes → line_ends bytes ≡ 1
line_ends-line_end bytes (inl short) = ap line_ends short
line_ends-line_end bytes (inr long) = ap line_ends long

-- one more lexeme
with_lexeme : (before : List Lexeme) (sort : Sort) (bytes after : List ℕ) → Stands sort bytes after
    → AreUpTo (line_of before) (ended_lines before) (begun_line before)
    → AreUpTo (line_of before + line_ends bytes) (ended_after before sort (ended_lines before)) (begun_after before bytes sort (begun_line before))
with_lexeme before sort.Gap bytes after stands are = later (line_of before) _ (ended_lines before) (begun_line before) (omega arith) are
with_lexeme before sort.LineEnd bytes after stands are =
    let one = line_ends-line_end bytes stands in
    line_end (are_closed (brackets_of before)) (line_of before) _ (ended_lines before) (begun_line before) (omega (arith, one)) are
with_lexeme before (sort.Token kind) bytes after stands are =
    later (line_of before) _ (ended_lines before) (Some (continued (line_of before) (last_line (bytes_of before)) (begun_line before) (token_of before kind bytes))) (omega arith) (
    with_token before (token_of before kind bytes) (ended_lines before) (begun_line before) are)

up_to : (text : List ℕ) (before : List Lexeme) (rest : List ℕ) → Reads text before rest
    → AreUpTo (line_of before) (ended_lines before) (begun_line before)
up_to text [] rest read = none_last 1 [] ascend_none (All-nil (Before 1))
up_to text (lexeme ∷ before) rest read =
    let last = read_one text lexeme before rest read in
    let are = with_lexeme before lexeme.sort lexeme.bytes rest last.1 (up_to text before (lexeme.bytes ++ rest) last.0) in
    let line : line_of before + line_ends lexeme.bytes ≡ line_of (lexeme ∷ before) = omega (arith, line_ends-append (bytes_of before) lexeme.bytes) in
    subst (λ (here : ℕ). AreUpTo here (ended_lines (lexeme ∷ before)) (begun_line (lexeme ∷ before))) line are

all_ascend : (line : ℕ) (drafts : List Draft) (begun : Option Draft) → AreUpTo line drafts begun → Ascend (drafts ++ option_to_list begun)
all_ascend line drafts None are = rw append-nil are.ascend
all_ascend line drafts (Some draft) are = ascend_push drafts draft are.ascend (are.last draft refl).0

-- each logical line of a text begins after the one before it
pub ascending : (text : List ℕ) (before : List Lexeme) (rest : List ℕ) → Reads text before rest → Ascend (drafts_of before)
ascending text before rest read = all_ascend (line_of before) (ended_lines before) (begun_line before) (up_to text before rest read)

-- ---- the first fault of logical lines

-- the fault names a line after this one
abbrev NamesLater : ℕ → TextFault → Type 0
NamesLater line named = line < line_named named

-- what holds of both faults that a logical line may have holds of each that it has
pub all_of_line : (P : TextFault → Type 0) (allowed long : Bool) (number : ℕ) → P (fault.BadIndent number) → P (fault.LineTooLong number)
    → All P ((if allowed then [] else fault.BadIndent number ∷ []) ++ (if long then fault.LineTooLong number ∷ [] else []))
all_of_line P true true number indent length = All-cons P (fault.LineTooLong number) [] length (All-nil P)
all_of_line P true false number indent length = All-nil P
all_of_line P false true number indent length =
    All-cons P (fault.BadIndent number) (fault.LineTooLong number ∷ []) indent (All-cons P (fault.LineTooLong number) [] length (All-nil P))
all_of_line P false false number indent length = All-cons P (fault.BadIndent number) [] indent (All-nil P)

-- the faults of logical lines after a line name lines after it
faults_after_line : (earlier : List ℕ) (drafts : List Draft) (line : ℕ) → All (IsAfter line) drafts → All (NamesLater line) (faults_of_lines earlier drafts)
faults_after_line earlier [] line after = All-nil (NamesLater line)
faults_after_line earlier (draft ∷ drafts) line after =
    let here : line < draft.number = All-head (IsAfter line) draft drafts after in
    All-append (NamesLater line) (faults_of_line earlier draft) (faults_of_lines (columns_with draft.indentation earlier) drafts) (
    all_of_line (NamesLater line) (is_allowed draft.indentation earlier) (nat_lt 4096 (length_of draft.tokens)) draft.number here here) (
    faults_after_line (columns_with draft.indentation earlier) drafts line (All-tail (IsAfter line) draft drafts after))

-- the first of a logical line's faults and those after it comes before each other one
head_here : (allowed long : Bool) (number : ℕ) (rest : List TextFault) (first : TextFault) → All (NamesLater number) rest
    → (slice_get rest 0 ≡ Some first → All (ComesBy first) rest)
    → slice_get (((if allowed then [] else fault.BadIndent number ∷ []) ++ (if long then fault.LineTooLong number ∷ [] else [])) ++ rest) 0 ≡ Some first
    → All (ComesBy first) (((if allowed then [] else fault.BadIndent number ∷ []) ++ (if long then fault.LineTooLong number ∷ [] else [])) ++ rest)
head_here true false number rest first after inside is = inside is
head_here true true number rest first after inside is =
    subst (λ (named : TextFault). All (ComesBy named) (fault.LineTooLong number ∷ rest)) (same_Some (fault.LineTooLong number) first is) (
    All-cons (ComesBy (fault.LineTooLong number)) (fault.LineTooLong number) rest (inr (refl, omega arith)) (
    All-weaker (NamesLater number) (ComesBy (fault.LineTooLong number)) (λ named less. inl less) rest after))
head_here false false number rest first after inside is =
    subst (λ (named : TextFault). All (ComesBy named) (fault.BadIndent number ∷ rest)) (same_Some (fault.BadIndent number) first is) (
    All-cons (ComesBy (fault.BadIndent number)) (fault.BadIndent number) rest (inr (refl, omega arith)) (
    All-weaker (NamesLater number) (ComesBy (fault.BadIndent number)) (λ named less. inl less) rest after))
head_here false true number rest first after inside is =
    subst (λ (named : TextFault). All (ComesBy named) (fault.BadIndent number ∷ fault.LineTooLong number ∷ rest)) (same_Some (fault.BadIndent number) first is) (
    All-cons (ComesBy (fault.BadIndent number)) (fault.BadIndent number) (fault.LineTooLong number ∷ rest) (inr (refl, omega arith)) (
    All-cons (ComesBy (fault.BadIndent number)) (fault.LineTooLong number) rest (inr (refl, omega arith)) (
    All-weaker (NamesLater number) (ComesBy (fault.BadIndent number)) (λ named less. inl less) rest after)))

-- the first of the faults of logical lines that ascend comes before each other one
pub head_least : (earlier : List ℕ) (drafts : List Draft) (first : TextFault) → Ascend drafts → slice_get (faults_of_lines earlier drafts) 0 ≡ Some first
    → All (ComesBy first) (faults_of_lines earlier drafts)
head_least earlier [] first ascend is = All-nil (ComesBy first)
head_least earlier (draft ∷ drafts) first ascend is =
    head_here (is_allowed draft.indentation earlier) (nat_lt 4096 (length_of draft.tokens)) draft.number
    (faults_of_lines (columns_with draft.indentation earlier) drafts) first (
    faults_after_line (columns_with draft.indentation earlier) drafts draft.number (ascend_after draft drafts ascend)) (
    λ inside. head_least (columns_with draft.indentation earlier) drafts first (ascend_tail draft drafts ascend) inside) is

-- the first of the faults of logical lines that ascend is the first of them
pub head_first : (drafts : List Draft) (first : TextFault) → Ascend drafts → slice_get (line_faults drafts) 0 ≡ Some first → IsFirst first (line_faults drafts)
head_first drafts first ascend is = record {
  one = (0, slice_get_within (line_faults drafts) 0 first is, get_or_from_slice_get (line_faults drafts) 0 first first is);
  least = head_least (0 ∷ []) drafts first ascend is;
}
