-- The answer for a text that was read as far as it can be.
use Rattle.std.proofs.Common.{◌≡◌, ◌⊎◌, ◌∙◌, ◌≤◌, ◌<◌, ◌^◌, ◌++◌, ℕ, Bool, true, false, if◌then◌else◌, nat_lt, List, [], ◌∷◌, Option, Some, None, Result, Ok, Err, All, length, map, ap, suc, sym, subst, refl, inl, inr, arith}
use Rattle.std.proofs.lemmas.Bool.Decides.{nat_tests}
use Rattle.std.proofs.lemmas.List.Elements.{All-append, All-cons, All-contains, All-nil, All-weaker}
use Rattle.std.proofs.lemmas.Option.{get_or_from_slice_get, same_Some, slice_get_within}
use Rattle.std.specs.Prelude.{slice_get}
use Rattle.pm_syn.specs.Answers.{HasFault, IsAnswer}
use Rattle.pm_syn.specs.Faults.{ComesBy, IsFirst, faults_of_lines, faults_of_line, is_before, length_of, line_faults, line_named, token_fault}
use Rattle.pm_syn.specs.Indentation.{columns_with, is_allowed}
use Rattle.pm_syn.specs.Lexemes.{Lexeme}
use Rattle.pm_syn.specs.LogicalLines.{drafts_of, line_from}
use Rattle.pm_syn.specs.Progress.{IsRead, named}
use Rattle.pm_syn.specs.Reading.{Reads, Stops, at_end, at_misfit, at_no_lexeme}
use Rattle.pm_syn.specs.declared.draft.Draft.{Draft}
use Rattle.pm_syn.specs.declared.fault.TextFault.{TextFault}
use Rattle.pm_syn.specs.declared.fault.TextFault.TheVariants as fault
use Rattle.pm_syn.specs.declared.lexing.ReadText.{ReadText}
use Rattle.pm_syn.specs.declared.token.Line.{Line}
use Rattle.pm_syn.proofs.OneFault.{one_answer}
use Rattle.pm_syn.proofs.Ascending.{Ascend, all_of_line, ascending, head_first}

-- a fault of a logical line
abbrev pub IsOfLine : TextFault → Type 0
IsOfLine (fault.BadIndent line) = Unit {0}
IsOfLine (fault.LineTooLong line) = Unit {0}
IsOfLine (fault.BadToken line) = ⊥
IsOfLine fault.FileTooLong = ⊥
IsOfLine fault.NoMemory = ⊥

-- all faults of logical lines are
pub of_lines : (earlier : List ℕ) (drafts : List Draft) → All IsOfLine (faults_of_lines earlier drafts)
of_lines earlier [] = All-nil IsOfLine
of_lines earlier (draft ∷ drafts) =
    All-append IsOfLine (faults_of_line earlier draft) (faults_of_lines (columns_with draft.indentation earlier) drafts)
    (all_of_line IsOfLine (is_allowed draft.indentation earlier) (nat_lt 4096 (length_of draft.tokens)) draft.number tt tt)
    (of_lines (columns_with draft.indentation earlier) drafts)

-- it names a line before this one, or it doesn't
pub before_line : (first : TextFault) (line : ℕ) → IsOfLine first → is_before first line ≡ true → line_named first < line
before_line (fault.BadIndent named) line is lt = grind (arith, nat_tests)
before_line (fault.LineTooLong named) line is lt = grind (arith, nat_tests)
before_line (fault.BadToken named) line is lt = absurd is
before_line fault.FileTooLong line is lt = absurd is
before_line fault.NoMemory line is lt = absurd is

not_before_line : (first : TextFault) (line : ℕ) → IsOfLine first → is_before first line ≡ false → line ≤ line_named first
not_before_line (fault.BadIndent named) line is lt = grind (arith, nat_tests)
not_before_line (fault.LineTooLong named) line is lt = grind (arith, nat_tests)
not_before_line (fault.BadToken named) line is lt = absurd is
not_before_line fault.FileTooLong line is lt = absurd is
not_before_line fault.NoMemory line is lt = absurd is

-- the first of the faults is one of a line
pub head_of_line : (drafts : List Draft) (first : TextFault) → slice_get (line_faults drafts) 0 ≡ Some first → IsOfLine first
head_of_line drafts first is =
    All-contains IsOfLine (line_faults drafts) first (of_lines (0 ∷ []) drafts)
    (0, slice_get_within (line_faults drafts) 0 first is, get_or_from_slice_get (line_faults drafts) 0 first first is)

-- the answer that names a fault
abbrev pub IsFaultAnswer : List ℕ → TextFault → Type 0
IsFaultAnswer text first = HasFault text first → IsAnswer text (Err first)

of_line_answer : (text : List ℕ) (first : TextFault) → IsOfLine first → IsFaultAnswer text first
of_line_answer text (fault.BadIndent line) is has = has
of_line_answer text (fault.LineTooLong line) is has = has
of_line_answer text (fault.BadToken line) is has = absurd is
of_line_answer text fault.FileTooLong is has = absurd is
of_line_answer text fault.NoMemory is has = absurd is

-- one element before others that it comes before
first_prepended : (first : TextFault) (faults : List TextFault) → All (ComesBy first) faults → IsFirst first (first ∷ faults)
first_prepended first faults least = record {
  one = (0, omega arith, refl);
  least = All-cons (ComesBy first) first faults (inr (refl, omega arith)) least;
}

-- one more element before them that it comes before
first_after : (first prefix : TextFault) (faults : List TextFault) → ComesBy first prefix → IsFirst first faults → IsFirst first (prefix ∷ faults)
first_after first prefix faults by is = record {
  one = (suc is.one.0, omega (arith, is.one.1), is.one.2);
  least = All-cons (ComesBy first) prefix faults by is.least;
}

-- a bad token comes by what doesn't name an earlier line
token_at : (line : ℕ) (other : TextFault) → line ≤ line_named other → (b : Bool) → nat_lt line (line_named other) ≡ b → ComesBy (fault.BadToken line) other
token_at line other le true lt = inl (grind (arith, nat_tests))
token_at line other le false lt = let same : line ≡ line_named other = grind (arith, nat_tests) in inr (same, omega arith)

token_by : (line : ℕ) (found : TextFault) → line ≤ line_named found → (other : TextFault) → ComesBy found other → ComesBy (fault.BadToken line) other
token_by line found le other (inl less) = inl (omega (arith, le, less))
token_by line found le other (inr same) = token_at line other (omega (arith, le, same.0)) (nat_lt line (line_named other)) refl

-- which fault is named beside a bad token
beside_token : (text : List ℕ) (line : ℕ) (drafts : List Draft) (found first : TextFault) → Ascend drafts → slice_get (line_faults drafts) 0 ≡ Some found
    → (b : Bool) → is_before found line ≡ b → (if b then Some found else Some (fault.BadToken line)) ≡ Some first
    → IsFirst first (fault.BadToken line ∷ line_faults drafts) × IsFaultAnswer text first
beside_token text line drafts found first ascend head true before is =
    let of_line = head_of_line drafts found head in
    subst (λ (f : TextFault). IsFirst f (fault.BadToken line ∷ line_faults drafts) × IsFaultAnswer text f) (same_Some found first is)
    (first_after found (fault.BadToken line) (line_faults drafts) (inl (before_line found line of_line before)) (head_first drafts found ascend head), of_line_answer text found of_line)
beside_token text line drafts found first ascend head false before is =
    let of_line = head_of_line drafts found head in
    let reaches = not_before_line found line of_line before in
    subst (λ (f : TextFault). IsFirst f (fault.BadToken line ∷ line_faults drafts) × IsFaultAnswer text f) (same_Some (fault.BadToken line) first is)
    (first_prepended (fault.BadToken line) (line_faults drafts) (All-weaker (ComesBy found) (ComesBy (fault.BadToken line)) (token_by line found reaches) (line_faults drafts) (head_first drafts found ascend head).least), λ (has : HasFault text (fault.BadToken line)). has)

-- one of two faults
one_is_named : (found : TextFault) (line : ℕ) (b : Bool) → (if b then Some found else Some (fault.BadToken line)) ≡ None → ⊥
one_is_named found line true is = absurd (cc)
one_is_named found line false is = absurd (cc)

-- a list without a first element is empty
nil_from_slice_get : (faults : List TextFault) → slice_get faults 0 ≡ None → faults ≡ []
nil_from_slice_get [] none = refl
nil_from_slice_get (first ∷ faults) none = absurd (cc)

-- a reading that stops without a bad token is at the text's end
pub stopped_at_end : (before : List Lexeme) (rest : List ℕ) (bad : Option ℕ) → Stops before rest bad → bad ≡ None → rest ≡ []
stopped_at_end before rest bad (at_end _) none = refl
stopped_at_end before rest bad (at_no_lexeme _ _ _ _) none = absurd (cc)
stopped_at_end before rest bad (at_misfit _ _ _ _ _ _) none = absurd (cc)

-- the fault that is named is the first
pub named_is_first : (text : List ℕ) (bad : Option ℕ) (drafts : List Draft) (found : Option TextFault) (first : TextFault) → Ascend drafts
    → found ≡ slice_get (line_faults drafts) 0 → named bad found ≡ Some first
    → IsFirst first (token_fault bad ++ line_faults drafts) × IsFaultAnswer text first
named_is_first text None drafts found first ascend head is =
    let here : slice_get (line_faults drafts) 0 ≡ Some first = sym head ∙ is in
    (head_first drafts first ascend here, of_line_answer text first (head_of_line drafts first here))
named_is_first text (Some line) drafts None first ascend head is =
    let none : line_faults drafts ≡ [] = nil_from_slice_get (line_faults drafts) (sym head) in
    subst (λ (f : TextFault). IsFirst f (fault.BadToken line ∷ line_faults drafts) × IsFaultAnswer text f) (same_Some (fault.BadToken line) first is)
    (subst (λ (faults : List TextFault). IsFirst (fault.BadToken line) (fault.BadToken line ∷ faults)) (sym none) (first_prepended (fault.BadToken line) [] (All-nil (ComesBy (fault.BadToken line)))), λ (has : HasFault text (fault.BadToken line)). has)
named_is_first text (Some line) drafts (Some found) first ascend head is =
    beside_token text line drafts found first ascend (sym head) (is_before found line) refl is

pub none_named : (bad : Option ℕ) (drafts : List Draft) (found : Option TextFault) → found ≡ slice_get (line_faults drafts) 0 → named bad found ≡ None
    → (bad ≡ None) × (line_faults drafts ≡ [])
none_named None drafts found head is = (refl, nil_from_slice_get (line_faults drafts) (sym head ∙ is))
none_named (Some line) drafts None head is = absurd (cc)
none_named (Some line) drafts (Some found) head is = absurd (one_is_named found line (is_before found line) is)

-- ---- the answers

pub fault_answer : (text : List ℕ) (reading : ReadText) (found : Option TextFault) (first : TextFault) → length text ≤ 2 ^ 20 → IsRead text reading
    → found ≡ slice_get (line_faults reading.drafts.items) 0 → named reading.bad_token found ≡ Some first → IsAnswer text (Err first)
fault_answer text reading found first fits read head is =
    let drafts = read.drafts in
    let ascend = ascending text read.lexemes read.rest read.read in
    let found_there : found ≡ slice_get (line_faults (drafts_of read.lexemes)) 0 = head ∙ ap (λ (ds : List Draft). slice_get (line_faults ds) 0) drafts in
    let facts = named_is_first text reading.bad_token (drafts_of read.lexemes) found first ascend found_there is in
    facts.1 (record { fits = fits; lexemes = read.lexemes; rest = read.rest; bad_token = reading.bad_token; read = read.read; stopped = read.stopped; named = facts.0 })

pub lines_answer : (text : List ℕ) (reading : ReadText) (found : Option TextFault) (lines : List Line) → length text ≤ 2 ^ 20 → IsRead text reading
    → found ≡ slice_get (line_faults reading.drafts.items) 0 → named reading.bad_token found ≡ None → lines ≡ map line_from reading.drafts.items
    → IsAnswer text (Ok lines)
lines_answer text reading found lines fits read head is made =
    let found_there : found ≡ slice_get (line_faults (drafts_of read.lexemes)) 0 = head ∙ ap (λ (ds : List Draft). slice_get (line_faults ds) 0) read.drafts in
    let facts = none_named reading.bad_token (drafts_of read.lexemes) found found_there is in
    let stopped : Stops read.lexemes read.rest None = subst (λ (bad : Option ℕ). Stops read.lexemes read.rest bad) facts.0 read.stopped in
    let rest = stopped_at_end read.lexemes read.rest None stopped refl in
    record {
      fits = fits;
      lexemes = read.lexemes;
      read = subst (λ (left : List ℕ). Reads text read.lexemes left) rest read.read;
      closed = subst (λ (left : List ℕ). Stops read.lexemes left None) rest stopped;
      faultless = facts.1;
      made = made ∙ ap (λ (ds : List Draft). map line_from ds) read.drafts;
    }

-- the answer is the only answer
pub only_answer : (text : List ℕ) (result : Result (List Line) TextFault) → (result ≡ Err fault.NoMemory) ⊎ IsAnswer text result
    → (answer : Result (List Line) TextFault) → IsAnswer text answer → (result ≡ Err fault.NoMemory) ⊎ (result ≡ answer)
only_answer text result (inl out) answer is = inl out
only_answer text result (inr given) answer is = inr (one_answer text result answer given is)
