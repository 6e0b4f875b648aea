-- Proof that each text has an answer: its logical lines or a fault.
use Rattle.std.proofs.Common.{◌≡◌, ◌⊎◌, ◌<◌, ◌≤◌, ◌^◌, ℕ, List, [], length, map, Option, Some, None, Result, Ok, Err, refl, inl, inr, subst, arith}
use Rattle.std.specs.Prelude.{slice_get}
use Rattle.std.proofs.lemmas.Bool.{cases_order}
use Rattle.pm_syn.specs.Answers.{HasLines, IsAnswer}
use Rattle.pm_syn.specs.Faults.{line_faults}
use Rattle.pm_syn.specs.Laws.{EveryTextHasAnAnswer}
use Rattle.pm_syn.specs.LogicalLines.{drafts_of, line_from}
use Rattle.pm_syn.specs.Progress.{named}
use Rattle.pm_syn.specs.Reading.{Reads, Stops}
use Rattle.pm_syn.specs.declared.draft.Draft.{Draft}
use Rattle.pm_syn.specs.declared.fault.TextFault.{TextFault}
use Rattle.pm_syn.specs.declared.fault.TextFault.TheVariants as fault
use Rattle.pm_syn.specs.declared.token.Line.{Line}
use Rattle.pm_syn.proofs.AnswersGiven.{named_is_first, none_named, stopped_at_end}
use Rattle.pm_syn.proofs.Ascending.{ascending}
use Rattle.pm_syn.proofs.ReadToTheEnd.{IsReadOut, read_out}

-- the answer for a text
abbrev HasAnswer : List ℕ → Type 0
HasAnswer text = (answer : Result (List Line) TextFault) × IsAnswer text answer

lines_answered : (text : List ℕ) → length text ≤ 2 ^ 20 → (is : IsReadOut text) → (is.bad_token ≡ None) × (line_faults (drafts_of is.lexemes) ≡ [])
    → HasAnswer text
lines_answered text fits is none =
    let stopped : Stops is.lexemes is.rest None = subst (λ (bad : Option ℕ). Stops is.lexemes is.rest bad) none.0 is.stopped in
    let rest = stopped_at_end is.lexemes is.rest None stopped refl in
    let lines : HasLines text (map line_from (drafts_of is.lexemes)) = record {
      fits = fits;
      lexemes = is.lexemes;
      read = subst (λ (left : List ℕ). Reads text is.lexemes left) rest is.read;
      closed = subst (λ (left : List ℕ). Stops is.lexemes left None) rest stopped;
      faultless = none.1;
      made = refl;
    } in
    (Ok (map line_from (drafts_of is.lexemes)), lines)

fault_answered : (text : List ℕ) → length text ≤ 2 ^ 20 → (is : IsReadOut text) → (first : TextFault)
    → named is.bad_token (slice_get (line_faults (drafts_of is.lexemes)) 0) ≡ Some first → HasAnswer text
fault_answered text fits is first found =
    let drafts : List Draft = drafts_of is.lexemes in
    let ascend = ascending text is.lexemes is.rest is.read in
    let facts = named_is_first text is.bad_token drafts (slice_get (line_faults drafts) 0) first ascend refl found in (
      Err first,
      facts.1 (record {
        fits = fits;
        lexemes = is.lexemes;
        rest = is.rest;
        bad_token = is.bad_token;
        read = is.read;
        stopped = is.stopped;
        named = facts.0;
      }),
    )

fault_cases : (found : Option TextFault) → (found ≡ None) ⊎ ((first : TextFault) × (found ≡ Some first))
fault_cases None = inl refl
fault_cases (Some first) = inr (first, refl)

answered : (text : List ℕ) → length text ≤ 2 ^ 20 → HasAnswer text
answered text fits =
    let is = read_out text in
    let drafts : List Draft = drafts_of is.lexemes in
    elim (fault_cases (named is.bad_token (slice_get (line_faults drafts) 0))) [
      | inl none ↦ lines_answered text fits is (none_named is.bad_token drafts (slice_get (line_faults drafts) 0) refl none)
      | inr found ↦ fault_answered text fits is found.0 found.1
    ]

too_long : (text : List ℕ) → 2 ^ 20 < length text → HasAnswer text
too_long text long = (Err fault.FileTooLong, long)

-- each text has an answer
pub every_answer : EveryTextHasAnAnswer
every_answer text = elim (cases_order (2 ^ 20) (length text)) [
  | inl same ↦ answered text (omega (arith, same))
  | inr (inl long) ↦ too_long text long
  | inr (inr short) ↦ answered text (omega (arith, short))
]
