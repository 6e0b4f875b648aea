-- Which fault is named for a bad token.
use Rattle.std.proofs.Common.{◌≡◌, ◌⊎◌, ◌<◌, ◌≤◌, ◌^◌, ℕ, zero, suc, List, [], ◌∷◌, ◌++◌, length, Option, Some, None, refl, inl, inr, ap, subst, ◌∙◌, arith}
use Rattle.std.specs.Prelude.{slice_get}
use Rattle.std.specs.List.{Contains}
use Rattle.std.proofs.lemmas.Bool.{cases_Bool}
use Rattle.std.proofs.lemmas.List.Elements.{All-contains}
use Rattle.std.proofs.lemmas.Option.{same_Some}
use Rattle.pm_syn.specs.Answers.{HasFault}
use Rattle.pm_syn.specs.BadTokens.{HasBadToken}
use Rattle.pm_syn.specs.Faults.{is_before, line_faults, line_named, token_fault}
use Rattle.pm_syn.specs.Laws.{BadTokensAreNamed, TextsHaveOneBadToken}
use Rattle.pm_syn.specs.LogicalLines.{drafts_of}
use Rattle.pm_syn.specs.Progress.{named}
use Rattle.pm_syn.specs.Reading.{Stops}
use Rattle.pm_syn.specs.declared.fault.TextFault.{TextFault}
use Rattle.pm_syn.specs.declared.fault.TextFault.TheVariants as fault
use Rattle.pm_syn.proofs.AnswersGiven.{IsOfLine, before_line, head_of_line, named_is_first, of_lines}
use Rattle.pm_syn.proofs.Ascending.{ascending}
use Rattle.pm_syn.proofs.BadTokensRead.{StopsAtBadToken, bad_token_stops}
use Rattle.pm_syn.proofs.OneReading.{one_way}
use Rattle.pm_syn.proofs.BadTokensFound.{found}

-- a bad token that is named is that at which the reading stopped
token_named : (text : List ℕ) (line : ℕ) → HasFault text (fault.BadToken line) → HasBadToken text line
token_named text line is = go is.bad_token is.stopped is.named.one where
  go : (bad : Option ℕ) → Stops is.lexemes is.rest bad → Contains (token_fault bad ++ line_faults (drafts_of is.lexemes)) (fault.BadToken line) → HasBadToken text line
  go None stopped one = absurd (All-contains IsOfLine (line_faults (drafts_of is.lexemes)) (fault.BadToken line) (of_lines (0 ∷ []) (drafts_of is.lexemes)) one)
  go (Some other) stopped (zero, within, same) =
      let here : other ≡ line = cc in
      found text is.lexemes is.rest line is.read (subst (λ (n : ℕ). Stops is.lexemes is.rest (Some n)) here stopped)
  go (Some other) stopped (suc k, within, same) =
      absurd (All-contains IsOfLine (line_faults (drafts_of is.lexemes)) (fault.BadToken line) (of_lines (0 ∷ []) (drafts_of is.lexemes)) (k, omega (arith, within), same))

-- the bad token's fault, or that of an earlier line
abbrev NamesBadToken : List ℕ → ℕ → Type 0
NamesBadToken text line = HasFault text (fault.BadToken line) ⊎ ((first : TextFault) × HasFault text first × (line_named first < line))

fault_there : (text : List ℕ) (line : ℕ) → length text ≤ 2 ^ 20 → (was : StopsAtBadToken text line) → (first : TextFault)
    → named (Some line) (slice_get (line_faults (drafts_of was.lexemes)) 0) ≡ Some first → HasFault text first
fault_there text line fits was first is = record {
  fits = fits;
  lexemes = was.lexemes;
  rest = was.rest;
  bad_token = Some line;
  read = was.read;
  stopped = was.stopped;
  named = (named_is_first text (Some line) (drafts_of was.lexemes) (slice_get (line_faults (drafts_of was.lexemes)) 0) first (
      ascending text was.lexemes was.rest was.read) refl is).0;
}

named_there : (text : List ℕ) (line : ℕ) → length text ≤ 2 ^ 20 → StopsAtBadToken text line → NamesBadToken text line
named_there text line fits was = go (slice_get (line_faults (drafts_of was.lexemes)) 0) refl where
  go : (head : Option TextFault) → slice_get (line_faults (drafts_of was.lexemes)) 0 ≡ head → NamesBadToken text line
  go None is = inl (fault_there text line fits was (fault.BadToken line) (ap (named (Some line)) is))
  go (Some first) is = elim (cases_Bool (is_before first line)) [
    | inl before ↦ inr (
      first,
      fault_there text line fits was first (ap (named (Some line)) is ∙ rw before refl),
      before_line first line (head_of_line (drafts_of was.lexemes) first is) before,
    )
    | inr other ↦ inl (fault_there text line fits was (fault.BadToken line) (ap (named (Some line)) is ∙ rw other refl))
  ]

pub bad_tokens_named : BadTokensAreNamed
bad_tokens_named text line = (token_named text line, λ fits is. named_there text line fits (bad_token_stops text line is))

-- a text has one bad token
pub one_bad_token : TextsHaveOneBadToken
one_bad_token text line other is too =
    let one = bad_token_stops text line is in
    let two = bad_token_stops text other too in
    same_Some line other (one_way text one.lexemes two.lexemes one.rest two.rest (Some line) (Some other) one.read one.stopped two.read two.stopped).2
