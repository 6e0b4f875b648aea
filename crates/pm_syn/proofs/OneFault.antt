-- Proof that a text has one answer: one list of lines, or one fault.
use Rattle.std.proofs.Common.{◌≡◌, ◌<◌, ◌^◌, ◌⊎◌, ◌++◌, ℕ, List, [], length, map, arith, refl, inl, inr, sym, ap, subst, ◌∙◌}
use Rattle.std.specs.Prelude.{Option, None, Ok, Err}
use Rattle.std.proofs.lemmas.List.Elements.{All-contains}
use Rattle.pm_syn.specs.Answers.{HasLines, HasFault, IsAnswer}
use Rattle.pm_syn.specs.Faults.{IsFirst, ComesBy, line_named, rank_of, line_faults, token_fault}
use Rattle.pm_syn.specs.Laws.{TextsHaveOneAnswer}
use Rattle.pm_syn.specs.Lexemes.{Lexeme}
use Rattle.pm_syn.specs.LogicalLines.{drafts_of, line_from}
use Rattle.pm_syn.specs.declared.fault.TextFault.{TextFault}
use Rattle.pm_syn.specs.declared.fault.TextFault.TheVariants as fault
use Rattle.pm_syn.specs.declared.token.Line.{Line}
use Rattle.pm_syn.proofs.OneReading.{one_way}

-- a fault is determined by the line that it names and its rank
by_rank : (one other : TextFault) → line_named one ≡ line_named other → rank_of one ≡ rank_of other → one ≡ other
by_rank (fault.BadToken line) (fault.BadToken other) named rank = ap fault.BadToken named
by_rank (fault.BadIndent line) (fault.BadIndent other) named rank = ap fault.BadIndent named
by_rank (fault.LineTooLong line) (fault.LineTooLong other) named rank = ap fault.LineTooLong named
by_rank fault.FileTooLong fault.FileTooLong named rank = refl
by_rank fault.NoMemory fault.NoMemory named rank = refl
by_rank _ _ named rank = absurd (omega (arith, rank))

-- faults that come by each other are one
both_first : (one other : TextFault) → ComesBy one other → ComesBy other one → one ≡ other
both_first one other (inl less) (inl more) = absurd (omega arith)
both_first one other (inl less) (inr same) = absurd (omega arith)
both_first one other (inr same) (inl more) = absurd (omega arith)
both_first one other (inr same) (inr also) = by_rank one other same.0 (omega arith)

-- one fault is the first
one_first : (one other : TextFault) (faults : List TextFault) → IsFirst one faults → IsFirst other faults → one ≡ other
one_first one other faults is too =
    both_first one other (All-contains (ComesBy one) faults other is.least too.one) (All-contains (ComesBy other) faults one too.least is.one)

-- no list without elements has a first fault
none_first : (first : TextFault) → IsFirst first [] → ⊥
none_first first is = let within = is.one.1 in omega arith

-- a text has one list of lines
one_lines : (text : List ℕ) (lines others : List Line) → HasLines text lines → HasLines text others → lines ≡ others
one_lines text lines others is too =
    let same = one_way text is.lexemes too.lexemes [] [] None None is.read is.closed too.read too.closed in
    is.made ∙ ap (λ (lexemes : List Lexeme). map line_from (drafts_of lexemes)) same.0 ∙ sym too.made

-- a text has one fault
one_fault : (text : List ℕ) (first other : TextFault) → HasFault text first → HasFault text other → first ≡ other
one_fault text first other is too =
    let same = one_way text is.lexemes too.lexemes is.rest too.rest is.bad_token too.bad_token is.read is.stopped too.read too.stopped in
    let faults : token_fault too.bad_token ++ line_faults (drafts_of too.lexemes) ≡ token_fault is.bad_token ++ line_faults (drafts_of is.lexemes) =
    ap (λ (bad : Option ℕ). token_fault bad ++ line_faults (drafts_of too.lexemes)) (sym same.2)
    ∙ ap (λ (lexemes : List Lexeme). token_fault is.bad_token ++ line_faults (drafts_of lexemes)) (sym same.0) in
    one_first first other (token_fault is.bad_token ++ line_faults (drafts_of is.lexemes)) is.named (subst (IsFirst other) faults too.named)

-- a text that has lines has no fault
lines_or_fault : (text : List ℕ) (lines : List Line) (first : TextFault) → HasLines text lines → HasFault text first → ⊥
lines_or_fault text lines first is too =
    let same = one_way text is.lexemes too.lexemes [] too.rest None too.bad_token is.read is.closed too.read too.stopped in
    let faults : token_fault too.bad_token ++ line_faults (drafts_of too.lexemes) ≡ [] =
    ap (λ (bad : Option ℕ). token_fault bad ++ line_faults (drafts_of too.lexemes)) (sym same.2)
    ∙ ap (λ (lexemes : List Lexeme). line_faults (drafts_of lexemes)) (sym same.0)
    ∙ is.faultless in
    none_first first (subst (IsFirst first) faults too.named)

-- a fault that is the answer is that of a text that is too long, or the first of a text's faults
fault_cases : (text : List ℕ) (first : TextFault) → IsAnswer text (Err first)
    → ((first ≡ fault.FileTooLong) × (2 ^ 20 < length text)) ⊎ HasFault text first
fault_cases text fault.FileTooLong is = inl (refl, is)
fault_cases text (fault.BadToken line) is = inr is
fault_cases text (fault.BadIndent line) is = inr is
fault_cases text (fault.LineTooLong line) is = inr is
fault_cases text fault.NoMemory is = absurd is

-- a text has at most one answer
pub one_answer : TextsHaveOneAnswer
one_answer text (Ok lines) (Ok others) is too = ap Ok (one_lines text lines others is too)
one_answer text (Ok lines) (Err other) is too = elim (fault_cases text other too) [
  | inl long ↦ let fits = is.fits in absurd (omega (arith, long.1))
  | inr found ↦ absurd (lines_or_fault text lines other is found)
]
one_answer text (Err first) (Ok lines) is too = elim (fault_cases text first is) [
  | inl long ↦ let fits = too.fits in absurd (omega (arith, long.1))
  | inr found ↦ absurd (lines_or_fault text lines first too found)
]
one_answer text (Err first) (Err other) is too = elim (fault_cases text first is) [
  | inl long ↦ elim (fault_cases text other too) [
    | inl also ↦ ap Err (long.0 ∙ sym also.0)
    | inr found ↦ let fits = found.fits in absurd (omega (arith, long.1))
  ]
  | inr found ↦ elim (fault_cases text other too) [
    | inl long ↦ let fits = found.fits in absurd (omega (arith, long.1))
    | inr also ↦ ap Err (one_fault text first other found also)
  ]
]
