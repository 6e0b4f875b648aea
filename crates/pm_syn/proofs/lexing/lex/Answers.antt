use Rattle.std.proofs.Common.{List, ◌∙◌, ap, arith, inr, sym}
use Rattle.std.specs.Prelude.{slice_get}
use Rattle.pm_syn.specs.Faults.{line_faults}
use Rattle.pm_syn.specs.declared.draft.Draft.{Draft}
use Rattle.pm_syn.proofs.AnswersGiven.{fault_answer, lines_answer, only_answer}
use Rattle.pm_syn.proofs.lexing.lex.Goals as goal

pub returns-in-Some-clause-answer : goal.returns-in-Some-clause-answer
returns-in-Some-clause-answer c =
    let found = c.in_ok-line_fault.ensures ∙ ap (λ (drafts : List Draft). slice_get (line_faults drafts) 0) c.as_slice.ensures.value in
    inr (fault_answer c.args.bytes.now c.in_ok-drafts.field-0 c.in_ok-line_fault.line_fault c.in-Some.fault (omega arith) c.in_ok-drafts.ensures found (sym c.in-Some.ensures))

pub returns-in-Some-clause-only : goal.returns-in-Some-clause-only
returns-in-Some-clause-only c = only_answer c.args.bytes.now _ (returns-in-Some-clause-answer c)

pub returns-in_ok-lines_from-in-None-clause-answer : goal.returns-in_ok-lines_from-in-None-clause-answer
returns-in_ok-lines_from-in-None-clause-answer c =
    let found = c.in_ok-line_fault.ensures ∙ ap (λ (drafts : List Draft). slice_get (line_faults drafts) 0) c.as_slice.ensures.value in
    inr (lines_answer c.args.bytes.now c.in_ok-drafts.field-0 c.in_ok-line_fault.line_fault c.in_ok-lines_from-in-None.field-0 (omega arith) c.in_ok-drafts.ensures found (sym c.in-None.ensures) c.in_ok-lines_from-in-None.ensures)

pub returns-in_ok-lines_from-in-None-clause-only : goal.returns-in_ok-lines_from-in-None-clause-only
returns-in_ok-lines_from-in-None-clause-only c = only_answer c.args.bytes.now _ (returns-in_ok-lines_from-in-None-clause-answer c)
