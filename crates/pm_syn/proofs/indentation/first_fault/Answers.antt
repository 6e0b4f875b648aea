use Rattle.std.proofs.Common.{◌∙◌, sym}
use Rattle.pm_syn.proofs.LineFaults.{first_after-start, first_after-end, first_after-found}
use Rattle.pm_syn.proofs.indentation.first_fault.Goals as goal

pub returns-in-Some : goal.returns-in-Some
returns-in-Some c =
    sym (first_after-found c.loop-draft.columns c.args.drafts.now c.loop-draft.draft-index c.draft-item.result c.loop-draft-test.true c.draft-item.is c.in-Some.fault (
    sym c.in-Some.is ∙ c.in_ok-fault.ensures.fault))
    ∙ (c.loop-draft.invariant ∙ first_after-start c.args.drafts.now)

pub returns : goal.returns
returns c =
    sym (first_after-end c.loop-draft.columns c.args.drafts.now c.loop-draft.draft-index c.loop-draft-test.false)
    ∙ (c.loop-draft.invariant ∙ first_after-start c.args.drafts.now)
