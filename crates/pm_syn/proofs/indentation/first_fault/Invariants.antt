use Rattle.std.proofs.Common.{◌≡◌, [], ◌∷◌, drop}
use Rattle.pm_syn.proofs.LineFaults.{first_after}
use Rattle.pm_syn.proofs.indentation.first_fault.Given as goal

abbrev pub invariant-loop-draft : goal.invariant-loop-draft
invariant-loop-draft l = first_after l.columns (drop l.draft-index l.drafts) ≡ first_after (0 ∷ []) l.drafts
