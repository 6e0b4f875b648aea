use Rattle.std.proofs.Common.{◌∙◌, ◌<◌, List, ℕ, ap, get_or, length, subst, sym}
use Rattle.pm_design.specs.declared.plan.Instance.{Instance}
use Rattle.pm_callees.proofs.Placing.{child_within, child_value}
use Rattle.pm_callees.proofs.site.child_at.Goals as goal

pub bounds-as_slice-child : goal.bounds-as_slice-child
bounds-as_slice-child c =
    subst (λ (l : List ℕ). c.args.child < length l) (sym c.as_slice-2.ensures)
    (child_within c.args.design.now c.args.site.now c.requires.design c.requires.site c.args.i c.args.child
    c.index-as_slice-i.result c.requires.instance
    (c.index-as_slice-i.is ∙ ap (λ (l : List Instance). get_or l c.args.i c.index-as_slice-i.result) c.as_slice.ensures)
    c.requires.child)

pub returns : goal.returns
returns c =
    ap (λ (l : List ℕ). get_or l c.args.child 0) c.as_slice-2.ensures
    ∙ child_value c.args.design.now c.args.site.now c.requires.design c.requires.site c.args.i c.args.child 0
    c.index-as_slice-i.result c.requires.instance
    (c.index-as_slice-i.is ∙ ap (λ (l : List Instance). get_or l c.args.i c.index-as_slice-i.result) c.as_slice.ensures)
    c.requires.child
