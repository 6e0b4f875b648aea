use Rattle.std.proofs.Common.{◌∙◌, ◌<◌, List, ap, get_or, length, subst, sym}
use Rattle.pm_design.specs.declared.design.Kind.{Kind}
use Rattle.pm_design.specs.declared.plan.Instance.{Instance}
use Rattle.pm_callees.proofs.Placing.{kind_known, kind_found}
use Rattle.pm_callees.proofs.site.instance_kind.Goals as goal

pub bounds-as_slice-instance : goal.bounds-as_slice-instance
bounds-as_slice-instance c =
    subst (λ (l : List Kind). c.index-as_slice-i.result.kind < length l) (sym c.as_slice-2.ensures)
    (kind_known c.args.design.now c.args.site.now c.requires.design c.requires.site c.args.i c.index-as_slice-i.result
    c.requires.instance
    (c.index-as_slice-i.is ∙ ap (λ (l : List Instance). get_or l c.args.i c.index-as_slice-i.result) c.as_slice.ensures))

pub returns : goal.returns
returns c =
    kind_found c.args.design.now c.args.site.now c.requires.design c.requires.site c.args.i c.index-as_slice-i.result
    c.index-as_slice-instance.result c.requires.instance
    (c.index-as_slice-i.is ∙ ap (λ (l : List Instance). get_or l c.args.i c.index-as_slice-i.result) c.as_slice.ensures)
    (c.index-as_slice-instance.is
    ∙ ap (λ (l : List Kind). get_or l c.index-as_slice-i.result.kind c.index-as_slice-instance.result)
    c.as_slice-2.ensures)
