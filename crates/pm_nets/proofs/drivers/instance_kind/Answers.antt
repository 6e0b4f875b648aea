use Rattle.std.proofs.Common.{◌∙◌, ◌<◌, List, ap, get_or, length, subst, sym}
use Rattle.pm_design.specs.declared.design.Kind.{Kind}
use Rattle.pm_nets.proofs.Resets.{kind_known, kind_found}
use Rattle.pm_nets.proofs.drivers.instance_kind.Goals as goal

pub bounds-as_slice-instance_at : goal.bounds-as_slice-instance_at
bounds-as_slice-instance_at c =
    subst (λ (l : List Kind). c.instance_at.result.now.kind < length l) (sym c.as_slice.ensures)
    (kind_known c.args.design.now c.args.site.now c.requires.design c.requires.site c.args.i c.instance_at.result.now
    c.requires.instance c.instance_at.ensures)

pub returns : goal.returns
returns c =
    kind_found c.args.design.now c.args.site.now c.requires.design c.requires.site c.args.i c.instance_at.result.now
    c.index-as_slice-instance_at.result c.requires.instance c.instance_at.ensures
    (c.index-as_slice-instance_at.is
    ∙ ap (λ (l : List Kind). get_or l c.instance_at.result.now.kind c.index-as_slice-instance_at.result)
    c.as_slice.ensures)
