use Rattle.std.proofs.Common.{◌∙◌, ap, get_or, ◌-◌, ◌<◌, length, List, ℕ, subst, sym}
use Rattle.pm_nets.proofs.Parts.{child_bound, child_value}
use Rattle.pm_nets.proofs.site.owner.Goals as goal

pub bounds-as_slice-part : goal.bounds-as_slice-part
bounds-as_slice-part c =
    subst (λ (l : List ℕ). c.args.part.owner - 1 < length l) (sym c.as_slice.ensures)
    (child_bound c.args.design.now c.args.site.now c.requires.design c.requires.site c.args.i c.args.part
    c.instance_at.result.now
    c.requires.instance c.requires.part c.if-part-eq0.false c.instance_at.ensures)

pub returns : goal.returns
returns c =
    ap (λ (l : List ℕ). get_or l (c.args.part.owner - 1) 0) c.as_slice.ensures
    ∙ child_value c.args.design.now c.args.site.now c.requires.design c.requires.site c.args.i c.args.part
    c.instance_at.result.now
    c.requires.instance c.requires.part c.if-part-eq0.false c.instance_at.ensures
