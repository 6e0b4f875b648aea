use Rattle.std.proofs.Common.{◌∙◌, ap}
use Rattle.pm_instances.proofs.EachKind.{children_known}
use Rattle.pm_instances.proofs.flattening.add_one.Goals as goal

pub child_numbers-requires-clause-kinds : goal.child_numbers-requires-clause-kinds
child_numbers-requires-clause-kinds c =
    children_known c.args.design.now c.requires.design c.args.kind c.as_slice.result.now c.requires.kind
    (c.as_slice.ensures ∙ ap (λ (k : _). k.children) c.kind_at-own.ensures)
