use Rattle.std.proofs.Common.{◌∙◌, sym}
use Rattle.pm_type_expr.proofs.PickReads.{refused_pick}
use Rattle.pm_type_expr.proofs.operands.pick_read.Goals as goal

pub returns-else-may_read_all : goal.returns-else-may_read_all
returns-else-may_read_all c known = refused_pick _ _ _ _ _ (sym c.may_read_all.ensures ∙ c.if-may_read_all.false)
