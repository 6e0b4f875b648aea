use Rattle.std.proofs.Common.{◌∙◌}
use Rattle.pm_syn.proofs.OperatorsAt.{has_operator-three}
use Rattle.pm_syn.proofs.operator.begins_with_three.Goals as goal

pub returns-then-text-ge3 : goal.returns-then-text-ge3
returns-then-text-ge3 c = c.contains.ensures.value ∙ has_operator-three c.args.text.now c.if-text-ge3.true
