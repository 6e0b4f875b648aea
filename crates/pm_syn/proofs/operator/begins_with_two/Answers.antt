use Rattle.std.proofs.Common.{◌∙◌}
use Rattle.pm_syn.proofs.OperatorsAt.{has_operator-two}
use Rattle.pm_syn.proofs.operator.begins_with_two.Goals as goal

pub returns-then-text-ge2 : goal.returns-then-text-ge2
returns-then-text-ge2 c = c.contains.ensures.value ∙ has_operator-two c.args.text.now c.if-text-ge2.true
