use Rattle.std.proofs.Common.{sym}
use Rattle.pm_syn.proofs.OperatorsAt.{no_operator}
use Rattle.pm_syn.proofs.operator.operator_length.Goals as goal

pub returns-else-begins_with_one : goal.returns-else-begins_with_one
returns-else-begins_with_one c =
    no_operator c.args.text.now (sym c.if-begins_with_three.ensures) (sym c.if-begins_with_two.ensures) (sym c.if-begins_with_one.ensures)
