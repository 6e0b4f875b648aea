use Rattle.pm_touched.specs.Naming.{named_in}
use Rattle.pm_touched.proofs.Together.{one_added, all_added}
use Rattle.pm_touched.proofs.naming.+expressions.Goals as goal

pub add_expressions-loop-ex-preserved : goal.add_expressions-loop-ex-preserved
add_expressions-loop-ex-preserved t c =
    one_added named_in c.args.expressions.now c.loop-ex.ex-index c.loop-ex.named c.add_expression.new.named _
    c.ex-item.result c.loop-ex-test.true c.ex-item.is c.loop-ex.invariant c.in_ok-add_expression.ensures

pub add_expressions-returns : goal.add_expressions-returns
add_expressions-returns t c =
    all_added named_in c.args.expressions.now c.loop-ex.ex-index c.loop-ex.named _ c.loop-ex-test.false
    c.loop-ex.invariant
