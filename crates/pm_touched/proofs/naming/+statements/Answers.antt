use Rattle.pm_touched.specs.Naming.{statement_names}
use Rattle.pm_touched.proofs.Together.{one_added, all_added}
use Rattle.pm_touched.proofs.naming.+statements.Goals as goal

pub add_body-loop-st-preserved : goal.add_body-loop-st-preserved
add_body-loop-st-preserved t c =
    one_added statement_names c.args.body.now c.loop-st.st-index c.loop-st.named c.add_statement.new.named _
    c.st-item.result c.loop-st-test.true c.st-item.is c.loop-st.invariant c.in_ok-add_statement.ensures

pub add_body-returns : goal.add_body-returns
add_body-returns t c =
    all_added statement_names c.args.body.now c.loop-st.st-index c.loop-st.named _ c.loop-st-test.false
    c.loop-st.invariant
