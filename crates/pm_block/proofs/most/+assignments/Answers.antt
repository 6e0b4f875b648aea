use Rattle.std.proofs.Common.{◌≡◌, ◌+◌, ◌*◌, ◌<◌, ◌∷◌, ap, arith, drop}
use Rattle.pm_design.specs.Nodes.{body_nodes, statement_nodes}
use Rattle.pm_block.proofs.Bodies.{drop_one}
use Rattle.pm_block.proofs.Mosts.{no_inside}
use Rattle.pm_block.proofs.most.+assignments.Goals as goal

pub all_assignments_in-assignments_in-requires : goal.all_assignments_in-assignments_in-requires
all_assignments_in-assignments_in-requires t c =
    let split : drop c.loop-st.st-index c.args.body.now ≡ c.st-item.result ∷ drop (c.loop-st.st-index + 1) c.args.body.now = drop_one c.args.body.now c.loop-st.st-index c.st-item.result c.loop-st-test.true c.st-item.is in
    let nodes : body_nodes no_inside (drop c.loop-st.st-index c.args.body.now) ≡ statement_nodes no_inside c.st-item.result + body_nodes no_inside (drop (c.loop-st.st-index + 1) c.args.body.now) = ap (body_nodes no_inside) split in
    let falls : 2 * statement_nodes no_inside c.st-item.result < t = omega (arith, nodes, c.loop-st.invariant.nodes, c.decreases) in
    (falls, tt)
