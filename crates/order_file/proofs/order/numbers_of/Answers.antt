use Rattle.std.proofs.Common.{rules}
use Rattle.order_file.proofs.Orders.{line_read, lines_done, number_found}
use Rattle.order_file.proofs.order.numbers_of.Goals as goal

pub lines-preserved : goal.lines-preserved
lines-preserved c =
    let blocks = c.args.blocks.now in
    let line = c.in-Some.line.now in
    line_read blocks c.args.text.now c.lines.rest.now c.in-Some.after.now
    line c.lines.order c.push.new.self
    c.number_of.result c.lines.invariant (search rules)
    (number_found blocks c.in_ok-places.places line c.number_of.result c.in_ok-places.ensures c.number_of.ensures)
    c.in_ok-push.ensures.ok

pub returns : goal.returns
returns c =
    lines_done c.args.blocks.now c.args.text.now c.lines.rest.now c.lines.order c.lines.invariant c.in_default.ensures
