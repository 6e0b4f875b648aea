use Rattle.std.proofs.Common.{◌≡◌, ◌-◌, ◌<◌, ◌≤◌, take, drop, length, Err, subst, arith}
use Rattle.std.proofs.lemmas.Int.{to_z-of_z}
use Rattle.std.proofs.lemmas.List.{take_rest}
use Rattle.pm_typing.specs.Counted.{Moves}
use Rattle.pm_typing.specs.Sites.{scope_of}
use Rattle.pm_types.proofs.Lines.{lines_step, lines_fault, lines_end, turn_counted, moves_fault, others_rest}
use Rattle.pm_types.specs.Statements.{within, first_body}
use Rattle.pm_types.proofs.Weights.{rest_part, body_lighter, drop_lighter, weights}
use Rattle.pm_types.proofs.statements.+lines.Goals as goal

pub other-instead-requires : goal.other-instead-requires
other-instead-requires t c =
    let less : weights (take (length c.args.nodes.now - 1) (drop 1 c.args.nodes.now)) < weights c.args.nodes.now = rest_part c.args.nodes.now (omega (arith, c.in-len1-up.len_at_least)) in
    grind (arith, less)

pub below-lines-requires : goal.below-lines-requires
below-lines-requires t c =
    let some : 0 < length c.args.nodes.now = omega (arith, c.in-len1-up.len_at_least) in
    grind (arith, body_lighter, c.node-item.is, some)

pub lines-first_line-requires : goal.lines-first_line-requires
lines-first_line-requires t c =
    let no_more : weights (take (length c.args.nodes.now - c.loop-at.at) (drop c.loop-at.at c.args.nodes.now)) ≤ weights c.args.nodes.now =
    rw (take_rest c.args.nodes.now c.loop-at.at) (drop_lighter c.args.nodes.now c.loop-at.at) in
    grind (arith, no_more)

pub lines-returns-in_err-first_line : goal.lines-returns-in_err-first_line
lines-returns-in_err-first_line t c =
    let gave : c.from_residual.result ≡ Err c.in_err-first_line.field-0.0 = grind (arith, c.from_residual.ensures) in
    moves_fault _ c.from_residual.result _ _ c.in_err-first_line.field-0.0 gave
    (λ known. lines_fault (scope_of c.args.typer.now.scope) c.args.nodes.now c.loop-at.at c.loop-at.frame c.loop-at.tally _ c.in_err-first_line.field-0.0
    c.loop-at-test.true c.loop-at.invariant (c.in_err-first_line.ensures known))

pub lines-loop-at-preserved : goal.lines-loop-at-preserved
lines-loop-at-preserved t c =
    lines_step (scope_of c.args.typer.now.scope) c.args.nodes.now c.loop-at.at _ _ _ _ _ c.loop-at-test.true c.loop-at.invariant c.in_ok-first_line.ensures

pub lines-returns : goal.lines-returns
lines-returns t c =
    lines_end (scope_of c.args.typer.now.scope) c.args.nodes.now c.loop-at.at _ _ _ c.loop-at-test.false c.loop-at.invariant

pub turn-returns : goal.turn-returns
turn-returns t c =
    let scope = scope_of c.args.typer.now.scope in
    let body = within scope c.args.line c.args.after.now (first_body scope c.args.nodes.now) in
    rw (turn_counted c.args.place body c.args.number c.args.frame.now c.args.tally.now c.node.new.self c.in_ok-node.ensures)
    (subst (λ f. Moves (body f c.node.new.self) c.this.result c.this.new.frame c.this.new.tally)
    (rw (to_z-of_z _ _ c.ranges.number) at c.bind.ensures) c.this.ensures)

pub other-returns-in-len1-up : goal.other-returns-in-len1-up
other-returns-in-len1-up t c =
    rw (others_rest (scope_of c.args.typer.now.scope) c.args.nodes.now c.args.frame.now c.args.tally.now (omega (arith, c.in-len1-up.len_at_least)))
    c.instead.ensures
