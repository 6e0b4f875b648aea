use Rattle.std.proofs.Common.{◌≡◌, Err, subst, arith}
use Rattle.pm_typing.specs.declared.fault.TypeFault.TheVariants.{NoMemory}
use Rattle.pm_typing.specs.Counted.{Moves}
use Rattle.pm_typing.specs.Sites.{scope_of}
use Rattle.pm_types.specs.Effects.{put}
use Rattle.pm_types.proofs.Suiting.{set_refused, set_taken, out_of_memory}
use Rattle.pm_types.proofs.assignments.set_fitted.Goals as goal

pub returns-then-not-suits : goal.returns-then-not-suits
returns-then-not-suits c known =
    set_refused c.args.line c.args.op (scope_of c.args.typer.now.scope) c.args.target c.args.e c.args.frame.now c.args.tally.now c.suits.result
    c.suits.ensures c.if-not-suits.true

pub returns-in_err-statement : goal.returns-in_err-statement
returns-in_err-statement c =
    let gave : c.from_residual.result ≡ Err NoMemory = grind (arith, c.from_residual.ensures) in
    out_of_memory _ c.from_residual.result c.args.frame.now c.args.tally.now gave

pub returns : goal.returns
returns c =
    let taken = set_taken c.args.line c.args.op (scope_of c.args.typer.now.scope) c.args.target c.args.e c.args.frame.now c.args.tally.now c.suits.result
    c.suits.ensures c.if-not-suits.false in
    rw taken (subst (λ s. Moves (put s c.args.frame.now c.args.tally.now) c.put.result c.put.new.frame c.put.new.tally) c.in_ok-statement.ensures c.put.ensures)
