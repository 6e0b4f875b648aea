use Rattle.std.proofs.Common.{◌≡◌, [], drop, map}
use Rattle.pm_typing.specs.Expressions.{meaning}
use Rattle.pm_typing.specs.Sites.{scope_of}
use Rattle.pm_types.specs.Statements.{values_from}
use Rattle.pm_types.proofs.statements.values.Given as goal

abbrev pub invariant-loop-e : goal.invariant-loop-e
invariant-loop-e l =
    values_from l.values (map meaning (drop l.e-index l.es)) (scope_of l.typer.scope) l.line l.frame l.tally
    ≡ values_from [] (map meaning l.es) (scope_of l.typer.scope) l.line l.frame l.fn.tally
