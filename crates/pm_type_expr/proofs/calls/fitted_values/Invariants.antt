use Rattle.std.proofs.Common.{◌≡◌, [], drop}
use Rattle.pm_typing.specs.Calls.{fitted_from}
use Rattle.pm_type_expr.proofs.calls.fitted_values.Given as goal

abbrev pub invariant-loop-ty : goal.invariant-loop-ty
invariant-loop-ty l =
    fitted_from l.line l.values (drop l.ty-index l.types) l.queue l.tally ≡ fitted_from l.line [] l.types l.fn.operands l.fn.tally
