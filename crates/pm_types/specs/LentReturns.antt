-- A last `return` that the code's references lead to.
use Rattle.std.specs.Prelude.{Option}
use Rattle.std.specs.Option.{option_map}
use Rattle.pm_types.specs.declared.bodies.Returned.{Returned as LentReturn}
use Rattle.pm_types.specs.Bodies.{Returned}

-- the `return`, if there is one
abbrev pub return_of : Option LentReturn → Option Returned
return_of = option_map (λ r. record { line = r.line; expression = r.expression.now })
