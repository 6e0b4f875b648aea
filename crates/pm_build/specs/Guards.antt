-- Decorators that the code's references lead to.
use Rattle.std.specs.Prelude.{Option, Result, Ok, Err}
use Rattle.std.specs.Option.{option_map}
use Rattle.pm_values.specs.declared.fault.BuildFault.{BuildFault}
use Rattle.pm_elab.specs.Elab.{Checked}
use Rattle.pm_elab.specs.Methods.{GuardLine}
use Rattle.pm_build.specs.declared.method.GuardLine.{GuardLine as LentLine}

-- the decorator, if there is one
abbrev pub guard_of : Option LentLine → Option GuardLine
guard_of = option_map (λ g. record { line = g.line; condition = g.condition.now })

-- the outcome of a function that lends a decorator
abbrev pub lent_guard : Result (Option LentLine) BuildFault → Checked (Option GuardLine)
lent_guard (Ok g) = Ok (guard_of g)
lent_guard (Err e) = Err e
