-- Arguments of a call.
use Rattle.std.specs.Prelude.{List, [], ◌∷◌, Option, Some, None, is_some, if◌then◌else◌}
use Rattle.pm_syn.specs.declared.expression.Arg.{Arg}
use Rattle.pm_syn.specs.declared.expression.Expr.{Expr}
use Rattle.pm_values.specs.declared.value.Value.{Value}
use Rattle.pm_elab.specs.Elab.{Elab, ◌>>=◌, lift}
use Rattle.pm_elab.specs.Expressions.{Meaning}
use Rattle.pm_elab.specs.Functions.{length_in}
use Rattle.pm_elab.specs.Sites.{Site}

-- the one argument, which names no parameter
abbrev pub lone_of : List Arg → Option Expr
lone_of (a ∷ []) = if is_some a.name then None else Some a.value
lone_of _ = None

-- how many elements the list has that an expression gives
abbrev pub length_meant : Meaning → Site → Elab Value
length_meant e site = e.value site >>= (λ v. lift (length_in site.line v))
