-- Lambdas that read a name of `construct` that was assigned more than once.
use Rattle.std.specs.Prelude.{ℕ, Bool, false, not, ◌&&◌, ◌||◌, if◌then◌else◌, nat_le, List, [], ◌∷◌, Option, Some, None, Ok, Err}
use Rattle.std.specs.List.{list_any}
use Rattle.std.specs.Str.{bytes_eq}
use Rattle.pm_syn.specs.declared.expression.Arg.{Arg, Arg-F, fold-Arg}
use Rattle.pm_syn.specs.declared.expression.Expr.{Expr, Expr-F, fold-Expr}
use Rattle.pm_values.specs.declared.fault.BuildFault.TheVariants.{LateCapture}
use Rattle.pm_values.specs.Tables.{Names, get}
use Rattle.pm_elab.specs.declared.body.Code.{Code}
use Rattle.pm_elab.specs.declared.body.Code.TheVariants as code
use Rattle.pm_elab.specs.declared.body.RawBody.{RawBody}
use Rattle.pm_elab.specs.declared.frame.Frame.{Frame}
use Rattle.pm_elab.specs.declared.frame.Local.{Local}
use Rattle.pm_elab.specs.Elab.{Checked}

-- the name was assigned more than once
abbrev pub was_reassigned : Option Local → Bool
was_reassigned None = false
was_reassigned (Some l) = l.reassigned

-- the name was assigned more than once
unfoldable pub is_reassigned : Names Local → List ℕ → Bool
is_reassigned locals name = was_reassigned (get locals name)

-- whether an expression reads such a name, where these names are its comprehensions'
abbrev pub Reading : Type 0
Reading = List (List ℕ) → Bool

-- the name is one of a comprehension
unfoldable pub is_bound : List (List ℕ) → List ℕ → Bool
is_bound bound name = list_any (λ b. bytes_eq b name) bound

-- one of these reads such a name
unfoldable pub any_reads : List Reading → Reading
any_reads ps bound = list_any (λ p. p bound) ps

-- one of two reads such a name
unfoldable pub either_reads : Reading → Reading → Reading
either_reads p q bound = p bound || q bound

-- one of three reads such a name
unfoldable pub one_reads : Reading → Reading → Reading → Reading
one_reads p q r bound = p bound || either_reads q r bound

-- what is called, or an argument
unfoldable pub call_reads : Reading → List Reading → Reading
call_reads p ps bound = p bound || any_reads ps bound

-- a comprehension: its range, or its element, in which the comprehension's name is its own
unfoldable pub each_reads : Reading → List ℕ → List Reading → Reading
each_reads p name ps bound = any_reads ps bound || p (name ∷ bound)

-- a name that was assigned more than once, unless it is a comprehension's
unfoldable pub name_reads : Names Local → List ℕ → Reading
name_reads locals name bound = not (is_bound bound name) && is_reassigned locals name

-- a literal
abbrev pub nothing_read : Reading
nothing_read bound = false

-- whether an expression reads such a name, by whether its parts do
abbrev pub reads_of : Names Local → Expr-F Reading Reading → Reading
reads_of locals (Expr-F.Name n) = name_reads locals n
reads_of locals (Expr-F.Int n) = nothing_read
reads_of locals (Expr-F.Bool b) = nothing_read
reads_of locals (Expr-F.Unary o e) = e
reads_of locals (Expr-F.Binary o a b) = either_reads a b
reads_of locals (Expr-F.Cond a c b) = one_reads a c b
reads_of locals (Expr-F.Attr e n) = e
reads_of locals (Expr-F.Call f gs) = call_reads f gs
reads_of locals (Expr-F.Index e i) = either_reads e i
reads_of locals (Expr-F.Slice e lo hi) = one_reads e lo hi
reads_of locals (Expr-F.Items es) = any_reads es
reads_of locals (Expr-F.Each e n es) = each_reads e n es

-- an argument reads what its expression does
abbrev pub argument_reads : Arg-F Reading Reading → Reading
argument_reads a = a.value

-- whether an expression reads a name that was assigned more than once; a comprehension's name is its own
unfoldable pub reads : Names Local → Expr → Reading
reads locals = fold-Expr Reading Reading (reads_of locals) argument_reads

-- whether an argument's expression reads such a name
unfoldable pub argument_reading : Names Local → Arg → Reading
argument_reading locals = fold-Arg Reading Reading (reads_of locals) argument_reads

-- the body is a lambda that reads such a name
abbrev pub captures_in : Names Local → Code → Bool
captures_in locals (code.Lambda r e) = reads locals e []
captures_in locals _ = false

-- the body is a lambda that reads such a name
unfoldable pub captures : Names Local → RawBody → Bool
captures locals b = captures_in locals b.code

-- the lesser line
abbrev pub lesser : ℕ → Option ℕ → ℕ
lesser line None = line
lesser line (Some other) = if nat_le line other then line else other

-- the least line so far
abbrev pub least_line : Names Local → Option ℕ → RawBody → Option ℕ
least_line locals best b = if captures locals b then Some (lesser b.line best) else best

-- the least line of such a lambda, from the least one so far
unfoldable pub first_capture : Names Local → Option ℕ → List RawBody → Option ℕ
first_capture locals best [] = best
first_capture locals best (b ∷ bs) = first_capture locals (least_line locals best b) bs

-- there is none, or the fault is that of the least line
abbrev pub captured_by : Option ℕ → Checked (Unit {0})
captured_by None = Ok tt
captured_by (Some line) = Err (LateCapture line)

-- when `construct` has returned, no lambda reads a name that was assigned more than once
unfoldable pub captured : Frame → Checked (Unit {0})
captured f = captured_by (first_capture f.raw.locals None f.raw.bodies)
