-- Classes that have a `construct`, and the values of its parameters.
use Rattle.std.specs.Prelude.{ℕ, ◌+◌, Bool, true, false, not, ◌&&◌, ◌||◌, if◌then◌else◌, nat_le, List, [], ◌∷◌, ◌++◌, map, length, drop, take, codes, Option, Some, None, is_some, Ok, Err}
use Rattle.std.specs.List.{list_all, list_any}
use Rattle.std.specs.Option.{option_map}
use Rattle.std.specs.Str.{bytes_eq}
use Rattle.pm_syn.specs.declared.expression.Expr.{Expr}
use Rattle.pm_syn.specs.declared.statement.Node.{Node, Node-F, out-Node}
use Rattle.pm_syn.specs.declared.statement.Par.{Par}
use Rattle.pm_syn.specs.declared.statement.Stmt.{Stmt, Stmt-F, out-Stmt}
use Rattle.pm_values.specs.declared.fault.BuildFault.TheVariants.{BadArguments, WrongKind}
use Rattle.pm_values.specs.declared.value.Value.{Value}
use Rattle.pm_elab.specs.declared.call.Given.{Given}
use Rattle.pm_elab.specs.declared.class.Construct.{Construct as LentConstruct}
use Rattle.pm_elab.specs.declared.class.ConstructedClass.{ConstructedClass}
use Rattle.pm_elab.specs.declared.class.ConstructedClass.TheVariants as class
use Rattle.pm_elab.specs.Elab.{Checked, Elab, ◌>>=◌, ◌>>◌, pure, fail, lift}
use Rattle.pm_elab.specs.Expressions.{Make, eval}
use Rattle.pm_elab.specs.Functions.{names, value_named}
use Rattle.pm_elab.specs.Sites.{Scope, Site, outside}
use Rattle.pm_elab.specs.Values.{is_plain}

-- ---- classes of the file

-- a class that has a `construct`: what its objects are, and its lines
pub record Class : Type 0 where
  pub class : ConstructedClass
  pub lines : List Node

-- the class that a base makes, if it is `Component` or `Interface`
abbrev pub class_by : List ℕ → List Node → Option Class
class_by base ns =
    if bytes_eq base (codes "Component") then Some (record { class = class.Component; lines = ns })
    else (if bytes_eq base (codes "Interface") then Some (record { class = class.Interface; lines = ns }) else None)

-- the class of a line, if it has the name
abbrev pub class_at : List ℕ → Node-F Node → Stmt-F Stmt → Option Class
class_at name n (Stmt-F.Class c (Some base)) = if bytes_eq c name then class_by base n.body else None
class_at name n _ = None

-- the class of a line, if it has the name
unfoldable pub class_of_line : List ℕ → Node → Option Class
class_of_line name n = class_at name (out-Node n) (out-Stmt (out-Node n).stmt)

-- the class, or else the other
abbrev pub class_or : Option Class → Option Class → Option Class
class_or (Some c) other = Some c
class_or None other = other

-- the class of a name
unfoldable pub class_named : List Node → List ℕ → Option Class
class_named [] name = None
class_named (n ∷ ns) name = class_or (class_of_line name n) (class_named ns name)

-- ---- constructs

-- a `construct`: the line of its `def`, its parameters, the statement after the colon and the lines below
pub record Construct : Type 0 where
  pub line : ℕ
  pub parameters : List Par
  pub after : Option Stmt
  pub body : List Node

-- the construct that the code's references lead to
abbrev pub construct_of : LentConstruct → Construct
construct_of c = record { line = c.line; parameters = c.parameters.now; after = option_map (λ s. s.now) c.after; body = c.body.now }

-- the construct of a line, if it is one
abbrev pub construct_at : Node-F Node → Stmt-F Stmt → Option Construct
construct_at n (Stmt-F.Def name own pars result after) =
    if bytes_eq name (codes "construct") then Some (record { line = n.line; parameters = pars; after = after; body = n.body }) else None
construct_at n _ = None

-- the construct of a line, if it is one
unfoldable pub construct_of_line : Node → Option Construct
construct_of_line n = construct_at (out-Node n) (out-Stmt (out-Node n).stmt)

-- the first, or else the second
abbrev pub construct_or : Option Construct → Construct → Construct
construct_or (Some c) other = c
construct_or None other = other

-- the construct among a class's lines, or an empty one
unfoldable pub construct_in : List Node → Construct
construct_in [] = record { line = 0; parameters = []; after = None; body = [] }
construct_in (n ∷ ns) = construct_or (construct_of_line n) (construct_in ns)

-- ---- arguments

-- how many arguments stand before the first that names its parameter
unfoldable pub leading : List Given → ℕ
leading [] = 0
leading (g ∷ gs) = if is_some g.name then 0 else 1 + leading gs

-- the argument names one of the parameters
abbrev pub names_one : Option (List ℕ) → List Par → Bool
names_one name [] = false
names_one name (p ∷ ps) = names p.name name || names_one name ps

-- two arguments name one parameter
abbrev pub same_name : Option (List ℕ) → Option (List ℕ) → Bool
same_name (Some a) (Some b) = bytes_eq a b
same_name _ _ = false

-- each argument names one of the parameters, and no two the same
unfoldable pub name_parameters : List Given → List Par → Bool
name_parameters [] ps = true
name_parameters (g ∷ gs) ps =
    names_one g.name ps && (not (list_any (λ h. same_name g.name h.name) gs) && name_parameters gs ps)

-- the parameter has a default, or an argument names it
unfoldable pub is_filled : List Given → Par → Bool
is_filled gs p = is_some p.default || is_some (value_named gs p.name)

-- the arguments fit the parameters: those that name none come first and fill parameters in order, the others name further
-- ones, each once, and what is left has a default
unfoldable pub are_fitting : List Given → List Par → Bool
are_fitting gs ps =
    nat_le (leading gs) (length ps)
    && (name_parameters (drop (leading gs) gs) (drop (leading gs) ps)
    && list_all (is_filled (drop (leading gs) gs)) (drop (leading gs) ps))

-- the values are integers, types, constants, classes, or lists of such values
unfoldable pub are_plain : List Given → Bool
are_plain = list_all (λ g. is_plain g.value)

-- the arguments fit, and their values may be arguments
unfoldable pub fitted : ℕ → List Given → List Par → Checked (Unit {0})
fitted line gs ps =
    if are_fitting gs ps then (if are_plain gs then Ok tt else Err (WrongKind line)) else Err (BadArguments line)

-- a value that may be an argument
unfoldable pub clean : ℕ → Value → Checked Value
clean line v = if is_plain v then Ok v else Err (WrongKind line)

-- the value of a default, outside of any `construct`
abbrev pub default_by : Make → Option Expr → Site → Elab Value
default_by make None site = fail (BadArguments site.line)
default_by make (Some e) site = eval make e site >>= (λ v. lift (clean site.line v))

-- the value of a default, outside of any `construct`
unfoldable pub default_of : Make → Option Expr → Site → Elab Value
default_of = default_by

-- the value of a parameter: that of the argument that names it, or else of its default
abbrev pub parameter_by : Make → Option Value → Par → Site → Elab Value
parameter_by make (Some v) p site = pure v
parameter_by make None p site = default_of make p.default site

-- the value of a parameter that no argument fills by its place
unfoldable pub parameter_value : Make → List Given → Par → Site → Elab Value
parameter_value make gs p site = parameter_by make (value_named gs p.name) p site

-- the values of parameters in order, behind those that stand
unfoldable pub parameters_from : Make → List Value → List Given → List Par → Site → Elab (List Value)
parameters_from make done gs [] site = pure done
parameters_from make done gs (p ∷ ps) site =
    parameter_value make gs p site >>= (λ v. parameters_from make (done ++ v ∷ []) gs ps site)

-- the values of the arguments that name no parameter
abbrev pub leading_values : List Given → List Value
leading_values gs = map (λ g. g.value) (take (leading gs) gs)

-- the values of all parameters; defaults are evaluated at the call, at the line of the `def`
unfoldable pub arguments : Make → Scope → Construct → List Given → ℕ → Elab (List Value)
arguments make file c gs line =
    lift (fitted line gs c.parameters)
    >> parameters_from make (leading_values gs) (drop (leading gs) gs) (drop (leading gs) c.parameters) (outside file c.line)
