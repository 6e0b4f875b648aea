-- The statements of a file, and the design of its top class.
use Rattle.std.specs.Prelude.{ℕ, ◌+◌, ◌-◌, Bool, false, not, ◌&&◌, ◌||◌, if◌then◌else◌, nat_le, List, [], ◌∷◌, ◌++◌, map, length, take, Option, Some, None, is_some, Ok, Err}
use Rattle.std.specs.List.{list_any}
use Rattle.std.specs.Str.{bytes_eq}
use Rattle.pm_design.specs.declared.signal.Field.{Field}
use Rattle.pm_syn.specs.declared.expression.Arg.{Arg}
use Rattle.pm_syn.specs.declared.expression.Expr.{Expr, Expr-F, out-Expr}
use Rattle.pm_syn.specs.declared.statement.Node.{Node, Node-F, out-Node}
use Rattle.pm_syn.specs.declared.statement.Par.{Par}
use Rattle.pm_syn.specs.declared.statement.Stmt.{Stmt, Stmt-F, out-Stmt}
use Rattle.pm_values.specs.declared.fault.BuildFault.TheVariants.{NoClass, BadParameter, WidthRange, SameName}
use Rattle.pm_values.specs.declared.reference.ValueType.{ValueType}
use Rattle.pm_values.specs.declared.value.Value.{Value}
use Rattle.pm_values.specs.declared.value.Value.TheVariants as value
use Rattle.pm_values.specs.Tables.{Names, put}
use Rattle.pm_elab.specs.declared.call.Given.{Given}
use Rattle.pm_elab.specs.declared.class.ConstructedClass.{ConstructedClass}
use Rattle.pm_elab.specs.declared.class.ConstructedClass.TheVariants as class
use Rattle.pm_elab.specs.declared.elaboration.Elaboration.{Elaboration}
use Rattle.pm_elab.specs.declared.elaboration.RawDesign.{RawDesign}
use Rattle.pm_elab.specs.declared.elaboration.TheConstants.{MAX_NESTING}
use Rattle.pm_elab.specs.declared.parameter.Param.{Param}
use Rattle.pm_elab.specs.declared.parameter.ParamValue.{ParamValue}
use Rattle.pm_elab.specs.declared.parameter.ParamValue.TheVariants as given
use Rattle.pm_elab.specs.Classes.{Class, class_named, construct_in, clean, parameters_from}
use Rattle.pm_elab.specs.Constructs.{component, make_at}
use Rattle.pm_elab.specs.Elab.{Checked, Elab, and_then, ◌>>=◌, ◌>>◌, pure, fail, lift, step}
use Rattle.pm_elab.specs.Expressions.{Make, eval}
use Rattle.pm_elab.specs.Methods.{annotation}
use Rattle.pm_elab.specs.Sites.{Scope, outside}
use Rattle.pm_elab.specs.Values.{bits_of}

-- what the file's names stand for
abbrev pub Globals : Type 0
Globals = Names Value

-- ---- bitstructs

-- the width of all fields
abbrev pub width_of_fields : List Field → ℕ
width_of_fields [] = 0
width_of_fields (f ∷ fs) = f.width + width_of_fields fs

-- the fields that stand, and one after them, which is less significant
abbrev pub raised : ℕ → Field → Field
raised by f = record f { lo = f.lo + by }

-- a further field: those before it move up by its width
unfoldable pub field_added : List Field → List ℕ → ValueType → List Field
field_added fs name t = map (raised t.width) fs ++ record { name = name; lo = 0; width = t.width; shape = t.shape } ∷ []

-- a field of the name stands already
unfoldable pub has_field : List Field → List ℕ → Bool
has_field fs name = list_any (λ f. bytes_eq f.name name) fs

-- a field of a new name, within 128 bits in all
unfoldable pub field_put : ℕ → List Field → List ℕ → ValueType → Checked (List Field)
field_put line fs name t =
    if nat_le (width_of_fields fs + t.width) 128
    then (if has_field fs name then Err (SameName line) else Ok (field_added fs name t))
    else Err (WidthRange line)

-- the name that an expression is
abbrev pub name_at : Expr-F Expr Arg → List ℕ
name_at (Expr-F.Name n) = n
name_at _ = []

-- the name that an expression is
unfoldable pub name_of : Expr → List ℕ
name_of e = name_at (out-Expr e)

-- `name : T`, which costs a step
unfoldable pub field : Make → Scope → ℕ → List Field → Expr → Expr → Elab (List Field)
field make file line fs name t = step line >> annotation make t (outside file line) >>= (λ ty. lift (field_put line fs (name_of name) ty))

-- a line of a bitstruct
abbrev pub field_at : Make → Scope → ℕ → List Field → Stmt-F Stmt → Elab (List Field)
field_at make file line fs (Stmt-F.Note name t value) = field make file line fs name t
field_at make file line fs _ = pure fs

-- a line of a bitstruct
unfoldable pub field_of_line : Make → Scope → List Field → Node → Elab (List Field)
field_of_line make file fs n = field_at make file (out-Node n).line fs (out-Stmt (out-Node n).stmt)

-- the fields of a bitstruct's lines, behind those that stand
unfoldable pub fields_from : Make → Scope → List Field → List Node → Elab (List Field)
fields_from make file fs [] = pure fs
fields_from make file fs (n ∷ ns) = field_of_line make file fs n >>= (λ gs. fields_from make file gs ns)

-- a bitstruct has a field; it stands behind those that were made before
unfoldable pub shape_put : ℕ → List ℕ → List Field → Elab ValueType
shape_put line name [] = fail (WidthRange line)
shape_put line name (f ∷ fs) = λ m. Ok (
  record { width = width_of_fields (f ∷ fs); shape = Some (length m.shapes) },
  record m { shapes = m.shapes ++ record { name = name; fields = f ∷ fs; width = width_of_fields (f ∷ fs) } ∷ [] },
)

-- the type of a bitstruct
unfoldable pub bitstruct : Make → Scope → ℕ → List ℕ → List Node → Elab Value
bitstruct make file line name ns = fields_from make file [] ns >>= (λ fs. shape_put line name fs) >>= (λ t. pure (value.Type t))

-- ---- statements of the file

-- the line is a class of the name
abbrev pub is_class_at : List ℕ → Stmt-F Stmt → Bool
is_class_at name (Stmt-F.Class c base) = bytes_eq c name
is_class_at name _ = false

-- the line is a class of the name
unfoldable pub is_class : List ℕ → Node → Bool
is_class name n = is_class_at name (out-Stmt (out-Node n).stmt)

-- a class of the name stands before
unfoldable pub has_class : List Node → List ℕ → Bool
has_class ns name = list_any (is_class name) ns

-- `name = e`, which costs a step
unfoldable pub constant : Make → Scope → ℕ → Expr → Elab Value
constant make file line e = step line >> eval make e (outside file line) >>= (λ v. lift (clean line v))

-- a class, or else a bitstruct
abbrev pub class_value : Make → Scope → ℕ → List ℕ → Option (List ℕ) → List Node → Elab Value
class_value make file line name None ns = bitstruct make file line name ns
class_value make file line name (Some base) ns = pure (value.Class name)

-- `class name ..` of a new name
unfoldable pub class_statement : Make → List Node → Scope → ℕ → List ℕ → Option (List ℕ) → List Node → Elab Value
class_statement make earlier file line name base ns =
    if has_class earlier name then fail (SameName line) else class_value make file line name base ns

-- `name = e`: the name stands for the value from now on
unfoldable pub constant_named : Make → Scope → ℕ → Expr → Expr → Elab Globals
constant_named make file line to e = constant make file line e >>= (λ v. pure (put file.names (name_of to) v))

-- a class's name stands for it from now on
unfoldable pub class_given : Make → List Node → Scope → ℕ → List ℕ → Option (List ℕ) → List Node → Elab Globals
class_given make earlier file line name base ns =
    class_statement make earlier file line name base ns >>= (λ v. pure (put file.names name v))

-- a statement of the file, behind the earlier lines
abbrev pub statement_at : Make → List Node → Scope → Node-F Node → Stmt-F Stmt → Elab Globals
statement_at make earlier file n (Stmt-F.Assign op to e) = constant_named make file n.line to e
statement_at make earlier file n (Stmt-F.Class name base) = class_given make earlier file n.line name base n.body
statement_at make earlier file n _ = pure file.names

-- a statement of the file, behind the earlier lines
unfoldable pub statement : Make → List Node → Scope → Node → Elab Globals
statement make earlier file n = statement_at make earlier file (out-Node n) (out-Stmt (out-Node n).stmt)

-- the statements of a file in order, of which so many have run
unfoldable pub statements_from : Make → List Node → ℕ → Globals → List Node → Elab Globals
statements_from make nodes k names [] = pure names
statements_from make nodes k names (n ∷ ns) =
    statement make (take k nodes) (record { nodes = nodes; names = names }) n
    >>= (λ more. statements_from make nodes (k + 1) more ns)

-- ---- the top class

-- the value of a parameter from the command line
abbrev pub value_of : ParamValue → Value
value_of (given.Int n) = value.Int n
value_of (given.Width n) = value.Type (bits_of n)

-- the value that the command line gives for a parameter
abbrev pub param_value : List Param → List ℕ → Option Value
param_value [] name = None
param_value (p ∷ ps) name = if bytes_eq p.name name then Some (value_of p.value) else param_value ps name

-- a parameter of the name
unfoldable pub has_parameter : List Par → List ℕ → Bool
has_parameter ps name = list_any (λ p. bytes_eq p.name name) ps

-- the command line gives the name
unfoldable pub gives : List Param → List ℕ → Bool
gives ps name = list_any (λ p. bytes_eq p.name name) ps

-- each name that is given is a parameter's, and none is given twice
unfoldable pub known_from : List Param → List Param → List Par → Checked (Unit {0})
known_from earlier [] pars = Ok tt
known_from earlier (p ∷ ps) pars =
    if has_parameter pars p.name && not (gives earlier p.name) then known_from (earlier ++ p ∷ []) ps pars
    else Err (BadParameter p.name)

-- each parameter is given or has a default
unfoldable pub none_missing : List Param → List Par → Checked (Unit {0})
none_missing ps [] = Ok tt
none_missing ps (p ∷ pars) = if is_some p.default || gives ps p.name then none_missing ps pars else Err (BadParameter p.name)

-- a parameter as an argument that names it
abbrev pub argument_of : Param → Given
argument_of p = record { name = Some p.name; value = value_of p.value }

-- the values of the parameters of the top class
unfoldable pub top_values : Make → Scope → Class → List Param → Elab (List Value)
top_values make file c ps =
    lift (known_from [] ps (construct_in c.lines).parameters)
    >> lift (none_missing ps (construct_in c.lines).parameters)
    >> parameters_from make [] (map argument_of ps) (construct_in c.lines).parameters (outside file (construct_in c.lines).line)

-- the top class at its parameters
unfoldable pub top_component : Make → Make → Scope → List ℕ → Class → List Param → Elab ℕ
top_component outer inner file name c ps = top_values outer file c ps >>= (λ vs. component outer inner file name c vs)

-- a component, and no interface
abbrev pub top_by : ConstructedClass → Make → Make → Scope → List ℕ → Class → List Param → Elab ℕ
top_by class.Component outer inner file name c ps = top_component outer inner file name c ps
top_by class.Interface outer inner file name c ps = fail (NoClass name)

-- a class that the file may have
abbrev pub top_of : Option Class → Make → Make → Scope → List ℕ → List Param → Elab ℕ
top_of None outer inner file name ps = fail (NoClass name)
top_of (Some c) outer inner file name ps = top_by c.class outer inner file name c ps

-- the kind of the top class
unfoldable pub top : Make → Make → Scope → List ℕ → List Param → Elab ℕ
top outer inner file name ps = top_of (class_named file.nodes name) outer inner file name ps

-- ---- the whole

-- before the first statement
abbrev pub nothing_made : Elaboration
nothing_made = record { steps = 0; shapes = []; kinds = [] }

-- the file's statements, then the top class: the names of the file, and the top's kind
unfoldable pub elaborated : Make → Make → List Node → List ℕ → List Param → Elab (Globals × ℕ)
elaborated outer inner nodes name ps =
    statements_from outer nodes 0 [] nodes
    >>= (λ names. top outer inner (record { nodes = nodes; names = names }) name ps >>= (λ k. pure (names, k)))

-- the design of what was made
abbrev pub design_of : Elaboration → Globals → ℕ → RawDesign
design_of m names k = record {
  design = record { kinds = map (λ made. made.kind) m.kinds; shapes = m.shapes; top = k };
  kinds = map (λ made. made.raw) m.kinds;
  names = names;
}

-- the design of the top class of a file, or the first fault
unfoldable pub build : List Node → List ℕ → List Param → Checked RawDesign
build nodes name ps =
    and_then (elaborated (make_at None) (make_at (Some (MAX_NESTING - 1))) nodes name ps nothing_made)
    (λ r. Ok (design_of r.1 r.0.0 r.0.1))
