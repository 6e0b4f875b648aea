-- Headers of methods, which are met before the statements of `construct`.
use Rattle.std.specs.Prelude.{ℕ, Bool, ◌||◌, if◌then◌else◌, List, [], ◌∷◌, ◌++◌, map, length, codes, Option, Some, None, is_some, Ok, Err}
use Rattle.std.specs.Str.{bytes_eq}
use Rattle.pm_design.specs.declared.body.Method.{Method}
use Rattle.pm_design.specs.declared.connection.Callee.TheVariants as callee
use Rattle.pm_syn.specs.declared.expression.Expr.{Expr}
use Rattle.pm_syn.specs.declared.statement.Node.{Node, Node-F, out-Node}
use Rattle.pm_syn.specs.declared.statement.Par.{Par}
use Rattle.pm_syn.specs.declared.statement.Stmt.{Stmt, Stmt-F, out-Stmt}
use Rattle.pm_values.specs.declared.fault.BuildFault.TheVariants.{WrongKind, SameName}
use Rattle.pm_values.specs.declared.reference.ValueType.{ValueType}
use Rattle.pm_values.specs.declared.value.Taken.TheVariants as taken
use Rattle.pm_values.specs.declared.value.Value.TheVariants as value
use Rattle.pm_values.specs.Tables.{get}
use Rattle.pm_elab.specs.declared.body.Argument.{Argument}
use Rattle.pm_elab.specs.declared.body.BodyPlace.TheVariants as place
use Rattle.pm_elab.specs.declared.body.Code.TheVariants as code
use Rattle.pm_elab.specs.declared.body.MethodTypes.{MethodTypes}
use Rattle.pm_elab.specs.declared.frame.Frame.{Frame}
use Rattle.pm_elab.specs.Elab.{Checked, Elab, ◌>>=◌, pure, fail, lift}
use Rattle.pm_elab.specs.Expressions.{Make, eval}
use Rattle.pm_elab.specs.Placing.{attribute_set, width_if}
use Rattle.pm_elab.specs.Sites.{Scope, Site, outside}
use Rattle.pm_elab.specs.Statements.{body_nodes, body_put}
use Rattle.pm_elab.specs.Values.{type_in}

-- ---- types

-- the type that an annotation gives
unfoldable pub annotation : Make → Expr → Site → Elab ValueType
annotation make e site = eval make e site >>= (λ v. lift (type_in site.line v))

-- the type of an argument, which has an annotation and no default
abbrev pub argument_by : Make → Option Expr → Option Expr → Site → Elab ValueType
argument_by make (Some e) None site = annotation make e site
argument_by make _ _ site = fail (WrongKind site.line)

-- an argument and its type
unfoldable pub argument : Make → Par → Site → Elab Argument
argument make p site = argument_by make p.note p.default site >>= (λ t. pure (record { name = p.name; ty = t }))

-- arguments from left to right, behind those that stand
unfoldable pub arguments_from : Make → List Argument → List Par → Site → Elab (List Argument)
arguments_from make done [] site = pure done
arguments_from make done (p ∷ ps) site = argument make p site >>= (λ a. arguments_from make (done ++ a ∷ []) ps site)

-- the type of a result, if there is one
abbrev pub result_by : Make → Option Expr → Site → Elab (Option ValueType)
result_by make None site = pure None
result_by make (Some e) site = annotation make e site >>= (λ t. pure (Some t))

-- the type of a result, if there is one
unfoldable pub result_type : Make → Option Expr → Site → Elab (Option ValueType)
result_type = result_by

-- the types of a method
unfoldable pub method_types : Make → List Par → Option Expr → Site → Elab MethodTypes
method_types make ps result site =
    arguments_from make [] ps site
    >>= (λ given. result_type make result site >>= (λ t. pure (record { arguments = given; result = t })))

-- ---- methods

-- a decorator `@non_blocking( lambda s: e )`: its line, and e
pub record GuardLine : Type 0 where
  pub line : ℕ
  pub condition : Expr

-- the body of a guard, if there is one
abbrev pub with_guard : Frame → ℕ → Option GuardLine → Frame
with_guard f m None = f
with_guard f m (Some g) = body_put (place.Guard m) g.line (code.Guard g.condition) f

-- the body of a guard, if there is one
unfoldable pub guard_put : ℕ → Option GuardLine → Frame → Frame
guard_put m g f = with_guard f m g

-- a method whose body isn't typed yet
abbrev pub untyped_method : List ℕ → List ℕ → Option ℕ → Method
untyped_method name arguments result = record {
  name = name;
  arguments = arguments;
  result = result;
  guard = None;
  body = [];
  answer = None;
  temps = [];
}

-- a further method
abbrev pub with_method : Frame → Method → MethodTypes → Frame
with_method f method types = record f {
  kind = record f.kind { methods = f.kind.methods ++ method ∷ [] };
  raw = record f.raw { methods = f.raw.methods ++ types ∷ [] };
}

-- a further method, whose body isn't typed yet
unfoldable pub method_added : List ℕ → MethodTypes → Frame → Frame
method_added name types f =
    with_method f (untyped_method name (map (λ a. a.ty.width) types.arguments) (width_if types.result)) types

-- a method takes its name
unfoldable pub named_method : List ℕ → MethodTypes → Frame → Frame
named_method name types f = attribute_set name (value.Taken (taken.Method (callee.Own (length f.kind.methods)))) (method_added name types f)

-- a method, with its guard and its body
unfoldable pub method_set : List ℕ → MethodTypes → Option GuardLine → ℕ → List Node → Frame → Frame
method_set name types g line nodes f =
    body_put (place.Method (length f.kind.methods)) line (code.Statements nodes)
    (guard_put (length f.kind.methods) g (named_method name types f))

-- the name is an attribute's or another method's, or may be none
abbrev pub is_used : Frame → List ℕ → Bool
is_used f name = bytes_eq name (codes "clk") || is_some (get f.raw.attributes name)

-- a method of a new name
unfoldable pub method_put : List ℕ → MethodTypes → Option GuardLine → ℕ → List Node → Frame → Checked Frame
method_put name types g line nodes f = if is_used f name then Err (SameName line) else Ok (method_set name types g line nodes f)

-- `def name( s, .. )` in a class
unfoldable pub method : Make → Scope → List ℕ → List Par → Option Expr → Option GuardLine → ℕ → List Node → Frame → Elab Frame
method make file name ps result g line nodes f =
    method_types make ps result (outside file line) >>= (λ types. lift (method_put name types g line nodes f))

-- ---- the lines of a class

-- a `def` of a class: a method, or `construct`
unfoldable pub def_header : Make → Scope → List ℕ → List Par → Option Expr → Option GuardLine → ℕ → List Node → Frame → Elab Frame
def_header make file name ps result g line nodes f =
    if bytes_eq name (codes "construct") then pure f else method make file name ps result g line nodes f

-- a line of a class, after the decorator before it, if there is one: the frame, and the decorator that it is
abbrev pub header_at : Make → Scope → Option GuardLine → Node-F Node → Stmt-F Stmt → Frame → Elab (Frame × Option GuardLine)
header_at make file g n (Stmt-F.NonBlocking e) f = pure (f, Some (record { line = n.line; condition = e }))
header_at make file g n (Stmt-F.Def name own ps result after) f =
    def_header make file name ps result g n.line (body_nodes after n.body n.line) f >>= (λ h. pure (h, None))
header_at make file g n _ f = pure (f, None)

-- a line of a class
unfoldable pub header : Make → Scope → Option GuardLine → Node → Frame → Elab (Frame × Option GuardLine)
header make file g n f = header_at make file g (out-Node n) (out-Stmt (out-Node n).stmt) f

-- the lines of a class, in order
unfoldable pub headers_from : Make → Scope → Option GuardLine → List Node → Frame → Elab Frame
headers_from make file g [] f = pure f
headers_from make file g (n ∷ ns) f = header make file g n f >>= (λ r. headers_from make file r.1 ns r.0)

-- the headers of a class's methods
abbrev pub headers : Make → Scope → List Node → Frame → Elab Frame
headers make file ns f = headers_from make file None ns f
