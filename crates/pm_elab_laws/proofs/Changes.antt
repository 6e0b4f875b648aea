-- What a component keeps while statements change it.
use Rattle.std.proofs.Common.{◌≡◌, ℕ, Bool, true, false, List, [], ◌∷◌, ◌++◌, refl, length}
use Rattle.std.specs.Prelude.{Option, Some, None, Ok, Err, if◌then◌else◌, is_some, codes}
use Rattle.std.specs.Str.{bytes_eq}
use Rattle.pm_design.specs.declared.body.BlockSort.{BlockSort}
use Rattle.pm_design.specs.declared.body.BlockSort.TheVariants as sort
use Rattle.pm_design.specs.declared.connection.Term.{Term}
use Rattle.pm_syn.specs.declared.expression.Expr.{Expr}
use Rattle.pm_syn.specs.declared.statement.Node.{Node}
use Rattle.pm_syn.specs.declared.statement.Stmt.{Stmt}
use Rattle.pm_values.specs.declared.fault.BuildFault.{BuildFault}
use Rattle.pm_values.specs.declared.fault.BuildFault.TheVariants.{WrongKind, SameName, BadArguments}
use Rattle.pm_values.specs.declared.reference.Reference.{Reference}
use Rattle.pm_values.specs.declared.reference.ValueType.{ValueType}
use Rattle.pm_values.specs.declared.value.Member.{Member}
use Rattle.pm_values.specs.declared.value.Taken.{Taken}
use Rattle.pm_values.specs.declared.value.Taken.TheVariants as taken
use Rattle.pm_values.specs.declared.value.Value.TheVariants as value
use Rattle.pm_values.specs.declared.value.Value.{Value, Value-F, out-Value}
use Rattle.pm_values.specs.Tables.{get}
use Rattle.pm_elab.specs.declared.body.BodyPlace.{BodyPlace}
use Rattle.pm_elab.specs.declared.body.BodyPlace.TheVariants as at
use Rattle.pm_elab.specs.declared.body.Code.{Code}
use Rattle.pm_elab.specs.declared.body.Code.TheVariants as code
use Rattle.pm_elab.specs.declared.body.MethodTypes.{MethodTypes}
use Rattle.pm_elab.specs.declared.call.Given.{Given}
use Rattle.pm_elab.specs.declared.class.ConstructedClass.{ConstructedClass}
use Rattle.pm_elab.specs.declared.class.ConstructedClass.TheVariants as class
use Rattle.pm_elab.specs.declared.elaboration.MadeKind.{MadeKind}
use Rattle.pm_elab.specs.declared.frame.Frame.{Frame}
use Rattle.pm_elab.specs.declared.state.Start.{Start}
use Rattle.pm_elab.specs.declared.target.Target.{Target}
use Rattle.pm_elab.specs.declared.target.Target.TheVariants as target
use Rattle.pm_elab.specs.Elab.{Checked}
use Rattle.pm_elab.specs.Functions.{are_unnamed}
use Rattle.pm_elab.specs.Methods.{GuardLine, guard_put, method_added, named_method, method_set, is_used, method_put}
use Rattle.pm_elab.specs.Placing.{local_put, attribute_set, place, fresh_attribute, component_attribute}
use Rattle.pm_elab.specs.Placing.{interface_member, attribute_put_in, attribute_put, local_assigned, assigned}
use Rattle.pm_elab.specs.Statements.{has_block, body_put, block_set, block_put, block_def, body_nodes, lambda_name}
use Rattle.pm_elab.specs.Statements.{one_lambda_more, lambda_put, lambda_at, lambda_block, start_of, with_state}
use Rattle.pm_elab.specs.Statements.{state_set, state_named, state_to, state_put, rule_at, rule_put, rules_put}
use Rattle.pm_elab.specs.Statements.{constrained}
use Rattle.pm_elab.specs.Values.{is_settled, is_attribute, is_member}
use Rattle.pm_elab_laws.proofs.Keeping.{On}
use Rattle.pm_elab_laws.proofs.Framing.{chain}
use Rattle.pm_elab_laws.proofs.Joining.{in_either}

-- the frame with a further constraint
abbrev pub with_rule : Frame → ℕ → Term → Term → Frame
with_rule f line t u = record f {
  kind = record f.kind {
    rules = f.kind.rules ++ record {
      line = line;
      before = t;
      after = u;
    } ∷ [];
  };
}

-- an answer that comes only if a test fails, or only if it doesn't
pub unless_so : {A : Type 0} (P : A → Type 0) (b : Bool) (e : BuildFault) (r : Checked A) → On r P
    → On (if b then Err e else r) P
unless_so P true e r is = tt
unless_so P false e r is = is

pub if_so : {A : Type 0} (P : A → Type 0) (b : Bool) (e : BuildFault) (r : Checked A) → On r P
    → On (if b then r else Err e) P
if_so P true e r is = is
if_so P false e r is = tt

module _ (P : Frame → Type 0)
    (bodies : (f : Frame) (p : BodyPlace) (line : ℕ) (c : Code) → P f → P (body_put p line c f))
    (blocks : (f : Frame) (name : List ℕ) (s : BlockSort) → has_block f name ≡ false → P f → P (block_set name s f))
    (lambdas : (f : Frame) → P f → P (one_lambda_more f))
    (states : (f : Frame) (name : List ℕ) (t : ValueType) (s : Start) → P f → P (with_state f name t s))
    (rules : (f : Frame) (line : ℕ) (t u : Term) → P f → P (with_rule f line t u))
    (Good : Value → Type 0)
    (takens : (t : Taken) → Good (value.Taken t))
    (locals : (f : Frame) (name : List ℕ) (v : Value) → Good v → P f → P (local_put name v f))
    (attributes : (f : Frame) (name : List ℕ) (v : Value) → Good v → P f → P (attribute_set name v f)) where
  put_on : (name : List ℕ) (s : BlockSort) (line : ℕ) (c : Code) (f : Frame) → P f → On (block_put name s line c f) P
  unfolding block_put
  put_on name s line c f is = by (has_block f name) refl
    where
      by : (b : Bool) → has_block f name ≡ b
          → On (if b then Err (SameName line) else Ok (body_put (at.Block (length f.kind.blocks)) line c
          (block_set name s f))) P
      by true there = tt
      by false there = bodies (block_set name s f) _ line c (blocks f name s there is)

  -- a block
  pub block_on : (name : List ℕ) (s : BlockSort) (after : Option Stmt) (below : List Node) (line : ℕ) (f : Frame)
      → P f → On (block_def name s after below line f) P
  unfolding block_def
  block_on name s after below line f is = in_either P f.class line _ (put_on name s line (code.Statements
      (body_nodes after below line)) f is)

  lambda_put_on : (r : Reference) (e : Expr) (line : ℕ) (f : Frame) → P f → On (lambda_put r e line f) P
  unfolding lambda_put
  lambda_put_on r e line f is = chain P P (block_put (lambda_name f.lambdas) sort.Update line (code.Lambda r e) f) _
      (put_on (lambda_name f.lambdas) sort.Update line (code.Lambda r e) f is) (λ g more. lambdas g more)

  lambda_at_on : (e : Expr) (line : ℕ) (f : Frame) (v : Value-F Value Member) → P f → On (lambda_at e line f v) P
  lambda_at_on e line f (Value-F.Taken (taken.Signal r)) is = lambda_put_on r e line f is
  lambda_at_on e line f _ is = tt

  -- a lambda
  pub lambda_on : (v : Value) (e : Expr) (line : ℕ) (f : Frame) → P f → On (lambda_block v e line f) P
  unfolding lambda_block
  lambda_on v e line f is = in_either P f.class line _ (lambda_at_on e line f (out-Value v) is)

  state_named_on : (name : List ℕ) (t : ValueType) (v : Value) (line : ℕ) (f : Frame) → P f
      → On (state_named name t v line f) P
  unfolding state_named state_set
  state_named_on name t v line f is = unless_so P (bytes_eq name (codes "clk")) (WrongKind line) _
      (chain (λ _. Unit {0}) P (start_of line t.width v) _ (anything (start_of line t.width v)) (λ s _.
      unless_so P (is_some (get f.raw.attributes name)) (SameName line) (Ok (state_set name t s f))
      (attributes (with_state f name t s) name _ (takens _) (states f name t s is))))
    where
      anything : (r : Checked Start) → On r (λ _. Unit {0})
      anything (Ok s) = tt
      anything (Err e) = tt

  state_to_on : (to : Target) (t : ValueType) (v : Value) (line : ℕ) (f : Frame) → P f → On (state_to to t v line f) P
  state_to_on (target.Attribute name) t v line f is = state_named_on name t v line f is
  state_to_on (target.Local name) t v line f is = tt
  state_to_on target.Other t v line f is = tt

  -- a state
  pub state_on : (to : Target) (t : ValueType) (v : Value) (line : ℕ) (f : Frame) → P f → On (state_put to t v line f) P
  unfolding state_put
  state_on to t v line f is = in_either P f.class line _ (state_to_on to t v line f is)

  rule_on : (line : ℕ) (f : Frame) (v : Value-F Value Member) → P f → On (rule_at line f v) P
  rule_on line f (Value-F.Rule t u) is = rules f line t u is
  rule_on line f _ is = tt

  rules_on : (gs : List Given) (line : ℕ) (f : Frame) → P f → On (rules_put gs line f) P
  unfolding rules_put rule_put
  rules_on [] line f is = is
  rules_on (g ∷ gs) line f is = chain P P (rule_put g.value line f) _ (rule_on line f (out-Value g.value) is)
      (λ h more. rules_on gs line h more)

  -- constraints
  pub constrained_on : (gs : List Given) (line : ℕ) (f : Frame) → P f → On (constrained gs line f) P
  unfolding constrained
  constrained_on gs line f is = if_so P (are_unnamed gs) (BadArguments line) _ (in_either P f.class line _
      (rules_on gs line f is))

  guard_on : (m : ℕ) (g : Option GuardLine) (f : Frame) → P f → P (guard_put m g f)
  unfolding guard_put
  guard_on m None f is = is
  guard_on m (Some g) f is = bodies f (at.Guard m) g.line (code.Guard g.condition) is

  -- a method
  pub method_on : ((f : Frame) (name : List ℕ) (types : MethodTypes) → P f → P (method_added name types f))
      → (name : List ℕ) (types : MethodTypes) (g : Option GuardLine) (line : ℕ) (nodes : List Node) (f : Frame) → P f
      → On (method_put name types g line nodes f) P
  unfolding method_put method_set named_method
  method_on methods name types g line nodes f is = unless_so P (is_used f name) (SameName line) (Ok (method_set name types g
      line nodes f))
      (bodies _ (at.Method (length f.kind.methods)) line (code.Statements nodes) (guard_on (length f.kind.methods) g
      _ (attributes (method_added name types f) name _ (takens _) (methods f name types is))))

  module _ (kinds : List MadeKind) (line : ℕ) (places : (v : Value) (name : List ℕ) (f : Frame) → Good v → P f
      → On (place v kinds name line f) (λ r. P r.0 × Good r.1)) where
    fresh_on : (name : List ℕ) (v : Value) (f : Frame) → Good v → P f → On (fresh_attribute kinds name v line f) P
    fresh_on name v f good is = unless_so P (is_some (get f.raw.attributes name)) (SameName line) _
        (chain (λ (r : Frame × Value). P r.0 × Good r.1) P (place v kinds name line f) _ (places v name f good is)
        (λ r more. attributes r.0 name r.1 more.1 more.0))

    attribute_on : (s : ConstructedClass) (name : List ℕ) (v : Value) (f : Frame) → Good v → P f
        → On (attribute_put_in s kinds name v line f) P
    unfolding component_attribute interface_member
    attribute_on class.Component name v f good is = unless_so P (bytes_eq name (codes "clk")) (WrongKind line) _
        (if_so P (is_attribute v) (WrongKind line) _ (fresh_on name v f good is))
    attribute_on class.Interface name v f good is = if_so P (is_member v) (WrongKind line) _ (unless_so P
        (is_some (get f.raw.attributes name)) (SameName line) (Ok (attribute_set name v f)) (attributes f name v
        good is))

    -- an assignment
    pub assigned_on : (to : Target) (v : Value) (f : Frame) → Good v → P f → On (assigned to kinds v line f) P
    unfolding assigned attribute_put local_assigned
    assigned_on (target.Attribute name) v f good is = attribute_on f.class name v f good is
    assigned_on (target.Local name) v f good is = if_so P (is_settled v) (WrongKind line) (Ok (local_put name v f))
        (locals f name v good is)
    assigned_on target.Other v f good is = tt
