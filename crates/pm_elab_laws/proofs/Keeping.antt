-- What a computation of elaboration keeps.
use Rattle.std.proofs.Common.{◌≡◌, ◌+◌, ℕ, ℤ, true, List, [], ◌∷◌, ◌++◌, subst, length}
use Rattle.std.specs.Prelude.{Option, Some, None, Ok, Err, nat_lt}
use Rattle.pm_bits.specs.Word.{Word}
use Rattle.pm_design.specs.declared.connection.Term.{Term}
use Rattle.pm_design.specs.declared.body.BlockSort.{BlockSort}
use Rattle.pm_design.specs.declared.signal.Field.{Field}
use Rattle.pm_syn.specs.declared.expression.Expr.{Expr}
use Rattle.pm_syn.specs.declared.statement.Node.{Node}
use Rattle.pm_syn.specs.declared.statement.Par.{Par}
use Rattle.pm_syn.specs.declared.statement.Stmt.{Stmt}
use Rattle.pm_values.specs.declared.fault.BuildFault.{BuildFault}
use Rattle.pm_values.specs.declared.reference.ValueType.{ValueType}
use Rattle.pm_values.specs.declared.value.New.TheVariants as new
use Rattle.pm_values.specs.declared.value.Value.{Value}
use Rattle.pm_values.specs.declared.value.Value.TheVariants as value
use Rattle.pm_values.specs.Tables.{get}
use Rattle.pm_elab.specs.declared.body.MethodTypes.{MethodTypes}
use Rattle.pm_elab.specs.declared.call.Given.{Given}
use Rattle.pm_elab.specs.declared.class.ConstructedClass.{ConstructedClass}
use Rattle.pm_elab.specs.declared.class.ConstructedClass.TheVariants as class
use Rattle.pm_elab.specs.declared.elaboration.Elaboration.{Elaboration}
use Rattle.pm_elab.specs.declared.elaboration.TheConstants.{MAX_STEPS}
use Rattle.pm_elab.specs.declared.frame.Frame.{Frame}
use Rattle.pm_elab.specs.declared.frame.Local.{Local}
use Rattle.pm_elab.specs.declared.function.Function.{Function}
use Rattle.pm_elab.specs.declared.parameter.ParamValue.{ParamValue}
use Rattle.pm_elab.specs.declared.target.Target.{Target}
use Rattle.pm_elab.specs.declared.target.Target.TheVariants as target
use Rattle.pm_elab.specs.Attributes.{attribute, element, slice}
use Rattle.pm_elab.specs.Connections.{connected}
use Rattle.pm_elab.specs.Constructs.{component_start, interface_start, kind_made, members_of}
use Rattle.pm_elab.specs.Elab.{Checked, and_then}
use Rattle.pm_elab.specs.Expressions.{block_from}
use Rattle.pm_elab.specs.Files.{value_of, field_put, width_of_fields}
use Rattle.pm_elab.specs.Functions.{called}
use Rattle.pm_elab.specs.Methods.{GuardLine, method_put}
use Rattle.pm_elab.specs.Placing.{assigned, local_put}
use Rattle.pm_elab.specs.Sites.{Site, type_named}
use Rattle.pm_elab.specs.Statements.{block_def, constrained, lambda_block, state_put}
use Rattle.pm_elab.specs.Values.{is_plain, type_in}
use Rattle.pm_elab_laws.proofs.Constants.{is_constant}

-- an answer that isn't a fault has the property
abbrev pub On : {A : Type 0} → Checked A → (A → Type 0) → Type 0
On (Ok a) P = P a
On (Err e) P = Unit {0}

-- each of the values has the property
abbrev pub Each : {A : Type 0} → (A → Type 0) → List A → Type 0
Each P [] = Unit {0}
Each P (a ∷ others) = P a × Each P others

-- what there is has the property
abbrev pub Where : {A : Type 0} → (A → Type 0) → Option A → Type 0
Where P (Some a) = P a
Where P None = Unit {0}

-- where a run of `construct` begins: what was made before, and which class it is
pub record Origin : Type 0 where
  pub made : Elaboration
  pub name : List ℕ
  pub class : ConstructedClass

-- after one step more
abbrev pub stepped : Elaboration → Elaboration
stepped m = record m { steps = m.steps + 1 }

-- the assignment is to a name that is as it must be
abbrev pub IsAimed : (List ℕ → Type 0) → Target → Type 0
IsAimed P (target.Attribute name) = P name
IsAimed P _ = Unit {0}

-- facts of what was made, of values and of frames, and that each rule of elaboration keeps them
pub record Keeping : Type 1 where
  -- what was made at first leads to what is made in the end
  pub Leads : Elaboration → Elaboration → Type 0
  pub IsFine : Elaboration → Type 0
  -- a name that a statement declares
  pub IsName : List ℕ → Type 0
  -- a parameter from the command line
  pub IsParam : ParamValue → Type 0
  pub IsType : Elaboration → ValueType → Type 0
  -- a value that was computed from the one to the other
  pub IsValue : Elaboration → Elaboration → Option Frame → Value → Type 0
  pub IsItems : Elaboration → Elaboration → Option Frame → List Value → Type 0
  -- a value that may be an argument
  pub IsGlobal : Elaboration → Value → Type 0
  pub IsFrame : Origin → Elaboration → Frame → Type 0
  -- a frame that a step was taken for
  pub IsReady : Origin → Elaboration → Frame → Type 0
  pub IsFields : Elaboration → List Field → Type 0
  pub stays : (m : Elaboration) → Leads m m
  pub on : (l m n : Elaboration) → Leads l m → Leads m n → Leads l n
  pub fine_on : (m n : Elaboration) → Leads m n → IsFine m → IsFine n
  pub type_on : (m n : Elaboration) (t : ValueType) → Leads m n → IsType m t → IsType n t
  pub value_on : (l m n : Elaboration) (fr : Option Frame) (v : Value) → Leads m n → IsValue l m fr v → IsValue l n fr v
  pub value_from : (l m n : Elaboration) (fr : Option Frame) (v : Value) → Leads l m → IsValue m n fr v
      → IsValue l n fr v
  pub global_on : (m n : Elaboration) (v : Value) → Leads m n → IsGlobal m v → IsGlobal n v
  pub frame_on : (o : Origin) (m n : Elaboration) (f : Frame) → Leads m n → IsFrame o m f → IsFrame o n f
  pub fields_on : (m n : Elaboration) (fs : List Field) → Leads m n → IsFields m fs → IsFields n fs
  pub steps : (m : Elaboration) → nat_lt m.steps MAX_STEPS ≡ true → Leads m (stepped m)
  pub ready : (o : Origin) (m : Elaboration) (f : Frame) → nat_lt m.steps MAX_STEPS ≡ true → IsFrame o m f
      → IsReady o (stepped m) f
  pub unready : (o : Origin) (m : Elaboration) (f : Frame) → IsReady o m f → IsFrame o m f
  pub int_value : (m : Elaboration) (fr : Option Frame) (n : ℤ) → IsValue m m fr (value.Int n)
  pub own_value : (m : Elaboration) (fr : Option Frame) → IsValue m m fr value.Own
  pub const_value : (m : Elaboration) (fr : Option Frame) (w : Word) → is_constant w ≡ true
      → IsValue m m fr (value.Const w)
  pub class_value : (m : Elaboration) (n : List ℕ) → IsGlobal m (value.Class n)
  pub param_value : (m : Elaboration) (p : ParamValue) → IsParam p → IsGlobal m (value_of p)
  pub named_type : (m : Elaboration) (name : List ℕ) → Where (IsGlobal m) (type_named name)
  pub global_value : (m : Elaboration) (fr : Option Frame) (v : Value) → IsGlobal m v → IsValue m m fr v
  pub plain_value : (l m : Elaboration) (fr : Option Frame) (v : Value) → is_plain v ≡ true → IsValue l m fr v
      → IsGlobal m v
  pub local_value : (o : Origin) (m : Elaboration) (f : Frame) (name : List ℕ) → IsFrame o m f
      → Where (λ (l : Local). IsValue m m (Some f) l.value) (get f.raw.locals name)
  pub rule_value : (l k m : Elaboration) (fr : Option Frame) (t u : Term) → IsValue l m fr (value.Term t)
      → IsValue k m fr (value.Term u) → IsValue m m fr (value.Rule t u)
  pub block_value : (o : Origin) (m : Elaboration) (f : Frame) (name : List ℕ) → IsFrame o m f
      → Where (λ (t : Term). IsValue m m (Some f) (value.Term t)) (block_from 0 f.kind.blocks name)
  pub attribute_value : (o : Origin) (l m : Elaboration) (site : Site) (name : List ℕ) (v : Value) → IsFine m
      → Where (IsFrame o m) site.frame
      → IsValue l m site.frame v → On (attribute m site name v) (IsValue l m site.frame)
  pub element_value : (l m : Elaboration) (fr : Option Frame) (line : ℕ) (v : Value) (n : ℤ) → IsValue l m fr v
      → On (element line v n) (IsValue l m fr)
  pub slice_value : (l m : Elaboration) (fr : Option Frame) (line : ℕ) (v : Value) (lo hi : ℤ) → IsValue l m fr v
      → On (slice line v lo hi) (IsValue l m fr)
  pub called_value : (l m : Elaboration) (fr : Option Frame) (f : Function) (line : ℕ) (gs : List Given)
      → Each (λ (g : Given). IsValue l m fr g.value) gs
      → On (called f line gs) (IsValue m m fr)
  pub items_none : (m : Elaboration) (fr : Option Frame) → IsItems m m fr []
  pub items_more : (l m n : Elaboration) (fr : Option Frame) (vs : List Value) (v : Value)
      → nat_lt m.steps MAX_STEPS ≡ true → Leads (stepped m) n → IsItems l m fr vs → IsValue (stepped m) n fr v
      → IsItems l n fr (vs ++ v ∷ [])
  pub items_value : (l m : Elaboration) (fr : Option Frame) (vs : List Value) → IsItems l m fr vs
      → IsValue l m fr (value.Items vs)
  pub type_of_value : (l m : Elaboration) (fr : Option Frame) (line : ℕ) (v : Value) → IsValue l m fr v
      → On (type_in line v) (IsType m)
  pub kind_value : (m : Elaboration) (fr : Option Frame) (name : List ℕ) (vs : List Value) → IsFine m
      → Where (λ (k : ℕ). IsValue m m fr (value.New (new.Child k))) (kind_made m.kinds name vs)
  pub component_frame : (m : Elaboration) (name : List ℕ) (ps : List Par) (vs : List Value) → IsFine m → IsName name
      → Each (IsGlobal m) vs
      → IsFrame (record { made = m; name = name; class = class.Component }) m (component_start name ps vs)
  pub interface_frame : (m : Elaboration) (name : List ℕ) (ps : List Par) (vs : List Value) → IsFine m → IsName name
      → Each (IsGlobal m) vs
      → IsFrame (record { made = m; name = name; class = class.Interface }) m (interface_start name ps vs)
  pub interface_value : (l m : Elaboration) (fr : Option Frame) (name : List ℕ) (f : Frame)
      → IsFrame (record { made = l; name = name; class = class.Interface }) m f
      → IsValue l m fr (value.NewInterface (members_of f.raw.attributes))
  pub assigned_frame : (o : Origin) (m n : Elaboration) (to : Target) (v : Value) (line : ℕ) (f : Frame) → Leads m n
      → IsFine n → IsReady o m f → IsAimed IsName to
      → IsValue m n (Some f) v → On (assigned to n.kinds v line f) (IsFrame o n)
  pub connected_frame : (o : Origin) (k l m n : Elaboration) (a b : Value) (line : ℕ) (f : Frame) → Leads m n
      → IsFine n → IsReady o m f
      → IsValue k n (Some f) a → IsValue l n (Some f) b → On (connected n.kinds a b line f) (IsFrame o n)
  pub lambda_frame : (o : Origin) (m n : Elaboration) (v : Value) (e : Expr) (line : ℕ) (f : Frame) → Leads m n
      → IsReady o m f → IsValue m n (Some f) v
      → On (lambda_block v e line f) (IsFrame o n)
  pub state_frame : (o : Origin) (m n : Elaboration) (to : Target) (t : ValueType) (v : Value) (line : ℕ)
      (f : Frame) → Leads m n → IsReady o m f → IsAimed IsName to
      → IsType n t → IsValue m n (Some f) v → On (state_put to t v line f) (IsFrame o n)
  pub constrained_frame : (o : Origin) (m n : Elaboration) (gs : List Given) (line : ℕ) (f : Frame) → Leads m n
      → IsReady o m f
      → Each (λ (g : Given). IsValue m n (Some f) g.value) gs → On (constrained gs line f) (IsFrame o n)
  pub block_frame : (o : Origin) (m : Elaboration) (name : List ℕ) (s : BlockSort) (after : Option Stmt)
      (below : List Node) (line : ℕ) (f : Frame) → IsReady o m f → IsName name
      → On (block_def name s after below line f) (IsFrame o m)
  pub loop_frame : (o : Origin) (m : Elaboration) (name : List ℕ) (n : ℤ) (f : Frame) → IsFrame o m f
      → IsFrame o m (local_put name (value.Int n) f)
  pub method_frame : (o : Origin) (m : Elaboration) (name : List ℕ) (types : MethodTypes) (g : Option GuardLine)
      (line : ℕ) (nodes : List Node) (f : Frame)
      → o.class ≡ class.Component → IsFrame o m f → IsName name → Each (λ a. IsType m a.ty) types.arguments
      → Where (IsType m) types.result
      → On (method_put name types g line nodes f) (IsFrame o m)
  pub kept : (o : Origin) (m : Elaboration) (fr : Option Frame) (vs : List Value) (f : Frame)
      → o.class ≡ class.Component → IsFrame o m f → Each (IsGlobal m) vs
      → let n : Elaboration = record m {
        kinds = m.kinds ++ record { arguments = vs; kind = f.kind; raw = f.raw } ∷
            [];
      } in
      Leads m n × IsValue m n fr (value.New (new.Child (length m.kinds)))
  pub fields_none : (m : Elaboration) → IsFields m []
  pub fields_more : (m : Elaboration) (line : ℕ) (fs : List Field) (name : List ℕ) (t : ValueType) → IsFields m fs
      → IsType m t → On (field_put line fs name t) (IsFields m)
  pub shape_kept : (m : Elaboration) (name : List ℕ) (f : Field) (fs : List Field) → IsFields m (f ∷ fs)
      → let n : Elaboration = record m {
        shapes = m.shapes ++ record {
          name = name;
          fields = f ∷ fs;
          width =
              width_of_fields (f ∷ fs);
        } ∷ [];
      } in
      Leads m n × IsGlobal n (value.Type (record { width = width_of_fields (f ∷ fs); shape = Some (length m.shapes) }))

-- a run that doesn't fail leads on, and its result has the property
pub record Runs {A : Type 0} (k : Keeping) (m : Elaboration) (r : Checked (A × Elaboration)) (G : A → Elaboration
    → Type 0) : Type 0 where
  pub keeps : On r (λ p. k.Leads m p.1 × G p.0 p.1)

module _ (k : Keeping) where
  pub later : {A : Type 0} {G : A → Elaboration → Type 0} (m n : Elaboration) (r : Checked (A × Elaboration))
      → k.Leads m n → Runs k n r G → Runs k m r G
  later m n (Ok x) leads run = record { keeps = (k.on m n x.1 leads run.keeps.0, run.keeps.1) }
  later m n (Err e) leads run = record { keeps = tt }

  pub bind : {A B : Type 0} {G : A → Elaboration → Type 0} {H : B → Elaboration
      → Type 0} (m : Elaboration) (r : Checked (A × Elaboration))
      (f : A × Elaboration → Checked (B × Elaboration)) → Runs k m r G
      → ((x : A × Elaboration) → k.Leads m x.1 → G x.0 x.1 → Runs k x.1 (f x) H) → Runs k m (and_then r f) H
  bind m (Err e) f run next = record { keeps = tt }
  bind m (Ok x) f run next = later m x.1 (f x) run.keeps.0 (next x run.keeps.0 run.keeps.1)

  -- another property of the result
  pub so : {A : Type 0} {G H : A → Elaboration → Type 0} (m : Elaboration) (r : Checked (A × Elaboration))
      → Runs k m r G
      → ((x : A × Elaboration) → k.Leads m x.1 → G x.0 x.1 → H x.0 x.1) → Runs k m r H
  so m (Err e) run next = record { keeps = tt }
  so m (Ok x) run next = record { keeps = (run.keeps.0, next x run.keeps.0 run.keeps.1) }

  pub lifted : {A : Type 0} {G : A → Elaboration → Type 0} (m : Elaboration) (r : Checked A) → On r (λ a. G a m)
      → Runs k m (and_then r (λ a. Ok (a, m))) G
  lifted m (Ok a) good = record { keeps = (k.stays m, good) }
  lifted m (Err e) good = record { keeps = tt }

  pub done : {A : Type 0} {G : A → Elaboration → Type 0} (m : Elaboration) (a : A) → G a m → Runs k m (Ok (a, m)) G
  done m a good = record { keeps = (k.stays m, good) }

  pub failed : {A : Type 0} {G : A → Elaboration → Type 0} (m : Elaboration) (e : BuildFault) → Runs k m (Err e) G
  failed m e = record { keeps = tt }

  -- what a run gives, and what was made then
  pub gives : {A : Type 0} {G : A → Elaboration → Type 0} (m : Elaboration) (r : Checked (A × Elaboration))
      → Runs k m r G → (a : A) (n : Elaboration) → r ≡ Ok (a, n) → k.Leads m n × G a n
  gives {A = A} {G = G} m r run a n is = subst (λ (r : Checked (A × Elaboration)). On r (λ p. k.Leads m p.1 × G p.0
      p.1)) is run.keeps
