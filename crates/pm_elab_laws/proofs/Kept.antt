-- What is known of a component while it is made: its lists fit, and so does what its names stand for.
use Rattle.std.proofs.Common.{◌≡◌, ◌∙◌, ◌+◌, ◌≤◌, ◌==◌, ◌&&◌, ◌||◌, ℕ, Bool, true, false, not, List, [], ◌∷◌, ◌++◌, refl, sym}
use Rattle.std.proofs.Common.{subst, map, ap, ap₂, arith}
use Rattle.std.specs.Prelude.{Option, Some, None, nat_lt, nat_le, is_some, slice_get}
use Rattle.std.specs.List.{list_all}
use Rattle.std.proofs.lemmas.Bool.{and_parts}
use Rattle.std.proofs.lemmas.List.{map-append}
use Rattle.pm_bits.specs.Word.{Word}
use Rattle.pm_design.specs.declared.body.Block.{Block}
use Rattle.pm_design.specs.declared.body.BlockSort.{BlockSort}
use Rattle.pm_design.specs.declared.body.BlockSort.TheVariants as block
use Rattle.pm_design.specs.declared.connection.Bind.{Bind}
use Rattle.pm_design.specs.declared.connection.Callee.{Callee}
use Rattle.pm_design.specs.declared.connection.Join.{Join}
use Rattle.pm_design.specs.declared.connection.Part.{Part}
use Rattle.pm_design.specs.declared.connection.Rule.{Rule}
use Rattle.pm_design.specs.declared.connection.Term.{Term}
use Rattle.pm_design.specs.declared.connection.Tie.{Tie}
use Rattle.pm_design.specs.declared.design.Child.{Child}
use Rattle.pm_design.specs.declared.design.Design.{Design}
use Rattle.pm_design.specs.declared.design.Kind.{Kind}
use Rattle.pm_design.specs.declared.design.State.{State}
use Rattle.pm_design.specs.declared.signal.Signal.{Signal}
use Rattle.pm_design.specs.Elaborated.{is_good_state, is_good_method, is_good_caller, is_width_or_none}
use Rattle.pm_design.specs.Lookups.{listed}
use Rattle.pm_design.specs.Widths.{is_width, total}
use Rattle.pm_values.specs.declared.reference.CallerTypes.{CallerTypes}
use Rattle.pm_values.specs.declared.reference.ValueType.{ValueType}
use Rattle.pm_values.specs.declared.value.Taken.TheVariants as taken
use Rattle.pm_values.specs.declared.value.Value.{Value}
use Rattle.pm_elab.specs.declared.body.Argument.{Argument}
use Rattle.pm_elab.specs.declared.body.BodyPlace.{BodyPlace}
use Rattle.pm_elab.specs.declared.body.BodyPlace.TheVariants as at
use Rattle.pm_elab.specs.declared.body.Code.{Code}
use Rattle.pm_elab.specs.declared.body.Code.TheVariants as code
use Rattle.pm_elab.specs.declared.body.MethodTypes.{MethodTypes}
use Rattle.pm_elab.specs.declared.body.RawBody.{RawBody}
use Rattle.pm_elab.specs.declared.class.ConstructedClass.{ConstructedClass}
use Rattle.pm_elab.specs.declared.class.ConstructedClass.TheVariants as class
use Rattle.pm_elab.specs.declared.elaboration.RawKind.{RawKind}
use Rattle.pm_elab.specs.declared.frame.Frame.{Frame}
use Rattle.pm_elab.specs.declared.frame.Local.{Local}
use Rattle.pm_elab.specs.declared.state.Start.{Start}
use Rattle.pm_elab.specs.Connections.{CallTypes, types_of_method, types_of_caller, type_list, with_join, with_tie}
use Rattle.pm_elab.specs.Connections.{with_bind, with_mismatch}
use Rattle.pm_elab.specs.Methods.{method_added}
use Rattle.pm_elab.specs.Placing.{local_put, attribute_set, with_signal, with_child, with_caller, width_if}
use Rattle.pm_elab.specs.Statements.{body_put, block_set, one_lambda_more, with_state}
use Rattle.pm_elab_laws.proofs.Changes.{with_rule}
use Rattle.pm_elab_laws.proofs.EqualValues.{both}
use Rattle.pm_elab_laws.proofs.Fits.{Extends, Keeps, keeps_same, keeps_more, some_more, all_more, all_last, type_fits}
use Rattle.pm_elab_laws.proofs.Fits.{type_fits_if, shape_fits, part_fits, join_fits, bind_fits, rule_fits, term_fits}
use Rattle.pm_elab_laws.proofs.Fits.{CallWidths, method_widths, caller_widths, tests, type_more, part_more, term_more}
use Rattle.pm_elab_laws.proofs.Fits.{join_more, bind_more, rule_more, good_more, type_good_more, taken_fits, taken_more}
use Rattle.pm_elab_laws.proofs.Fits.{type_if_more}
use Rattle.pm_elab_laws.proofs.FittingValues.{FitsClass}
use Rattle.pm_elab_laws.proofs.Keeping.{Each}
use Rattle.pm_elab_laws.proofs.MadeAttributes.{put_each}
use Rattle.pm_elab_laws.proofs.Places.{each_so}
use Rattle.pm_elab_laws.proofs.Tests.{Good, free, held, fresh, never}

-- the widths of the types that a call hands over and gets back
abbrev pub call_widths : CallTypes → CallWidths
call_widths t = record { arguments = map (λ (t : ValueType). t.width) t.arguments; answer = width_if t.result }

abbrev pub signal_fits : Design → Signal → Bool
signal_fits d s = type_fits d (record { width = s.width; shape = s.shape })

abbrev pub child_fits : Design → Child → Bool
child_fits d c = is_some (slice_get d.kinds c.kind)

abbrev pub instances_of : Option Kind → ℕ
instances_of None = 0
instances_of (Some k) = k.instances

abbrev pub instances_at : Design → Child → ℕ
instances_at d c = instances_of (slice_get d.kinds c.kind)

-- connections and constraints name what is there
pub record IsLinked (d : Design) (kind : Kind) (joins : List Join) (ties : List Tie) (binds : List Bind)
    (rules : List Rule) : Type 0 where
  pub joins_fit : list_all (join_fits d kind) joins ≡ true
  pub ties_fit : list_all (λ (t : Tie). part_fits d kind t.part) ties ≡ true
  pub binds_fit : list_all (bind_fits d kind) binds ≡ true
  pub rules_fit : list_all (rule_fits d kind) rules ≡ true

-- the types of a method are there
abbrev pub method_fits : Design → MethodTypes → Bool
method_fits d t = list_all (λ (a : Argument). type_fits d a.ty) t.arguments && type_fits_if d t.result

-- those of a caller port are
abbrev pub caller_fits : Design → CallerTypes → Bool
caller_fits d t = type_fits_if d t.argument && type_fits_if d t.result

-- a block that is there and runs in each cycle
abbrev pub is_update : Option Block → Bool
is_update None = false
is_update (Some b) = elim b.sort as (λ _. Bool) [ block.Update ↦ true | block.Once ↦ false | block.Edge ↦ false ]

-- the place of such a block
abbrev pub at_update : Kind → BodyPlace → Bool
at_update kind (at.Block n) = is_update (slice_get kind.blocks n)
at_update kind (at.Method n) = false
at_update kind (at.Guard n) = false

-- a lambda is an update block that assigns what is there
abbrev pub code_fits : Design → Kind → BodyPlace → Code → Bool
code_fits d kind p (code.Lambda r e) = at_update kind p && taken_fits d kind (taken.Signal r)
code_fits d kind p (code.Statements nodes) = true
code_fits d kind p (code.Guard e) = true

-- what the bodies of a kind rest on
pub record IsTyped (d : Design) (kind : Kind) (methods : List MethodTypes) (callers : List CallerTypes)
    (bodies : List RawBody) : Type 0 where
  pub methods_fit : list_all (method_fits d) methods ≡ true
  pub callers_fit : list_all (caller_fits d) callers ≡ true
  pub bodies_fit : list_all (λ (b : RawBody). code_fits d kind b.place b.code) bodies ≡ true

-- the lists of a kind fit, and the types that were noted have their widths
pub record IsKept (d : Design) (kind : Kind) (raw : RawKind) : Type 0 where
  pub signals : list_all (signal_fits d) kind.signals ≡ true
  pub states : list_all is_good_state kind.states ≡ true
  pub state_types : map (λ (s : State). s.width) kind.states ≡ map (λ (t : ValueType). t.width) raw.states
  pub states_fit : list_all (type_fits d) raw.states ≡ true
  pub children : list_all (child_fits d) kind.children ≡ true
  pub methods : list_all is_good_method kind.methods ≡ true
  pub callers : list_all is_good_caller kind.callers ≡ true
  pub method_types : map method_widths kind.methods ≡ map (λ (t : MethodTypes). call_widths (types_of_method t))
      raw.methods
  pub caller_types : map caller_widths kind.callers ≡ map (λ (t : CallerTypes). call_widths (types_of_caller t))
      raw.callers
  pub links : IsLinked d kind kind.joins kind.ties kind.binds kind.rules
  pub blocks : list_all (λ (b : Block). list_all is_width b.temps) kind.blocks ≡ true
  pub instances : kind.instances ≡ 1 + total (map (instances_at d) kind.children)
  pub typed : IsTyped d kind raw.methods raw.callers raw.bodies

pub linked_more : (d e : Design) (j k : Kind) (joins : List Join) (ties : List Tie) (binds : List Bind)
    (rules : List Rule) → Extends d e j k
    → IsLinked d j joins ties binds rules → IsLinked e k joins ties binds rules
linked_more d e j k joins ties binds rules grows is = record {
  joins_fit = all_more (join_fits d j) (join_fits e k) joins (join_more d e j k grows) is.joins_fit;
  ties_fit = all_more (λ (t : Tie). part_fits d j t.part) (λ (t : Tie). part_fits e k t.part) ties (λ t. part_more d
      e j k grows t.part) is.ties_fit;
  binds_fit = all_more (bind_fits d j) (bind_fits e k) binds (bind_more d e j k grows) is.binds_fit;
  rules_fit = all_more (rule_fits d j) (rule_fits e k) rules (rule_more d e j k grows) is.rules_fit;
}

module _ (d e : Design) (j k : Kind) (grows : Extends d e j k) where
  method_more : (t : MethodTypes) → method_fits d t ≡ true → method_fits e t ≡ true
  method_more t is =
      let parts = and_parts (list_all (λ (a : Argument). type_fits d a.ty) t.arguments) (type_fits_if d t.result) is in
      both (list_all (λ (a : Argument). type_fits e a.ty) t.arguments) (type_fits_if e t.result)
      (all_more (λ (a : Argument). type_fits d a.ty) (λ (a : Argument). type_fits e a.ty) t.arguments
      (λ a. type_more d e j k grows a.ty) parts.0) (type_if_more d e j k grows t.result parts.1)

  caller_more : (t : CallerTypes) → caller_fits d t ≡ true → caller_fits e t ≡ true
  caller_more t is =
      let parts = and_parts (type_fits_if d t.argument) (type_fits_if d t.result) is in
      both (type_fits_if e t.argument) (type_fits_if e t.result) (type_if_more d e j k grows t.argument parts.0)
      (type_if_more d e j k grows t.result parts.1)

  at_update_more : (p : BodyPlace) → at_update j p ≡ true → at_update k p ≡ true
  at_update_more (at.Block n) is = some_more is_update j.blocks k.blocks n refl grows.blocks is
  at_update_more (at.Method n) is = is
  at_update_more (at.Guard n) is = is

  code_more : (p : BodyPlace) (c : Code) → code_fits d j p c ≡ true → code_fits e k p c ≡ true
  code_more p (code.Lambda r x) is =
      let parts = and_parts (at_update j p) (taken_fits d j (taken.Signal r)) is in
      both (at_update k p) (taken_fits e k (taken.Signal r)) (at_update_more p parts.0)
      (taken_more d e j k grows (taken.Signal r) parts.1)
  code_more p (code.Statements nodes) is = refl
  code_more p (code.Guard x) is = refl

  pub typed_more : (methods : List MethodTypes) (callers : List CallerTypes) (bodies : List RawBody)
      → IsTyped d j methods callers bodies → IsTyped e k methods callers bodies
  typed_more methods callers bodies is = record {
    methods_fit = all_more (method_fits d) (method_fits e) methods method_more is.methods_fit;
    callers_fit = all_more (caller_fits d) (caller_fits e) callers caller_more is.callers_fit;
    bodies_fit = all_more (λ (b : RawBody). code_fits d j b.place b.code) (λ (b : RawBody). code_fits e k b.place b.code)
        bodies (λ b. code_more b.place b.code) is.bodies_fit;
  }

instances_more : (d e : Design) (cs : List Child) → Keeps d.kinds e.kinds → list_all (child_fits d) cs ≡ true
    → map (instances_at d) cs ≡ map (instances_at e) cs
instances_more d e [] keeps is = refl
instances_more d e (c ∷ cs) keeps is =
    let parts = and_parts (child_fits d c) (list_all (child_fits d) cs) is in
    ap₂ (λ (n : ℕ) (ns : List ℕ). n ∷ ns) (by (slice_get d.kinds c.kind) refl parts.0) (instances_more d e cs keeps
    parts.1)
  where
    by : (x : Option Kind) → slice_get d.kinds c.kind ≡ x → is_some x ≡ true → instances_of x ≡ instances_at e c
    by None at is = never is
    by (Some k) at is = ap instances_of (sym (keeps c.kind k at))

pub extends_made : (d e : Design) (kind : Kind) → Keeps d.kinds e.kinds → Keeps d.shapes e.shapes
    → Extends d e kind kind
extends_made d e kind kinds shapes = record {
  kinds = kinds;
  shapes = shapes;
  signals = keeps_same kind.signals;
  children = keeps_same kind.children;
  methods = keeps_same kind.methods;
  callers = keeps_same kind.callers;
  blocks = keeps_same kind.blocks;
  states = keeps_same kind.states;
}

pub kept_more : (d e : Design) (kind : Kind) (raw : RawKind) → Keeps d.kinds e.kinds → Keeps d.shapes e.shapes
    → IsKept d kind raw → IsKept e kind raw
kept_more d e kind raw kinds shapes is = record {
  signals = all_more (signal_fits d) (signal_fits e) kind.signals (λ s. type_more d e kind kind (extends_made d e
      kind kinds shapes) (record { width = s.width; shape = s.shape })) is.signals;
  states = is.states;
  state_types = is.state_types;
  states_fit = all_more (type_fits d) (type_fits e) raw.states (type_more d e kind kind (extends_made d e kind kinds
      shapes)) is.states_fit;
  children = all_more (child_fits d) (child_fits e) kind.children (λ c. some_more is_some d.kinds e.kinds c.kind
      refl kinds) is.children;
  methods = is.methods;
  callers = is.callers;
  method_types = is.method_types;
  caller_types = is.caller_types;
  links = linked_more d e kind kind kind.joins kind.ties kind.binds kind.rules (extends_made d e kind kinds shapes)
      is.links;
  blocks = is.blocks;
  instances = is.instances ∙ ap (λ (ns : List ℕ). 1 + total ns) (instances_more d e kind.children kinds is.children);
  typed = typed_more d e kind kind (extends_made d e kind kinds shapes) raw.methods raw.callers raw.bodies is.typed;
}

-- ---- frames

-- a frame of a class fits
pub record IsSound (c : ConstructedClass) (d : Design) (f : Frame) : Type 0 where
  pub sort : f.class ≡ c
  pub kept : IsKept d f.kind f.raw
  pub attributes : Each (λ (p : List ℕ × Value). FitsClass f.class d f.kind p.1) f.raw.attributes
  pub locals : Each (λ (p : List ℕ × Local). Good (tests d f.kind) free p.1.value) f.raw.locals

pub class_more : (s : ConstructedClass) (d e : Design) (j k : Kind) (v : Value) → Extends d e j k
    → FitsClass s d j v → FitsClass s e k v
class_more class.Component d e j k v grows is = good_more d e j k grows v held is
class_more class.Interface d e j k v grows is = type_good_more d e j k grows v fresh is

-- the same where more was made
pub sound_more : (c : ConstructedClass) (d e : Design) (f : Frame) → Keeps d.kinds e.kinds → Keeps d.shapes e.shapes
    → IsSound c d f → IsSound c e f
sound_more c d e f kinds shapes is =
    let grows = extends_made d e f.kind kinds shapes in
    record {
      sort = is.sort;
      kept = kept_more d e f.kind f.raw kinds shapes is.kept;
      attributes = each_so (λ (p : List ℕ × Value). FitsClass f.class d f.kind p.1) (λ (p : List ℕ × Value).
          FitsClass f.class e f.kind p.1) f.raw.attributes
          (λ p. class_more f.class d e f.kind f.kind p.1 grows) is.attributes;
      locals = each_so (λ (p : List ℕ × Local). Good (tests d f.kind) free p.1.value) (λ (p : List ℕ × Local). Good
          (tests e f.kind) free p.1.value) f.raw.locals
          (λ p. good_more d e f.kind f.kind grows p.1.value free) is.locals;
    }

-- ---- changes of a frame

module _ (c : ConstructedClass) (d : Design) where
  -- a frame with more in it, whose names stand for the same
  other : (f g : Frame) → Extends d d f.kind g.kind → f.class ≡ g.class → f.raw.attributes ≡ g.raw.attributes
      → f.raw.locals ≡ g.raw.locals
      → IsKept d g.kind g.raw → IsSound c d f → IsSound c d g
  other f g grows same attributes locals kept is = record {
    sort = sym same ∙ is.sort;
    kept = kept;
    attributes = subst (Each (λ (p : List ℕ × Value). FitsClass g.class d g.kind p.1)) attributes
        (each_so (λ (p : List ℕ × Value). FitsClass f.class d f.kind p.1) (λ (p : List ℕ × Value). FitsClass g.class
        d g.kind p.1) f.raw.attributes
        (λ p fits. subst (λ (s : ConstructedClass). FitsClass s d g.kind p.1) same (class_more f.class d d f.kind
        g.kind p.1 grows fits)) is.attributes);
    locals = subst (Each (λ (p : List ℕ × Local). Good (tests d g.kind) free p.1.value)) locals
        (each_so (λ (p : List ℕ × Local). Good (tests d f.kind) free p.1.value) (λ (p : List ℕ × Local). Good
        (tests d g.kind) free p.1.value) f.raw.locals
        (λ p. good_more d d f.kind g.kind grows p.1.value free) is.locals);
  }

  pub extends_same : (kind : Kind) → Extends d d kind kind
  extends_same kind = extends_made d d kind (keeps_same d.kinds) (keeps_same d.shapes)

  pub extends_lists : (j k : Kind) → j.signals ≡ k.signals → j.children ≡ k.children → j.methods ≡ k.methods
      → j.callers ≡ k.callers → j.blocks ≡ k.blocks → Keeps j.states k.states → Extends d d j k
  extends_lists j k signals children methods callers blocks states = record {
    kinds = keeps_same d.kinds;
    shapes = keeps_same d.shapes;
    signals = subst (Keeps j.signals) signals (keeps_same j.signals);
    children = subst (Keeps j.children) children (keeps_same j.children);
    methods = subst (Keeps j.methods) methods (keeps_same j.methods);
    callers = subst (Keeps j.callers) callers (keeps_same j.callers);
    blocks = subst (Keeps j.blocks) blocks (keeps_same j.blocks);
    states = states;
  }

  kept_raw : (kind : Kind) (raw other : RawKind) → raw.states ≡ other.states → raw.methods ≡ other.methods
      → raw.callers ≡ other.callers → raw.bodies ≡ other.bodies → IsKept d kind raw → IsKept d kind other
  kept_raw kind raw other states methods callers bodies is = record {
    signals = is.signals;
    states = is.states;
    state_types = is.state_types ∙ ap (map (λ (t : ValueType). t.width)) states;
    states_fit = subst (λ (ts : List ValueType). list_all (type_fits d) ts ≡ true) states is.states_fit;
    children = is.children;
    methods = is.methods;
    callers = is.callers;
    method_types = is.method_types ∙ ap (map (λ (t : MethodTypes). call_widths (types_of_method t))) methods;
    caller_types = is.caller_types ∙ ap (map (λ (t : CallerTypes). call_widths (types_of_caller t))) callers;
    links = is.links;
    blocks = is.blocks;
    instances = is.instances;
    typed = record {
      methods_fit = subst (λ (ts : List MethodTypes). list_all (method_fits d) ts ≡ true) methods is.typed.methods_fit;
      callers_fit = subst (λ (ts : List CallerTypes). list_all (caller_fits d) ts ≡ true) callers is.typed.callers_fit;
      bodies_fit = subst (λ (bs : List RawBody). list_all (λ (b : RawBody). code_fits d kind b.place b.code) bs ≡ true)
          bodies is.typed.bodies_fit;
    };
  }

  pub signal_grows : (f : Frame) (s : Signal) → Extends d d f.kind (with_signal f s).kind
  signal_grows f s = record {
    kinds = keeps_same d.kinds;
    shapes = keeps_same d.shapes;
    signals = keeps_more f.kind.signals (s ∷ []);
    children = keeps_same f.kind.children;
    methods = keeps_same f.kind.methods;
    callers = keeps_same f.kind.callers;
    blocks = keeps_same f.kind.blocks;
    states = keeps_same f.kind.states;
  }

  pub child_grows : (f : Frame) (x : Child) (n : ℕ) → Extends d d f.kind (with_child f x n).kind
  child_grows f x n = record {
    kinds = keeps_same d.kinds;
    shapes = keeps_same d.shapes;
    signals = keeps_same f.kind.signals;
    children = keeps_more f.kind.children (x ∷ []);
    methods = keeps_same f.kind.methods;
    callers = keeps_same f.kind.callers;
    blocks = keeps_same f.kind.blocks;
    states = keeps_same f.kind.states;
  }

  pub caller_grows : (f : Frame) (name : List ℕ) (t : CallerTypes) → Extends d d f.kind (with_caller f name t).kind
  caller_grows f name t = record {
    kinds = keeps_same d.kinds;
    shapes = keeps_same d.shapes;
    signals = keeps_same f.kind.signals;
    children = keeps_same f.kind.children;
    methods = keeps_same f.kind.methods;
    callers = keeps_more f.kind.callers _;
    blocks = keeps_same f.kind.blocks;
    states = keeps_same f.kind.states;
  }

  pub block_grows : (f : Frame) (name : List ℕ) (s : BlockSort) → Extends d d f.kind (block_set name s f).kind
  unfolding block_set
  block_grows f name s = record {
    kinds = keeps_same d.kinds;
    shapes = keeps_same d.shapes;
    signals = keeps_same f.kind.signals;
    children = keeps_same f.kind.children;
    methods = keeps_same f.kind.methods;
    callers = keeps_same f.kind.callers;
    blocks = keeps_more f.kind.blocks _;
    states = keeps_same f.kind.states;
  }

  pub method_grows : (f : Frame) (name : List ℕ) (t : MethodTypes) → Extends d d f.kind (method_added name t f).kind
  unfolding method_added
  method_grows f name t = record {
    kinds = keeps_same d.kinds;
    shapes = keeps_same d.shapes;
    signals = keeps_same f.kind.signals;
    children = keeps_same f.kind.children;
    methods = keeps_more f.kind.methods _;
    callers = keeps_same f.kind.callers;
    blocks = keeps_same f.kind.blocks;
    states = keeps_same f.kind.states;
  }

  links_on : (f g : Frame) → Extends d d f.kind g.kind → IsSound c d f
      → IsLinked d g.kind f.kind.joins f.kind.ties f.kind.binds f.kind.rules
  links_on f g grows is = linked_more d d f.kind g.kind f.kind.joins f.kind.ties f.kind.binds f.kind.rules grows
      is.kept.links

  typed_on : (f g : Frame) → Extends d d f.kind g.kind → IsSound c d f
      → IsTyped d g.kind f.raw.methods f.raw.callers f.raw.bodies
  typed_on f g grows is = typed_more d d f.kind g.kind grows f.raw.methods f.raw.callers f.raw.bodies is.kept.typed

  pub signal_put : (f : Frame) (s : Signal) → signal_fits d s ≡ true → IsSound c d f → IsSound c d (with_signal f s)
  signal_put f s fits is = other f (with_signal f s) (signal_grows f s) refl refl refl (record {
    signals = all_last (signal_fits d) f.kind.signals s is.kept.signals fits;
    states = is.kept.states;
    state_types = is.kept.state_types;
    states_fit = is.kept.states_fit;
    children = is.kept.children;
    methods = is.kept.methods;
    callers = is.kept.callers;
    method_types = is.kept.method_types;
    caller_types = is.kept.caller_types;
    links = links_on f (with_signal f s) (signal_grows f s) is;
    blocks = is.kept.blocks;
    instances = is.kept.instances;
    typed = typed_on f (with_signal f s) (signal_grows f s) is;
  }) is

  total_last : (xs : List Child) (x : Child) → total (map (instances_at d) (xs ++ x ∷ [])) ≡ total
      (map (instances_at d) xs) + instances_at d x
  total_last [] x = omega arith
  total_last (y ∷ xs) x = let rest = total_last xs x in omega (arith, rest)

  pub child_put : (f : Frame) (x : Child) (n : ℕ) → child_fits d x ≡ true → n ≡ instances_at d x → IsSound c d f
      → IsSound c d (with_child f x n)
  child_put f x n fits same is = other f (with_child f x n) (child_grows f x n) refl refl refl (record {
    signals = is.kept.signals;
    states = is.kept.states;
    state_types = is.kept.state_types;
    states_fit = is.kept.states_fit;
    children = all_last (child_fits d) f.kind.children x is.kept.children fits;
    methods = is.kept.methods;
    callers = is.kept.callers;
    method_types = is.kept.method_types;
    caller_types = is.kept.caller_types;
    links = links_on f (with_child f x n) (child_grows f x n) is;
    blocks = is.kept.blocks;
    instances = let rest = total_last f.kind.children x in let all = is.kept.instances in omega (
      arith,
      rest,
      all,
      same,
    );
    typed = typed_on f (with_child f x n) (child_grows f x n) is;
  }) is

  width_if_fits : (t : Option ValueType) → type_fits_if d t ≡ true → is_width_or_none (width_if t) ≡ true
  width_if_fits None fits = refl
  width_if_fits (Some t) fits = (and_parts (is_width t.width) (shape_fits d t.width t.shape) fits).0

  listed_widths : (t : Option ValueType) → listed (width_if t) ≡ map (λ (t : ValueType). t.width) (type_list t)
  listed_widths None = refl
  listed_widths (Some t) = refl

  pub caller_put : (f : Frame) (name : List ℕ) (t : CallerTypes) → type_fits_if d t.argument ≡ true
      → type_fits_if d t.result ≡ true → IsSound c d f → IsSound c d (with_caller f name t)
  caller_put f name t first second is = other f (with_caller f name t) (caller_grows f name t) refl refl refl (record {
    signals = is.kept.signals;
    states = is.kept.states;
    state_types = is.kept.state_types;
    states_fit = is.kept.states_fit;
    children = is.kept.children;
    methods = is.kept.methods;
    callers = all_last is_good_caller f.kind.callers _ is.kept.callers
        (both (is_width_or_none (width_if t.argument)) (is_width_or_none (width_if t.result)) (width_if_fits
        t.argument first) (width_if_fits t.result second));
    method_types = is.kept.method_types;
    caller_types = map-append caller_widths f.kind.callers _
        ∙ (ap₂ (λ (xs ys : List CallWidths). xs ++ ys) is.kept.caller_types (ap (λ (ws : List ℕ). record
        { arguments = ws; answer = width_if t.result } ∷ []) (listed_widths t.argument))
        ∙ sym (map-append (λ (t : CallerTypes). call_widths (types_of_caller t)) f.raw.callers (t ∷ [])));
    links = links_on f (with_caller f name t) (caller_grows f name t) is;
    blocks = is.kept.blocks;
    instances = is.kept.instances;
    typed = let same = typed_on f (with_caller f name t) (caller_grows f name t) is in record {
      methods_fit = same.methods_fit;
      callers_fit = all_last (caller_fits d) f.raw.callers t same.callers_fit
          (both (type_fits_if d t.argument) (type_fits_if d t.result) first second);
      bodies_fit = same.bodies_fit;
    };
  }) is

  -- a frame in which nothing but other things has changed
  pub aside : (f g : Frame) → f.class ≡ g.class → f.kind ≡ g.kind → f.raw.attributes ≡ g.raw.attributes
      → f.raw.locals ≡ g.raw.locals → f.raw.states ≡ g.raw.states → f.raw.methods ≡ g.raw.methods
      → f.raw.callers ≡ g.raw.callers → f.raw.bodies ≡ g.raw.bodies → IsSound c d f → IsSound c d g
  aside f g same kind attributes locals states methods callers bodies is =
      other f g (subst (λ (k : Kind). Extends d d f.kind k) kind (extends_same f.kind)) same attributes locals
      (subst (λ (k : Kind). IsKept d k g.raw) kind (kept_raw f.kind f.raw g.raw states methods callers bodies is.kept)) is

  pub body_on : (f : Frame) (p : BodyPlace) (line : ℕ) (x : Code) → code_fits d f.kind p x ≡ true → IsSound c d f
      → IsSound c d (body_put p line x f)
  unfolding body_put
  body_on f p line x fits is = other f (body_put p line x f) (extends_same f.kind) refl refl refl (record {
    signals = is.kept.signals;
    states = is.kept.states;
    state_types = is.kept.state_types;
    states_fit = is.kept.states_fit;
    children = is.kept.children;
    methods = is.kept.methods;
    callers = is.kept.callers;
    method_types = is.kept.method_types;
    caller_types = is.kept.caller_types;
    links = is.kept.links;
    blocks = is.kept.blocks;
    instances = is.kept.instances;
    typed = record {
      methods_fit = is.kept.typed.methods_fit;
      callers_fit = is.kept.typed.callers_fit;
      bodies_fit = all_last (λ (b : RawBody). code_fits d f.kind b.place b.code) f.raw.bodies _ is.kept.typed.bodies_fit fits;
    };
  }) is

  pub block_put_on : (f : Frame) (name : List ℕ) (s : BlockSort) → IsSound c d f → IsSound c d (block_set name s f)
  unfolding block_set
  block_put_on f name s is = other f (block_set name s f) (block_grows f name s) refl refl refl (record {
    signals = is.kept.signals;
    states = is.kept.states;
    state_types = is.kept.state_types;
    states_fit = is.kept.states_fit;
    children = is.kept.children;
    methods = is.kept.methods;
    callers = is.kept.callers;
    method_types = is.kept.method_types;
    caller_types = is.kept.caller_types;
    links = links_on f (block_set name s f) (block_grows f name s) is;
    blocks = all_last (λ (b : Block). list_all is_width b.temps) f.kind.blocks _ is.kept.blocks refl;
    instances = is.kept.instances;
    typed = typed_on f (block_set name s f) (block_grows f name s) is;
  }) is

  pub state_put_on : (f : Frame) (name : List ℕ) (t : ValueType) (s : Start) → type_fits d t ≡ true → s.maxlen ≤ 64
      → s.value.width ≡ t.width → IsSound c d f → IsSound c d (with_state f name t s)
  state_put_on f name t s fits few same is = other f (with_state f name t s) (extends_lists f.kind (with_state f
      name t s).kind refl refl refl refl refl (keeps_more f.kind.states _)) refl refl refl (record {
        signals = is.kept.signals;
        states = all_last is_good_state f.kind.states _ is.kept.states
            (both (is_width t.width) _ (and_parts (is_width t.width) (shape_fits d t.width t.shape) fits).0
            (both (nat_le s.maxlen 64) _ (grind (arith, few)) (by (nat_lt 0 s.maxlen))));
        state_types = map-append (λ (s : State). s.width) f.kind.states _
            ∙ (ap (λ (ws : List ℕ). ws ++ t.width ∷ []) is.kept.state_types
            ∙ sym (map-append (λ (t : ValueType). t.width) f.raw.states (t ∷ [])));
        states_fit = all_last (type_fits d) f.raw.states t is.kept.states_fit fits;
        children = is.kept.children;
        methods = is.kept.methods;
        callers = is.kept.callers;
        method_types = is.kept.method_types;
        caller_types = is.kept.caller_types;
        links = links_on f (with_state f name t s) (extends_lists f.kind (with_state f name t s).kind refl refl refl
            refl refl (keeps_more f.kind.states _)) is;
        blocks = is.kept.blocks;
        instances = is.kept.instances;
        typed = typed_on f (with_state f name t s) (extends_lists f.kind (with_state f name t s).kind refl refl refl
            refl refl (keeps_more f.kind.states _)) is;
      }) is
    where
      by : (b : Bool) → (b || s.value.width == t.width) ≡ true
      by true = refl
      by false = grind (arith, same)

  argument_widths : (xs : List Argument) → map (λ (a : Argument). a.ty.width) xs ≡ map (λ (t : ValueType). t.width)
      (map (λ (a : Argument). a.ty) xs)
  argument_widths [] = refl
  argument_widths (x ∷ xs) = ap (λ (ws : List ℕ). x.ty.width ∷ ws) (argument_widths xs)

  argument_fits : (xs : List Argument) → Each (λ (a : Argument). type_fits d a.ty ≡ true) xs
      → list_all is_width (map (λ (a : Argument). a.ty.width) xs) ≡ true
  argument_fits [] each = refl
  argument_fits (x ∷ xs) each = both (is_width x.ty.width) _ (and_parts (is_width x.ty.width) (shape_fits d
      x.ty.width x.ty.shape) each.0).0 (argument_fits xs each.1)

  arguments_fit : (xs : List Argument) → Each (λ (a : Argument). type_fits d a.ty ≡ true) xs
      → list_all (λ (a : Argument). type_fits d a.ty) xs ≡ true
  arguments_fit [] each = refl
  arguments_fit (x ∷ xs) each = both (type_fits d x.ty) _ each.0 (arguments_fit xs each.1)

  pub method_put_on : (f : Frame) (name : List ℕ) (t : MethodTypes)
      → Each (λ (a : Argument). type_fits d a.ty ≡ true) t.arguments → type_fits_if d t.result ≡ true
      → IsSound c d f → IsSound c d (method_added name t f)
  unfolding method_added
  method_put_on f name t first second is = other f (method_added name t f) (method_grows f name t) refl refl refl
      (record {
        signals = is.kept.signals;
        states = is.kept.states;
        state_types = is.kept.state_types;
        states_fit = is.kept.states_fit;
        children = is.kept.children;
        methods = all_last is_good_method f.kind.methods _ is.kept.methods
            (both (list_all is_width (map (λ (a : Argument). a.ty.width) t.arguments)) _ (argument_fits t.arguments
            first) (both (is_width_or_none (width_if t.result)) true (width_if_fits t.result second) refl));
        callers = is.kept.callers;
        method_types = map-append method_widths f.kind.methods _
            ∙ (ap₂ (λ (xs ys : List CallWidths). xs ++ ys) is.kept.method_types (ap (λ (ws : List ℕ). record
            { arguments = ws; answer = width_if t.result } ∷ []) (argument_widths t.arguments))
            ∙ sym (map-append (λ (t : MethodTypes). call_widths (types_of_method t)) f.raw.methods (t ∷ [])));
        caller_types = is.kept.caller_types;
        links = links_on f (method_added name t f) (method_grows f name t) is;
        blocks = is.kept.blocks;
        instances = is.kept.instances;
        typed = let same = typed_on f (method_added name t f) (method_grows f name t) is in record {
          methods_fit = all_last (method_fits d) f.raw.methods t same.methods_fit
              (both (list_all (λ (a : Argument). type_fits d a.ty) t.arguments) (type_fits_if d t.result)
              (arguments_fit t.arguments first) second);
          callers_fit = same.callers_fit;
          bodies_fit = same.bodies_fit;
        };
      }) is

  -- other connections and constraints
  relinked : (f g : Frame) → f.class ≡ g.class → f.raw ≡ g.raw → Extends d d f.kind g.kind
      → g.kind.signals ≡ f.kind.signals → g.kind.states ≡ f.kind.states → g.kind.children ≡ f.kind.children
      → g.kind.methods ≡ f.kind.methods → g.kind.callers ≡ f.kind.callers → g.kind.blocks ≡ f.kind.blocks
      → g.kind.instances ≡ f.kind.instances
      → IsLinked d g.kind g.kind.joins g.kind.ties g.kind.binds g.kind.rules → IsSound c d f → IsSound c d g
  relinked f g same raw grows signals states children methods callers blocks instances links is =
      other f g grows same (ap (λ (r : RawKind). r.attributes) raw) (ap (λ (r : RawKind). r.locals) raw) (record {
        signals = ap (list_all (signal_fits d)) signals ∙ is.kept.signals;
        states = ap (list_all is_good_state) states ∙ is.kept.states;
        state_types = ap (map (λ (s : State). s.width)) states ∙ (is.kept.state_types ∙ ap (λ (r : RawKind). map
            (λ (t : ValueType). t.width) r.states) raw);
        states_fit = subst (λ (r : RawKind). list_all (type_fits d) r.states ≡ true) raw is.kept.states_fit;
        children = ap (list_all (child_fits d)) children ∙ is.kept.children;
        methods = ap (list_all is_good_method) methods ∙ is.kept.methods;
        callers = ap (list_all is_good_caller) callers ∙ is.kept.callers;
        method_types = ap (map method_widths) methods ∙ (is.kept.method_types ∙ ap (λ (r : RawKind). map
            (λ (t : MethodTypes). call_widths (types_of_method t)) r.methods) raw);
        caller_types = ap (map caller_widths) callers ∙ (is.kept.caller_types ∙ ap (λ (r : RawKind). map
            (λ (t : CallerTypes). call_widths (types_of_caller t)) r.callers) raw);
        links = links;
        blocks = ap (list_all (λ (b : Block). list_all is_width b.temps)) blocks ∙ is.kept.blocks;
        instances = instances ∙ (is.kept.instances ∙ ap (λ (cs : List Child). 1 + total (map (instances_at d) cs))
            (sym children));
        typed = subst (λ (r : RawKind). IsTyped d g.kind r.methods r.callers r.bodies) raw (typed_on f g grows is);
      }) is

  pub rule_put_on : (f : Frame) (line : ℕ) (t u : Term) → term_fits d f.kind t ≡ true → term_fits d f.kind u ≡ true
      → IsSound c d f → IsSound c d (with_rule f line t u)
  rule_put_on f line t u first second is =
      let links = links_on f (with_rule f line t u) (extends_lists f.kind (with_rule f line t u).kind refl refl refl
      refl refl (keeps_same f.kind.states)) is in
      relinked f (with_rule f line t u) refl refl (extends_lists f.kind (with_rule f line t u).kind refl refl refl
      refl refl (keeps_same f.kind.states)) refl refl refl refl refl refl refl (record {
        joins_fit = links.joins_fit;
        ties_fit = links.ties_fit;
        binds_fit = links.binds_fit;
        rules_fit = all_last (rule_fits d (with_rule f line t u).kind) f.kind.rules _ links.rules_fit
            (both (term_fits d (with_rule f line t u).kind t) (term_fits d (with_rule f line t u).kind u)
            (term_more d d f.kind (with_rule f line t u).kind (extends_lists f.kind (with_rule f line t u).kind refl
            refl refl refl refl (keeps_same f.kind.states)) t first)
            (term_more d d f.kind (with_rule f line t u).kind (extends_lists f.kind (with_rule f line t u).kind refl
            refl refl refl refl (keeps_same f.kind.states)) u second));
      }) is

  pub join_put_on : (f : Frame) (line : ℕ) (a b : Part) (same : Bool) → part_fits d f.kind a ≡ true
      → part_fits d f.kind b ≡ true → (not same || a.width == b.width) ≡ true
      → IsSound c d f → IsSound c d (with_join f line a b same)
  join_put_on f line a b same first second third is =
      let links = links_on f (with_join f line a b same) (extends_lists f.kind (with_join f line a b same).kind refl
      refl refl refl refl (keeps_same f.kind.states)) is in
      relinked f (with_join f line a b same) refl refl (extends_lists f.kind (with_join f line a b same).kind refl
      refl refl refl refl (keeps_same f.kind.states)) refl refl refl refl refl refl refl (record {
        joins_fit = all_last (join_fits d (with_join f line a b same).kind) f.kind.joins _ links.joins_fit
            (join_more d d f.kind (with_join f line a b same).kind (extends_lists f.kind (with_join f line a b
            same).kind refl refl refl refl refl (keeps_same f.kind.states))
            (record { line = line; a = a; b = b; equal_types = same })
            (both (part_fits d f.kind a) _ first (both (part_fits d f.kind b) _ second third)));
        ties_fit = links.ties_fit;
        binds_fit = links.binds_fit;
        rules_fit = links.rules_fit;
      }) is

  pub tie_put_on : (f : Frame) (line : ℕ) (part : Part) (w : Option Word) → part_fits d f.kind part ≡ true
      → IsSound c d f → IsSound c d (with_tie f line part w)
  tie_put_on f line part w fits is =
      let links = links_on f (with_tie f line part w) (extends_lists f.kind (with_tie f line part w).kind refl refl
      refl refl refl (keeps_same f.kind.states)) is in
      relinked f (with_tie f line part w) refl refl (extends_lists f.kind (with_tie f line part w).kind refl refl
      refl refl refl (keeps_same f.kind.states)) refl refl refl refl refl refl refl (record {
        joins_fit = links.joins_fit;
        ties_fit = all_last (λ (t : Tie). part_fits d (with_tie f line part w).kind t.part) f.kind.ties _
            links.ties_fit (part_more d d f.kind (with_tie f line part w).kind (extends_lists f.kind
            (with_tie f line part w).kind refl refl refl refl refl (keeps_same f.kind.states)) part fits);
        binds_fit = links.binds_fit;
        rules_fit = links.rules_fit;
      }) is

  pub bind_put_on : (f : Frame) (line : ℕ) (a b : Callee) (same : Bool)
      → bind_fits d f.kind (record { line = line; a = a; b = b; equal_types = same }) ≡ true
      → IsSound c d f → IsSound c d (with_bind f line a b same)
  bind_put_on f line a b same fits is =
      let links = links_on f (with_bind f line a b same) (extends_lists f.kind (with_bind f line a b same).kind refl
      refl refl refl refl (keeps_same f.kind.states)) is in
      relinked f (with_bind f line a b same) refl refl (extends_lists f.kind (with_bind f line a b same).kind refl
      refl refl refl refl (keeps_same f.kind.states)) refl refl refl refl refl refl refl (record {
        joins_fit = links.joins_fit;
        ties_fit = links.ties_fit;
        binds_fit = all_last (bind_fits d (with_bind f line a b same).kind) f.kind.binds _ links.binds_fit
            (bind_more d d f.kind (with_bind f line a b same).kind (extends_lists f.kind (with_bind f line a b
            same).kind refl refl refl refl refl (keeps_same f.kind.states))
            (record { line = line; a = a; b = b; equal_types = same }) fits);
        rules_fit = links.rules_fit;
      }) is

  pub mismatch_on : (f : Frame) (line : ℕ) → IsSound c d f → IsSound c d (with_mismatch f line)
  mismatch_on f line is =
      let links = links_on f (with_mismatch f line) (extends_lists f.kind (with_mismatch f line).kind refl refl refl
      refl refl (keeps_same f.kind.states)) is in
      relinked f (with_mismatch f line) refl refl (extends_lists f.kind (with_mismatch f line).kind refl refl refl
      refl refl (keeps_same f.kind.states)) refl refl refl refl refl refl refl links is

  pub lambda_more_on : (f : Frame) → IsSound c d f → IsSound c d (one_lambda_more f)
  lambda_more_on f is = aside f _ refl refl refl refl refl refl refl refl is

  pub local_put_on : (f : Frame) (name : List ℕ) (v : Value) → Good (tests d f.kind) free v → IsSound c d f
      → IsSound c d (local_put name v f)
  unfolding local_put
  local_put_on f name v good is = record {
    sort = is.sort;
    kept = kept_raw f.kind f.raw _ refl refl refl refl is.kept;
    attributes = is.attributes;
    locals = put_each (λ (l : Local). Good (tests d f.kind) free l.value) f.raw.locals name _ is.locals good;
  }

  pub attribute_put_on : (f : Frame) (name : List ℕ) (v : Value) → FitsClass f.class d f.kind v → IsSound c d f
      → IsSound c d (attribute_set name v f)
  unfolding attribute_set
  attribute_put_on f name v good is = record {
    sort = is.sort;
    kept = kept_raw f.kind f.raw _ refl refl refl refl is.kept;
    attributes = put_each (FitsClass f.class d f.kind) f.raw.attributes name v is.attributes good;
    locals = is.locals;
  }
