-- Each design is sound but for its names and sizes: what is computed fits, and stays so.
use Rattle.pm_design.specs.Widths.{total}
use Rattle.pm_elab.specs.Attributes.{attribute, slice}
use Rattle.pm_elab.specs.Attributes.{element as element_at_index}
use Rattle.pm_elab.specs.Functions.{called}
use Rattle.pm_elab_laws.proofs.FittingValues.{held_to_free}
use Rattle.pm_elab_laws.proofs.Sized.{IsSized, HasSizes, WasSized, sizes_on, sizes_kept, local_sized, constrained_sized}
use Rattle.pm_elab_laws.proofs.Sized.{connected_sized, method_sized, block_sized, lambda_sized, state_sized}
use Rattle.pm_elab_laws.proofs.Sized.{assigned_sized, component_sized, interface_sized, IsKindSized, kind_sized}
use Rattle.pm_elab_laws.proofs.Weights.{weight, weight_items, weight_news, weight_new, weight_int, weight_own}
use Rattle.pm_elab_laws.proofs.Weights.{weight_term, weight_rule, weight_const, held_weight, plain_weight}
use Rattle.pm_elab_laws.proofs.Weights.{settled_weight, Brings, element_brings, slice_brings, called_brings}
use Rattle.pm_elab_laws.proofs.Weights.{attribute_weight}
use Rattle.pm_elab_laws.proofs.Keeping.{IsAimed, Origin}
use Rattle.std.proofs.Common.{nat_lt, ◌≡◌, ◌∙◌, ◌+◌, ◌-◌, ◌<◌, ◌≤◌, ◌==◌, ◌&&◌, ℕ, zero, suc, ℤ, Bool, true, false}
use Rattle.std.proofs.Common.{List, [], ◌∷◌, ◌++◌, refl, sym, subst, map, ap, length, arith, leb-true, ◌^◌, ltb-true}
use Rattle.std.specs.Prelude.{Option, Some, None, Ok, Err, nat_le, is_some, slice_get, bytes_eq, codes, pos}
use Rattle.std.specs.Prelude.{if◌then◌else◌}
use Rattle.std.specs.List.{list_all}
use Rattle.std.specs.Option.{option_map}
use Rattle.std.proofs.lemmas.Bool.{and_parts}
use Rattle.std.proofs.lemmas.List.{map-append}
use Rattle.pm_bits.specs.Word.{word_of_int}
use Rattle.pm_design.specs.declared.body.BlockSort.{BlockSort}
use Rattle.pm_design.specs.declared.body.BlockSort.TheVariants as block
use Rattle.pm_design.specs.declared.connection.Callee.TheVariants as callee
use Rattle.pm_design.specs.declared.connection.Term.{Term}
use Rattle.pm_design.specs.declared.design.Design.{Design}
use Rattle.pm_design.specs.declared.design.Kind.{Kind}
use Rattle.pm_design.specs.declared.signal.Field.{Field}
use Rattle.pm_design.specs.declared.signal.Shape.{Shape}
use Rattle.pm_design.specs.Lookups.{no_kind}
use Rattle.pm_design.specs.Widths.{is_width}
use Rattle.pm_syn.specs.declared.expression.Expr.{Expr}
use Rattle.pm_syn.specs.declared.statement.Node.{Node}
use Rattle.pm_syn.specs.declared.statement.Par.{Par}
use Rattle.pm_syn.specs.declared.statement.Stmt.{Stmt}
use Rattle.pm_values.specs.declared.fault.BuildFault.TheVariants.{WrongKind, SameName, BadArguments, WidthRange}
use Rattle.pm_values.specs.declared.reference.ValueType.{ValueType}
use Rattle.pm_values.specs.declared.value.Member.{Member}
use Rattle.pm_values.specs.declared.value.New.TheVariants as new
use Rattle.pm_values.specs.declared.reference.Reference.{Reference}
use Rattle.pm_values.specs.declared.value.Taken.TheVariants as taken
use Rattle.pm_values.specs.declared.value.Value.{Value, Value-F, out-Value, roll-Value, roll-out-Value}
use Rattle.pm_values.specs.declared.value.Value.TheVariants as value
use Rattle.pm_values.specs.Tables.{Names, get, put}
use Rattle.pm_elab.specs.declared.body.Argument.{Argument}
use Rattle.pm_elab.specs.declared.body.BodyPlace.TheVariants as at
use Rattle.pm_elab.specs.declared.body.Code.{Code}
use Rattle.pm_elab.specs.declared.body.Code.TheVariants as code
use Rattle.pm_elab.specs.declared.body.MethodTypes.{MethodTypes}
use Rattle.pm_elab.specs.declared.call.Given.{Given}
use Rattle.pm_elab.specs.declared.class.ConstructedClass.{ConstructedClass}
use Rattle.pm_elab.specs.declared.class.ConstructedClass.TheVariants as class
use Rattle.pm_elab.specs.declared.elaboration.Elaboration.{Elaboration}
use Rattle.pm_elab.specs.declared.elaboration.MadeKind.{MadeKind}
use Rattle.pm_elab.specs.declared.frame.Frame.{Frame}
use Rattle.pm_elab.specs.declared.frame.Local.{Local}
use Rattle.pm_elab.specs.declared.parameter.ParamValue.{ParamValue}
use Rattle.pm_elab.specs.declared.parameter.ParamValue.TheVariants as given
use Rattle.pm_elab.specs.declared.state.Start.{Start}
use Rattle.pm_elab.specs.declared.target.Target.{Target}
use Rattle.pm_elab.specs.declared.target.Target.TheVariants as target
use Rattle.pm_elab.specs.Connections.{in_class}
use Rattle.pm_elab.specs.declared.elaboration.TheConstants.{MAX_NESTING, MAX_STEPS}
use Rattle.pm_elab.specs.declared.parameter.Param.{Param}
use Rattle.pm_elab.specs.Constructs.{component_start, interface_start, locals_from, members_of, kind_made, make_at}
use Rattle.pm_elab.specs.Elab.{Checked}
use Rattle.pm_elab.specs.Files.{Globals, elaborated, nothing_made, value_of, width_of_fields, raised, field_added}
use Rattle.pm_elab.specs.Files.{has_field, field_put}
use Rattle.pm_elab.specs.Functions.{are_unnamed}
use Rattle.pm_elab.specs.Methods.{GuardLine, guard_put, method_added, named_method, method_set, is_used, method_put}
use Rattle.pm_elab.specs.Placing.{local_put, attribute_set, place, fresh_attribute, component_attribute}
use Rattle.pm_elab.specs.Placing.{interface_member, attribute_put_in, attribute_put, local_assigned, assigned}
use Rattle.pm_elab.specs.Statements.{has_block, body_put, block_set, block_put, block_def, body_nodes, lambda_name}
use Rattle.pm_elab.specs.Statements.{lambda_put, lambda_at, lambda_block, start_with, start_at, start_of, with_state}
use Rattle.pm_elab.specs.Statements.{state_set, state_named, state_to, state_put, rule_at, rule_put, rules_put}
use Rattle.pm_elab.specs.Statements.{constrained}
use Rattle.pm_elab.specs.Values.{fits_width, constant_of, is_settled, is_attribute, attribute_sort, is_member}
use Rattle.pm_elab_laws.proofs.Changes.{if_so, unless_so}
use Rattle.pm_elab_laws.proofs.ChildKinds.{kinds_found}
use Rattle.pm_elab_laws.proofs.EqualValues.{both}
use Rattle.pm_elab_laws.proofs.Fits.{Extends, Keeps, method_widths, keeps_same, keeps_more, all_more, all_last}
use Rattle.pm_elab_laws.proofs.Fits.{has_width, shape_fits, type_fits, type_fits_if, term_fits, tests, type_tests}
use Rattle.pm_elab_laws.proofs.Fits.{shape_more, type_more, good_more, type_good_more, type_good_here, taken_fits}
use Rattle.pm_elab_laws.proofs.Fits.{taken_more}
use Rattle.pm_elab_laws.proofs.FittingValues.{design_made, kind_in, field_fits, shape_is_good, FitsClass, fits_int}
use Rattle.pm_elab_laws.proofs.FittingValues.{element_fits, part_of_fits, called_fits, type_in_fits, attribute_fits}
use Rattle.pm_elab_laws.proofs.FittingValues.{block_fits, named_type_fits, signals_new}
use Rattle.pm_elab_laws.proofs.Framing.{chain}
use Rattle.pm_elab_laws.proofs.Joined.{IsKindSound, connected_sound, place_sound, last_there}
use Rattle.pm_elab_laws.proofs.Joining.{in_either}
use Rattle.pm_elab_laws.proofs.Named.{IsNamed, IsKindNamed, kind_named, block_named_on, lambda_named_on}
use Rattle.pm_elab_laws.proofs.Named.{state_named_on as state_names_on, constrained_named_on, connected_named_on}
use Rattle.pm_elab_laws.proofs.Named.{method_named_on, local_named_on, assigned_named_on, name_free, component_named}
use Rattle.pm_elab_laws.proofs.Named.{interface_named}
use Rattle.pm_elab_laws.proofs.PlacedNames.{placed_names}
use Rattle.pm_syn.specs.Names.{is_proper_name}
use Rattle.pm_design.specs.Names.{IsMemberName}
use Rattle.pm_elab.specs.Connections.{connected}
use Rattle.pm_elab_laws.proofs.Keeping.{On, Each, Where, stepped, Keeping, Runs}
use Rattle.pm_elab_laws.specs.Names.{names_of}
use Rattle.pm_elab_laws.proofs.Constructs.{IsKind}
use Rattle.pm_elab_laws.proofs.Files.{AreGlobals, build_runs, globals_run}
use Rattle.pm_elab_laws.proofs.Kept.{IsSound, extends_made, kept_more, sound_more, body_on, block_put_on, state_put_on}
use Rattle.pm_elab_laws.proofs.Kept.{method_put_on, rule_put_on, lambda_more_on, local_put_on, attribute_put_on}
use Rattle.pm_elab_laws.proofs.Kept.{block_grows, code_fits, is_update}
use Rattle.pm_elab_laws.proofs.MadeAttributes.{get_each, put_each}
use Rattle.pm_elab_laws.proofs.Moves.{lower, plain_free, held_element, fresh_element, plain_good, fresh_good}
use Rattle.pm_elab_laws.proofs.Moves.{element_good}
use Rattle.pm_elab_laws.proofs.Places.{each_so, each_more, where_so}
use Rattle.pm_elab_laws.proofs.Tests.{Good, GoodLayer, GoodMember, good_names, free, element, fresh, held, plain}
use Rattle.pm_elab_laws.proofs.Tests.{opened_value, opened_layer, closed}

abbrev Nothing : Type 0
Nothing = Unit {0}

-- ---- statements

module _ (c : ConstructedClass) (d : Design) where
  abbrev Sound : Frame → Type 0
  Sound = IsSound c d

  -- a value that an attribute takes
  attribute_good : (f : Frame) (v : Value) → is_attribute v ≡ true → Good (tests d f.kind) free v
      → Good (tests d f.kind) element v
  unfolding is_attribute
  attribute_good f v sort is = by (out-Value v) (roll-out-Value v) sort
    where
      by : (x : Value-F Value Member) → roll-Value x ≡ v → attribute_sort v x ≡ true → Good (tests d f.kind) element v
      by (Value-F.New n) at sort = closed (tests d f.kind) (Value-F.New n) v element at (opened_layer
          (tests d f.kind) (Value-F.New n) free (subst (Good (tests d f.kind) free) (sym at) is))
      by (Value-F.Int i) at sort = element_good (tests d f.kind) v sort is
      by (Value-F.Type t) at sort = element_good (tests d f.kind) v sort is
      by (Value-F.Const w) at sort = element_good (tests d f.kind) v sort is
      by (Value-F.Class n) at sort = element_good (tests d f.kind) v sort is
      by Value-F.Own at sort = element_good (tests d f.kind) v sort is
      by (Value-F.Taken t) at sort = element_good (tests d f.kind) v sort is
      by (Value-F.Term t) at sort = element_good (tests d f.kind) v sort is
      by (Value-F.Rule t u) at sort = element_good (tests d f.kind) v sort is
      by (Value-F.NewInterface ms) at sort = element_good (tests d f.kind) v sort is
      by (Value-F.Interface ms) at sort = element_good (tests d f.kind) v sort is
      by (Value-F.Items vs) at sort = element_good (tests d f.kind) v sort is

  -- a component's attribute
  held_put : (f : Frame) (name : List ℕ) (v : Value) → c ≡ class.Component → Good (tests d f.kind) held v → Sound f
      → Sound (attribute_set name v f)
  held_put f name v component good is =
      attribute_put_on c d f name v (subst (λ (s : ConstructedClass). FitsClass s d f.kind v)
      (sym (is.sort ∙ component)) good) is

  put_on : (name : List ℕ) (s : BlockSort) (line : ℕ) (x : Code) (f : Frame)
      → code_fits d (block_set name s f).kind (at.Block (length f.kind.blocks)) x ≡ true → Sound f
      → On (block_put name s line x f) Sound
  unfolding block_put
  put_on name s line x f fits is = unless_so Sound (has_block f name) (SameName line)
      (Ok (body_put (at.Block (length f.kind.blocks)) line x (block_set name s f)))
      (body_on c d (block_set name s f) _ line x fits (block_put_on c d f name s is))

  -- a block
  block_sound : (name : List ℕ) (s : BlockSort) (after : Option Stmt) (below : List Node) (line : ℕ) (f : Frame)
      → Sound f → On (block_def name s after below line f) Sound
  unfolding block_def
  block_sound name s after below line f is = in_either Sound f.class line _ (put_on name s line (code.Statements
      (body_nodes after below line)) f refl is)

  -- an update block that assigns what is there
  lambda_fits : (f : Frame) (name : List ℕ) (r : Reference) (e : Expr) → taken_fits d f.kind (taken.Signal r) ≡ true
      → code_fits d (block_set name block.Update f).kind (at.Block (length f.kind.blocks)) (code.Lambda r e) ≡ true
  unfolding block_set
  lambda_fits f name r e fits =
      both (is_update (slice_get (block_set name block.Update f).kind.blocks (length f.kind.blocks))) _
      (ap is_update (last_there f.kind.blocks _))
      (taken_more d d f.kind (block_set name block.Update f).kind (block_grows c d f name block.Update) (taken.Signal r) fits)

  lambda_at_on : (e : Expr) (line : ℕ) (f : Frame) (v : Value-F Value Member) → GoodLayer (tests d f.kind) free v
      → Sound f → On (lambda_at e line f v) Sound
  unfolding lambda_put
  lambda_at_on e line f (Value-F.Taken (taken.Signal r)) good is =
      chain Sound Sound (block_put (lambda_name f.lambdas) block.Update line (code.Lambda r e) f) _
      (put_on (lambda_name f.lambdas) block.Update line (code.Lambda r e) f (lambda_fits f (lambda_name f.lambdas) r e
      good) is) (λ g more. lambda_more_on c d g more)
  lambda_at_on e line f _ good is = tt

  -- a lambda
  lambda_sound : (v : Value) (e : Expr) (line : ℕ) (f : Frame) → Good (tests d f.kind) free v → Sound f
      → On (lambda_block v e line f) Sound
  unfolding lambda_block
  lambda_sound v e line f good is = in_either Sound f.class line _ (lambda_at_on e line f (out-Value v)
      (opened_value (tests d f.kind) v free good) is)

  -- ---- state

  abbrev FitsStart : ValueType → Start → Type 0
  FitsStart t s = (s.maxlen ≤ 64) × (s.value.width ≡ t.width)

  constant_fits : (line : ℕ) (t : ValueType) (n : ℕ) (i : ℤ) → n ≤ 64
      → On (start_with line n (constant_of t.width i)) (FitsStart t)
  unfolding constant_of
  constant_fits line t n i few = by (is_width t.width && fits_width t.width i)
    where
      by : (b : Bool) → On (start_with line n (if b then Some (word_of_int t.width i) else None)) (FitsStart t)
      by true = (few, refl)
      by false = tt

  start_by : (kind : Kind) (line : ℕ) (t : ValueType) (x : Value-F Value Member) → GoodLayer (tests d kind) free x
      → On (start_at line t.width x) (FitsStart t)
  start_by kind line t (Value-F.New (new.Deque n)) is = constant_fits line t n (pos 0) (leb-true _ _ is)
  start_by kind line t (Value-F.Int i) is = constant_fits line t 0 i (omega arith)
  start_by kind line t _ is = tt

  state_named_on : (name : List ℕ) (t : ValueType) (v : Value) (line : ℕ) (f : Frame) → c ≡ class.Component
      → type_fits d t ≡ true → Good (tests d f.kind) free v → Sound f
      → On (state_named name t v line f) Sound
  unfolding state_named state_set start_of
  state_named_on name t v line f component fits good is = unless_so Sound (bytes_eq name (codes "clk"))
      (WrongKind line) _
      (chain (FitsStart t) Sound (start_at line t.width (out-Value v)) _ (start_by f.kind line t (out-Value v)
      (opened_value (tests d f.kind) v free good)) (λ s start.
      unless_so Sound (is_some (get f.raw.attributes name)) (SameName line) (Ok (state_set name t s f))
      (held_put (with_state f name t s) name _ component (closed (tests d (with_state f name t s).kind)
      (Value-F.Taken (taken.State (length f.kind.states))) _ held (value.rolls-Taken _) (ap is_some (last_there
      f.kind.states _)))
      (state_put_on c d f name t s fits start.0 start.1 is))))

  state_to_on : (to : Target) (t : ValueType) (v : Value) (line : ℕ) (f : Frame) → c ≡ class.Component
      → type_fits d t ≡ true → Good (tests d f.kind) free v → Sound f → On (state_to to t v line f) Sound
  state_to_on (target.Attribute name) t v line f component fits good is = state_named_on name t v line f component
      fits good is
  state_to_on (target.Local name) t v line f component fits good is = tt
  state_to_on target.Other t v line f component fits good is = tt

  -- an answer that only a component has
  component_only : (f : Frame) (line : ℕ) (r : Checked Frame) → Sound f → (c ≡ class.Component → On r Sound)
      → On (in_class f.class line r) Sound
  component_only f line r is so = by f.class is.sort
    where
      by : (s : ConstructedClass) → s ≡ c → On (in_class s line r) Sound
      by class.Component same = so (sym same)
      by class.Interface same = tt

  -- a state
  state_sound : (to : Target) (t : ValueType) (v : Value) (line : ℕ) (f : Frame) → type_fits d t ≡ true
      → Good (tests d f.kind) free v → Sound f → On (state_put to t v line f) Sound
  unfolding state_put
  state_sound to t v line f fits good is = component_only f line _ is (λ component. state_to_on to t v line f
      component fits good is)

  -- ---- constraints

  abbrev Stays : Frame → Frame → Type 0
  Stays f g = Sound g × Extends d d f.kind g.kind

  rule_stays : (line : ℕ) (f : Frame) (x : Value-F Value Member) → GoodLayer (tests d f.kind) free x → Sound f
      → On (rule_at line f x) (Stays f)
  rule_stays line f (Value-F.Rule t u) good is =
      let parts = and_parts (term_fits d f.kind t) (term_fits d f.kind u) good in (
        rule_put_on c d f line t u parts.0 parts.1 is,
        record {
          kinds = keeps_same d.kinds;
          shapes = keeps_same d.shapes;
          signals = keeps_same f.kind.signals;
          children = keeps_same f.kind.children;
          methods = keeps_same f.kind.methods;
          callers = keeps_same f.kind.callers;
          blocks = keeps_same f.kind.blocks;
          states = keeps_same f.kind.states;
        },
      )
  rule_stays line f _ good is = tt

  rules_on : (gs : List Given) (line : ℕ) (f : Frame) → Each (λ (g : Given). Good (tests d f.kind) free g.value) gs
      → Sound f → On (rules_put gs line f) Sound
  unfolding rules_put rule_put
  rules_on [] line f each is = is
  rules_on (g ∷ gs) line f each is =
      chain (Stays f) Sound (rule_at line f (out-Value g.value)) _ (rule_stays line f (out-Value g.value)
      (opened_value (tests d f.kind) g.value free each.0) is) (λ h more.
      rules_on gs line h (each_so (λ (g : Given). Good (tests d f.kind) free g.value) (λ (g : Given). Good
      (tests d h.kind) free g.value) gs (λ g. good_more d d f.kind h.kind more.1 g.value free) each.1) more.0)

  -- constraints
  constrained_sound : (gs : List Given) (line : ℕ) (f : Frame)
      → Each (λ (g : Given). Good (tests d f.kind) free g.value) gs → Sound f → On (constrained gs line f) Sound
  unfolding constrained
  constrained_sound gs line f each is = if_so Sound (are_unnamed gs) (BadArguments line) _ (in_either Sound f.class
      line _ (rules_on gs line f each is))

  -- ---- methods

  guard_on : (n : ℕ) (g : Option GuardLine) (f : Frame) → Sound f → Sound (guard_put n g f)
  unfolding guard_put
  guard_on n None f is = is
  guard_on n (Some g) f is = body_on c d f (at.Guard n) g.line (code.Guard g.condition) refl is

  -- a method
  method_sound : (name : List ℕ) (t : MethodTypes) (g : Option GuardLine) (line : ℕ) (nodes : List Node) (f : Frame)
      → c ≡ class.Component
      → Each (λ (a : Argument). type_fits d a.ty ≡ true) t.arguments → type_fits_if d t.result ≡ true → Sound f
      → On (method_put name t g line nodes f) Sound
  unfolding method_put method_set named_method method_added
  method_sound name t g line nodes f component first second is = unless_so Sound (is_used f name) (SameName line)
      (Ok (method_set name t g line nodes f))
      (body_on c d _ (at.Method (length f.kind.methods)) line (code.Statements nodes) refl
      (guard_on (length f.kind.methods) g _
      (held_put (method_added name t f) name _ component
      (closed (tests d (method_added name t f).kind) (Value-F.Taken (taken.Method
      (callee.Own (length f.kind.methods)))) _ held (value.rolls-Taken _)
      (ap (λ o. is_some (option_map method_widths o)) (last_there f.kind.methods _)))
      (method_put_on c d f name t first second is))))

-- ---- assignments

module _ (c : ConstructedClass) (m : Elaboration) where
  component_on : (name : List ℕ) (v : Value) (line : ℕ) (f : Frame) → c ≡ class.Component
      → Good (tests (design_made m) f.kind) free v → IsSound c (design_made m) f
      → On (attribute_put_in class.Component m.kinds name v line f) (IsSound c (design_made m))
  unfolding component_attribute
  component_on name v line f component good is = unless_so (IsSound c (design_made m)) (bytes_eq name (codes "clk"))
      (WrongKind line) _ (by (is_attribute v) refl)
    where
      by : (b : Bool) → is_attribute v ≡ b → On (if b then fresh_attribute m.kinds name v line f else Err
          (WrongKind line)) (IsSound c (design_made m))
      by false sort = tt
      by true sort = unless_so (IsSound c (design_made m)) (is_some (get f.raw.attributes name)) (SameName line) _
          (chain (λ (r : Frame × Value). IsSound c (design_made m) r.0 × Good (tests (design_made m) r.0.kind) held
          r.1) (IsSound c (design_made m)) (place v m.kinds name line f) _
          (place_sound c (design_made m) m refl line v name f is (attribute_good c (design_made m) f v sort good))
          (λ r more. held_put c (design_made m) r.0 name r.1 component more.1 more.0))

  interface_on : (name : List ℕ) (v : Value) (line : ℕ) (f : Frame) → f.class ≡ class.Interface
      → Good (tests (design_made m) f.kind) free v → IsSound c (design_made m) f
      → On (attribute_put_in class.Interface m.kinds name v line f) (IsSound c (design_made m))
  unfolding interface_member
  interface_on name v line f interface good is = by (is_member v) refl
    where
      by : (b : Bool) → is_member v ≡ b
          → On (if b then (if is_some (get f.raw.attributes name) then Err (SameName line) else Ok (attribute_set
          name v f)) else Err (WrongKind line)) (IsSound c (design_made m))
      by false sort = tt
      by true sort = unless_so (IsSound c (design_made m)) (is_some (get f.raw.attributes name)) (SameName line)
          (Ok (attribute_set name v f))
          (attribute_put_on c (design_made m) f name v (subst (λ (s : ConstructedClass). FitsClass s (design_made m)
          f.kind v) (sym interface) (member_good sort)) is)
        where
          member_good : is_member v ≡ true → Good (type_tests (design_made m)) fresh v
          member_good sort = fresh_good (tests (design_made m) f.kind) (type_tests (design_made m)) (λ t fits. fits)
              (λ role t fits. fits) v sort good

  -- an assignment
  pub assigned_sound : (to : Target) (v : Value) (line : ℕ) (f : Frame) → Good (tests (design_made m) f.kind) free v
      → IsSound c (design_made m) f → On (assigned to m.kinds v line f) (IsSound c (design_made m))
  unfolding assigned attribute_put local_assigned
  assigned_sound (target.Local name) v line f good is = if_so (IsSound c (design_made m)) (is_settled v)
      (WrongKind line) (Ok (local_put name v f)) (local_put_on c (design_made m) f name v good is)
  assigned_sound target.Other v line f good is = tt
  assigned_sound (target.Attribute name) v line f good is = by f.class refl
    where
      by : (s : ConstructedClass) → f.class ≡ s
          → On (attribute_put_in s m.kinds name v line f) (IsSound c (design_made m))
      by class.Component same = component_on name v line f (sym is.sort ∙ same) good is
      by class.Interface same = interface_on name v line f same good is

-- ---- what was made

-- what the names of `construct` stood for at last fits
abbrev pub HasFitLocals : Design → MadeKind → Type 0
HasFitLocals d k = Each (λ (l : List ℕ × Local). Good (tests d k.kind) free l.1.value) k.raw.locals

pub record IsMade (m : Elaboration) : Type 0 where
  pub shapes : list_all (shape_is_good (design_made m)) m.shapes ≡ true
  pub kinds : Each (IsKindSound (design_made m)) m.kinds
  pub locals : Each (HasFitLocals (design_made m)) m.kinds
  pub names : Each (λ (k : MadeKind). IsKindNamed k.kind) m.kinds
  pub within : m.steps ≤ MAX_STEPS
  pub sizes : Each (λ (k : MadeKind). IsKindSized k.kind) m.kinds

pub record Onward (m n : Elaboration) : Type 0 where
  pub steps : m.steps ≤ n.steps
  pub kinds : Keeps (design_made m).kinds (design_made n).kinds
  pub shapes : Keeps m.shapes n.shapes
  pub fine : IsMade m → IsMade n

grown : (m n : Elaboration) (kind : Kind) → Onward m n → Extends (design_made m) (design_made n) kind kind
grown m n kind leads = extends_made (design_made m) (design_made n) kind leads.kinds leads.shapes

-- a value where more was made
value_more : (m n : Elaboration) (kind : Kind) (v : Value) → Onward m n → Good (tests (design_made m) kind) free v
    → Good (tests (design_made n) kind) free v
value_more m n kind v leads is = good_more (design_made m) (design_made n) kind kind (grown m n kind leads) v free is

plain_more : (m n : Elaboration) (v : Value) → Onward m n → Good (type_tests (design_made m)) plain v
    → Good (type_tests (design_made n)) plain v
plain_more m n v leads is = type_good_more (design_made m) (design_made n) no_kind no_kind (grown m n _ leads) v
    plain is

frame_more : (c : ConstructedClass) (m n : Elaboration) (f : Frame) → Onward m n → IsSound c (design_made m) f
    → IsSound c (design_made n) f
frame_more c m n f leads is = sound_more c (design_made m) (design_made n) f leads.kinds leads.shapes is

-- a value of the file is a value anywhere
global_here : (d : Design) (kind : Kind) (v : Value) → Good (type_tests d) plain v → Good (tests d kind) free v
global_here d kind v is =
    lower (tests d kind) (signals_new d kind) v plain free plain_free (type_good_here d d kind kind (extends_made d
    d kind (keeps_same d.kinds) (keeps_same d.shapes)) v plain is)

field_more : (d e : Design) (w : ℕ) (f : Field) → Keeps d.kinds e.kinds → Keeps d.shapes e.shapes
    → field_fits d w f ≡ true → field_fits e w f ≡ true
field_more d e w f kinds shapes is =
    let first = and_parts (is_width f.width) (shape_fits d f.width f.shape && nat_le (f.lo + f.width) w) is in
    let second = and_parts (shape_fits d f.width f.shape) (nat_le (f.lo + f.width) w) first.1 in
    both (is_width f.width) _ first.0 (both (shape_fits e f.width f.shape) (nat_le (f.lo + f.width) w)
    (shape_more d e no_kind no_kind (extends_made d e _ kinds shapes) f.width f.shape second.0) second.1)

pub good_shape_more : (d e : Design) (s : Shape) → Keeps d.kinds e.kinds → Keeps d.shapes e.shapes
    → shape_is_good d s ≡ true → shape_is_good e s ≡ true
good_shape_more d e s kinds shapes is =
    let parts = and_parts (is_width s.width) (list_all (field_fits d s.width) s.fields) is in
    both (is_width s.width) _ parts.0 (all_more (field_fits d s.width) (field_fits e s.width) s.fields
    (λ f. field_more d e s.width f kinds shapes) parts.1)

pub kind_more : (d e : Design) (k : MadeKind) → Keeps d.kinds e.kinds → Keeps d.shapes e.shapes → IsKindSound d k
    → IsKindSound e k
kind_more d e k kinds shapes is = (
  kept_more d e k.kind k.raw kinds shapes is.0,
  each_so (λ (p : List ℕ × Value). Good (tests d k.kind) held p.1) (λ (p : List ℕ × Value). Good (tests e k.kind)
      held p.1) k.raw.attributes
      (λ p. good_more d e k.kind k.kind (extends_made d e k.kind kinds shapes) p.1 held) is.1,
)

pub locals_more : (d e : Design) (k : MadeKind) → Keeps d.kinds e.kinds → Keeps d.shapes e.shapes → HasFitLocals d k
    → HasFitLocals e k
locals_more d e k kinds shapes is = each_so (λ (l : List ℕ × Local). Good (tests d k.kind) free l.1.value)
    (λ (l : List ℕ × Local). Good (tests e k.kind) free l.1.value) k.raw.locals
    (λ l. good_more d e k.kind k.kind (extends_made d e k.kind kinds shapes) l.1.value free) is

-- ---- a further kind

kinds_keep : (ks : List MadeKind) (k : MadeKind)
    → Keeps (map (λ (made : MadeKind). made.kind) ks) (map (λ (made : MadeKind). made.kind) (ks ++ k ∷ []))
kinds_keep ks k = subst (Keeps (map (λ (made : MadeKind). made.kind) ks)) (sym (map-append (λ (made : MadeKind).
    made.kind) ks (k ∷ []))) (keeps_more (map (λ (made : MadeKind). made.kind) ks) (k.kind ∷ []))

kind_kept : (m : Elaboration) (vs : List Value) (f : Frame) (start : ℕ) → IsSound class.Component (design_made m) f
    → IsNamed f → HasSizes start m.steps f
    → Onward m (record m { kinds = m.kinds ++ record { arguments = vs; kind = f.kind; raw = f.raw } ∷ [] })
kind_kept m vs f start is named sized =
    let k : MadeKind = record { arguments = vs; kind = f.kind; raw = f.raw } in
    let n : Elaboration = record m { kinds = m.kinds ++ k ∷ [] } in
    let kinds = kinds_keep m.kinds k in
    let own : IsKindSound (design_made m) k = (
      is.kept,
      subst (λ (s : ConstructedClass). Each
          (λ (p : List ℕ × Value). FitsClass s (design_made m) f.kind p.1) f.raw.attributes) is.sort is.attributes,
    ) in
    record {
      steps = omega arith;
      kinds = kinds;
      shapes = keeps_same m.shapes;
      fine = λ fine. record {
        shapes = all_more (shape_is_good (design_made m)) (shape_is_good (design_made n)) m.shapes
            (λ s. good_shape_more (design_made m) (design_made n) s kinds (keeps_same m.shapes)) fine.shapes;
        kinds = each_more (IsKindSound (design_made n)) m.kinds (k ∷ [])
            (each_so (IsKindSound (design_made m)) (IsKindSound (design_made n)) m.kinds (λ x. kind_more
            (design_made m) (design_made n) x kinds (keeps_same m.shapes)) fine.kinds)
            (kind_more (design_made m) (design_made n) k kinds (keeps_same m.shapes) own, tt);
        locals = each_more (HasFitLocals (design_made n)) m.kinds (k ∷ [])
            (each_so (HasFitLocals (design_made m)) (HasFitLocals (design_made n)) m.kinds (λ x. locals_more
            (design_made m) (design_made n) x kinds (keeps_same m.shapes)) fine.locals)
            (locals_more (design_made m) (design_made n) k kinds (keeps_same m.shapes) is.locals, tt);
        names = each_more (λ (x : MadeKind). IsKindNamed x.kind) m.kinds (k ∷ []) fine.names (kind_named f named, tt);
        within = fine.within;
        sizes = each_more (λ (x : MadeKind). IsKindSized x.kind) m.kinds (k ∷ []) fine.sizes (
          kind_sized start
              m.steps f fine.within sized,
          tt,
        );
      };
    }

kind_last : (ks : List MadeKind) (k : MadeKind)
    → is_some (slice_get (map (λ (made : MadeKind). made.kind) (ks ++ k ∷ [])) (length ks)) ≡ true
kind_last [] k = refl
kind_last (x ∷ ks) k = kind_last ks k

kind_within : (ks : List MadeKind) (k : ℕ) → k < length ks
    → is_some (slice_get (map (λ (made : MadeKind). made.kind) ks) k) ≡ true
kind_within [] k less = absurd (omega (arith, less))
kind_within (x ∷ ks) zero less = refl
kind_within (x ∷ ks) (suc k) less = kind_within ks k (omega (arith, less))

kind_sound : (m : Elaboration) (kind : Kind) (vs : List Value) (f : Frame) (start : ℕ)
    → IsSound class.Component (design_made m) f → IsNamed f → HasSizes start m.steps f
    → let n : Elaboration = record m {
      kinds = m.kinds ++ record { arguments = vs; kind = f.kind; raw = f.raw } ∷ [];
    } in
    Onward m n × Good (tests (design_made n) kind) free (value.New (new.Child (length m.kinds)))
kind_sound m kind vs f start is named sized =
    let k : MadeKind = record { arguments = vs; kind = f.kind; raw = f.raw } in
    let n : Elaboration = record m { kinds = m.kinds ++ k ∷ [] } in (
      kind_kept m vs f start is named sized,
      closed (tests (design_made n) kind) (Value-F.New
          (new.Child (length m.kinds))) _ free (value.rolls-New _) (kind_last m.kinds k),
    )

-- ---- a further bitstruct

pub record AreFields (d : Design) (fs : List Field) : Type 0 where
  pub fit : list_all (field_fits d (width_of_fields fs)) fs ≡ true
  pub within : width_of_fields fs ≤ 128

raised_width : (fs : List Field) (name : List ℕ) (t : ValueType)
    → width_of_fields (map (raised t.width) fs ++ record { name = name; lo = 0; width = t.width; shape = t.shape } ∷
    []) ≡ width_of_fields fs + t.width
raised_width [] name t = omega arith
raised_width (f ∷ fs) name t = let rest = raised_width fs name t in omega (arith, rest)

raised_fit : (d : Design) (w n v : ℕ) (fs : List Field) → v ≡ w + n → list_all (field_fits d w) fs ≡ true
    → list_all (field_fits d v) (map (raised n) fs) ≡ true
raised_fit d w n v [] same is = refl
raised_fit d w n v (f ∷ fs) same is =
    let here = and_parts (field_fits d w f) (list_all (field_fits d w) fs) is in
    let first = and_parts (is_width f.width) (shape_fits d f.width f.shape && nat_le (f.lo + f.width) w) here.0 in
    let second = and_parts (shape_fits d f.width f.shape) (nat_le (f.lo + f.width) w) first.1 in
    let low : f.lo + f.width ≤ w = leb-true _ _ second.1 in
    let high : nat_le (f.lo + n + f.width) v ≡ true = grind (arith, low, same) in
    both (field_fits d v (raised n f)) _ (both (is_width f.width) _ first.0 (both (shape_fits d f.width f.shape) _
    second.0 high)) (raised_fit d w n v fs same here.1)

field_sound : (d : Design) (line : ℕ) (fs : List Field) (name : List ℕ) (t : ValueType) → AreFields d fs
    → type_fits d t ≡ true → On (field_put line fs name t) (AreFields d)
unfolding field_put field_added
field_sound d line fs name t is fits = by (nat_le (width_of_fields fs + t.width) 128) refl
  where
    new : Field
    new = record { name = name; lo = 0; width = t.width; shape = t.shape }

    by : (b : Bool) → nat_le (width_of_fields fs + t.width) 128 ≡ b
        → On (if b then (if has_field fs name then Err (SameName line) else Ok (map (raised t.width) fs ++ new ∷
        [])) else Err (WidthRange line)) (AreFields d)
    by false few = tt
    by true few =
        let all : width_of_fields fs + t.width ≤ 128 = leb-true _ _ few in
        let same = raised_width fs name t in
        let parts = and_parts (is_width t.width) (shape_fits d t.width t.shape) fits in
        let last : nat_le (0 + t.width) (width_of_fields (map (raised t.width) fs ++ new ∷ [])) ≡ true = grind
        (arith, same) in
        unless_so (AreFields d) (has_field fs name) (SameName line) (Ok (map (raised t.width) fs ++ new ∷ [])) (record {
          fit = all_last (field_fits d (width_of_fields (map (raised t.width) fs ++ new ∷ [])))
              (map (raised t.width) fs) new
              (raised_fit d (width_of_fields fs) t.width (width_of_fields (map (raised t.width) fs ++ new ∷ [])) fs
              same is.fit)
              (both (is_width t.width) _ parts.0 (both (shape_fits d t.width t.shape) _ parts.1 last));
          within = omega (arith, same, all);
        })

fields_more : (d e : Design) (fs : List Field) → Keeps d.kinds e.kinds → Keeps d.shapes e.shapes → AreFields d fs
    → AreFields e fs
fields_more d e fs kinds shapes is = record {
  fit = all_more (field_fits d (width_of_fields fs)) (field_fits e (width_of_fields fs)) fs (λ f. field_more d e
      (width_of_fields fs) f kinds shapes) is.fit;
  within = is.within;
}

shape_width : (d : Design) (f : Field) (fs : List Field) → AreFields d (f ∷ fs)
    → is_width (width_of_fields (f ∷ fs)) ≡ true
shape_width d f fs is =
    let here = and_parts (field_fits d (width_of_fields (f ∷ fs)) f) (list_all (field_fits d (width_of_fields
    (f ∷ fs))) fs) is.fit in
    let first = and_parts (is_width f.width) (shape_fits d f.width f.shape && nat_le (f.lo + f.width)
    (width_of_fields (f ∷ fs))) here.0 in
    let width = and_parts (nat_le 1 f.width) (nat_le f.width 128) first.0 in
    let some : 1 ≤ f.width = leb-true _ _ width.0 in
    let few : f.width + width_of_fields fs ≤ 128 = is.within in
    let low : nat_le 1 (f.width + width_of_fields fs) ≡ true = grind (arith, some) in
    let high : nat_le (f.width + width_of_fields fs) 128 ≡ true = grind (arith, few) in
    both (nat_le 1 (f.width + width_of_fields fs)) (nat_le (f.width + width_of_fields fs) 128) low high

shape_kept : (m : Elaboration) (name : List ℕ) (f : Field) (fs : List Field) → AreFields (design_made m) (f ∷ fs)
    → let n : Elaboration = record m {
      shapes = m.shapes ++ record {
        name = name;
        fields = f ∷ fs;
        width =
            width_of_fields (f ∷ fs);
      } ∷ [];
    } in
    Onward m n × Good (type_tests (design_made n)) plain (value.Type (record {
      width = width_of_fields (f ∷ fs);
      shape = Some (length m.shapes);
    }))
shape_kept m name f fs is =
    let s : Shape = record { name = name; fields = f ∷ fs; width = width_of_fields (f ∷ fs) } in
    let n : Elaboration = record m { shapes = m.shapes ++ s ∷ [] } in
    let shapes : Keeps m.shapes (m.shapes ++ s ∷ []) = keeps_more m.shapes (s ∷ []) in
    let kinds : Keeps (design_made m).kinds (design_made n).kinds = keeps_same (design_made m).kinds in
    let more = fields_more (design_made m) (design_made n) (f ∷ fs) kinds shapes is in
    let width = shape_width (design_made m) f fs is in
    let own : (width_of_fields (f ∷ fs) == width_of_fields (f ∷ fs)) ≡ true = grind arith in (
      record {
        steps = omega arith;
        kinds = kinds;
        shapes = shapes;
        fine = λ fine. record {
          shapes = all_last (shape_is_good (design_made n)) m.shapes s
              (all_more (shape_is_good (design_made m)) (shape_is_good (design_made n)) m.shapes
              (λ x. good_shape_more (design_made m) (design_made n) x kinds shapes) fine.shapes)
              (both (is_width (width_of_fields (f ∷ fs))) _ width more.fit);
          kinds = each_so (IsKindSound (design_made m)) (IsKindSound (design_made n)) m.kinds (λ x. kind_more
              (design_made m) (design_made n) x kinds shapes) fine.kinds;
          locals = each_so (HasFitLocals (design_made m)) (HasFitLocals (design_made n)) m.kinds (λ x. locals_more
              (design_made m) (design_made n) x kinds shapes) fine.locals;
          names = fine.names;
          within = fine.within;
          sizes = fine.sizes;
        };
      },
      closed (type_tests (design_made n)) (Value-F.Type _) _ plain (value.rolls-Type _)
          (both (is_width (width_of_fields (f ∷ fs))) _ width (ap (has_width (width_of_fields (f ∷ fs)))
          (last_there m.shapes s) ∙ own)),
    )

-- ---- frames at first

locals_sound : (d : Design) (kind : Kind) (ps : List Par) (vs : List Value) (names : Names Local)
    → Each (λ (p : List ℕ × Local). Good (tests d kind) free p.1.value) names
    → Each (Good (type_tests d) plain) vs → Each (λ (p : List ℕ × Local). Good (tests d kind) free p.1.value)
    (locals_from names ps vs)
locals_sound d kind [] vs names first second = first
locals_sound d kind (p ∷ ps) [] names first second = first
locals_sound d kind (p ∷ ps) (v ∷ vs) names first second =
    locals_sound d kind ps vs (put names p.name (record { value = v; reassigned = false }))
    (put_each (λ (l : Local). Good (tests d kind) free l.value) names p.name (record {
      value = v;
      reassigned = false;
    }) first (global_here d kind v second.0)) second.1

component_sound : (d : Design) (name : List ℕ) (ps : List Par) (vs : List Value)
    → Each (Good (type_tests d) plain) vs → IsSound class.Component d (component_start name ps vs)
unfolding component_start
component_sound d name ps vs each = record {
  sort = refl;
  kept = record {
    signals = refl;
    states = refl;
    state_types = refl;
    states_fit = refl;
    children = refl;
    methods = refl;
    callers = refl;
    method_types = refl;
    caller_types = refl;
    links = record { joins_fit = refl; ties_fit = refl; binds_fit = refl; rules_fit = refl };
    blocks = refl;
    instances = refl;
    typed = record { methods_fit = refl; callers_fit = refl; bodies_fit = refl };
  };
  attributes = (
    closed (tests d (component_start name ps vs).kind) (Value-F.Taken _) _ held (value.rolls-Taken _)
        refl,
    tt,
  );
  locals = locals_sound d (component_start name ps vs).kind ps vs [] tt each;
}

interface_sound : (d : Design) (name : List ℕ) (ps : List Par) (vs : List Value)
    → Each (Good (type_tests d) plain) vs → IsSound class.Interface d (interface_start name ps vs)
unfolding interface_start
interface_sound d name ps vs each = record {
  sort = refl;
  kept = record {
    signals = refl;
    states = refl;
    state_types = refl;
    states_fit = refl;
    children = refl;
    methods = refl;
    callers = refl;
    method_types = refl;
    caller_types = refl;
    links = record { joins_fit = refl; ties_fit = refl; binds_fit = refl; rules_fit = refl };
    blocks = refl;
    instances = refl;
    typed = record { methods_fit = refl; callers_fit = refl; bodies_fit = refl };
  };
  attributes = tt;
  locals = locals_sound d (interface_start name ps vs).kind ps vs [] tt each;
}

members_sound : (d : Design) (kind : Kind) (names : Names Value)
    → good_names (map (λ (p : List ℕ × Value). p.0) names) ≡ true
    → Each (λ (p : List ℕ × Value). Good (type_tests d) fresh p.1) names
    → Good (tests d kind) free (value.NewInterface (members_of names))
unfolding members_of
members_sound d kind names good each =
    closed (tests d kind) (Value-F.NewInterface (map (λ (p : List ℕ × Value). record { name = p.0; value = p.1 })
    names)) _ free (value.rolls-NewInterface _)
    (ap good_names (same names) ∙ good, all names each)
  where
    same : (names : Names Value) → map (λ (m : Member). m.name) (map (λ (p : List ℕ × Value). record {
      name = p.0;
      value = p.1;
    }) names) ≡ map (λ (p : List ℕ × Value). p.0) names
    same [] = refl
    same (p ∷ ps) = ap (λ (ns : List (List ℕ)). p.0 ∷ ns) (same ps)

    all : (names : Names Value) → Each (λ (p : List ℕ × Value). Good (type_tests d) fresh p.1) names
        → Each (GoodMember (tests d kind) fresh) (map (λ (p : List ℕ × Value). record { name = p.0; value = p.1 })
        names)
    all [] each = tt
    all (p ∷ ps) each = (
      type_good_here d d kind kind (extends_made d d kind (keeps_same d.kinds)
          (keeps_same d.shapes)) p.1 fresh each.0,
      all ps each.1,
    )

-- ---- the whole

-- a parameter that is a type has a width of 1 to 128
abbrev pub IsGoodParam : ParamValue → Type 0
IsGoodParam (given.Int n) = Unit {0}
IsGoodParam (given.Width n) = is_width n ≡ true

param_sound : (d : Design) (p : ParamValue) → IsGoodParam p → Good (type_tests d) plain (value_of p)
param_sound d (given.Int n) is = closed (type_tests d) (Value-F.Int n) _ plain (value.rolls-Int n) tt
param_sound d (given.Width n) is = closed (type_tests d) (Value-F.Type _) _ plain (value.rolls-Type _)
    (both (is_width n) true is refl)

kind_there : (m : Elaboration) (kind : Kind) (name : List ℕ) (vs : List Value)
    → Where (λ (k : ℕ). Good (tests (design_made m) kind) free (value.New (new.Child k))) (kind_made m.kinds name vs)
unfolding kind_made
kind_there m kind name vs =
    where_so (λ (k : ℕ). k < 0 + length m.kinds) (λ (k : ℕ). Good (tests (design_made m) kind) free
    (value.New (new.Child k))) _
    (λ k less. closed (tests (design_made m) kind) (Value-F.New (new.Child k)) _ free (value.rolls-New _)
    (kind_within m.kinds k (omega (arith, less)))) (kinds_found 0 m.kinds name vs)

result_fits : (d : Design) (t : Option ValueType) → Where (λ (t : ValueType). type_fits d t ≡ true) t
    → type_fits_if d t ≡ true
result_fits d None is = refl
result_fits d (Some t) is = is

-- the elements of a list, of which there are no more than steps
record AreItems (l m : Elaboration) (kind : Kind) (vs : List Value) : Type 0 where
  each : Each (Good (tests (design_made m) kind) free) vs
  few : length vs ≤ MAX_STEPS
  steps : length vs ≤ m.steps
  brought : l.steps + total (map weight vs) ≤ m.steps

one_longer : (vs : List Value) (v : Value) → length (vs ++ v ∷ []) ≡ length vs + 1
one_longer [] v = refl
one_longer (u ∷ vs) v = let rest = one_longer vs v in omega (arith, rest)

weights_last : (vs : List Value) (v : Value) → total (map weight (vs ++ v ∷ [])) ≡ total (map weight vs) + weight v
weights_last [] v = omega arith
weights_last (u ∷ vs) v = let rest = weights_last vs v in omega (arith, rest)

items_last : (l m n : Elaboration) (kind : Kind) (vs : List Value) (v : Value) → nat_lt m.steps MAX_STEPS ≡ true
    → Onward (stepped m) n → AreItems l m kind vs
    → Good (tests (design_made n) kind) free v → m.steps + 1 + weight v ≤ n.steps + 1 → AreItems l n kind (vs ++ v ∷ [])
items_last l m n kind vs v less leads items is few =
    let size = one_longer vs v in
    let below : m.steps < MAX_STEPS = ltb-true _ _ less in
    let more : m.steps + 1 ≤ n.steps = leads.steps in
    record {
      each = each_more (Good (tests (design_made n) kind) free) vs (v ∷ [])
          (each_so (Good (tests (design_made m) kind) free) (Good (tests (design_made n) kind) free) vs
          (λ v. value_more (stepped m) n kind v leads) items.each) (is, tt);
      few = omega (arith, size, below, items.steps);
      steps = omega (arith, size, more, items.steps);
      brought = let all = weights_last vs v in omega (arith, all, few, items.brought);
    }

items_few : (vs : List Value) → length vs ≤ MAX_STEPS → nat_lt (length vs) (2 ^ 64) ≡ true
items_few vs few = let less : length vs < 2 ^ 64 = omega (arith, few) in grind (arith, less)

-- two facts of one result
pair_on : {A : Type 0} (P Q : A → Type 0) (r : Checked A) → On r P → On r Q → On r (λ a. P a × Q a)
pair_on P Q (Ok a) first second = (first, second)
pair_on P Q (Err e) first second = tt

-- an assignment keeps names
assigned_names : (c : ConstructedClass) (m : Elaboration) (to : Target) (v : Value) (line : ℕ) (f : Frame)
    → IsAimed (λ name. is_proper_name name ≡ true) to
    → Good (tests (design_made m) f.kind) free v → IsNamed f → On (assigned to m.kinds v line f) IsNamed
assigned_names c m to v line f aimed good is = assigned_named_on m.kinds line to v f aimed is (λ name proper sort none.
    placed_names (tests (design_made m) f.kind) m.kinds line (λ v fresh_is. lower (tests (design_made m) f.kind)
    (signals_new (design_made m) f.kind) v fresh element fresh_element fresh_is)
    (λ v held_is. lower (tests (design_made m) f.kind) (signals_new (design_made m) f.kind) v held element
    held_element held_is) v name f (attribute_good c (design_made m) f v sort good)
    (IsMemberName.plain name proper) (name_free f name proper none is) is.members)

-- all that is known of a frame
record IsWhole (o : Origin) (m : Elaboration) (f : Frame) : Type 0 where
  sound : IsSound o.class (design_made m) f
  named : IsNamed f
  sizes : HasSizes o.made.steps m.steps f

-- the same where a step was taken for what comes
record IsStepped (o : Origin) (m : Elaboration) (f : Frame) : Type 0 where
  sound : IsSound o.class (design_made m) f
  named : IsNamed f
  sizes : WasSized o.made.steps m.steps f

wholly : (o : Origin) (m : Elaboration) (r : Checked Frame) → On r (IsSound o.class (design_made m)) → On r IsNamed
    → On r (HasSizes o.made.steps m.steps) → On r (IsWhole o m)
wholly o m (Ok f) first second third = record { sound = first; named = second; sizes = third }
wholly o m (Err e) first second third = tt

within_more : (m : Elaboration) → nat_lt m.steps MAX_STEPS ≡ true → m.steps + 1 ≤ MAX_STEPS
within_more m less = let below : m.steps < MAX_STEPS = ltb-true _ _ less in omega (arith, below)

nothing_brought : (start now : ℕ) (v : Value) → weight v ≡ 0 → start ≤ now + 1 → start + weight v ≤ now + 1
nothing_brought start now v none le = omega (arith, none, le)

all_brought : (start now : ℕ) (v : Value) (n : ℕ) → weight v ≡ n → start + n ≤ now → start + weight v ≤ now + 1
all_brought start now v n same le = omega (arith, same, le)

on_so : {A : Type 0} (P Q : A → Type 0) (r : Checked A) → ((a : A) → P a → Q a) → On r P → On r Q
on_so P Q (Ok a) so is = so a is
on_so P Q (Err e) so is = tt

on_both : {A : Type 0} (P Q R : A → Type 0) (r : Checked A) → ((a : A) → P a → Q a → R a) → On r P → On r Q → On r R
on_both P Q R (Ok a) so first second = so a first second
on_both P Q R (Err e) so first second = tt

where_both : {A : Type 0} (P Q R : A → Type 0) (x : Option A) → ((a : A) → P a → Q a → R a) → Where P x → Where Q x
    → Where R x
where_both P Q R (Some a) so first second = so a first second
where_both P Q R None so first second = tt

step_kept : (o : Origin) (m n : Elaboration) (f : Frame) (r : Checked Frame) → Onward m n → IsStepped o m f
    → ((a b c : ℕ) → IsSized a b c f → On r (IsSized a b c)) → On r (HasSizes o.made.steps n.steps)
step_kept o m n f r leads ready so =
    let is = ready.sizes.sizes in
    sizes_kept o.made.steps ready.sizes.before n.steps r is.signals is.states is.blocks is.signals_within
    is.states_within is.blocks_within (omega (arith, ready.sizes.earlier, leads.steps)) (so is.signals is.states
    is.blocks is.sized)

block_more : (o : Origin) (m n : Elaboration) (f : Frame) (r : Checked Frame) → Onward m n → IsStepped o m f
    → ((a b c : ℕ) → IsSized a b c f → On r (IsSized a b (c + 1))) → On r (HasSizes o.made.steps n.steps)
block_more o m n f r leads ready so =
    let is = ready.sizes.sizes in
    sizes_kept o.made.steps (ready.sizes.before + 1) n.steps r is.signals is.states (is.blocks + 1)
    (omega (arith, is.signals_within)) (omega (arith, is.states_within)) (omega (arith, is.blocks_within))
    (omega (arith, ready.sizes.earlier, leads.steps)) (so is.signals is.states is.blocks is.sized)

state_more : (o : Origin) (m n : Elaboration) (f : Frame) (r : Checked Frame) → Onward m n → IsStepped o m f
    → ((a b c : ℕ) → IsSized a b c f → On r (IsSized a (b + 1) c)) → On r (HasSizes o.made.steps n.steps)
state_more o m n f r leads ready so =
    let is = ready.sizes.sizes in
    sizes_kept o.made.steps (ready.sizes.before + 1) n.steps r is.signals (is.states + 1) is.blocks
    (omega (arith, is.signals_within)) (omega (arith, is.states_within)) (omega (arith, is.blocks_within))
    (omega (arith, ready.sizes.earlier, leads.steps)) (so is.signals is.states is.blocks is.sized)

placed_light : (c : ConstructedClass) (m : Elaboration) (v : Value) (line : ℕ) (name : List ℕ) (f : Frame)
    → is_attribute v ≡ true → Good (tests (design_made m) f.kind) free v → IsSound c (design_made m) f
    → On (place v m.kinds name line f) (λ r. weight r.1 ≡ 0)
placed_light c m v line name f sort good is =
    on_so (λ (r : Frame × Value). IsSound c (design_made m) r.0 × Good (tests (design_made m) r.0.kind) held r.1)
    (λ (r : Frame × Value). weight r.1 ≡ 0) (place v m.kinds name line f)
    (λ r placed. held_weight (tests (design_made m) r.0.kind) r.1 placed.1)
    (place_sound c (design_made m) m refl line v name f is (attribute_good c (design_made m) f v sort good))

assigned_within : (o : Origin) (m n : Elaboration) (to : Target) (v : Value) (line : ℕ) (f : Frame) → Onward m n
    → IsStepped o m f → Good (tests (design_made n) f.kind) free v
    → m.steps + weight v ≤ n.steps + 1 → On (assigned to n.kinds v line f) (HasSizes o.made.steps n.steps)
assigned_within o m n to v line f leads ready good few =
    let is = ready.sizes.sizes in
    let start : o.made.steps + (is.signals + weight v) ≤ n.steps + 1 = omega (
      arith,
      is.signals_within,
      ready.sizes.earlier,
      few,
    ) in
    let later : ready.sizes.before ≤ n.steps = omega (arith, ready.sizes.earlier, leads.steps) in
    sizes_kept o.made.steps n.steps n.steps _ (is.signals + weight v) is.states is.blocks start
    (omega (arith, is.states_within, later)) (omega (arith, is.blocks_within, later)) (omega arith)
    (assigned_sized is.signals is.states is.blocks n.kinds line v to f is.sized (λ sort. settled_weight
    (tests (design_made n) f.kind) v sort good)
    (λ name component sort. placed_light o.class n v line name f sort good (frame_more o.class m n f leads
    ready.sound)))

local_within : (start now : ℕ) (f : Frame) (name : List ℕ) (v : Value) → weight v ≡ 0 → HasSizes start now f
    → HasSizes start now (local_put name v f)
local_within start now f name v none is = record {
  signals = is.signals;
  states = is.states;
  blocks = is.blocks;
  sized = local_sized is.signals is.states is.blocks f name v none is.sized;
  signals_within = is.signals_within;
  states_within = is.states_within;
  blocks_within = is.blocks_within;
}

members_brought : (start now : ℕ) (f : Frame) → HasSizes start now f
    → start + weight (value.NewInterface (members_of f.raw.attributes)) ≤ now + 1
unfolding members_of
members_brought start now f is =
    let same = weight_news (map (λ (p : List ℕ × Value). record { name = p.0; value = p.1 }) f.raw.attributes) in
    let all = weights f.raw.attributes in
    omega (arith, same, all, is.sized.few_signals, is.signals_within)
  where
    weights : (names : Names Value)
        → total (map (λ (m : Member). weight m.value) (map (λ (p : List ℕ × Value). record {
          name = p.0;
          value = p.1;
        }) names)) ≡ attribute_weight names
    weights [] = refl
    weights (p ∷ ps) = let rest = weights ps in omega (arith, rest)

sounding : Keeping
sounding = record {
  Leads = Onward;
  IsFine = IsMade;
  IsName = λ name. is_proper_name name ≡ true;
  IsParam = IsGoodParam;
  IsType = λ m t. type_fits (design_made m) t ≡ true;
  IsValue = λ l m fr v. Good (tests (design_made m) (kind_in fr)) free v × (l.steps + weight v ≤ m.steps + 1);
  IsItems = λ l m fr vs. AreItems l m (kind_in fr) vs;
  IsGlobal = λ m v. Good (type_tests (design_made m)) plain v;
  IsFrame = λ o m f. IsWhole o m f;
  IsReady = λ o m f. IsStepped o m f;
  IsFields = λ m fs. AreFields (design_made m) fs;
  stays = λ m. record {
    steps = omega arith;
    kinds = keeps_same (design_made m).kinds;
    shapes = keeps_same m.shapes;
    fine = λ fine. fine;
  };
  on = λ l m n first second. record {
    steps = omega (arith, first.steps, second.steps);
    kinds = λ i a is. second.kinds i a (first.kinds i a is);
    shapes = λ i a is. second.shapes i a (first.shapes i a is);
    fine = λ fine. second.fine (first.fine fine);
  };
  fine_on = λ m n leads is. leads.fine is;
  type_on = λ m n t leads is. type_more (design_made m) (design_made n) no_kind no_kind (grown m n no_kind leads) t is;
  value_on = λ l m n fr v leads is. (value_more m n (kind_in fr) v leads is.0, omega (arith, leads.steps, is.1));
  value_from = λ l m n fr v leads is. (is.0, omega (arith, leads.steps, is.1));
  global_on = λ m n v leads is. plain_more m n v leads is;
  frame_on = λ o m n f leads is. record {
    sound = frame_more o.class m n f leads is.sound;
    named = is.named;
    sizes = sizes_on o.made.steps m.steps n.steps f leads.steps is.sizes;
  };
  fields_on = λ m n fs leads is. fields_more (design_made m) (design_made n) fs leads.kinds leads.shapes is;
  steps = λ m less. record {
    steps = omega arith;
    kinds = keeps_same (design_made m).kinds;
    shapes = keeps_same m.shapes;
    fine = λ fine. record {
      shapes = fine.shapes;
      kinds = fine.kinds;
      locals = fine.locals;
      names = fine.names;
      within = within_more m
          less;
      sizes = fine.sizes;
    };
  };
  ready = λ o m f less is. record {
    sound = is.sound;
    named = is.named;
    sizes = record {
      before = m.steps;
      earlier =
          omega arith;
      sizes = is.sizes;
    };
  };
  unready = λ o m f is. record {
    sound = is.sound;
    named = is.named;
    sizes = sizes_on o.made.steps is.sizes.before m.steps f (omega (arith, is.sizes.earlier)) is.sizes.sizes;
  };
  int_value = λ m fr n. (
    fits_int (design_made m) (kind_in fr) n,
    nothing_brought m.steps m.steps _ (weight_int n)
        (omega arith),
  );
  own_value = λ m fr. (
    closed (tests (design_made m) (kind_in fr)) Value-F.Own _ free value.rolls-Own tt,
    nothing_brought m.steps m.steps _ weight_own (omega arith),
  );
  const_value = λ m fr w constant. (
    closed (tests (design_made m) (kind_in fr)) (Value-F.Const w) _ free (value.rolls-Const
        w) constant,
    nothing_brought m.steps m.steps _ (weight_const w) (omega arith),
  );
  class_value = λ m n. closed (type_tests (design_made m)) (Value-F.Class n) _ plain (value.rolls-Class n) tt;
  param_value = λ m p is. param_sound (design_made m) p is;
  named_type = λ m name. named_type_fits (design_made m) name;
  global_value = λ m fr v is. (
    global_here (design_made m) (kind_in fr) v is,
    nothing_brought m.steps m.steps v
        (plain_weight (type_tests (design_made m)) v is) (omega arith),
  );
  plain_value = λ l m fr v sort is. plain_good (tests (design_made m) (kind_in fr)) (type_tests (design_made m))
      (λ t fits. fits) v sort is.0;
  local_value = λ o m f name is. where_both (λ (l : Local). Good (tests (design_made m) f.kind) free l.value)
      (λ (l : Local). weight l.value ≡ 0)
      (λ (l : Local). Good (tests (design_made m) f.kind) free l.value × (m.steps + weight l.value ≤ m.steps + 1))
      (get f.raw.locals name)
      (λ l good none. (good, nothing_brought m.steps m.steps l.value none (omega arith)))
      (get_each (λ (l : Local). Good (tests (design_made m) f.kind) free l.value) f.raw.locals name is.sound.locals)
      (get_each (λ (l : Local). weight l.value ≡ 0) f.raw.locals name is.sizes.sized.locals);
  rule_value = λ l k m fr t u first second. (
    rule_good (design_made m) (kind_in fr) t u first.0 second.0,
    nothing_brought m.steps m.steps _ (weight_rule t u) (omega arith),
  );
  block_value = λ o m f name is. where_so (λ (t : Term). Good (tests (design_made m) f.kind) free (value.Term t))
      (λ (t : Term). Good (tests (design_made m) f.kind) free (value.Term t) × (m.steps + weight (value.Term t) ≤
      m.steps + 1)) _
      (λ t good. (good, nothing_brought m.steps m.steps _ (weight_term t) (omega arith))) (block_fits (design_made
      m) f.kind name);
  attribute_value = λ o l m site name v fine frame is.
      on_so (Good (tests (design_made m) (kind_in site.frame)) held) (λ (u : Value). Good (tests (design_made m)
      (kind_in site.frame)) free u × (l.steps + weight u ≤ m.steps + 1)) (attribute m site name v)
      (λ u good. (
        held_to_free (design_made m) (kind_in site.frame) u good,
        nothing_brought l.steps m.steps u
            (held_weight (tests (design_made m) (kind_in site.frame)) u good) (omega (arith, is.1)),
      ))
      (attribute_fits m fine.shapes (each_so (IsKindSound (design_made m)) (λ (k : MadeKind). Each
      (λ (p : List ℕ × Value). Good (tests (design_made m) k.kind) held p.1) k.raw.attributes) m.kinds
      (λ k sound. sound.1) fine.kinds)
      site name v (where_so (IsWhole o m) _ site.frame (λ f sound. sound.sound.attributes) frame) is.0);
  element_value = λ l m fr line v n is. on_both (Good (tests (design_made m) (kind_in fr)) free) (Brings (weight v))
      (λ (u : Value). Good (tests (design_made m) (kind_in fr)) free u × (l.steps + weight u ≤ m.steps + 1))
      (element_at_index line v n) (λ u good few. (good, omega (arith, few, is.1))) (element_fits (design_made m)
      (kind_in fr) line v n is.0) (element_brings line v n);
  slice_value = λ l m fr line v lo hi is. on_both (Good (tests (design_made m) (kind_in fr)) free)
      (Brings (weight v)) (λ (u : Value). Good (tests (design_made m) (kind_in fr)) free u × (l.steps + weight u ≤
      m.steps + 1))
      (slice line v lo hi) (λ u good few. (good, omega (arith, few, is.1))) (part_of_fits (design_made m)
      (kind_in fr) line v lo hi is.0) (slice_brings line v lo hi (weight v));
  called_value = λ l m fr f line gs each. on_both (Good (tests (design_made m) (kind_in fr)) free) (Brings 1)
      (λ (u : Value). Good (tests (design_made m) (kind_in fr)) free u × (m.steps + weight u ≤ m.steps + 1))
      (called f line gs) (λ u good few. (good, omega (arith, few))) (called_fits (design_made m) (kind_in fr) f line
      gs (each_so (λ (g : Given). Good (tests (design_made m) (kind_in fr)) free g.value × (l.steps + weight
      g.value ≤ m.steps + 1))
      (λ (g : Given). Good (tests (design_made m) (kind_in fr)) free g.value) gs (λ g is. is.0) each))
      (called_brings f line gs);
  items_none = λ m fr. record { each = tt; few = omega arith; steps = omega arith; brought = omega arith };
  items_more = λ l m n fr vs v less leads items is. items_last l m n (kind_in fr) vs v less leads items is.0 is.1;
  items_value = λ l m fr vs is. (
    closed (tests (design_made m) (kind_in fr)) (Value-F.Items vs) _ free (value.rolls-Items vs) (
      items_few vs
          is.few,
      is.each,
    ),
    all_brought l.steps m.steps (value.Items vs) (total (map weight vs)) (weight_items vs) is.brought,
  );
  type_of_value = λ l m fr line v is. type_in_fits (design_made m) (kind_in fr) line v is.0;
  kind_value = λ m fr name vs fine. where_so (λ (k : ℕ). Good (tests (design_made m) (kind_in fr)) free
      (value.New (new.Child k)))
      (λ (k : ℕ). Good (tests (design_made m) (kind_in fr)) free (value.New (new.Child k)) × (m.steps + weight
      (value.New (new.Child k)) ≤ m.steps + 1)) _
      (λ k good. (good, nothing_brought m.steps m.steps _ (weight_new (new.Child k)) (omega arith))) (kind_there m
      (kind_in fr) name vs);
  component_frame = λ m name ps vs fine name_is each. record {
    sound = component_sound (design_made m) name ps vs each;
    named = component_named name ps vs name_is;
    sizes = component_sized m.steps name ps vs (each_so (Good (type_tests (design_made m)) plain) (λ (v : Value).
        weight v ≡ 0) vs (plain_weight (type_tests (design_made m))) each);
  };
  interface_frame = λ m name ps vs fine name_is each. record {
    sound = interface_sound (design_made m) name ps vs each;
    named = interface_named name ps vs name_is;
    sizes = interface_sized m.steps name ps vs (each_so (Good (type_tests (design_made m)) plain) (λ (v : Value).
        weight v ≡ 0) vs (plain_weight (type_tests (design_made m))) each);
  };
  interface_value = λ l m fr name f is. (
    members_sound (design_made m) (kind_in fr) f.raw.attributes is.named.attributes_named
        (subst (λ (s : ConstructedClass). Each (λ (p : List ℕ × Value). FitsClass s (design_made m) f.kind p.1)
        f.raw.attributes) is.sound.sort is.sound.attributes),
    members_brought l.steps m.steps f is.sizes,
  );
  assigned_frame = λ o m n to v line f leads fine ready aimed is. wholly o n (assigned to n.kinds v line f)
      (assigned_sound o.class n to v line f is.0 (frame_more o.class m n f leads ready.sound)) (assigned_names
      o.class n to v line f aimed is.0 ready.named)
      (assigned_within o m n to v line f leads ready is.0 is.1);
  connected_frame = λ o k l m n a b line f leads fine ready first second. wholly o n (connected n.kinds a b line f)
      (connected_sound n fine.kinds o.class line f.kind a b f refl first.0 second.0 (frame_more o.class m n f leads
      ready.sound)) (connected_named_on n.kinds line a b f ready.named)
      (step_kept o m n f _ leads ready (λ x y z sized. connected_sized x y z n.kinds line a b f sized));
  lambda_frame = λ o m n v e line f leads ready is. wholly o n (lambda_block v e line f)
      (lambda_sound o.class (design_made n) v e line f is.0 (frame_more o.class m n f leads ready.sound))
      (lambda_named_on v e line f ready.named)
      (block_more o m n f _ leads ready (λ x y z sized. lambda_sized x y z v e line f sized));
  state_frame = λ o m n to t v line f leads ready aimed type is. wholly o n (state_put to t v line f)
      (state_sound o.class (design_made n) to t v line f type is.0 (frame_more o.class m n f leads ready.sound))
      (state_names_on to t v line f aimed ready.named)
      (state_more o m n f _ leads ready (λ x y z sized. state_sized x y z to t v line f sized));
  constrained_frame = λ o m n gs line f leads ready each. wholly o n (constrained gs line f)
      (constrained_sound o.class (design_made n) gs line f (each_so (λ (g : Given). Good (tests (design_made n)
      f.kind) free g.value × (m.steps + weight g.value ≤ n.steps + 1))
      (λ (g : Given). Good (tests (design_made n) f.kind) free g.value) gs (λ g is. is.0) each) (frame_more o.class
      m n f leads ready.sound)) (constrained_named_on gs line f ready.named)
      (step_kept o m n f _ leads ready (λ x y z sized. constrained_sized x y z gs line f sized));
  block_frame = λ o m name s after below line f ready name_is. wholly o m (block_def name s after below line f)
      (block_sound o.class (design_made m) name s after below line f ready.sound) (block_named_on name s after below
      line f name_is ready.named)
      (block_more o m m f _ (record {
        steps = omega arith;
        kinds = keeps_same (design_made m).kinds;
        shapes =
            keeps_same m.shapes;
        fine = λ fine. fine;
      }) ready
      (λ x y z sized. block_sized x y z name s after below line f sized));
  loop_frame = λ o m name n f is. record {
    sound = local_put_on o.class (design_made m) f name (value.Int n) (fits_int (design_made m) f.kind n) is.sound;
    named = local_named_on f name (value.Int n) is.named;
    sizes = local_within o.made.steps m.steps f name (value.Int n) (weight_int n) is.sizes;
  };
  method_frame = λ o m name types g line nodes f made is name_is arguments result. wholly o m (method_put name types
      g line nodes f)
      (method_sound o.class (design_made m) name types g line nodes f made arguments (result_fits (design_made m)
      types.result result) is.sound)
      (method_named_on name types g line nodes f name_is is.named)
      (sizes_kept o.made.steps m.steps m.steps _ is.sizes.signals is.sizes.states is.sizes.blocks
      is.sizes.signals_within is.sizes.states_within is.sizes.blocks_within (omega arith)
      (method_sized is.sizes.signals is.sizes.states is.sizes.blocks name types g line nodes f is.sizes.sized));
  kept = λ o m fr vs f made is each.
      let sound = kind_sound m (kind_in fr) vs f o.made.steps (subst (λ (c : ConstructedClass). IsSound c
      (design_made m) f) made is.sound) is.named is.sizes in
      (sound.0, (sound.1, nothing_brought m.steps m.steps _ (weight_new (new.Child (length m.kinds))) (omega arith)));
  fields_none = λ m. record { fit = refl; within = omega arith };
  fields_more = λ m line fs name t is type. field_sound (design_made m) line fs name t is type;
  shape_kept = λ m name f fs is. shape_kept m name f fs is;
}
  where
    rule_good : (d : Design) (kind : Kind) (t u : Term) → Good (tests d kind) free (value.Term t)
        → Good (tests d kind) free (value.Term u) → Good (tests d kind) free (value.Rule t u)
    rule_good d kind t u first second =
        closed (tests d kind) (Value-F.Rule t u) _ free (value.rolls-Rule t u)
        (both (term_fits d kind t) (term_fits d kind u) (opened_layer (tests d kind) (Value-F.Term t) free
        (subst (Good (tests d kind) free) (sym (value.rolls-Term t)) first))
        (opened_layer (tests d kind) (Value-F.Term u) free (subst (Good (tests d kind) free)
        (sym (value.rolls-Term u)) second)))

made_sound : (r : Checked ((Globals × ℕ) × Elaboration))
    → Runs sounding nothing_made r (λ x n. IsKind sounding nothing_made n x.1) → On r (λ x. IsMade x.1)
unfolding sounding
made_sound (Ok x) run = run.keeps.0.fine (record {
  shapes = refl;
  kinds = tt;
  locals = tt;
  names = tt;
  within = omega arith;
  sizes = tt;
})
made_sound (Err e) run = tt

-- what a file makes fits
pub file_sound : (nodes : List Node) (name : List ℕ) (params : List Param)
    → Each (λ (n : List ℕ). is_proper_name n ≡ true) (names_of nodes)
    → Each (λ (p : Param). IsGoodParam p.value) params
    → On (elaborated (make_at None) (make_at (Some (MAX_NESTING - 1))) nodes name params nothing_made) (λ x. IsMade x.1)
unfolding sounding
file_sound nodes name params names good =
    made_sound _ (build_runs sounding nodes name params (record {
      shapes = refl;
      kinds = tt;
      locals = tt;
      names = tt;
      within =
          omega arith;
      sizes = tt;
    }) names good)

names_sound : (r : Checked ((Globals × ℕ) × Elaboration))
    → Runs sounding nothing_made r (λ x n. AreGlobals sounding n x.0)
    → On r (λ x. Each (λ (p : List ℕ × Value). Good (type_tests (design_made x.1)) plain p.1) x.0.0)
unfolding sounding
names_sound (Ok x) run = run.keeps.1
names_sound (Err e) run = tt

-- what its names stand for fits
pub names_fit : (nodes : List Node) (name : List ℕ) (params : List Param)
    → Each (λ (n : List ℕ). is_proper_name n ≡ true) (names_of nodes)
    → Each (λ (p : Param). IsGoodParam p.value) params
    → On (elaborated (make_at None) (make_at (Some (MAX_NESTING - 1))) nodes name params nothing_made)
    (λ x. Each (λ (p : List ℕ × Value). Good (type_tests (design_made x.1)) plain p.1) x.0.0)
unfolding sounding
names_fit nodes name params names good =
    names_sound _ (globals_run sounding nodes name params (record {
      shapes = refl;
      kinds = tt;
      locals = tt;
      names = tt;
      within =
          omega arith;
      sizes = tt;
    }) names good)
