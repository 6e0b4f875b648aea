-- In a design that is given, bodies aren't typed yet, and each method has its lines.
use Rattle.std.proofs.Common.{◌≡◌, ◌∙◌, ◌+◌, ◌==◌, ◌&&◌, ℕ, zero, suc, Bool, true, false, List, [], ◌∷◌, ◌++◌, refl, sym, subst}
use Rattle.std.proofs.Common.{map, ap, length, arith}
use Rattle.std.specs.Prelude.{Ok, Err, if◌then◌else◌, nat_le}
use Rattle.std.specs.List.{list_all}
use Rattle.pm_design.specs.declared.body.BlockSort.{BlockSort}
use Rattle.pm_values.specs.declared.value.New.{New}
use Rattle.pm_values.specs.declared.value.New.TheVariants as new
use Rattle.pm_values.specs.declared.value.Member.{Member}
use Rattle.pm_values.specs.declared.fault.BuildFault.TheVariants.{TooManyInstances}
use Rattle.pm_values.specs.declared.value.Taken.TheVariants as taken
use Rattle.pm_elab.specs.declared.elaboration.TheConstants.{MAX_INSTANCES}
use Rattle.pm_values.specs.declared.value.Value.{Value}
use Rattle.pm_values.specs.declared.value.Value.TheVariants as value
use Rattle.pm_elab.specs.declared.class.ConstructedClass.{ConstructedClass}
use Rattle.pm_elab.specs.declared.class.ConstructedClass.TheVariants as class
use Rattle.pm_elab.specs.declared.elaboration.Elaboration.{Elaboration}
use Rattle.pm_elab.specs.declared.elaboration.MadeKind.{MadeKind}
use Rattle.pm_elab.specs.declared.frame.Frame.{Frame}
use Rattle.pm_elab.specs.Constructs.{component_start, interface_start, component}
use Rattle.pm_elab.specs.Elab.{Checked, and_then}
use Rattle.pm_elab.specs.Placing.{place_new, place_signal, place_caller, place_child, with_child, instances_in}
use Rattle.pm_elab.specs.declared.body.BodyPlace.{BodyPlace}
use Rattle.pm_elab.specs.declared.body.Code.{Code}
use Rattle.pm_elab.specs.declared.body.MethodTypes.{MethodTypes}
use Rattle.pm_elab.specs.Methods.{method_added}
use Rattle.pm_elab.specs.Placing.{local_put, attribute_set}
use Rattle.pm_elab.specs.Statements.{body_put, block_set}
use Rattle.pm_syn.specs.declared.statement.Par.{Par}
use Rattle.pm_elab_laws.specs.Bodies.{IsUntyped, KindsAreUntyped, are_lines, has_lines, is_of_method, is_unguarded}
use Rattle.pm_elab_laws.specs.Bodies.{is_untyped_block}
use Rattle.pm_elab_laws.specs.Names.{names_of}
use Rattle.pm_elab_laws.proofs.Keeping.{On, Each, Origin, Keeping, Runs}
use Rattle.pm_elab_laws.proofs.Places.{any}
use Rattle.pm_elab_laws.proofs.Framing.{Framing, IsPlaced, places}
use Rattle.pm_elab_laws.proofs.Joining.{connected_on}
use Rattle.pm_elab_laws.proofs.Changes.{block_on, lambda_on, state_on, constrained_on, assigned_on}
use Rattle.pm_elab_laws.proofs.EqualValues.{both}
use Rattle.pm_elab_laws.proofs.Steps.{anywhere, none, every_name}
use Rattle.std.proofs.Common.{◌≤◌, ◌<◌, ◌||◌, not, leb-true}
use Rattle.std.specs.List.{list_any}
use Rattle.std.proofs.lemmas.Bool.{and_parts}
use Rattle.pm_elab.specs.declared.elaboration.RawDesign.{RawDesign}
use Rattle.pm_elab.specs.declared.parameter.Param.{Param}
use Rattle.pm_elab.specs.Files.{Globals, build, design_of, nothing_made}
use Rattle.pm_elab.specs.Statements.{has_block}
use Rattle.pm_elab_laws.proofs.Places.{each_more}
use Rattle.pm_elab_laws.proofs.Constructs.{IsKind}
use Rattle.pm_elab_laws.proofs.Files.{build_runs}
use Rattle.std.specs.Prelude.{Option, Some, None, nat_lt, slice_get, is_some}
use Rattle.std.proofs.Common.{ltb-true, ltb-false}
use Rattle.std.proofs.lemmas.Bool.{eq-eqb}
use Rattle.std.proofs.lemmas.Option.{same_Some}
use Rattle.pm_design.specs.declared.design.Kind.{Kind}
use Rattle.pm_design.specs.declared.body.Method.{Method}
use Rattle.pm_syn.specs.declared.statement.Node.{Node}
use Rattle.pm_values.specs.declared.fault.BuildFault.TheVariants.{SameName}
use Rattle.pm_elab.specs.declared.body.BodyPlace.TheVariants as at
use Rattle.pm_elab.specs.declared.body.Code.TheVariants as code
use Rattle.pm_elab.specs.declared.body.RawBody.{RawBody}
use Rattle.pm_elab.specs.declared.elaboration.RawKind.{RawKind}
use Rattle.pm_elab.specs.Methods.{GuardLine, guard_put, named_method, method_set, is_used, method_put}
use Rattle.pm_elab_laws.proofs.Changes.{unless_so}
use Rattle.pm_elab_laws.proofs.Fits.{all_last}
use Rattle.pm_elab_laws.proofs.Tests.{never}
use Rattle.pm_design.specs.declared.connection.Term.{Term}
use Rattle.pm_values.specs.declared.reference.ValueType.{ValueType}
use Rattle.pm_elab.specs.declared.state.Start.{Start}
use Rattle.pm_elab.specs.Statements.{one_lambda_more, with_state}
use Rattle.pm_elab_laws.proofs.Changes.{with_rule}

abbrev Nothing : Type 0
Nothing = Unit {0}

-- ---- frames

-- a frame's blocks and guards are empty, and each of its methods has its lines
record IsBare (f : Frame) : Type 0 where
  blocks : list_all is_untyped_block f.kind.blocks ≡ true
  guards : list_all is_unguarded f.kind.methods ≡ true
  lines : (m : ℕ) → m < length f.kind.methods → has_lines f.raw.bodies m ≡ true

or_true : (a b : Bool) → b ≡ true → (a || b) ≡ true
or_true true b is = refl
or_true false b is = is

-- lines that stand among more bodies
lines_more : (bodies more : List RawBody) (m : ℕ) → has_lines bodies m ≡ true → has_lines (bodies ++ more) m ≡ true
lines_more [] more m is = never is
lines_more (b ∷ bodies) more m is = by (is_of_method m b.place && are_lines b.code) is (lines_more bodies more m)
  where
    by : (here : Bool) → (here || has_lines bodies m) ≡ true
        → (has_lines bodies m ≡ true → has_lines (bodies ++ more) m ≡ true) → (here || has_lines (bodies ++ more) m) ≡ true
    by true is next = refl
    by false is next = next is

-- lines that come last
lines_last : (bodies : List RawBody) (line m : ℕ) (nodes : List Node)
    → has_lines (bodies ++ record { place = at.Method m; line = line; code = code.Statements nodes } ∷ []) m ≡ true
lines_last [] line m nodes = let same : (m == m) ≡ true = eq-eqb m m refl in rw same refl
lines_last (b ∷ bodies) line m nodes =
    or_true (is_of_method m b.place && are_lines b.code) _ (lines_last bodies line m nodes)

-- one more has its lines
method_lines : (n m line : ℕ) (nodes : List Node) (bodies : List RawBody)
    → ((m : ℕ) → m < n → has_lines bodies m ≡ true) → m < n + 1
    → has_lines (bodies ++ record { place = at.Method n; line = line; code = code.Statements nodes } ∷ []) m ≡ true
method_lines n m line nodes bodies all less = by (nat_lt m n) refl
  where
    by : (b : Bool) → nat_lt m n ≡ b
        → has_lines (bodies ++ record { place = at.Method n; line = line; code = code.Statements nodes } ∷ []) m ≡ true
    by true below = lines_more bodies _ m (all m (ltb-true _ _ below))
    by false below =
        let same : n ≡ m = omega (arith, less, ltb-false m n below) in
        subst (λ (k : ℕ). has_lines (bodies ++ record { place = at.Method n; line = line; code = code.Statements nodes } ∷ []) k
        ≡ true) same (lines_last bodies line n nodes)

one_more : {A : Type 0} (xs : List A) (x : A) → length (xs ++ x ∷ []) ≡ length xs + 1
one_more [] x = refl
one_more (y ∷ xs) x = let rest = one_more xs x in omega (arith, rest)

every : (vs : List Value) → Each (λ (v : Value). Nothing) vs
every [] = tt
every (v ∷ vs) = (tt, every vs)

every_member : (ms : List Member) → Each (λ (m : Member). Nothing) ms
every_member [] = tt
every_member (m ∷ ms) = (tt, every_member ms)

framing : Framing
framing = record {
  IsFine = IsBare;
  Grows = λ f g. Nothing;
  IsGood = λ f v. Nothing;
  IsHeld = λ f v. Nothing;
  stays = λ f. tt;
  on = λ f g h first second. tt;
  good_on = λ f g v grows good. tt;
  held_on = λ f g v grows good. tt;
  items = λ f vs good. every vs;
  Long = λ n. Nothing;
  Names = λ ns. Nothing;
  items_long = λ f vs good. tt;
  news_names = λ f ms good. tt;
  members_names = λ f ms good. tt;
  items_held = λ f vs long each. tt;
  news = λ f ms good. every_member ms;
  members = λ f ms good. every_member ms;
  members_held = λ f ms names each. tt;
  left = λ f x is good. good;
}

-- a change of what isn't spoken of
other : (f g : Frame) → f.kind.blocks ≡ g.kind.blocks → f.kind.methods ≡ g.kind.methods → f.raw.bodies ≡ g.raw.bodies
    → IsBare f → IsBare g
other f g blocks methods bodies is = record {
  blocks = ap (list_all is_untyped_block) (sym blocks) ∙ is.blocks;
  guards = ap (list_all is_unguarded) (sym methods) ∙ is.guards;
  lines = subst (λ (bs : List RawBody). (m : ℕ) → m < length g.kind.methods → has_lines bs m ≡ true) bodies
      (subst (λ (ms : List Method). (m : ℕ) → m < length ms → has_lines f.raw.bodies m ≡ true) methods is.lines);
}

news : (kinds : List MadeKind) (line : ℕ) (n : New) (at : List ℕ) (f : Frame) → IsBare f → Nothing
    → On (place_new kinds n at line f) (IsPlaced framing f)
unfolding framing place_new place_child place_signal place_caller
news kinds line (new.Signal role t) at f is good = record { fine = other f _ refl refl refl is; grows = tt; held = tt }
news kinds line (new.Child c) at f is good = by (nat_le (f.kind.instances + instances_in kinds c) MAX_INSTANCES)
  where
    by : (b : Bool) → On {A = Frame × Value} (if b then Ok (
      with_child f (record { name = at; kind = c; line = line }) (instances_in kinds c),
      value.Taken (taken.Child (length f.kind.children)),
    ) else Err (TooManyInstances line)) (IsPlaced framing f)
    by true = record { fine = other f _ refl refl refl is; grows = tt; held = tt }
    by false = tt
news kinds line (new.Caller types) at f is good = record { fine = other f _ refl refl refl is; grows = tt; held = tt }
news kinds line (new.Callee c) at f is good = record { fine = is; grows = tt; held = tt }
news kinds line (new.Deque n) at f is good = tt

placed : (r : Checked (Frame × Value)) (f : Frame) → On r (IsPlaced framing f) → On r (λ r. IsBare r.0 × Nothing)
unfolding framing
placed (Ok r) f is = (is.fine, tt)
placed (Err e) f is = tt

fine_bare : (f : Frame) → IsBare f → framing.IsFine f
unfolding framing
fine_bare f is = is

good_bare : (f : Frame) (v : Value) → framing.IsGood f v
unfolding framing
good_bare f v = tt

body_bare : (f : Frame) (p : BodyPlace) (line : ℕ) (c : Code) → IsBare f → IsBare (body_put p line c f)
unfolding body_put
body_bare f p line c is = record {
  blocks = is.blocks;
  guards = is.guards;
  lines = λ m less. lines_more f.raw.bodies _ m (is.lines m less);
}

block_bare : (f : Frame) (at : List ℕ) (s : BlockSort) → IsBare f → IsBare (block_set at s f)
unfolding block_set
block_bare f at s is = record {
  blocks = all_last is_untyped_block f.kind.blocks _ is.blocks refl;
  guards = is.guards;
  lines = is.lines;
}

local_bare : (f : Frame) (at : List ℕ) (v : Value) → IsBare f → IsBare (local_put at v f)
unfolding local_put
local_bare f at v is = other f _ refl refl refl is

attribute_bare : (f : Frame) (at : List ℕ) (v : Value) → IsBare f → IsBare (attribute_set at v f)
unfolding attribute_set
attribute_bare f at v is = other f _ refl refl refl is

lambda_bare : (f : Frame) → IsBare f → IsBare (one_lambda_more f)
lambda_bare f is = other f _ refl refl refl is

state_bare : (f : Frame) (name : List ℕ) (t : ValueType) (s : Start) → IsBare f → IsBare (with_state f name t s)
state_bare f name t s is = other f _ refl refl refl is

rule_bare : (f : Frame) (line : ℕ) (t u : Term) → IsBare f → IsBare (with_rule f line t u)
rule_bare f line t u is = other f _ refl refl refl is

-- a method with its guard and its lines
with_lines : (f g : Frame) (method : Method) (line : ℕ) (nodes : List Node) → is_unguarded method ≡ true
    → g.kind.blocks ≡ f.kind.blocks → g.kind.methods ≡ f.kind.methods ++ method ∷ []
    → ((m : ℕ) → m < length f.kind.methods → has_lines g.raw.bodies m ≡ true) → IsBare f
    → IsBare (body_put (at.Method (length f.kind.methods)) line (code.Statements nodes) g)
unfolding body_put
with_lines f g method line nodes unguarded blocks methods lines is = record {
  blocks = ap (list_all is_untyped_block) blocks ∙ is.blocks;
  guards = ap (list_all is_unguarded) methods ∙ all_last is_unguarded f.kind.methods method is.guards unguarded;
  lines = λ m less.
      let size : length g.kind.methods ≡ length f.kind.methods + 1 = ap length methods ∙ one_more f.kind.methods method in
      method_lines (length f.kind.methods) m line nodes g.raw.bodies lines (omega (arith, less, size));
}

method_bare : (name : List ℕ) (t : MethodTypes) (g : Option GuardLine) (line : ℕ) (nodes : List Node) (f : Frame)
    → IsBare f → On (method_put name t g line nodes f) IsBare
unfolding method_put method_set named_method method_added attribute_set guard_put body_put
method_bare name t g line nodes f is =
    unless_so IsBare (is_used f name) (SameName line) (Ok (method_set name t g line nodes f)) (by g)
  where
    by : (g : Option GuardLine) → IsBare (method_set name t g line nodes f)
    by None = with_lines f _ _ line nodes refl refl refl is.lines is
    by (Some guard) = with_lines f _ _ line nodes refl refl refl (λ m less. lines_more f.raw.bodies _ m (is.lines m less)) is

component_bare : (name : List ℕ) (ps : List Par) (vs : List Value) → IsBare (component_start name ps vs)
unfolding component_start
component_bare name ps vs = record { blocks = refl; guards = refl; lines = λ m less. absurd (omega (arith, less)) }

interface_bare : (name : List ℕ) (ps : List Par) (vs : List Value) → IsBare (interface_start name ps vs)
unfolding interface_start
interface_bare name ps vs = record { blocks = refl; guards = refl; lines = λ m less. absurd (omega (arith, less)) }

-- ---- kinds

abbrev AreUntyped : List MadeKind → Type 0
AreUntyped ks = Each (λ (k : MadeKind). IsUntyped k.kind k.raw) ks

finished_kind : (f : Frame) → IsBare f → IsUntyped f.kind f.raw
finished_kind f is = record { blocks = is.blocks; guards = is.guards; lines = is.lines }

untyping : Keeping
unfolding framing
untyping = record {
  Leads = λ m n. AreUntyped m.kinds → AreUntyped n.kinds;
  IsFine = λ m. AreUntyped m.kinds;
  IsName = λ name. Nothing;
  IsParam = λ p. Nothing;
  IsType = λ m t. Nothing;
  IsValue = λ l m fr v. Nothing;
  IsItems = λ l m fr vs. Nothing;
  IsGlobal = λ m v. Nothing;
  IsFrame = λ o m f. IsBare f;
  IsReady = λ o m f. IsBare f;
  IsFields = λ m fs. Nothing;
  stays = λ m fine. fine;
  on = λ l m n first second fine. second (first fine);
  fine_on = λ m n leads is. leads is;
  type_on = λ m n t leads is. tt;
  value_on = λ l m n fr v leads is. tt;
  value_from = λ l m n fr v leads is. tt;
  global_on = λ m n v leads is. tt;
  frame_on = λ o m n f leads is. is;
  fields_on = λ m n fs leads is. tt;
  steps = λ m less fine. fine;
  ready = λ o m f less is. is;
  unready = λ o m f is. is;
  int_value = λ m fr n. tt;
  own_value = λ m fr. tt;
  const_value = λ m fr w constant. tt;
  class_value = λ m n. tt;
  param_value = λ m p is. tt;
  named_type = λ m name. anywhere _;
  global_value = λ m fr v is. tt;
  plain_value = λ l m fr v plain is. tt;
  local_value = λ o m f name is. anywhere _;
  rule_value = λ l k m fr t u first second. tt;
  block_value = λ o m f name is. anywhere _;
  attribute_value = λ o l m site name v fine frame is. any _;
  element_value = λ l m fr line v n is. any _;
  slice_value = λ l m fr line v lo hi is. any _;
  called_value = λ l m fr f line gs each. any _;
  items_none = λ m fr. tt;
  items_more = λ l m n fr vs v less leads items is. tt;
  items_value = λ l m fr vs is. tt;
  type_of_value = λ l m fr line v is. any _;
  kind_value = λ m fr name vs fine. anywhere _;
  component_frame = λ m name ps vs fine names each. component_bare name ps vs;
  interface_frame = λ m name ps vs fine names each. interface_bare name ps vs;
  interface_value = λ l m fr name f is. tt;
  assigned_frame = λ o m n to v line f leads fine ready aimed is.
      assigned_on IsBare body_bare (λ f name s there is. block_bare f name s is) lambda_bare state_bare rule_bare
      (λ v. Nothing) (λ t. tt) (λ f name v good is. local_bare f name v is) (λ f name v good is. attribute_bare f name v is)
      n.kinds line (λ v at f good is. placed _ f (places framing n.kinds line (news n.kinds line) v at f (fine_bare f is)
      (good_bare f v))) to v f tt ready;
  connected_frame = λ o k l m n a b line f leads fine ready first second.
      connected_on IsBare (λ f line a b same is. other f _ refl refl refl is) (λ f line part w is. other f _ refl refl
      refl is) (λ f line c d same is. other f _ refl refl refl is) (λ f line is. other f _ refl refl refl is) n.kinds
      line a b f ready;
  lambda_frame = λ o m n v e line f leads ready is.
      lambda_on IsBare body_bare (λ f name s there is. block_bare f name s is) lambda_bare state_bare rule_bare
      (λ v. Nothing) (λ t. tt) (λ f name v good is. local_bare f name v is) (λ f name v good is. attribute_bare f name v is)
      v e line f ready;
  state_frame = λ o m n to t v line f leads ready aimed type is.
      state_on IsBare body_bare (λ f name s there is. block_bare f name s is) lambda_bare state_bare rule_bare
      (λ v. Nothing) (λ t. tt) (λ f name v good is. local_bare f name v is) (λ f name v good is. attribute_bare f name v is)
      to t v line f ready;
  constrained_frame = λ o m n gs line f leads ready each.
      constrained_on IsBare body_bare (λ f name s there is. block_bare f name s is) lambda_bare state_bare rule_bare
      (λ v. Nothing) (λ t. tt) (λ f name v good is. local_bare f name v is) (λ f name v good is. attribute_bare f name v is)
      gs line f ready;
  block_frame = λ o m name s after below line f ready names.
      block_on IsBare body_bare (λ f name s there is. block_bare f name s is) lambda_bare state_bare rule_bare
      (λ v. Nothing) (λ t. tt) (λ f name v good is. local_bare f name v is) (λ f name v good is. attribute_bare f name v is)
      name s after below line f ready;
  loop_frame = λ o m name n f is. local_bare f name (value.Int n) is;
  method_frame = λ o m name types g line nodes f made is names arguments result. method_bare name types g line nodes f is;
  kept = λ o m fr vs f made is each. (
    λ fine. each_more (λ (k : MadeKind). IsUntyped k.kind k.raw) m.kinds _ fine
        (finished_kind f is, tt),
    tt,
  );
  fields_none = λ m. tt;
  fields_more = λ m line fs name t is type. any _;
  shape_kept = λ m name f fs is. (λ fine. fine, tt);
}

-- one of the kinds that were made
kind_untyped : (ks : List MadeKind) → AreUntyped ks → (i : ℕ) (kind : Kind) (raw : RawKind)
    → slice_get (map (λ (made : MadeKind). made.kind) ks) i ≡ Some kind
    → slice_get (map (λ (made : MadeKind). made.raw) ks) i ≡ Some raw → IsUntyped kind raw
kind_untyped [] each i kind raw first second = never (ap is_some first)
kind_untyped (k ∷ ks) each zero kind raw first second =
    subst (λ (kind : Kind). IsUntyped kind raw) (same_Some k.kind kind first)
    (subst (λ (raw : RawKind). IsUntyped k.kind raw) (same_Some k.raw raw second) each.0)
kind_untyped (k ∷ ks) each (suc i) kind raw first second = kind_untyped ks each.1 i kind raw first second

every_param : (ps : List Param) → Each (λ (p : Param). Nothing) ps
every_param [] = tt
every_param (p ∷ ps) = (tt, every_param ps)

abbrev HasUntyped : RawDesign → Type 0
HasUntyped r = (k : ℕ) (kind : Kind) (raw : RawKind) → slice_get r.design.kinds k ≡ Some kind
    → slice_get r.kinds k ≡ Some raw → IsUntyped kind raw

given_untyped : (r : Checked ((Globals × ℕ) × Elaboration))
    → Runs untyping nothing_made r (λ x n. IsKind untyping nothing_made n x.1)
    → On (and_then r (λ x. Ok (design_of x.1 x.0.0 x.0.1))) HasUntyped
unfolding untyping
given_untyped (Ok x) run = kind_untyped x.1.kinds (run.keeps.0 tt)
given_untyped (Err e) run = tt

pub kinds_untyped : KindsAreUntyped
unfolding untyping build
kinds_untyped nodes name params given is =
    subst (λ (r : Checked RawDesign). On r HasUntyped) is
    (given_untyped _ (build_runs untyping nodes name params tt (every_name (names_of nodes)) (every_param params)))
