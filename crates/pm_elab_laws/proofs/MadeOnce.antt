-- Kinds of component are made once.
use Rattle.std.proofs.Common.{◌≡◌, ◌∙◌, ◌+◌, ℕ, Bool, true, false, List, [], ◌∷◌, ◌++◌, refl, sym, subst, ap, length}
use Rattle.std.proofs.Common.{arith}
use Rattle.std.specs.Prelude.{Option, Some, None, Ok, Err, IsTrue, if◌then◌else◌, nat_le}
use Rattle.std.specs.List.{list_all}
use Rattle.std.specs.Str.{bytes_eq}
use Rattle.pm_design.specs.declared.body.BlockSort.{BlockSort}
use Rattle.pm_values.specs.declared.value.New.{New}
use Rattle.pm_values.specs.declared.value.New.TheVariants as new
use Rattle.pm_values.specs.declared.value.Member.{Member}
use Rattle.pm_values.specs.declared.fault.BuildFault.TheVariants.{TooManyInstances}
use Rattle.pm_values.specs.declared.value.Taken.TheVariants as taken
use Rattle.pm_elab.specs.declared.elaboration.TheConstants.{MAX_INSTANCES}
use Rattle.pm_values.specs.declared.value.Value.{Value}
use Rattle.pm_values.specs.declared.value.Value.TheVariants as value
use Rattle.pm_elab.specs.declared.class.ConstructedClass.{ConstructedClass}
use Rattle.pm_elab.specs.declared.class.ConstructedClass.TheVariants as class
use Rattle.pm_elab.specs.declared.elaboration.Elaboration.{Elaboration}
use Rattle.pm_elab.specs.declared.elaboration.MadeKind.{MadeKind}
use Rattle.pm_elab.specs.declared.frame.Frame.{Frame}
use Rattle.pm_elab.specs.Classes.{Class, construct_in}
use Rattle.pm_elab.specs.Captures.{captured}
use Rattle.pm_elab.specs.Constructs.{is_kind_of, kind_from, kind_made, component_start, interface_start, keep, finished}
use Rattle.pm_elab.specs.Constructs.{component, constructed_by, constructed, made_already, made_or, made_with}
use Rattle.pm_elab.specs.Constructs.{new_child, make_at}
use Rattle.pm_elab.specs.Elab.{Checked, and_then}
use Rattle.pm_elab.specs.Equality.{same_arguments}
use Rattle.pm_elab.specs.Expressions.{Make}
use Rattle.pm_elab.specs.Placing.{place_new, place_signal, place_caller, place_child, with_child, instances_in}
use Rattle.pm_elab.specs.declared.body.BodyPlace.{BodyPlace}
use Rattle.pm_elab.specs.declared.body.Code.{Code}
use Rattle.pm_elab.specs.declared.body.MethodTypes.{MethodTypes}
use Rattle.pm_elab.specs.Methods.{method_added}
use Rattle.pm_elab.specs.Placing.{local_put, attribute_set}
use Rattle.pm_elab.specs.Statements.{body_put, block_set}
use Rattle.pm_elab.specs.Sites.{Scope}
use Rattle.pm_syn.specs.declared.statement.Par.{Par}
use Rattle.pm_elab.specs.Values.{is_plain}
use Rattle.pm_elab_laws.specs.Kinds.{made_within, KindsAreMadeOnce}
use Rattle.pm_elab_laws.specs.Names.{names_of}
use Rattle.pm_elab_laws.specs.Steps.{Grows}
use Rattle.pm_elab_laws.proofs.Keeping.{On, Each, Origin, Keeping, Runs, bind, later}
use Rattle.pm_elab_laws.proofs.Places.{IsScope, any, free}
use Rattle.pm_elab_laws.proofs.Constructs.{construct_runs, at_makes}
use Rattle.pm_elab_laws.proofs.Classes.{construct_names}
use Rattle.pm_elab_laws.proofs.Methods.{headers_runs}
use Rattle.pm_elab_laws.proofs.Framing.{Framing, IsPlaced, places}
use Rattle.pm_elab_laws.proofs.Joining.{connected_on}
use Rattle.pm_elab_laws.proofs.Changes.{block_on, lambda_on, state_on, constrained_on, method_on, assigned_on}
use Rattle.pm_elab_laws.proofs.EqualValues.{both, equal_bytes, all_equal}
use Rattle.pm_elab_laws.proofs.Steps.{Leads, stays, on, steps, anywhere, none, every_name, every_global}

abbrev Nothing : Type 0
Nothing = Unit {0}

-- ---- the class of a frame

module _ (name : List ℕ) where
  abbrev Named : Frame → Type 0
  Named f = f.kind.class ≡ name

  framing : Framing
  framing = record {
    IsFine = Named;
    Grows = λ f g. Nothing;
    IsGood = λ f v. Nothing;
    IsHeld = λ f v. Nothing;
    stays = λ f. tt;
    on = λ f g h first second. tt;
    good_on = λ f g v grows good. tt;
    held_on = λ f g v grows good. tt;
    items = λ f vs good. every vs;
    Long = λ n. Nothing;
    Names = λ ns. Nothing;
    items_long = λ f vs good. tt;
    news_names = λ f ms good. tt;
    members_names = λ f ms good. tt;
    items_held = λ f vs long each. tt;
    news = λ f ms good. every_member ms;
    members = λ f ms good. every_member ms;
    members_held = λ f ms names each. tt;
    left = λ f x is good. good;
  }
    where
      every : (vs : List Value) → Each (λ (v : Value). Nothing) vs
      every [] = tt
      every (v ∷ vs) = (tt, every vs)

      every_member : (ms : List Member) → Each (λ (m : Member). Nothing) ms
      every_member [] = tt
      every_member (m ∷ ms) = (tt, every_member ms)

  news : (kinds : List MadeKind) (line : ℕ) (n : New) (at : List ℕ) (f : Frame) → Named f → Nothing
      → On (place_new kinds n at line f) (IsPlaced framing f)
  unfolding framing place_new place_child place_signal place_caller
  news kinds line (new.Signal role t) at f is good = record { fine = is; grows = tt; held = tt }
  news kinds line (new.Child c) at f is good = by (nat_le (f.kind.instances + instances_in kinds c) MAX_INSTANCES)
    where
      by : (b : Bool) → On {A = Frame × Value} (if b then Ok (
        with_child f (record {
          name = at;
          kind = c;
          line =
              line;
        }) (instances_in kinds c),
        value.Taken (taken.Child (length f.kind.children)),
      ) else Err
          (TooManyInstances line)) (IsPlaced framing f)
      by true = record { fine = is; grows = tt; held = tt }
      by false = tt
  news kinds line (new.Caller types) at f is good = record { fine = is; grows = tt; held = tt }
  news kinds line (new.Callee c) at f is good = record { fine = is; grows = tt; held = tt }
  news kinds line (new.Deque n) at f is good = tt

  placed : (r : Checked (Frame × Value)) (f : Frame) → On r (IsPlaced framing f) → On r (λ r. Named r.0 × Nothing)
  unfolding framing
  placed (Ok r) f is = (is.fine, tt)
  placed (Err e) f is = tt

  body_named : (f : Frame) (p : BodyPlace) (line : ℕ) (c : Code) → Named f → Named (body_put p line c f)
  unfolding body_put
  body_named f p line c is = is

  block_named : (f : Frame) (at : List ℕ) (s : BlockSort) → Named f → Named (block_set at s f)
  unfolding block_set
  block_named f at s is = is

  method_named : (f : Frame) (at : List ℕ) (types : MethodTypes) → Named f → Named (method_added at types f)
  unfolding method_added
  method_named f at types is = is

  local_named : (f : Frame) (at : List ℕ) (v : Value) → Named f → Named (local_put at v f)
  unfolding local_put
  local_named f at v is = is

  attribute_named : (f : Frame) (at : List ℕ) (v : Value) → Named f → Named (attribute_set at v f)
  unfolding attribute_set
  attribute_named f at v is = is

  component_named : (ps : List Par) (vs : List Value) → Named (component_start name ps vs)
  unfolding component_start
  component_named ps vs = refl

  interface_named : (ps : List Par) (vs : List Value) → Named (interface_start name ps vs)
  unfolding interface_start
  interface_named ps vs = refl

  fine_named : (f : Frame) → Named f → (framing).IsFine f
  unfolding framing
  fine_named f is = is

  good_named : (f : Frame) (v : Value) → (framing).IsGood f v
  unfolding framing
  good_named f v = tt

-- the class of a frame is that of its origin
abbrev IsOf : Origin → Frame → Type 0
IsOf o f = Named o.name f

naming : Keeping
unfolding framing
naming = record {
  Leads = Leads;
  IsFine = λ m. Nothing;
  IsName = λ name. Nothing;
  IsParam = λ p. Nothing;
  IsType = λ m t. Nothing;
  IsValue = λ l m fr v. Nothing;
  IsItems = λ l m fr vs. Nothing;
  IsGlobal = λ m v. Nothing;
  IsFrame = λ o m f. IsOf o f;
  IsReady = λ o m f. IsOf o f;
  IsFields = λ m fs. Nothing;
  stays = stays;
  on = on;
  fine_on = λ m n leads is. tt;
  type_on = λ m n t leads is. tt;
  value_on = λ l m n fr v leads is. tt;
  value_from = λ l m n fr v leads is. tt;
  global_on = λ m n v leads is. tt;
  frame_on = λ o m n f leads is. is;
  fields_on = λ m n fs leads is. tt;
  steps = steps;
  ready = λ o m f less is. is;
  unready = λ o m f is. is;
  int_value = λ m fr n. tt;
  own_value = λ m fr. tt;
  const_value = λ m fr w constant. tt;
  class_value = λ m n. tt;
  param_value = λ m p is. tt;
  named_type = λ m name. anywhere _;
  global_value = λ m fr v is. tt;
  plain_value = λ l m fr v plain is. tt;
  local_value = λ o m f name is. anywhere _;
  rule_value = λ l k m fr t u first second. tt;
  block_value = λ o m f name is. anywhere _;
  attribute_value = λ o l m site name v fine frame is. any _;
  element_value = λ l m fr line v n is. any _;
  slice_value = λ l m fr line v lo hi is. any _;
  called_value = λ l m fr f line gs each. any _;
  items_none = λ m fr. tt;
  items_more = λ l m n fr vs v less leads items is. tt;
  items_value = λ l m fr vs is. tt;
  type_of_value = λ l m fr line v is. any _;
  kind_value = λ m fr name vs fine. anywhere _;
  component_frame = λ m name ps vs fine names each. component_named name ps vs;
  interface_frame = λ m name ps vs fine names each. interface_named name ps vs;
  interface_value = λ l m fr name f is. tt;
  assigned_frame = λ o m n to v line f leads fine ready aimed is.
      assigned_on (IsOf o) (λ f p line c. body_named o.name f p line c) (λ f name s other is. block_named o.name f
      name s is) (λ f is. is) (λ f name t s is. is) (λ f line t u is. is)
      (λ v. Nothing) (λ t. tt) (λ f name v good is.
      local_named o.name f name v is) (λ f name v good is. attribute_named o.name f name v is)
      n.kinds line (λ v at f good is. placed o.name _ f (places (framing o.name) n.kinds line (news o.name n.kinds
      line) v at f (fine_named o.name f is) (good_named o.name f v))) to v f tt ready;
  connected_frame = λ o k l m n a b line f leads fine ready first second.
      connected_on (IsOf o) (λ f line a b same is. is) (λ f line part w is. is) (λ f line c d same is. is)
      (λ f line is. is) n.kinds line a b f ready;
  lambda_frame = λ o m n v e line f leads ready is.
      lambda_on (IsOf o) (λ f p line c. body_named o.name f p line c) (λ f name s other is. block_named o.name f
      name s is) (λ f is. is) (λ f name t s is. is) (λ f line t u is. is)
      (λ v. Nothing) (λ t. tt) (λ f name v good is.
      local_named o.name f name v is) (λ f name v good is. attribute_named o.name f name v is) v e line f ready;
  state_frame = λ o m n to t v line f leads ready aimed type is.
      state_on (IsOf o) (λ f p line c. body_named o.name f p line c) (λ f name s other is. block_named o.name f name
      s is) (λ f is. is) (λ f name t s is. is) (λ f line t u is. is)
      (λ v. Nothing) (λ t. tt) (λ f name v good is.
      local_named o.name f name v is) (λ f name v good is. attribute_named o.name f name v is) to t v line f
      ready;
  constrained_frame = λ o m n gs line f leads ready each.
      constrained_on (IsOf o) (λ f p line c. body_named o.name f p line c) (λ f name s other is. block_named o.name
      f name s is) (λ f is. is) (λ f name t s is. is) (λ f line t u is. is)
      (λ v. Nothing) (λ t. tt) (λ f name v good is.
      local_named o.name f name v is) (λ f name v good is. attribute_named o.name f name v is) gs line f ready;
  block_frame = λ o m name s after below line f ready names.
      block_on (IsOf o) (λ f p line c. body_named o.name f p line c) (λ f name s other is. block_named o.name f name
      s is) (λ f is. is) (λ f name t s is. is) (λ f line t u is. is)
      (λ v. Nothing) (λ t. tt) (λ f name v good is.
      local_named o.name f name v is) (λ f name v good is. attribute_named o.name f name v is) name s after
      below line f ready;
  loop_frame = λ o m name n f is. local_named o.name f name (value.Int n) is;
  method_frame = λ o m name types g line nodes f made is names arguments result.
      method_on (IsOf o) (λ f p line c. body_named o.name f p line c) (λ f name s other is. block_named o.name f
      name s is) (λ f is. is) (λ f name t s is. is) (λ f line t u is. is)
      (λ v. Nothing) (λ t. tt) (λ f name v good is.
      local_named o.name f name v is) (λ f name v good is. attribute_named o.name f name v is) (λ f name types is. method_named o.name f name types is) name types g line
      nodes f is;
  kept = λ o m fr vs f made is each. (
    record {
      grows = record {
        steps = omega arith;
        kinds = (_, refl);
        shapes =
            none m.shapes;
      };
      within = λ h. h;
    },
    tt,
  );
  fields_none = λ m. tt;
  fields_more = λ m line fs name t is type. any _;
  shape_kept = λ m name f fs is. (
    record {
      grows = record {
        steps = omega arith;
        kinds = none m.kinds;
        shapes =
            (_, refl);
      };
      within = λ h. h;
    },
    tt,
  );
}

-- ---- what is found

found_on : (ks more : List MadeKind) (i : ℕ) (name : List ℕ) (vs : List Value) (k : ℕ)
    → kind_from i ks name vs ≡ Some k → kind_from i (ks ++ more) name vs ≡ Some k
found_on [] more i name vs k is = never is
  where
    never : {A : Type 0} → None ≡ Some k → A
    never {A = A} e = absurd (subst (λ (o : Option ℕ). elim o as (λ _. Type 0) [ Some j ↦ ⊥ | None ↦ Unit {0} ]) e tt)
found_on (c ∷ ks) more i name vs k is = by (is_kind_of name vs c) (found_on ks more (i + 1) name vs k) is
  where
    by : (b : Bool) → (kind_from (i + 1) ks name vs ≡ Some k → kind_from (i + 1) (ks ++ more) name vs ≡ Some k)
        → (if b then Some i else kind_from (i + 1) ks name vs) ≡ Some k
        → (if b then Some i else kind_from (i + 1) (ks ++ more) name vs) ≡ Some k
    by true later is = is
    by false later is = later is

found_last : (ks : List MadeKind) (c : MadeKind) (i : ℕ) (name : List ℕ) (vs : List Value)
    → is_kind_of name vs c ≡ true → (k : ℕ) × (kind_from i (ks ++ c ∷ []) name vs ≡ Some k)
found_last [] c i name vs is = (i, ap (λ (b : Bool). if b then Some i else None) is)
found_last (d ∷ ks) c i name vs is = by (is_kind_of name vs d) (found_last ks c (i + 1) name vs is)
  where
    by : (b : Bool) → (k : ℕ) × (kind_from (i + 1) (ks ++ c ∷ []) name vs ≡ Some k)
        → (k : ℕ) × ((if b then Some i else kind_from (i + 1) (ks ++ c ∷ []) name vs) ≡ Some k)
    by true last = (i, refl)
    by false last = last

-- the last kind is of the class, at these values
record IsLast (name : List ℕ) (vs : List Value) (m : Elaboration) : Type 0 where
  earlier : List MadeKind
  last : MadeKind
  kinds : m.kinds ≡ earlier ++ last ∷ []
  class : last.kind.class ≡ name
  values : last.arguments ≡ vs

module _ (more : ℕ) (file : Scope) (name : List ℕ) (c : Class) (vs : List Value) (plain : IsTrue (list_all is_plain
    vs)) where
  abbrev outer : Make
  outer = make_at None

  abbrev inner : Make
  inner = make_at (Some more)

  abbrev from_here : Elaboration → Origin
  from_here m = record { made = m; name = name; class = class.Component }

  scope : (m : Elaboration) → IsScope naming m file
  unfolding naming
  scope m = record { fine = tt; names = every_global file.names; nodes = every_name (names_of file.nodes) }

  lines : Each naming.IsName (names_of c.lines)
  unfolding naming
  lines = every_name (names_of c.lines)

  keep_last : (f : Frame) (m : Elaboration) → Named name f → Runs naming m (keep vs f m) (λ k n. IsLast name vs n)
  unfolding naming keep
  keep_last f m is = record {
    keeps = (
      record { grows = record { steps = omega arith; kinds = (_, refl); shapes = none m.shapes }; within = λ h. h },
      record {
        earlier = m.kinds;
        last = record { arguments = vs; kind = f.kind; raw = f.raw };
        kinds = refl;
        class
            = is;
        values = refl;
      },
    );
  }

  finished_last : (f : Frame) (m : Elaboration) → Named name f
      → Runs naming m (finished vs f m) (λ k n. IsLast name vs n)
  unfolding finished
  finished_last f m is = bind naming m _ _ (free naming m (captured f)) (λ x leads _. keep_last f x.1 is)

  component_last : (m : Elaboration) → Runs naming m (component outer inner file name c vs m) (λ k n. IsLast name vs n)
  unfolding component naming
  component_last m =
      bind naming m _ _ (bind naming m _ _
      (headers_runs naming outer (at_makes naming None) (from_here m) file refl None c.lines m (component_start name
      (construct_in c.lines).parameters vs) (scope m) (component_named name (construct_in c.lines).parameters
      vs) lines)
      (λ x leads is. construct_runs naming inner (at_makes naming (Some more)) (from_here m) x.1 file (construct_in
      c.lines) x.0 (scope x.1) (construct_names naming c.lines lines) is))
      (λ z leads is. finished_last z.0 z.1 is)

  -- the kind is found
  abbrev IsFound : Elaboration → Type 0
  IsFound m = (k : ℕ) × (kind_made m.kinds name vs ≡ Some k)

  last_found : (m : Elaboration) → IsLast name vs m → IsFound m
  unfolding kind_made is_kind_of
  last_found m is =
      let here : is_kind_of name vs is.last ≡ true =
      both (bytes_eq is.last.kind.class name) (same_arguments is.last.arguments vs)
      (subst (λ (n : List ℕ). bytes_eq n name ≡ true) (sym is.class) (equal_bytes name))
      (subst (λ (ws : List Value). same_arguments ws vs ≡ true) (sym is.values) (all_equal vs plain)) in
      let found = found_last is.earlier is.last 0 name vs here in
      (found.0, ap (λ (ks : List MadeKind). kind_from 0 ks name vs) is.kinds ∙ found.1)

  new_found : (m : Elaboration) (r : Checked (ℕ × Elaboration)) → Runs naming m r (λ k n. IsLast name vs n)
      → On (and_then r (λ x. new_child x.0 x.1)) (λ p. IsFound p.1)
  new_found m (Ok x) run = last_found x.1 run.keeps.1
  new_found m (Err e) run = tt

  component_found : (m : Elaboration)
      → On (made_or (kind_made m.kinds name vs) (constructed_by outer inner class.Component file name c vs) m)
      (λ p. IsFound p.1)
  component_found m = by (kind_made m.kinds name vs) refl
    where
      by : (o : Option ℕ) → kind_made m.kinds name vs ≡ o
          → On (made_or o (constructed_by outer inner class.Component file name c vs) m) (λ p. IsFound p.1)
      by (Some k) is = (k, is)
      by None is = new_found m (component outer inner file name c vs m) (component_last m)

  within_found : (line : ℕ) (m : Elaboration) → c.class ≡ class.Component
      → On (made_within more file name c vs line m) (λ p. IsFound p.1)
  unfolding made_with constructed
  within_found line m is =
      subst (λ (s : ConstructedClass). On (made_or (made_already s (kind_made m.kinds name vs)) (constructed_by
      outer inner s file name c vs) m) (λ p. IsFound p.1)) (sym is) (component_found m)

  again : (others line k : ℕ) (m : Elaboration) → c.class ≡ class.Component → kind_made m.kinds name vs ≡ Some k
      → made_within others file name c vs line m ≡ Ok (value.New (new.Child k), m)
  unfolding made_with
  again others line k m is found =
      ap (λ (o : Option ℕ). made_or (made_already c.class o) (constructed (make_at None) (make_at (Some others))
      file name c vs line) m) found
      ∙ ap (λ (s : ConstructedClass). made_or (made_already s (Some k)) (constructed (make_at None)
      (make_at (Some others)) file name c vs line) m) is

  later_found : (now later : Elaboration) (k : ℕ) → Grows now later → kind_made now.kinds name vs ≡ Some k
      → kind_made later.kinds name vs ≡ Some k
  unfolding kind_made
  later_found now later k grows found =
      ap (λ (ks : List MadeKind). kind_from 0 ks name vs) grows.kinds.1 ∙ found_on now.kinds grows.kinds.0 0 name vs
      k found

pub made_once : KindsAreMadeOnce
made_once more file name c values line before now made component plain is =
    let found = subst (λ (r : Checked (Value × Elaboration)). On r (λ p. IsFound more file name c values plain p.1))
    is (within_found more file name c values plain line before component) in (
      found.0,
      λ others at later grows. again more file name c values plain others at found.0 later component
          (later_found more file name c values plain now later found.0 grows found.1),
    )
