-- What every kind of a design that is given has.
use Rattle.std.proofs.Common.{◌≡◌, ◌∙◌, ◌+◌, ℕ, zero, suc, Bool, true, false, List, [], ◌∷◌, ◌++◌, refl, sym, subst}
use Rattle.std.proofs.Common.{map, ap, length, arith}
use Rattle.std.specs.Prelude.{Ok, Err, if◌then◌else◌, nat_le}
use Rattle.std.specs.List.{list_all}
use Rattle.std.specs.Str.{bytes_eq}
use Rattle.pm_design.specs.declared.body.BlockSort.{BlockSort}
use Rattle.pm_values.specs.declared.value.New.{New}
use Rattle.pm_values.specs.declared.value.New.TheVariants as new
use Rattle.pm_values.specs.declared.value.Member.{Member}
use Rattle.pm_values.specs.declared.fault.BuildFault.TheVariants.{TooManyInstances}
use Rattle.pm_values.specs.declared.value.Taken.TheVariants as taken
use Rattle.pm_elab.specs.declared.elaboration.TheConstants.{MAX_INSTANCES}
use Rattle.pm_values.specs.declared.value.Value.{Value}
use Rattle.pm_values.specs.declared.value.Value.TheVariants as value
use Rattle.pm_elab.specs.declared.class.ConstructedClass.{ConstructedClass}
use Rattle.pm_elab.specs.declared.class.ConstructedClass.TheVariants as class
use Rattle.pm_elab.specs.declared.elaboration.Elaboration.{Elaboration}
use Rattle.pm_elab.specs.declared.elaboration.MadeKind.{MadeKind}
use Rattle.pm_elab.specs.declared.frame.Frame.{Frame}
use Rattle.pm_elab.specs.Constructs.{component_start, interface_start, component}
use Rattle.pm_elab.specs.Elab.{Checked, and_then}
use Rattle.pm_elab.specs.Placing.{place_new, place_signal, place_caller, place_child, with_child, instances_in}
use Rattle.pm_elab.specs.declared.body.BodyPlace.{BodyPlace}
use Rattle.pm_elab.specs.declared.body.Code.{Code}
use Rattle.pm_elab.specs.declared.body.MethodTypes.{MethodTypes}
use Rattle.pm_elab.specs.Methods.{method_added}
use Rattle.pm_elab.specs.Placing.{local_put, attribute_set}
use Rattle.pm_elab.specs.Statements.{body_put, block_set}
use Rattle.pm_syn.specs.declared.statement.Par.{Par}
use Rattle.pm_elab_laws.specs.Components.{IsComponent, KindsAreComponents}
use Rattle.pm_elab_laws.specs.Names.{names_of}
use Rattle.pm_elab_laws.proofs.Keeping.{On, Each, Origin, Keeping, Runs}
use Rattle.pm_elab_laws.proofs.Places.{any}
use Rattle.pm_elab_laws.proofs.Framing.{Framing, IsPlaced, places}
use Rattle.pm_elab_laws.proofs.Joining.{connected_on}
use Rattle.pm_elab_laws.proofs.Changes.{block_on, lambda_on, state_on, constrained_on, method_on, assigned_on}
use Rattle.pm_elab_laws.proofs.EqualValues.{both}
use Rattle.pm_elab_laws.proofs.Steps.{anywhere, none, every_name}
use Rattle.std.proofs.Common.{◌≤◌, ◌<◌, ◌||◌, not, leb-true}
use Rattle.std.specs.Prelude.{slice_index_or}
use Rattle.std.specs.List.{list_any}
use Rattle.std.proofs.lemmas.Bool.{and_parts}
use Rattle.pm_design.specs.declared.body.Block.{Block}
use Rattle.pm_design.specs.declared.signal.Signal.{Signal}
use Rattle.pm_design.specs.Elaborated.{is_reset}
use Rattle.pm_design.specs.Lookups.{no_signal, no_kind, kind_of}
use Rattle.pm_design.specs.Names.{all_differ}
use Rattle.pm_elab.specs.declared.elaboration.RawDesign.{RawDesign}
use Rattle.pm_elab.specs.declared.parameter.Param.{Param}
use Rattle.pm_elab.specs.Constructs.{reset_signals}
use Rattle.pm_elab.specs.Files.{Globals, build, design_of, nothing_made}
use Rattle.pm_elab.specs.Statements.{has_block}
use Rattle.pm_elab_laws.proofs.Places.{each_more}
use Rattle.pm_elab_laws.proofs.Constructs.{IsKind}
use Rattle.pm_elab_laws.proofs.Files.{build_runs}

abbrev Nothing : Type 0
Nothing = Unit {0}

-- ---- frames

-- a frame of a component has `reset` first, blocks of different names and few instances
record IsBuilt (o : Origin) (f : Frame) : Type 0 where
  sort : f.class ≡ o.class
  reset : o.class ≡ class.Component → (rest : List Signal) × (f.kind.signals ≡ reset_signals ++ rest)
  blocks : all_differ (map (λ b. b.name) f.kind.blocks) ≡ true
  few : f.kind.instances ≤ 4096

differ_all : (name : List ℕ) (bs : List Block) (b : Block) → bytes_eq name b.name ≡ false
    → list_all (λ other. not (bytes_eq name other)) (map (λ b. b.name) bs) ≡ true
    → list_all (λ other. not (bytes_eq name other)) (map (λ b. b.name) (bs ++ b ∷ [])) ≡ true
differ_all name [] b other all = both (not (bytes_eq name b.name)) true (ap not other) refl
differ_all name (c ∷ bs) b other all =
    let parts = and_parts (not (bytes_eq name c.name)) (list_all (λ other. not (bytes_eq name other))
    (map (λ b. b.name) bs)) all in
    both (not (bytes_eq name c.name)) (list_all (λ other. not (bytes_eq name other)) (map (λ b. b.name)
    (bs ++ b ∷ []))) parts.0 (differ_all name bs b other parts.1)

neither : (a b : Bool) → (a || b) ≡ false → (a ≡ false) × (b ≡ false)
neither false b none = (refl, none)
neither true b none = (
  none,
  absurd (subst (λ (b : Bool). elim b as (λ _. Type 0) [ true ↦ Unit {0} | false ↦ ⊥ ])
      none tt),
)

differ_more : (bs : List Block) (b : Block) → list_any (λ c. bytes_eq c.name b.name) bs ≡ false
    → all_differ (map (λ b. b.name) bs) ≡ true → all_differ (map (λ b. b.name) (bs ++ b ∷ [])) ≡ true
differ_more [] b other all = refl
differ_more (c ∷ bs) b other all =
    let others = neither (bytes_eq c.name b.name) (list_any (λ c. bytes_eq c.name b.name) bs) other in
    let parts = and_parts (list_all (λ other. not (bytes_eq c.name other)) (map (λ b. b.name) bs))
    (all_differ (map (λ b. b.name) bs)) all in
    both (list_all (λ other. not (bytes_eq c.name other)) (map (λ b. b.name) (bs ++ b ∷ [])))
    (all_differ (map (λ b. b.name) (bs ++ b ∷ []))) (differ_all c.name bs b others.0 parts.0) (differ_more bs b
    others.1 parts.1)

module _ (o : Origin) where
  every : (vs : List Value) → Each (λ (v : Value). Nothing) vs
  every [] = tt
  every (v ∷ vs) = (tt, every vs)

  every_member : (ms : List Member) → Each (λ (m : Member). Nothing) ms
  every_member [] = tt
  every_member (m ∷ ms) = (tt, every_member ms)

  framing : Framing
  framing = record {
    IsFine = IsBuilt o;
    Grows = λ f g. Nothing;
    IsGood = λ f v. Nothing;
    IsHeld = λ f v. Nothing;
    stays = λ f. tt;
    on = λ f g h first second. tt;
    good_on = λ f g v grows good. tt;
    held_on = λ f g v grows good. tt;
    items = λ f vs good. every vs;
    Long = λ n. Nothing;
    Names = λ ns. Nothing;
    items_long = λ f vs good. tt;
    news_names = λ f ms good. tt;
    members_names = λ f ms good. tt;
    items_held = λ f vs long each. tt;
    news = λ f ms good. every_member ms;
    members = λ f ms good. every_member ms;
    members_held = λ f ms names each. tt;
    left = λ f x is good. good;
  }

  news : (kinds : List MadeKind) (line : ℕ) (n : New) (at : List ℕ) (f : Frame) → IsBuilt o f → Nothing
      → On (place_new kinds n at line f) (IsPlaced framing f)
  unfolding framing place_new place_child place_signal place_caller
  news kinds line (new.Signal role t) at f is good = record {
    fine = record {
      sort = is.sort;
      reset = λ component. (
        (is.reset component).0 ++ record { name = at; role = role; width = t.width; shape = t.shape } ∷ [],
        ap (λ (ss : List Signal). ss ++ record { name = at; role = role; width = t.width; shape = t.shape } ∷ [])
            (is.reset component).1,
      );
      blocks = is.blocks;
      few = is.few;
    };
    grows = tt;
    held = tt;
  }
  news kinds line (new.Child c) at f is good = by (nat_le (f.kind.instances + instances_in kinds c) MAX_INSTANCES) refl
    where
      by : (b : Bool) → nat_le (f.kind.instances + instances_in kinds c) MAX_INSTANCES ≡ b
          → On {A = Frame × Value} (if b then Ok (
            with_child f (record { name = at; kind = c; line = line })
                (instances_in kinds c),
            value.Taken (taken.Child (length f.kind.children)),
          ) else Err (TooManyInstances
          line)) (IsPlaced framing f)
      by true few = record {
        fine = record {
          sort = is.sort;
          reset = is.reset;
          blocks = is.blocks;
          few = leb-true _
              _ few;
        };
        grows = tt;
        held = tt;
      }
      by false few = tt
  news kinds line (new.Caller types) at f is good = record {
    fine = record {
      sort = is.sort;
      reset = is.reset;
      blocks = is.blocks;
      few = is.few;
    };
    grows = tt;
    held = tt;
  }
  news kinds line (new.Callee c) at f is good = record { fine = is; grows = tt; held = tt }
  news kinds line (new.Deque n) at f is good = tt

  placed : (r : Checked (Frame × Value)) (f : Frame) → On r (IsPlaced framing f) → On r (λ r. IsBuilt o r.0 × Nothing)
  unfolding framing
  placed (Ok r) f is = (is.fine, tt)
  placed (Err e) f is = tt

  fine_named : (f : Frame) → IsBuilt o f → (framing).IsFine f
  unfolding framing
  fine_named f is = is

  good_named : (f : Frame) (v : Value) → (framing).IsGood f v
  unfolding framing
  good_named f v = tt

  -- a change of what isn't spoken of
  other : (f g : Frame) → f.class ≡ g.class → f.kind.signals ≡ g.kind.signals → f.kind.blocks ≡ g.kind.blocks
      → f.kind.instances ≡ g.kind.instances → IsBuilt o f → IsBuilt o g
  other f g a b c d is = record {
    sort = sym a ∙ is.sort;
    reset = λ component. ((is.reset component).0, sym b ∙ (is.reset component).1);
    blocks = subst (λ (bs : List Block). all_differ (map (λ b. b.name) bs) ≡ true) c is.blocks;
    few = subst (λ (n : ℕ). n ≤ 4096) d is.few;
  }

  body_named : (f : Frame) (p : BodyPlace) (line : ℕ) (c : Code) → IsBuilt o f → IsBuilt o (body_put p line c f)
  unfolding body_put
  body_named f p line c is = other f _ refl refl refl refl is

  block_named : (f : Frame) (at : List ℕ) (s : BlockSort) → has_block f at ≡ false → IsBuilt o f
      → IsBuilt o (block_set at s f)
  unfolding block_set has_block
  block_named f at s there is = record {
    sort = is.sort;
    reset = is.reset;
    blocks = differ_more f.kind.blocks
        (record { name = at; sort = s; body = []; temps = [] }) there is.blocks;
    few = is.few;
  }

  method_named : (f : Frame) (at : List ℕ) (types : MethodTypes) → IsBuilt o f → IsBuilt o (method_added at types f)
  unfolding method_added
  method_named f at types is = other f _ refl refl refl refl is

  local_named : (f : Frame) (at : List ℕ) (v : Value) → IsBuilt o f → IsBuilt o (local_put at v f)
  unfolding local_put
  local_named f at v is = other f _ refl refl refl refl is

  attribute_named : (f : Frame) (at : List ℕ) (v : Value) → IsBuilt o f → IsBuilt o (attribute_set at v f)
  unfolding attribute_set
  attribute_named f at v is = other f _ refl refl refl refl is

component_named : (m : Elaboration) (name : List ℕ) (ps : List Par) (vs : List Value)
    → IsBuilt (record { made = m; name = name; class = class.Component }) (component_start name ps vs)
unfolding component_start
component_named m name ps vs = record { sort = refl; reset = λ component. ([], refl); blocks = refl; few = omega arith }

never : {A : Type 0} → class.Interface ≡ class.Component → A
never {A = A} e = absurd (subst (λ (c : ConstructedClass). elim c as (λ _. Type 0) [
  | class.Component ↦ ⊥
  | class.Interface ↦ Unit {0}
]) e tt)

interface_named : (m : Elaboration) (name : List ℕ) (ps : List Par) (vs : List Value)
    → IsBuilt (record { made = m; name = name; class = class.Interface }) (interface_start name ps vs)
unfolding interface_start
interface_named m name ps vs = record {
  sort = refl;
  reset = λ component. never component;
  blocks = refl;
  few =
      omega arith;
}

-- ---- kinds

abbrev AreComponents : List MadeKind → Type 0
AreComponents ks = Each (λ (k : MadeKind). IsComponent k.kind) ks

finished_kind : (o : Origin) (f : Frame) → o.class ≡ class.Component → IsBuilt o f → IsComponent f.kind
finished_kind o f component is = record {
  reset = subst (λ (ss : List Signal). is_reset (slice_index_or ss 0 no_signal) ≡ true) (sym (is.reset component).1)
      refl;
  blocks_differ = is.blocks;
  few_instances = is.few;
}

building : Keeping
unfolding framing
building = record {
  Leads = λ m n. AreComponents m.kinds → AreComponents n.kinds;
  IsFine = λ m. AreComponents m.kinds;
  IsName = λ name. Nothing;
  IsParam = λ p. Nothing;
  IsType = λ m t. Nothing;
  IsValue = λ l m fr v. Nothing;
  IsItems = λ l m fr vs. Nothing;
  IsGlobal = λ m v. Nothing;
  IsFrame = λ o m f. IsBuilt o f;
  IsReady = λ o m f. IsBuilt o f;
  IsFields = λ m fs. Nothing;
  stays = λ m fine. fine;
  on = λ l m n first second fine. second (first fine);
  fine_on = λ m n leads is. leads is;
  type_on = λ m n t leads is. tt;
  value_on = λ l m n fr v leads is. tt;
  value_from = λ l m n fr v leads is. tt;
  global_on = λ m n v leads is. tt;
  frame_on = λ o m n f leads is. is;
  fields_on = λ m n fs leads is. tt;
  steps = λ m less fine. fine;
  ready = λ o m f less is. is;
  unready = λ o m f is. is;
  int_value = λ m fr n. tt;
  own_value = λ m fr. tt;
  const_value = λ m fr w constant. tt;
  class_value = λ m n. tt;
  param_value = λ m p is. tt;
  named_type = λ m name. anywhere _;
  global_value = λ m fr v is. tt;
  plain_value = λ l m fr v plain is. tt;
  local_value = λ o m f name is. anywhere _;
  rule_value = λ l k m fr t u first second. tt;
  block_value = λ o m f name is. anywhere _;
  attribute_value = λ o l m site name v fine frame is. any _;
  element_value = λ l m fr line v n is. any _;
  slice_value = λ l m fr line v lo hi is. any _;
  called_value = λ l m fr f line gs each. any _;
  items_none = λ m fr. tt;
  items_more = λ l m n fr vs v less leads items is. tt;
  items_value = λ l m fr vs is. tt;
  type_of_value = λ l m fr line v is. any _;
  kind_value = λ m fr name vs fine. anywhere _;
  component_frame = λ m name ps vs fine names each. component_named m name ps vs;
  interface_frame = λ m name ps vs fine names each. interface_named m name ps vs;
  interface_value = λ l m fr name f is. tt;
  assigned_frame = λ o m n to v line f leads fine ready aimed is.
      assigned_on (IsBuilt o) (λ f p line c. body_named o f p line c) (λ f name s there is. block_named o f name s
      there is) (λ f is. other o f _ refl refl refl refl is) (λ f name t s is. other o f _ refl refl refl refl
      is) (λ f line t u is. other o f _ refl refl refl refl is)
      (λ v. Nothing) (λ t. tt) (λ f name v good is. local_named
      o f name v is) (λ f name v good is. attribute_named o f name v is)
      n.kinds line (λ v at f good is. placed o _ f (places (framing o) n.kinds line (news o n.kinds line) v at f
      (fine_named o f is) (good_named o f v))) to v f tt ready;
  connected_frame = λ o k l m n a b line f leads fine ready first second.
      connected_on (IsBuilt o) (λ f line a b same is. other o f _ refl refl refl refl is) (λ f line part w is. other
      o f _ refl refl refl refl is) (λ f line c d same is. other o f _ refl refl refl refl is) (λ f line is.
      other o f _ refl refl refl refl is) n.kinds line a b f ready;
  lambda_frame = λ o m n v e line f leads ready is.
      lambda_on (IsBuilt o) (λ f p line c. body_named o f p line c) (λ f name s there is. block_named o f name s
      there is) (λ f is. other o f _ refl refl refl refl is) (λ f name t s is. other o f _ refl refl refl refl
      is) (λ f line t u is. other o f _ refl refl refl refl is)
      (λ v. Nothing) (λ t. tt) (λ f name v good is. local_named
      o f name v is) (λ f name v good is. attribute_named o f name v is) v e line f ready;
  state_frame = λ o m n to t v line f leads ready aimed type is.
      state_on (IsBuilt o) (λ f p line c. body_named o f p line c) (λ f name s there is. block_named o f name s
      there is) (λ f is. other o f _ refl refl refl refl is) (λ f name t s is. other o f _ refl refl refl refl
      is) (λ f line t u is. other o f _ refl refl refl refl is)
      (λ v. Nothing) (λ t. tt) (λ f name v good is. local_named
      o f name v is) (λ f name v good is. attribute_named o f name v is) to t v line f ready;
  constrained_frame = λ o m n gs line f leads ready each.
      constrained_on (IsBuilt o) (λ f p line c. body_named o f p line c) (λ f name s there is. block_named o f name
      s there is) (λ f is. other o f _ refl refl refl refl is) (λ f name t s is. other o f _ refl refl refl refl
      is) (λ f line t u is. other o f _ refl refl refl refl is)
      (λ v. Nothing) (λ t. tt) (λ f name v good is. local_named
      o f name v is) (λ f name v good is. attribute_named o f name v is) gs line f ready;
  block_frame = λ o m name s after below line f ready names.
      block_on (IsBuilt o) (λ f p line c. body_named o f p line c) (λ f name s there is. block_named o f name s
      there is) (λ f is. other o f _ refl refl refl refl is) (λ f name t s is. other o f _ refl refl refl refl
      is) (λ f line t u is. other o f _ refl refl refl refl is)
      (λ v. Nothing) (λ t. tt) (λ f name v good is. local_named
      o f name v is) (λ f name v good is. attribute_named o f name v is) name s after below line f ready;
  loop_frame = λ o m name n f is. local_named o f name (value.Int n) is;
  method_frame = λ o m name types g line nodes f made is names arguments result.
      method_on (IsBuilt o) (λ f p line c. body_named o f p line c) (λ f name s there is. block_named o f name s
      there is) (λ f is. other o f _ refl refl refl refl is) (λ f name t s is. other o f _ refl refl refl refl
      is) (λ f line t u is. other o f _ refl refl refl refl is)
      (λ v. Nothing) (λ t. tt) (λ f name v good is. local_named
      o f name v is) (λ f name v good is. attribute_named o f name v is) (λ f name types is. method_named o f name types is) name types g line nodes f is;
  kept = λ o m fr vs f made is each. (
    λ fine. each_more (λ (k : MadeKind). IsComponent k.kind) m.kinds _ fine
        (finished_kind o f made is, tt),
    tt,
  );
  fields_none = λ m. tt;
  fields_more = λ m line fs name t is type. any _;
  shape_kept = λ m name f fs is. (λ fine. fine, tt);
}

kind_is : (ks : List MadeKind) → AreComponents ks → (k : ℕ) → k < length (map (λ (made : MadeKind). made.kind) ks)
    → IsComponent (slice_index_or (map (λ (made : MadeKind). made.kind) ks) k no_kind)
kind_is [] each k less = absurd (omega (arith, less))
kind_is (c ∷ ks) each zero less = each.0
kind_is (c ∷ ks) each (suc k) less = kind_is ks each.1 k (omega (arith, less))

every_param : (ps : List Param) → Each (λ (p : Param). Nothing) ps
every_param [] = tt
every_param (p ∷ ps) = (tt, every_param ps)

built : (r : Checked ((Globals × ℕ) × Elaboration))
    → Runs building nothing_made r (λ x n. IsKind building nothing_made n x.1)
    → On (and_then r (λ x. Ok (design_of x.1 x.0.0 x.0.1))) (λ d. (k : ℕ) → k < length d.design.kinds
    → IsComponent (kind_of d.design k))
unfolding building
built (Ok x) run = kind_is x.1.kinds (run.keeps.0 tt)
built (Err e) run = tt

pub components : KindsAreComponents
unfolding building build
components nodes name params given is =
    subst (λ (r : Checked RawDesign). On r (λ d. (k : ℕ) → k < length d.design.kinds
    → IsComponent (kind_of d.design k))) is
    (built _ (build_runs building nodes name params tt (every_name (names_of nodes)) (every_param params)))
