-- How many signals, states and blocks a component has: no more than the steps that were taken for it.
use Rattle.std.proofs.Common.{◌≡◌, ◌+◌, ◌≤◌, ℕ, true, false, List, [], ◌∷◌, refl, sym, subst, ap, length, arith}
use Rattle.std.specs.Prelude.{Option, Some, None, Ok, Err, codes, bytes_eq, is_some}
use Rattle.pm_design.specs.declared.body.Block.{Block}
use Rattle.pm_design.specs.declared.body.BlockSort.{BlockSort}
use Rattle.pm_design.specs.declared.body.BlockSort.TheVariants as block
use Rattle.pm_design.specs.declared.design.Kind.{Kind}
use Rattle.pm_design.specs.declared.design.State.{State}
use Rattle.pm_design.specs.declared.signal.Signal.{Signal}
use Rattle.pm_syn.specs.declared.expression.Expr.{Expr}
use Rattle.pm_syn.specs.declared.statement.Node.{Node}
use Rattle.pm_syn.specs.declared.statement.Stmt.{Stmt}
use Rattle.pm_values.specs.declared.fault.BuildFault.TheVariants.{WrongKind, SameName, BadArguments}
use Rattle.pm_values.specs.declared.reference.ValueType.{ValueType}
use Rattle.pm_values.specs.declared.value.Member.{Member}
use Rattle.pm_values.specs.declared.value.Taken.{Taken}
use Rattle.pm_values.specs.declared.value.Taken.TheVariants as taken
use Rattle.pm_values.specs.declared.value.Value.{Value, Value-F, out-Value}
use Rattle.pm_values.specs.declared.value.Value.TheVariants as value
use Rattle.pm_values.specs.Tables.{Names, get, put}
use Rattle.pm_elab.specs.declared.body.BodyPlace.TheVariants as at
use Rattle.pm_elab.specs.declared.body.Code.{Code}
use Rattle.pm_elab.specs.declared.body.Code.TheVariants as code
use Rattle.pm_elab.specs.declared.body.MethodTypes.{MethodTypes}
use Rattle.pm_elab.specs.declared.call.Given.{Given}
use Rattle.pm_elab.specs.declared.class.ConstructedClass.{ConstructedClass}
use Rattle.pm_elab.specs.declared.class.ConstructedClass.TheVariants as class
use Rattle.pm_elab.specs.declared.elaboration.MadeKind.{MadeKind}
use Rattle.pm_elab.specs.declared.frame.Frame.{Frame}
use Rattle.pm_elab.specs.declared.frame.Local.{Local}
use Rattle.pm_elab.specs.declared.target.Target.{Target}
use Rattle.pm_elab.specs.declared.target.Target.TheVariants as target
use Rattle.pm_elab.specs.declared.elaboration.TheConstants.{MAX_STEPS}
use Rattle.pm_elab.specs.Connections.{connected}
use Rattle.pm_elab.specs.Constructs.{component_start, interface_start, locals_from}
use Rattle.pm_elab.specs.Placing.{whole_signal}
use Rattle.pm_elab.specs.Values.{bits_of}
use Rattle.pm_design.specs.declared.signal.Role.TheVariants.{Input}
use Rattle.pm_syn.specs.declared.statement.Par.{Par}
use Rattle.std.proofs.Common.{◌^◌}
use Rattle.pm_elab.specs.Elab.{Checked, and_then}
use Rattle.pm_elab.specs.Functions.{are_unnamed}
use Rattle.pm_elab.specs.Methods.{GuardLine, guard_put, method_added, named_method, method_set, is_used, method_put}
use Rattle.pm_elab.specs.Placing.{local_put, attribute_set, place, component_attribute, interface_member}
use Rattle.pm_elab.specs.Placing.{attribute_put_in, attribute_put, local_assigned, assigned}
use Rattle.pm_elab.specs.Statements.{has_block, body_put, block_set, block_put, block_def, body_nodes, lambda_name}
use Rattle.pm_elab.specs.Statements.{one_lambda_more, lambda_put, lambda_at, lambda_block, start_of, with_state}
use Rattle.pm_elab.specs.Statements.{state_set, state_named, state_to, state_put, rule_at, rule_put, rules_put}
use Rattle.pm_elab.specs.Statements.{constrained}
use Rattle.pm_elab.specs.Values.{is_settled, is_attribute, is_member}
use Rattle.pm_elab_laws.proofs.Changes.{if_so, unless_so}
use Rattle.pm_elab_laws.proofs.Framing.{chain}
use Rattle.pm_elab_laws.proofs.Joining.{in_either, connected_on}
use Rattle.pm_elab_laws.proofs.Keeping.{On, Each}
use Rattle.pm_elab_laws.proofs.MadeAttributes.{put_each}
use Rattle.pm_elab_laws.proofs.Named.{if_with}
use Rattle.pm_elab_laws.proofs.Places.{any}
use Rattle.pm_elab_laws.proofs.Weights.{weight, weight_taken, attribute_weight, put_weight, Gains, longer_by_one}
use Rattle.pm_elab_laws.proofs.Weights.{place_gains}

abbrev pub AreLight : Names Local → Type 0
AreLight locals = Each (λ (p : List ℕ × Local). weight p.1.value ≡ 0) locals

-- so many signals at most, with those that attributes bring, and so many states and blocks
pub record IsSized (signals states blocks : ℕ) (f : Frame) : Type 0 where
  pub few_signals : length f.kind.signals + attribute_weight f.raw.attributes ≤ signals
  pub few_states : length f.kind.states ≤ states
  pub few_blocks : length f.kind.blocks ≤ blocks
  pub locals : AreLight f.raw.locals

pub sized_more : (a b c x y z : ℕ) (f : Frame) → a ≤ x → b ≤ y → c ≤ z → IsSized a b c f → IsSized x y z f
sized_more a b c x y z f first second third is = record {
  few_signals = omega (arith, first, is.few_signals);
  few_states = omega (arith, second, is.few_states);
  few_blocks = omega (arith, third, is.few_blocks);
  locals = is.locals;
}

module _ (a b c : ℕ) where
  abbrev Sized : Frame → Type 0
  Sized = IsSized a b c

  sized_same : (f g : Frame) → f.kind.signals ≡ g.kind.signals → f.kind.states ≡ g.kind.states
      → f.kind.blocks ≡ g.kind.blocks → f.raw.attributes ≡ g.raw.attributes → f.raw.locals ≡ g.raw.locals
      → Sized f → Sized g
  sized_same f g signals states blocks attributes locals is =
      let first = ap (λ (ss : List Signal). length ss) signals in
      let second = ap (λ (ss : List State). length ss) states in
      let third = ap (λ (bs : List Block). length bs) blocks in
      let fourth = ap attribute_weight attributes in
      record {
        few_signals = omega (arith, first, fourth, is.few_signals);
        few_states = omega (arith, second, is.few_states);
        few_blocks = omega (arith, third, is.few_blocks);
        locals = subst AreLight locals is.locals;
      }

  taken_put : (f : Frame) (name : List ℕ) (t : Taken) → Sized f → Sized (attribute_set name (value.Taken t) f)
  unfolding attribute_set
  taken_put f name t is =
      let more = put_weight f.raw.attributes name (value.Taken t) in
      let none = weight_taken t in
      record {
        few_signals = omega (arith, more, none, is.few_signals);
        few_states = is.few_states;
        few_blocks =
            is.few_blocks;
        locals = is.locals;
      }

  pub local_sized : (f : Frame) (name : List ℕ) (v : Value) → weight v ≡ 0 → Sized f → Sized (local_put name v f)
  unfolding local_put
  local_sized f name v none is = record {
    few_signals = is.few_signals;
    few_states = is.few_states;
    few_blocks = is.few_blocks;
    locals = put_each (λ (l : Local). weight l.value ≡ 0) f.raw.locals name _ is.locals none;
  }

  rule_on : (line : ℕ) (f : Frame) (x : Value-F Value Member) → Sized f → On (rule_at line f x) Sized
  rule_on line f (Value-F.Rule t u) is = sized_same f _ refl refl refl refl refl is
  rule_on line f _ is = tt

  rules_on : (gs : List Given) (line : ℕ) (f : Frame) → Sized f → On (rules_put gs line f) Sized
  unfolding rules_put rule_put
  rules_on [] line f is = is
  rules_on (g ∷ gs) line f is = chain Sized Sized (rule_put g.value line f) _ (rule_on line f (out-Value g.value)
      is) (λ h more. rules_on gs line h more)

  pub constrained_sized : (gs : List Given) (line : ℕ) (f : Frame) → Sized f → On (constrained gs line f) Sized
  unfolding constrained
  constrained_sized gs line f is = if_so Sized (are_unnamed gs) (BadArguments line) _ (in_either Sized f.class line
      _ (rules_on gs line f is))

  pub connected_sized : (kinds : List MadeKind) (line : ℕ) (u v : Value) (f : Frame) → Sized f
      → On (connected kinds u v line f) Sized
  connected_sized kinds line u v f is =
      connected_on Sized (λ f line x y same is. sized_same f _ refl refl refl refl refl is) (λ f line part w is.
      sized_same f _ refl refl refl refl refl is)
      (λ f line x y same is. sized_same f _ refl refl refl refl refl is) (λ f line is. sized_same f _ refl refl refl
      refl refl is) kinds line u v f is

  guard_on : (n : ℕ) (g : Option GuardLine) (f : Frame) → Sized f → Sized (guard_put n g f)
  unfolding guard_put body_put
  guard_on n None f is = is
  guard_on n (Some g) f is = sized_same f _ refl refl refl refl refl is

  pub method_sized : (name : List ℕ) (t : MethodTypes) (g : Option GuardLine) (line : ℕ) (nodes : List Node)
      (f : Frame) → Sized f → On (method_put name t g line nodes f) Sized
  unfolding method_put method_set named_method method_added body_put
  method_sized name t g line nodes f is = unless_so Sized (is_used f name) (SameName line) (Ok (method_set name t g
      line nodes f))
      (sized_same (guard_put (length f.kind.methods) g (named_method name t f)) _ refl refl refl refl refl
      (guard_on (length f.kind.methods) g (named_method name t f)
      (taken_put (method_added name t f) name _ (sized_same f (method_added name t f) refl refl refl refl refl is))))

-- ---- what adds one

module _ (a b c : ℕ) where
  put_on : (name : List ℕ) (s : BlockSort) (line : ℕ) (x : Code) (f : Frame) → IsSized a b c f
      → On (block_put name s line x f) (IsSized a b (c + 1))
  unfolding block_put block_set body_put
  put_on name s line x f is =
      let size = longer_by_one f.kind.blocks (record { name = name; sort = s; body = []; temps = [] }) in
      unless_so (IsSized a b (c + 1)) (has_block f name) (SameName line)
      (Ok (body_put (at.Block (length f.kind.blocks)) line x (block_set name s f))) (record {
        few_signals = is.few_signals;
        few_states = is.few_states;
        few_blocks = omega (arith, size, is.few_blocks);
        locals = is.locals;
      })

  pub block_sized : (name : List ℕ) (s : BlockSort) (after : Option Stmt) (below : List Node) (line : ℕ) (f : Frame)
      → IsSized a b c f → On (block_def name s after below line f) (IsSized a b (c + 1))
  unfolding block_def
  block_sized name s after below line f is = in_either (IsSized a b (c + 1)) f.class line _ (put_on name s line
      (code.Statements (body_nodes after below line)) f is)

  lambda_at_on : (e : Expr) (line : ℕ) (f : Frame) (v : Value-F Value Member) → IsSized a b c f
      → On (lambda_at e line f v) (IsSized a b (c + 1))
  unfolding lambda_put
  lambda_at_on e line f (Value-F.Taken (taken.Signal r)) is =
      chain (IsSized a b (c + 1)) (IsSized a b (c + 1)) (block_put (lambda_name f.lambdas) block.Update line
      (code.Lambda r e) f) _
      (put_on (lambda_name f.lambdas) block.Update line (code.Lambda r e) f is) (λ g more. sized_same a b (c + 1) g
      (one_lambda_more g) refl refl refl refl refl more)
  lambda_at_on e line f _ is = tt

  pub lambda_sized : (v : Value) (e : Expr) (line : ℕ) (f : Frame) → IsSized a b c f
      → On (lambda_block v e line f) (IsSized a b (c + 1))
  unfolding lambda_block
  lambda_sized v e line f is = in_either (IsSized a b (c + 1)) f.class line _ (lambda_at_on e line f (out-Value v) is)

  state_at_on : (name : List ℕ) (t : ValueType) (v : Value) (line : ℕ) (f : Frame) → IsSized a b c f
      → On (state_named name t v line f) (IsSized a (b + 1) c)
  unfolding state_named state_set
  state_at_on name t v line f is = unless_so (IsSized a (b + 1) c) (bytes_eq name (codes "clk")) (WrongKind line) _
      (chain (λ _. Unit {0}) (IsSized a (b + 1) c) (start_of line t.width v) _ (any (start_of line t.width v)) (λ s _.
      unless_so (IsSized a (b + 1) c) (is_some (get f.raw.attributes name)) (SameName line) (Ok (state_set name t s f))
      (taken_put a (b + 1) c (with_state f name t s) name _ (record {
        few_signals = is.few_signals;
        few_states = omega (
          arith,
          longer_by_one f.kind.states (record {
            name = name;
            width = t.width;
            maxlen =
                s.maxlen;
            start = s.value;
          }),
          is.few_states,
        );
        few_blocks = is.few_blocks;
        locals = is.locals;
      }))))

  state_to_on : (to : Target) (t : ValueType) (v : Value) (line : ℕ) (f : Frame) → IsSized a b c f
      → On (state_to to t v line f) (IsSized a (b + 1) c)
  state_to_on (target.Attribute name) t v line f is = state_at_on name t v line f is
  state_to_on (target.Local name) t v line f is = tt
  state_to_on target.Other t v line f is = tt

  pub state_sized : (to : Target) (t : ValueType) (v : Value) (line : ℕ) (f : Frame) → IsSized a b c f
      → On (state_put to t v line f) (IsSized a (b + 1) c)
  unfolding state_put
  state_sized to t v line f is = in_either (IsSized a (b + 1) c) f.class line _ (state_to_on to t v line f is)

  -- an attribute, whose own weight is that of the value once it is placed
  module _ (kinds : List MadeKind) (line : ℕ) (v : Value) where
    abbrev More : Frame → Type 0
    More = IsSized (a + weight v) b c

    gained : (f g : Frame) (name : List ℕ) (u : Value) → weight u ≡ 0 → Gains (weight v) f g → IsSized a b c f
        → More (attribute_set name u g)
    unfolding attribute_set
    gained f g name u none gains is =
        let more = put_weight g.raw.attributes name u in
        let same = ap attribute_weight gains.raw in
        let states = ap (λ (ss : List State). length ss) gains.states in
        let blocks = ap (λ (bs : List Block). length bs) gains.blocks in
        record {
          few_signals = omega (arith, more, same, none, gains.signals, is.few_signals);
          few_states = omega (arith, states, is.few_states);
          few_blocks = omega (arith, blocks, is.few_blocks);
          locals = subst AreLight (sym gains.locals) is.locals;
        }

    brought : (f : Frame) (name : List ℕ) → IsSized a b c f → More (attribute_set name v f)
    unfolding attribute_set
    brought f name is =
        let more = put_weight f.raw.attributes name v in
        record {
          few_signals = omega (arith, more, is.few_signals);
          few_states = is.few_states;
          few_blocks =
              is.few_blocks;
          locals = is.locals;
        }

    component_on : (name : List ℕ) (f : Frame) → IsSized a b c f → (is_attribute v ≡ true
        → On (place v kinds name line f) (λ r. weight r.1 ≡ 0)) → On (component_attribute kinds name v line f) More
    unfolding component_attribute
    component_on name f is lights = unless_so More (bytes_eq name (codes "clk")) (WrongKind line) _ (if_with More
        (is_attribute v) (WrongKind line) _ (λ sort.
        unless_so More (is_some (get f.raw.attributes name)) (SameName line) _
        (next (place v kinds name line f) (place_gains kinds line v name f) (lights sort))))
      where
        next : (r : Checked (Frame × Value)) → On r (λ r. Gains (weight v) f r.0) → On r (λ r. weight r.1 ≡ 0)
            → On (and_then r (λ r. Ok (attribute_set name r.1 r.0))) More
        next (Ok r) gains none = gained f r.0 name r.1 none gains is
        next (Err e) gains none = tt

    interface_on : (name : List ℕ) (f : Frame) → IsSized a b c f → On (interface_member name v line f) More
    unfolding interface_member
    interface_on name f is = if_so More (is_member v) (WrongKind line) _ (unless_so More
        (is_some (get f.raw.attributes name)) (SameName line) (Ok (attribute_set name v f)) (brought f name is))

    pub assigned_sized : (to : Target) (f : Frame) → IsSized a b c f → (is_settled v ≡ true → weight v ≡ 0)
        → ((name : List ℕ) → f.class ≡ class.Component → is_attribute v ≡ true
        → On (place v kinds name line f) (λ r. weight r.1 ≡ 0)) → On (assigned to kinds v line f) More
    unfolding assigned attribute_put local_assigned
    assigned_sized (target.Local name) f is settled lights = if_with More (is_settled v) (WrongKind line)
        (Ok (local_put name v f)) (λ sort.
        local_sized (a + weight v) b c f name v (settled sort) (sized_more a b c (a + weight v) b c f (omega arith)
        (omega arith) (omega arith) is))
    assigned_sized target.Other f is settled lights = tt
    assigned_sized (target.Attribute name) f is settled lights = by f.class refl
      where
        by : (s : ConstructedClass) → f.class ≡ s → On (attribute_put_in s kinds name v line f) More
        by class.Component same = component_on name f is (lights name same)
        by class.Interface same = interface_on name f is

-- ---- sizes by steps

-- sizes by the steps that were taken from the first to the second number of them
pub record HasSizes (start now : ℕ) (f : Frame) : Type 0 where
  pub signals : ℕ
  pub states : ℕ
  pub blocks : ℕ
  pub sized : IsSized signals states blocks f
  pub signals_within : start + signals ≤ now + 1
  pub states_within : start + states ≤ now
  pub blocks_within : start + blocks ≤ now

pub sizes_on : (start n m : ℕ) (f : Frame) → n ≤ m → HasSizes start n f → HasSizes start m f
sizes_on start n m f le is = record {
  signals = is.signals;
  states = is.states;
  blocks = is.blocks;
  sized = is.sized;
  signals_within = omega (arith, le, is.signals_within);
  states_within = omega (arith, le, is.states_within);
  blocks_within = omega (arith, le, is.blocks_within);
}

-- sizes by the steps before the one that was taken last
pub record WasSized (start now : ℕ) (f : Frame) : Type 0 where
  pub before : ℕ
  pub earlier : before + 1 ≤ now
  pub sizes : HasSizes start before f

-- an answer of the same sizes, of one block or state more, or of so many signals more
pub sizes_kept : (start n m : ℕ) (r : Checked Frame) (a b c : ℕ) → start + a ≤ n + 1 → start + b ≤ n → start + c ≤ n
    → n ≤ m → On r (IsSized a b c) → On r (HasSizes start m)
sizes_kept start n m (Ok f) a b c first second third le is = record {
  signals = a;
  states = b;
  blocks = c;
  sized = is;
  signals_within = omega (arith, first, le);
  states_within = omega (arith, second, le);
  blocks_within = omega (arith, third, le);
}
sizes_kept start n m (Err e) a b c first second third le is = tt

light_locals : (ps : List Par) (vs : List Value) (names : Names Local) → AreLight names
    → Each (λ (v : Value). weight v ≡ 0) vs → AreLight (locals_from names ps vs)
light_locals [] vs names first second = first
light_locals (p ∷ ps) [] names first second = first
light_locals (p ∷ ps) (v ∷ vs) names first second =
    light_locals ps vs (put names p.name (record { value = v; reassigned = false })) (put_each (λ (l : Local).
    weight l.value ≡ 0) names p.name (record { value = v; reassigned = false }) first second.0) second.1

pub component_sized : (start : ℕ) (name : List ℕ) (ps : List Par) (vs : List Value)
    → Each (λ (v : Value). weight v ≡ 0) vs → HasSizes start start (component_start name ps vs)
unfolding component_start
component_sized start name ps vs each =
    let none = weight_taken (taken.Signal (whole_signal 0 Input (bits_of 1))) in
    record {
      signals = 1;
      states = 0;
      blocks = 0;
      sized = record {
        few_signals = omega (arith, none);
        few_states = omega arith;
        few_blocks = omega arith;
        locals
            = light_locals ps vs [] tt each;
      };
      signals_within = omega arith;
      states_within = omega arith;
      blocks_within = omega arith;
    }

pub interface_sized : (start : ℕ) (name : List ℕ) (ps : List Par) (vs : List Value)
    → Each (λ (v : Value). weight v ≡ 0) vs → HasSizes start start (interface_start name ps vs)
unfolding interface_start
interface_sized start name ps vs each = record {
  signals = 0;
  states = 0;
  blocks = 0;
  sized = record {
    few_signals = omega arith;
    few_states = omega arith;
    few_blocks = omega arith;
    locals =
        light_locals ps vs [] tt each;
  };
  signals_within = omega arith;
  states_within = omega arith;
  blocks_within = omega arith;
}

-- a kind that was made is within the sizes of a design
pub record IsKindSized (kind : Kind) : Type 0 where
  pub signals : length kind.signals ≤ 2 ^ 21
  pub states : length kind.states ≤ 2 ^ 20
  pub blocks : length kind.blocks ≤ 2 ^ 20

pub kind_sized : (start now : ℕ) (f : Frame) → now ≤ MAX_STEPS → HasSizes start now f → IsKindSized f.kind
kind_sized start now f within is = record {
  signals = omega (arith, within, is.signals_within, is.sized.few_signals);
  states = omega (arith, within, is.states_within, is.sized.few_states);
  blocks = omega (arith, within, is.blocks_within, is.sized.few_blocks);
}
