-- How many signals a value brings, and how many a component has.
use Rattle.std.proofs.Common.{◌≡◌, ◌∙◌, ◌+◌, ◌≤◌, ◌&&◌, ℕ, zero, suc, ℤ, Bool, true, false, List, [], ◌∷◌, ◌++◌, refl}
use Rattle.std.proofs.Common.{sym, subst, map, ap, ap₂, length, arith}
use Rattle.std.specs.Prelude.{Option, Some, None, Ok, Err, bytes_eq, codes, slice_get, pos, negsuc, nat_le}
use Rattle.std.specs.Prelude.{if◌then◌else◌}
use Rattle.std.specs.List.{list_all}
use Rattle.std.proofs.lemmas.Bool.{and_parts}
use Rattle.pm_bits.specs.Word.{Word}
use Rattle.pm_design.specs.declared.connection.Callee.{Callee}
use Rattle.pm_design.specs.declared.connection.Callee.TheVariants as callee
use Rattle.pm_design.specs.declared.connection.Part.{Part}
use Rattle.pm_design.specs.declared.connection.Term.{Term}
use Rattle.pm_design.specs.declared.connection.Term.TheVariants as term
use Rattle.pm_design.specs.declared.signal.Role.{Role}
use Rattle.pm_design.specs.declared.signal.Role.TheVariants.{Input, Output, Inner}
use Rattle.pm_design.specs.Widths.{total}
use Rattle.pm_values.specs.declared.fault.BuildFault.TheVariants.{IntRange, TooManyInstances}
use Rattle.pm_values.specs.declared.reference.ValueType.{ValueType}
use Rattle.pm_values.specs.declared.value.Member.{Member, Member-F, fold-Member, fold_out-Member}
use Rattle.pm_values.specs.declared.value.New.{New}
use Rattle.pm_values.specs.declared.value.New.TheVariants as new
use Rattle.pm_values.specs.declared.value.Taken.{Taken}
use Rattle.pm_values.specs.declared.value.Taken.TheVariants as taken
use Rattle.pm_values.specs.declared.value.Value.{Value, Value-F, fold-Value, fold-roll-Value, roll-Value, out-Value}
use Rattle.pm_values.specs.declared.value.Value.{roll-out-Value}
use Rattle.pm_values.specs.declared.value.Value.TheFolds.{map-Value}
use Rattle.pm_values.specs.declared.value.Value.TheVariants as value
use Rattle.pm_values.specs.Integers.{ceiling_log}
use Rattle.pm_values.specs.Tables.{Names, put}
use Rattle.pm_elab.specs.declared.call.Given.{Given}
use Rattle.pm_elab.specs.declared.elaboration.MadeKind.{MadeKind}
use Rattle.pm_elab.specs.declared.elaboration.TheConstants.{MAX_INSTANCES}
use Rattle.pm_elab.specs.declared.frame.Frame.{Frame}
use Rattle.pm_elab.specs.declared.function.Function.{Function}
use Rattle.pm_elab.specs.declared.function.Function.TheVariants as function
use Rattle.pm_elab.specs.Attributes.{bit, bits_between, element_at, element, slice_at, slice, signal_value, far_value}
use Rattle.pm_elab.specs.Elab.{Checked, and_then, or_else}
use Rattle.pm_elab.specs.Functions.{called, only, both, signal_of, new_signal, make_bits, number, ceiling_log_of}
use Rattle.pm_elab.specs.Functions.{length_in, length_of, only_named, maxlen_in, deque_of, new_deque, name_either}
use Rattle.pm_elab.specs.Functions.{type_given, new_caller, method_of, callee_at, callee_of, new_callee, bits_term_at}
use Rattle.pm_elab.specs.Functions.{readers_of, readers_term, writers_of, writers_term, callers_at, callers_of}
use Rattle.pm_elab.specs.Functions.{callers_term, no_block, no_value}
use Rattle.pm_elab.specs.Placing.{Placing, MemberPlacing, element_name, member_name, instances_in, with_child}
use Rattle.pm_elab.specs.Placing.{place_new, place_signal, place_child, place_caller, place_items, place_members}
use Rattle.pm_elab.specs.Placing.{placing_of, member_placing, place, place_member}
use Rattle.pm_elab.specs.Values.{int, list, item, bits_of_width, signal_type, is_settled, settled_of, member_sort}
use Rattle.pm_values.specs.declared.reference.Reference.{Reference}
use Rattle.pm_elab_laws.proofs.Changes.{if_so}
use Rattle.pm_elab_laws.proofs.Framing.{chain}
use Rattle.pm_elab_laws.proofs.Keeping.{On, Each, Where}
use Rattle.pm_elab_laws.proofs.Moves.{with_each}
use Rattle.pm_elab_laws.proofs.Places.{found}
use Rattle.pm_elab_laws.proofs.Tests.{Parts, each_value, Level, free, fresh, held, plain, Tests, Good, GoodLayer}
use Rattle.pm_elab_laws.proofs.Tests.{GoodMember, never, opened_layer}
use Rattle.pm_elab_laws.proofs.Tests.{element as before_attribute}

-- the new signals of a value
abbrev pub new_weight : New → ℕ
new_weight (new.Signal role t) = 1
new_weight _ = 0

abbrev pub weight_of : Value-F ℕ ℕ → ℕ
weight_of (Value-F.New n) = new_weight n
weight_of (Value-F.NewInterface ns) = total ns
weight_of (Value-F.Interface ns) = total ns
weight_of (Value-F.Items ns) = total ns
weight_of _ = 0

abbrev pub member_weight_of : Member-F ℕ ℕ → ℕ
member_weight_of m = m.value

unfoldable pub weight : Value → ℕ
weight = fold-Value ℕ ℕ weight_of member_weight_of

abbrev pub member_weight : Member → ℕ
member_weight = fold-Member ℕ ℕ weight_of member_weight_of

rolled : (x : Value-F Value Member) → weight (roll-Value x) ≡ weight_of (map-Value Value Member ℕ ℕ weight
    member_weight x)
unfolding weight
rolled x = fold-roll-Value ℕ ℕ weight_of member_weight_of x

member_is : (m : Member) → member_weight m ≡ weight m.value
unfolding weight
member_is m = fold_out-Member ℕ ℕ weight_of member_weight_of m

members_are : (ms : List Member) → map member_weight ms ≡ map (λ (m : Member). weight m.value) ms
members_are [] = refl
members_are (m ∷ ms) = ap₂ (λ (n : ℕ) (ns : List ℕ). n ∷ ns) (member_is m) (members_are ms)

pub weight_items : (vs : List Value) → weight (value.Items vs) ≡ total (map weight vs)
weight_items vs = ap weight (sym (value.rolls-Items vs)) ∙ rolled (Value-F.Items vs)

pub weight_news : (ms : List Member) → weight (value.NewInterface ms) ≡ total (map (λ (m : Member). weight m.value) ms)
weight_news ms = ap weight (sym (value.rolls-NewInterface ms)) ∙ (rolled (Value-F.NewInterface ms) ∙ ap total
    (members_are ms))

pub weight_new : (n : New) → weight (value.New n) ≡ new_weight n
weight_new n = ap weight (sym (value.rolls-New n)) ∙ rolled (Value-F.New n)

pub weight_taken : (t : Taken) → weight (value.Taken t) ≡ 0
weight_taken t = ap weight (sym (value.rolls-Taken t)) ∙ rolled (Value-F.Taken t)

pub weight_int : (i : ℤ) → weight (value.Int i) ≡ 0
weight_int i = ap weight (sym (value.rolls-Int i)) ∙ rolled (Value-F.Int i)

pub weight_own : weight value.Own ≡ 0
weight_own = ap weight (sym value.rolls-Own) ∙ rolled Value-F.Own

pub weight_term : (t : Term) → weight (value.Term t) ≡ 0
weight_term t = ap weight (sym (value.rolls-Term t)) ∙ rolled (Value-F.Term t)

pub weight_rule : (t u : Term) → weight (value.Rule t u) ≡ 0
weight_rule t u = ap weight (sym (value.rolls-Rule t u)) ∙ rolled (Value-F.Rule t u)

weight_type : (t : ValueType) → weight (value.Type t) ≡ 0
weight_type t = ap weight (sym (value.rolls-Type t)) ∙ rolled (Value-F.Type t)

pub weight_const : (w : Word) → weight (value.Const w) ≡ 0
weight_const w = ap weight (sym (value.rolls-Const w)) ∙ rolled (Value-F.Const w)

-- ---- values that bring none

none_total : {A : Type 0} (w : A → ℕ) (xs : List A) → Each (λ a. w a ≡ 0) xs → total (map w xs) ≡ 0
none_total w [] each = refl
none_total w (x ∷ xs) each = let here = each.0 in let rest = none_total w xs each.1 in omega (arith, here, rest)

abbrev is_light : Level → Bool
is_light held = true
is_light plain = true
is_light _ = false

module _ (k : Tests) where
  abbrev Light : Value → Type 0
  Light v = (l : Level) → is_light l ≡ true → Good k l v → weight v ≡ 0

  light_members : (ms : List Member) → Each (λ (m : Member). Light m.value) ms → Each (GoodMember k held) ms
      → Each (λ (m : Member). weight m.value ≡ 0) ms
  light_members ms parts each = with_each (λ (m : Member). Light m.value) (GoodMember k held) (λ (m : Member).
      weight m.value ≡ 0) ms (λ m light good. light held refl good) parts each

  light_layer : (x : Value-F Value Member) → Parts Light x → (l : Level) → is_light l ≡ true → GoodLayer k l x
      → weight_of (map-Value Value Member ℕ ℕ weight member_weight x) ≡ 0
  light_layer (Value-F.New n) parts free lt is = never lt
  light_layer (Value-F.New n) parts before_attribute lt is = never lt
  light_layer (Value-F.New n) parts fresh lt is = never lt
  light_layer (Value-F.New n) parts held lt is = never is
  light_layer (Value-F.New n) parts plain lt is = never is
  light_layer (Value-F.NewInterface ms) parts free lt is = never lt
  light_layer (Value-F.NewInterface ms) parts before_attribute lt is = never lt
  light_layer (Value-F.NewInterface ms) parts fresh lt is = never lt
  light_layer (Value-F.NewInterface ms) parts held lt is = absurd is
  light_layer (Value-F.NewInterface ms) parts plain lt is = absurd is
  light_layer (Value-F.Interface ms) parts free lt is = never lt
  light_layer (Value-F.Interface ms) parts before_attribute lt is = never lt
  light_layer (Value-F.Interface ms) parts fresh lt is = never lt
  light_layer (Value-F.Interface ms) parts held lt is = ap total (members_are ms) ∙ none_total (λ (m : Member).
      weight m.value) ms (light_members ms parts is.1)
  light_layer (Value-F.Interface ms) parts plain lt is = absurd is
  light_layer (Value-F.Items vs) parts l lt is = none_total weight vs (with_each Light (Good k l) (λ (v : Value).
      weight v ≡ 0) vs (λ v light good. light l lt good) parts is.1)
  light_layer (Value-F.Int i) parts l lt is = refl
  light_layer (Value-F.Type t) parts l lt is = refl
  light_layer (Value-F.Const w) parts l lt is = refl
  light_layer (Value-F.Class n) parts l lt is = refl
  light_layer Value-F.Own parts l lt is = refl
  light_layer (Value-F.Taken t) parts l lt is = refl
  light_layer (Value-F.Term t) parts l lt is = refl
  light_layer (Value-F.Rule t u) parts l lt is = refl

  light : (v : Value) → Light v
  light v = each_value Light (λ x parts l lt is. rolled x ∙ light_layer x parts l lt (opened_layer k x l is)) v

  pub held_weight : (v : Value) → Good k held v → weight v ≡ 0
  held_weight v is = light v held refl is

  pub plain_weight : (v : Value) → Good k plain v → weight v ≡ 0
  plain_weight v is = light v plain refl is

  -- what a name of `construct` may stand for
  abbrev Settled : Value → Type 0
  Settled v = is_settled v ≡ true → Good k free v → weight v ≡ 0

  each_settled : (vs : List Value) → list_all (λ b. b) (map (fold-Value Bool Bool settled_of member_sort) vs) ≡ true
      → Each (λ (v : Value). fold-Value Bool Bool settled_of member_sort v ≡ true) vs
  each_settled [] all = tt
  each_settled (v ∷ vs) all =
      let parts = and_parts (fold-Value Bool Bool settled_of member_sort v) (list_all (λ b. b)
      (map (fold-Value Bool Bool settled_of member_sort) vs)) all in (parts.0, each_settled vs parts.1)

  settled_layer : (x : Value-F Value Member) → Parts Settled x
      → settled_of (map-Value Value Member Bool Bool (fold-Value Bool Bool settled_of member_sort) (fold-Member Bool
      Bool settled_of member_sort) x) ≡ true
      → GoodLayer k free x → weight_of (map-Value Value Member ℕ ℕ weight member_weight x) ≡ 0
  unfolding is_settled
  settled_layer (Value-F.New n) parts sort is = never sort
  settled_layer (Value-F.NewInterface ms) parts sort is = never sort
  settled_layer (Value-F.Term t) parts sort is = refl
  settled_layer (Value-F.Rule t u) parts sort is = refl
  settled_layer (Value-F.Items vs) parts sort is = none_total weight vs
      (with_each (λ (v : Value). Good k free v × (is_settled v ≡ true)) Settled (λ (v : Value). weight v ≡ 0) vs
      (λ v both next. next both.1 both.0)
      (with_each (Good k free) (λ (v : Value). is_settled v ≡ true) (λ (v : Value). Good k free v × (is_settled v ≡
      true)) vs (λ v a b. (a, b)) is.1 (each_settled vs sort)) parts)
  settled_layer (Value-F.Interface ms) parts sort is =
      ap total (members_are ms) ∙ none_total (λ (m : Member). weight m.value) ms
      (with_each (GoodMember k held) (GoodMember k held) (λ (m : Member). weight m.value ≡ 0) ms (λ m good _.
      held_weight m.value good) is.1 is.1)
  settled_layer (Value-F.Int i) parts sort is = refl
  settled_layer (Value-F.Type t) parts sort is = refl
  settled_layer (Value-F.Const w) parts sort is = refl
  settled_layer (Value-F.Class n) parts sort is = refl
  settled_layer Value-F.Own parts sort is = refl
  settled_layer (Value-F.Taken t) parts sort is = refl

  pub settled_weight : (v : Value) → is_settled v ≡ true → Good k free v → weight v ≡ 0
  unfolding is_settled
  settled_weight v = each_value Settled (λ x parts sort is. rolled x
      ∙ settled_layer x parts (sym (fold-roll-Value Bool Bool settled_of member_sort x) ∙ sort) (opened_layer k x
      free is)) v

-- ---- elements, slices and functions

abbrev pub Brings : ℕ → Value → Type 0
Brings n v = weight v ≤ n

item_weight : (vs : List Value) (i : ℕ) → Where (Brings (total (map weight vs))) (slice_get vs i)
item_weight [] zero = tt
item_weight [] (suc i) = tt
item_weight (v ∷ vs) zero = omega arith
item_weight (v ∷ vs) (suc i) = by (slice_get vs i) (item_weight vs i)
  where
    by : (x : Option Value) → Where (Brings (total (map weight vs))) x
        → Where (Brings (weight v + total (map weight vs))) x
    by None is = tt
    by (Some u) is = omega (arith, is)

taken_brings : (t : Taken) (n : ℕ) → Brings n (value.Taken t)
taken_brings t n = let none = weight_taken t in omega (arith, none)

signal_brings : (r : Checked Reference) (n : ℕ) → On (and_then r signal_value) (Brings n)
signal_brings (Ok r) n = taken_brings (taken.Signal r) n
signal_brings (Err e) n = tt

far_brings : (r : Checked Reference) (n : ℕ) → On (and_then r far_value) (Brings n)
far_brings (Ok r) n = taken_brings (taken.FarSignal r) n
far_brings (Err e) n = tt

item_on : (line : ℕ) (vs : List Value) (i : ℤ) → On (item line vs i) (Brings (total (map weight vs)))
unfolding item
item_on line vs (pos i) = found (Brings (total (map weight vs))) (slice_get vs i) (IntRange line) (item_weight vs i)
item_on line vs (negsuc i) = tt

element_by : (line : ℕ) (i : ℤ) (x : Value-F Value Member) → On (element_at line i x) (Brings (weight (roll-Value x)))
element_by line i (Value-F.Items vs) = subst (λ (n : ℕ). On (item line vs i) (Brings n))
    (sym (rolled (Value-F.Items vs))) (item_on line vs i)
element_by line i (Value-F.Taken (taken.Signal r)) = signal_brings (bit line r i) _
element_by line i (Value-F.Taken (taken.FarSignal r)) = far_brings (bit line r i) _
element_by line i _ = tt

pub element_brings : (line : ℕ) (v : Value) (i : ℤ) → On (element line v i) (Brings (weight v))
unfolding element
element_brings line v i = subst (λ (u : Value). On (element_at line i (out-Value v)) (Brings (weight u)))
    (roll-out-Value v) (element_by line i (out-Value v))

slice_by : (line : ℕ) (lo hi : ℤ) (n : ℕ) (x : Value-F Value Member) → On (slice_at line lo hi x) (Brings n)
slice_by line lo hi n (Value-F.Taken (taken.Signal r)) = signal_brings (bits_between line r lo hi) n
slice_by line lo hi n (Value-F.Taken (taken.FarSignal r)) = far_brings (bits_between line r lo hi) n
slice_by line lo hi n _ = tt

pub slice_brings : (line : ℕ) (v : Value) (lo hi : ℤ) (n : ℕ) → On (slice line v lo hi) (Brings n)
unfolding slice
slice_brings line v lo hi n = slice_by line lo hi n (out-Value v)

next : {A : Type 0} (r : Checked A) (f : A → Checked Value) → ((a : A) → On (f a) (Brings 1))
    → On (and_then r f) (Brings 1)
next (Ok a) f each = each a
next (Err e) f each = tt

new_brings : (n : New) → Brings 1 (value.New n)
new_brings (new.Signal role t) = let same = weight_new (new.Signal role t) in omega (arith, same)
new_brings (new.Child c) = let same = weight_new (new.Child c) in omega (arith, same)
new_brings (new.Deque d) = let same = weight_new (new.Deque d) in omega (arith, same)
new_brings (new.Caller c) = let same = weight_new (new.Caller c) in omega (arith, same)
new_brings (new.Callee c) = let same = weight_new (new.Callee c) in omega (arith, same)

int_brings : (i : ℤ) → Brings 1 (value.Int i)
int_brings i = let same = weight_int i in omega (arith, same)

term_brings : (t : Term) → Brings 1 (value.Term t)
term_brings t = let same = weight_term t in omega (arith, same)

type_brings : (t : ValueType) → Brings 1 (value.Type t)
type_brings t = let same = weight_type t in omega (arith, same)

signals : (role : Role) (line : ℕ) (gs : List Given) → On (new_signal role line gs) (Brings 1)
unfolding new_signal
signals role line [] = new_brings (new.Signal role _)
signals role line (g ∷ gs) = next (only line (g ∷ gs)) _ (λ v. next (signal_type line v) (signal_of role)
    (λ t. new_brings (new.Signal role t)))

deques : (line : ℕ) (i : ℤ) → On (maxlen_in line i) (Brings 1)
deques line (pos d) = if_so (Brings 1) (nat_le 1 d && nat_le d 64) (IntRange line) (Ok (value.New (new.Deque d)))
    (new_brings (new.Deque d))
deques line (negsuc d) = tt

methods : (line : ℕ) (c : Callee) → On (method_of line c) (Brings 1)
methods line (callee.Own m) = new_brings (new.Callee (callee.Own m))
methods line (callee.Child k m) = new_brings (new.Callee (callee.Child k m))
methods line (callee.Port p) = tt
methods line (callee.ChildPort k p) = tt

callees : (line : ℕ) (v : Value-F Value Member) → On (callee_at line v) (Brings 1)
callees line (Value-F.Taken (taken.Method c)) = methods line c
callees line _ = tt

bits : (blocks : Part → Term) (line : ℕ) (v : Value-F Value Member) → On (bits_term_at blocks line v) (Brings 1)
bits blocks line (Value-F.Taken (taken.Signal r)) = term_brings (blocks r.part)
bits blocks line (Value-F.Taken (taken.State s)) = term_brings term.Wrong
bits blocks line (Value-F.Taken taken.FarState) = term_brings term.Wrong
bits blocks line _ = tt

calls : (line : ℕ) (v : Value-F Value Member) → On (callers_at line v) (Brings 1)
calls line (Value-F.Taken (taken.Method c)) = term_brings (term.Calls c)
calls line _ = tt

-- a function brings one signal at most
pub called_brings : (f : Function) (line : ℕ) (gs : List Given) → On (called f line gs) (Brings 1)
unfolding called make_bits ceiling_log_of length_of length_in new_deque deque_of new_caller new_callee callee_of
    readers_term readers_of writers_term writers_of callers_term callers_of no_block no_value
called_brings function.InPort line gs = signals Input line gs
called_brings function.OutPort line gs = signals Output line gs
called_brings function.Wire line gs = signals Inner line gs
called_brings function.MakeBits line gs = next (only line gs) _ (λ v. next (int line v) _ (λ i. next (bits_of_width
    line i) _ type_brings))
called_brings function.CeilingLog line gs = next (only line gs) _ (λ v. next (int line v) _
    (λ i. next (or_else (ceiling_log i) (IntRange line)) number (λ l. int_brings (pos l))))
called_brings function.Length line gs = next (only line gs) _ (λ v. next (list line v) _ (λ vs. int_brings
    (pos (length vs))))
called_brings function.Connect line gs = next (both line gs) _ (λ vs. tt)
called_brings function.Deque line gs = next (only_named line (codes "maxlen") gs) _ (λ v. next (int line v) _
    (deques line))
called_brings function.CallerPort line gs = if_so (Brings 1) (name_either (codes "Type") (codes "RetType") gs) _ _
    (next (type_given line (codes "Type") gs) _ (λ t. next (type_given line (codes "RetType") gs) _ (λ r. new_brings
    (new.Caller (record { argument = t; result = r })))))
called_brings function.CalleePort line gs = next (only_named line (codes "method") gs) _ (λ v. callees line
    (out-Value v))
called_brings function.Block line gs = next (only line gs) _ (λ v. tt)
called_brings function.Readers line gs = next (only line gs) _ (λ v. bits term.Reads line (out-Value v))
called_brings function.Writers line gs = next (only line gs) _ (λ v. bits term.Writes line (out-Value v))
called_brings function.Callers line gs = next (only line gs) _ (λ v. calls line (out-Value v))

-- ---- placing

-- a frame with so many signals more
pub record Gains (n : ℕ) (f g : Frame) : Type 0 where
  pub signals : length g.kind.signals ≤ length f.kind.signals + n
  pub states : g.kind.states ≡ f.kind.states
  pub blocks : g.kind.blocks ≡ f.kind.blocks
  pub raw : g.raw.attributes ≡ f.raw.attributes
  pub locals : g.raw.locals ≡ f.raw.locals

none_gained : (n : ℕ) (f : Frame) → Gains n f f
none_gained n f = record { signals = omega arith; states = refl; blocks = refl; raw = refl; locals = refl }

gained_on : (a b : ℕ) (f g h : Frame) → Gains a f g → Gains b g h → Gains (a + b) f h
gained_on a b f g h first second = record {
  signals = omega (arith, first.signals, second.signals);
  states = second.states ∙ first.states;
  blocks = second.blocks ∙ first.blocks;
  raw = second.raw ∙ first.raw;
  locals = second.locals ∙ first.locals;
}

pub longer_by_one : {A : Type 0} (xs : List A) (x : A) → length (xs ++ x ∷ []) ≡ length xs + 1
longer_by_one [] x = refl
longer_by_one (y ∷ xs) x = let rest = longer_by_one xs x in omega (arith, rest)

module _ (kinds : List MadeKind) (line : ℕ) where
  abbrev Places : Value → Type 0
  Places v = (at : List ℕ) (f : Frame) → On (place v kinds at line f) (λ r. Gains (weight v) f r.0)

  place_new_gains : (n : New) (at : List ℕ) (f : Frame)
      → On (place_new kinds n at line f) (λ r. Gains (new_weight n) f r.0)
  unfolding place_new place_child place_signal place_caller
  place_new_gains (new.Signal role t) at f =
      let size = longer_by_one f.kind.signals (record { name = at; role = role; width = t.width; shape = t.shape }) in
      record { signals = omega (arith, size); states = refl; blocks = refl; raw = refl; locals = refl }
  place_new_gains (new.Child c) at f = by (nat_le (f.kind.instances + instances_in kinds c) MAX_INSTANCES)
    where
      by : (b : Bool) → On {A = Frame × Value} (if b then Ok (
        with_child f (record {
          name = at;
          kind = c;
          line =
              line;
        }) (instances_in kinds c),
        value.Taken (taken.Child (length f.kind.children)),
      ) else Err
          (TooManyInstances line)) (λ r. Gains 0 f r.0)
      by false = tt
      by true = record { signals = omega arith; states = refl; blocks = refl; raw = refl; locals = refl }
  place_new_gains (new.Caller t) at f = record {
    signals = omega arith;
    states = refl;
    blocks = refl;
    raw = refl;
    locals = refl;
  }
  place_new_gains (new.Callee c) at f = none_gained 0 f
  place_new_gains (new.Deque n) at f = tt

  further : {A : Type 0} (a b : ℕ) (f g : Frame) (r : Checked (Frame × A)) → Gains a f g → On r (λ r. Gains b g r.0)
      → On r (λ r. Gains (a + b) f r.0)
  further a b f g (Ok r) first second = gained_on a b f g r.0 first second
  further a b f g (Err e) first second = tt

  items_gain : (vs : List Value) → Each Places vs → (i : ℕ) (done : List Value) (at : List ℕ) (f : Frame)
      → On (place_items i done (map place vs) kinds at line f) (λ r. Gains (total (map weight vs)) f r.0)
  unfolding place_items
  items_gain [] parts i done at f = none_gained 0 f
  items_gain (v ∷ vs) parts i done at f =
      chain (λ (r : Frame × Value). Gains (weight v) f r.0) (λ (r : Frame × Value). Gains (weight v + total
      (map weight vs)) f r.0) (place v kinds (element_name at i) line f) _
      (parts.0 (element_name at i) f) (λ r is. further (weight v) (total (map weight vs)) f r.0 _ is (items_gain vs
      parts.1 (i + 1) (done ++ r.1 ∷ []) at r.0))

  members_gain : (ms : List Member) → Each (λ (m : Member). Places m.value) ms
      → (done : List Member) (at : List ℕ) (f : Frame)
      → On (place_members done (map place_member ms) kinds at line f)
      (λ r. Gains (total (map (λ (m : Member). weight m.value) ms)) f r.0)
  unfolding place_members place_member place
  members_gain [] parts done at f = none_gained 0 f
  members_gain (m ∷ ms) parts done at f =
      let one : On (place_member m kinds at line f) (λ (r : Frame × Member). Gains (weight m.value) f r.0) =
      subst (λ (p : MemberPlacing). On (p kinds at line f) (λ (r : Frame × Member). Gains (weight m.value) f r.0))
      (sym (fold_out-Member Placing MemberPlacing placing_of member_placing m))
      (chain (λ (r : Frame × Value). Gains (weight m.value) f r.0) (λ (r : Frame × Member). Gains (weight m.value) f
      r.0) (place m.value kinds (member_name at m.name) line f) _
      (parts.0 (member_name at m.name) f) (λ r is. is)) in
      chain (λ (r : Frame × Member). Gains (weight m.value) f r.0) (λ (r : Frame × Value). Gains (weight m.value +
      total (map (λ (m : Member). weight m.value) ms)) f r.0) (place_member m kinds at line f) _ one
      (λ r is. further (weight m.value) (total (map (λ (m : Member). weight m.value) ms)) f r.0 _ is (members_gain
      ms parts.1 (done ++ r.1 ∷ []) at r.0))

  gain_layer : (x : Value-F Value Member) → Parts Places x → (at : List ℕ) (f : Frame)
      → On (placing_of (map-Value Value Member Placing MemberPlacing place place_member x) kinds at line f)
      (λ r. Gains (weight_of (map-Value Value Member ℕ ℕ weight member_weight x)) f r.0)
  gain_layer (Value-F.New n) parts at f = place_new_gains n at f
  gain_layer (Value-F.NewInterface ms) parts at f =
      subst (λ (ns : List ℕ). On (place_members [] (map place_member ms) kinds at line f) (λ r. Gains (total ns) f
      r.0)) (sym (members_are ms)) (members_gain ms parts [] at f)
  gain_layer (Value-F.Interface ms) parts at f =
      subst (λ (ns : List ℕ). On (place_members [] (map place_member ms) kinds at line f) (λ r. Gains (total ns) f
      r.0)) (sym (members_are ms)) (members_gain ms parts [] at f)
  gain_layer (Value-F.Items vs) parts at f = items_gain vs parts 0 [] at f
  gain_layer (Value-F.Int i) parts at f = none_gained 0 f
  gain_layer (Value-F.Type t) parts at f = none_gained 0 f
  gain_layer (Value-F.Const w) parts at f = none_gained 0 f
  gain_layer (Value-F.Class n) parts at f = none_gained 0 f
  gain_layer Value-F.Own parts at f = none_gained 0 f
  gain_layer (Value-F.Taken t) parts at f = none_gained 0 f
  gain_layer (Value-F.Term t) parts at f = none_gained 0 f
  gain_layer (Value-F.Rule t u) parts at f = none_gained 0 f

  gain_step : (x : Value-F Value Member) → Parts Places x → Places (roll-Value x)
  unfolding place place_member
  gain_step x parts at f =
      subst (λ (n : ℕ). On (place (roll-Value x) kinds at line f) (λ r. Gains n f r.0)) (sym (rolled x))
      (subst (λ (p : Placing). On (p kinds at line f) (λ r. Gains (weight_of (map-Value Value Member ℕ ℕ weight
      member_weight x)) f r.0)) (sym (fold-roll-Value Placing MemberPlacing placing_of member_placing x))
      (gain_layer x parts at f))

  -- a value that is placed adds the signals that it brings
  pub place_gains : (v : Value) → Places v
  place_gains v = each_value Places gain_step v

-- ---- attributes

abbrev pub attribute_weight : Names Value → ℕ
attribute_weight names = total (map (λ (p : List ℕ × Value). weight p.1) names)

pub put_weight : (names : Names Value) (name : List ℕ) (v : Value)
    → attribute_weight (put names name v) ≤ attribute_weight names + weight v
put_weight [] name v = omega arith
put_weight (p ∷ ps) name v = by (bytes_eq name p.0) (put_weight ps name v)
  where
    by : (b : Bool) → attribute_weight (put ps name v) ≤ attribute_weight ps + weight v
        → attribute_weight (if b then (p.0, v) ∷ ps else p ∷ put ps name v) ≤ attribute_weight (p ∷ ps) + weight v
    by true rest = omega arith
    by false rest = omega (arith, rest)
