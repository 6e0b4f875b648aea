-- What is connected in a component fits, and what it takes under a name.
use Rattle.std.proofs.Common.{◌≡◌, ◌∙◌, ◌+◌, ◌^◌, ◌≤◌, ◌==◌, ◌&&◌, ◌||◌, ℕ, Bool, true, false, not, List, [], ◌∷◌, ◌++◌}
use Rattle.std.proofs.Common.{refl, sym, subst, map, ap, ap₂, length, arith, leb-true, eqb-true}
use Rattle.std.specs.Prelude.{Option, Some, None, Ok, Err, nat_lt, nat_le, nat_eq, is_some, slice_get, bytes_eq}
use Rattle.std.specs.Prelude.{if◌then◌else◌}
use Rattle.std.specs.Option.{option_map, option_eq}
use Rattle.std.proofs.lemmas.Bool.{and_parts, eq-eqb}
use Rattle.std.proofs.lemmas.Option.{slice_get-map}
use Rattle.std.proofs.lemmas.Slice.Eq.{bytes_eq-Decides}
use Rattle.pm_bits.specs.Word.{Word}
use Rattle.pm_design.specs.declared.connection.Callee.{Callee}
use Rattle.pm_design.specs.declared.connection.Callee.TheVariants as callee
use Rattle.pm_design.specs.declared.connection.Caller.{Caller}
use Rattle.pm_design.specs.declared.design.Child.{Child}
use Rattle.pm_design.specs.declared.design.Design.{Design}
use Rattle.pm_design.specs.declared.design.Kind.{Kind}
use Rattle.pm_design.specs.declared.signal.Role.{Role}
use Rattle.pm_design.specs.declared.signal.Role.TheVariants.{Input, Output, Inner}
use Rattle.pm_design.specs.declared.signal.Signal.{Signal}
use Rattle.pm_design.specs.Widths.{is_width}
use Rattle.pm_values.specs.declared.fault.BuildFault.TheVariants.{TooManyInstances}
use Rattle.pm_values.specs.declared.reference.Reference.{Reference}
use Rattle.pm_values.specs.declared.reference.ValueType.{ValueType}
use Rattle.pm_values.specs.declared.value.Member.{Member}
use Rattle.pm_values.specs.declared.value.New.{New}
use Rattle.pm_values.specs.declared.value.New.TheVariants as new
use Rattle.pm_values.specs.declared.value.Taken.TheVariants as taken
use Rattle.pm_values.specs.declared.value.Value.{Value, Value-F}
use Rattle.pm_values.specs.declared.value.Value.TheVariants as value
use Rattle.pm_elab.specs.declared.class.ConstructedClass.{ConstructedClass}
use Rattle.pm_elab.specs.declared.elaboration.Elaboration.{Elaboration}
use Rattle.pm_elab.specs.declared.elaboration.MadeKind.{MadeKind}
use Rattle.pm_elab.specs.declared.elaboration.TheConstants.{MAX_INSTANCES}
use Rattle.pm_elab.specs.declared.frame.Frame.{Frame}
use Rattle.pm_elab.specs.Connections.{CallTypes, types_of_method, types_of_caller, same_number, same_type, same_type_if}
use Rattle.pm_elab.specs.Connections.{same_types, same_call_types, child_method, child_caller, call_types_of}
use Rattle.pm_elab.specs.Connections.{equal_calls, type_of_reference, with_join, with_tie, with_bind, with_mismatch}
use Rattle.pm_elab.specs.Connections.{connected}
use Rattle.pm_elab.specs.Elab.{Checked}
use Rattle.pm_elab.specs.Placing.{width_if, with_signal, with_child, with_caller, whole_signal, place_new, place_signal}
use Rattle.pm_elab.specs.Placing.{place_child, place_caller, place, instances_in}
use Rattle.pm_elab.specs.Placing.{instances_of as instances_of_made}
use Rattle.pm_elab.specs.Views.{kind_of_child}
use Rattle.pm_elab_laws.specs.Told.{is_told_of, same_role}
use Rattle.pm_elab_laws.proofs.EqualValues.{both}
use Rattle.pm_elab_laws.proofs.Fits.{Extends, Keeps, sees, keeps_same, type_fits, type_fits_if, shape_fits, CallWidths}
use Rattle.pm_elab_laws.proofs.Fits.{method_widths, caller_widths, child_kind, of_methods, of_callers, callee_widths}
use Rattle.pm_elab_laws.proofs.Fits.{callee_fits, alike, taken_fits, bits_in, tests, part_more, callee_more, good_more}
use Rattle.pm_elab_laws.proofs.FittingValues.{design_made, found_got, held_to_free, signal_parts, signals_new}
use Rattle.pm_elab_laws.proofs.Framing.{Framing, IsPlaced, is_left, places}
use Rattle.pm_elab_laws.proofs.Joining.{Ends, joined_on}
use Rattle.pm_elab_laws.proofs.Keeping.{On, Each, Where}
use Rattle.pm_elab_laws.proofs.Kept.{call_widths, IsKept, IsSound, instances_of, instances_at, extends_same}
use Rattle.pm_elab_laws.proofs.Kept.{extends_lists, signal_grows, child_grows, caller_grows, signal_put, child_put}
use Rattle.pm_elab_laws.proofs.Kept.{caller_put, join_put_on, tie_put_on, bind_put_on, mismatch_on}
use Rattle.pm_elab_laws.proofs.Moves.{lower, held_element, fresh_element}
use Rattle.pm_elab_laws.proofs.Places.{each_so}
use Rattle.pm_elab_laws.proofs.Tests.{Good, GoodLayer, GoodMember, good_names, free, element, fresh, held, never}
use Rattle.pm_elab_laws.proofs.Tests.{opened_layer, rolled_layer, closed}

-- a kind that was made, and its attributes, fit
abbrev pub IsKindSound : Design → MadeKind → Type 0
IsKindSound d k = IsKept d k.kind k.raw × Each (λ (p : List ℕ × Value). Good (tests d k.kind) held p.1) k.raw.attributes

-- ---- types of calls

twice : {A B C : Type 0} (f : B → C) (g : A → B) (x : Option A)
    → option_map (λ a. f (g a)) x ≡ option_map f (option_map g x)
twice f g None = refl
twice f g (Some a) = refl

noted : {A B : Type 0} (f : A → CallWidths) (g : B → CallTypes) (xs : List A) (ys : List B)
    → map f xs ≡ map (λ y. call_widths (g y)) ys → (i : ℕ)
    → option_map f (slice_get xs i) ≡ option_map call_widths (option_map g (slice_get ys i))
noted f g xs ys same i =
    sym (slice_get-map f xs i) ∙ (ap (λ (ws : List CallWidths). slice_get ws i) same ∙ (slice_get-map
    (λ y. call_widths (g y)) ys i ∙ twice call_widths g (slice_get ys i)))

module _ (m : Elaboration) (kinds : Each (IsKindSound (design_made m)) m.kinds) where
  kind_at : (x : Child) (k : Option MadeKind) → slice_get m.kinds x.kind ≡ k
      → slice_get (design_made m).kinds x.kind ≡ option_map (λ (made : MadeKind). made.kind) k
  kind_at x k at = slice_get-map (λ (made : MadeKind). made.kind) m.kinds x.kind ∙ ap
      (option_map (λ (made : MadeKind). made.kind)) at

  of_child_methods : (f : Frame) (c n : ℕ) → callee_fits (design_made m) f.kind (callee.Child c n) ≡ true
      → callee_widths (design_made m) f.kind (callee.Child c n) ≡ option_map call_widths (call_types_of m.kinds f
      (callee.Child c n))
  unfolding kind_of_child
  of_child_methods f c n is = by (slice_get f.kind.children c) is
    where
      by : (x : Option Child) → is_some (of_methods n (child_kind (design_made m) x)) ≡ true
          → of_methods n (child_kind (design_made m) x) ≡ option_map call_widths (child_method (slice_get m.kinds
          (elim x as (λ _. ℕ) [ Some c ↦ c.kind | None ↦ 0 ])) n)
      by None is = never is
      by (Some x) is = next (slice_get m.kinds x.kind) refl (found_got (IsKindSound (design_made m)) m.kinds x.kind
          kinds)
        where
          next : (k : Option MadeKind) → slice_get m.kinds x.kind ≡ k → Where (IsKindSound (design_made m)) k
              → of_methods n (slice_get (design_made m).kinds x.kind) ≡ option_map call_widths (child_method k n)
          next None at sound = ap (of_methods n) (kind_at x None at)
          next (Some k) at sound = ap (of_methods n) (kind_at x (Some k) at) ∙ noted method_widths types_of_method
              k.kind.methods k.raw.methods sound.0.method_types n

  of_child_callers : (f : Frame) (c n : ℕ) → callee_fits (design_made m) f.kind (callee.ChildPort c n) ≡ true
      → callee_widths (design_made m) f.kind (callee.ChildPort c n) ≡ option_map call_widths (call_types_of m.kinds
      f (callee.ChildPort c n))
  unfolding kind_of_child
  of_child_callers f c n is = by (slice_get f.kind.children c) is
    where
      by : (x : Option Child) → is_some (of_callers n (child_kind (design_made m) x)) ≡ true
          → of_callers n (child_kind (design_made m) x) ≡ option_map call_widths (child_caller (slice_get m.kinds
          (elim x as (λ _. ℕ) [ Some c ↦ c.kind | None ↦ 0 ])) n)
      by None is = never is
      by (Some x) is = next (slice_get m.kinds x.kind) refl (found_got (IsKindSound (design_made m)) m.kinds x.kind
          kinds)
        where
          next : (k : Option MadeKind) → slice_get m.kinds x.kind ≡ k → Where (IsKindSound (design_made m)) k
              → of_callers n (slice_get (design_made m).kinds x.kind) ≡ option_map call_widths (child_caller k n)
          next None at sound = ap (of_callers n) (kind_at x None at)
          next (Some k) at sound = ap (of_callers n) (kind_at x (Some k) at) ∙ noted caller_widths types_of_caller
              k.kind.callers k.raw.callers sound.0.caller_types n

  -- the widths of a call are those of its types
  widths_noted : (f : Frame) (c : Callee) → IsKept (design_made m) f.kind f.raw
      → callee_fits (design_made m) f.kind c ≡ true
      → callee_widths (design_made m) f.kind c ≡ option_map call_widths (call_types_of m.kinds f c)
  widths_noted f (callee.Own n) kept is = noted method_widths types_of_method f.kind.methods f.raw.methods
      kept.method_types n
  widths_noted f (callee.Port n) kept is = noted caller_widths types_of_caller f.kind.callers f.raw.callers
      kept.caller_types n
  widths_noted f (callee.Child c n) kept is = of_child_methods f c n is
  widths_noted f (callee.ChildPort c n) kept is = of_child_callers f c n is

  same_widths : (ts us : List ValueType) → same_types ts us ≡ true
      → map (λ (t : ValueType). t.width) ts ≡ map (λ (t : ValueType). t.width) us
  unfolding same_types same_type
  same_widths [] [] is = refl
  same_widths [] (u ∷ us) is = never is
  same_widths (t ∷ ts) [] is = never is
  same_widths (t ∷ ts) (u ∷ us) is =
      let parts = and_parts (same_type t u) (same_types ts us) is in
      let width = and_parts (t.width == u.width) (same_number t.shape u.shape) parts.0 in
      let equal : t.width ≡ u.width = eqb-true _ _ width.0 in
      ap₂ (λ (n : ℕ) (ns : List ℕ). n ∷ ns) equal (same_widths ts us parts.1)

  same_answer : (t u : Option ValueType) → same_type_if t u ≡ true → option_eq nat_eq (width_if t) (width_if u) ≡ true
  unfolding same_type_if same_type
  same_answer None None is = refl
  same_answer None (Some u) is = never is
  same_answer (Some t) None is = never is
  same_answer (Some t) (Some u) is = (and_parts (t.width == u.width) (same_number t.shape u.shape) is).0

  alike_calls : (x y : Option CallTypes) → is_some (option_map call_widths x) ≡ true
      → is_some (option_map call_widths y) ≡ true
      → alike (same_call_types x y) (option_map call_widths x) (option_map call_widths y) ≡ true
  alike_calls None y first second = never first
  alike_calls (Some a) None first second = never second
  alike_calls (Some a) (Some b) first second = by (same_types a.arguments b.arguments && same_type_if a.result
      b.result) refl
    where
      by : (s : Bool) → (same_types a.arguments b.arguments && same_type_if a.result b.result) ≡ s
          → alike s (Some (call_widths a)) (Some (call_widths b)) ≡ true
      by false is = refl
      by true is =
          let parts = and_parts (same_types a.arguments b.arguments) (same_type_if a.result b.result) is in
          both (bytes_eq (call_widths a).arguments (call_widths b).arguments) _
          ((bytes_eq-Decides (call_widths a).arguments (call_widths b).arguments).1 (same_widths a.arguments
          b.arguments parts.0))
          (same_answer a.result b.result parts.1)

  calls_alike : (f : Frame) (c e : Callee) → IsKept (design_made m) f.kind f.raw
      → callee_fits (design_made m) f.kind c ≡ true → callee_fits (design_made m) f.kind e ≡ true
      → alike (equal_calls m.kinds f c e) (callee_widths (design_made m) f.kind c) (callee_widths (design_made m)
      f.kind e) ≡ true
  unfolding equal_calls
  calls_alike f c e kept first second =
      let one = widths_noted f c kept first in
      let two = widths_noted f e kept second in
      let same : Bool = same_call_types (call_types_of m.kinds f c) (call_types_of m.kinds f e) in
      subst (λ (w : Option CallWidths). alike same w (callee_widths (design_made m) f.kind e) ≡ true) (sym one)
      (subst (λ (w : Option CallWidths). alike same (option_map call_widths (call_types_of m.kinds f c)) w ≡ true)
      (sym two)
      (alike_calls (call_types_of m.kinds f c) (call_types_of m.kinds f e) (subst (λ (w : Option CallWidths).
      is_some w ≡ true) one first) (subst (λ (w : Option CallWidths). is_some w ≡ true) two second)))

  -- ---- connections

  module _ (c : ConstructedClass) (line : ℕ) (kind : Kind) where
    connecting : Ends
    connecting = record {
      IsEnd = Good (tests (design_made m) kind) free;
      IsSignal = λ r. taken_fits (design_made m) kind (taken.Signal r) ≡ true;
      IsCall = λ e. callee_fits (design_made m) kind e ≡ true;
      items = λ vs is. (opened_layer (tests (design_made m) kind) (Value-F.Items vs) free is).1;
      members = λ ms is. each_so (GoodMember (tests (design_made m) kind) held) (GoodMember (tests (design_made m)
          kind) free) ms (λ x. held_to_free (design_made m) kind x.value)
          (opened_layer (tests (design_made m) kind) (Value-F.Interface ms) free is).1;
      signals = λ r is. opened_layer (tests (design_made m) kind) (Value-F.Taken (taken.Signal r)) free is;
      calls = λ e is. opened_layer (tests (design_made m) kind) (Value-F.Taken (taken.Method e)) free is;
    }

    -- the frame fits, and has all that the kind has
    abbrev Grown : Frame → Type 0
    Grown f = IsSound c (design_made m) f × Extends (design_made m) (design_made m) kind f.kind

    kept_lists : (f g : Frame) → f.kind.signals ≡ g.kind.signals → f.kind.children ≡ g.kind.children
        → f.kind.methods ≡ g.kind.methods → f.kind.callers ≡ g.kind.callers → f.kind.blocks ≡ g.kind.blocks
        → Keeps f.kind.states g.kind.states → Extends (design_made m) (design_made m) kind f.kind
        → Extends (design_made m) (design_made m) kind g.kind
    kept_lists f g signals children methods callers blocks states grown =
        let more = extends_lists c (design_made m) f.kind g.kind signals children methods callers blocks states in
        record {
          kinds = grown.kinds;
          shapes = grown.shapes;
          signals = λ i a is. more.signals i a (grown.signals i a is);
          children = λ i a is. more.children i a (grown.children i a is);
          methods = λ i a is. more.methods i a (grown.methods i a is);
          callers = λ i a is. more.callers i a (grown.callers i a is);
          blocks = λ i a is. more.blocks i a (grown.blocks i a is);
          states = λ i a is. more.states i a (grown.states i a is);
        }

    same_ends : (r q : Reference) → (not (same_type (type_of_reference r) (type_of_reference q)) || r.part.width ==
        q.part.width) ≡ true
    unfolding same_type
    same_ends r q = by (r.part.width == q.part.width) (same_number r.shape q.shape)
      where
        by : (a b : Bool) → (not (a && b) || a) ≡ true
        by true true = refl
        by true false = refl
        by false b = refl

    joins : (f : Frame) (r q : Reference) → taken_fits (design_made m) kind (taken.Signal r) ≡ true
        → taken_fits (design_made m) kind (taken.Signal q) ≡ true → Grown f
        → Grown (with_join f line r.part q.part (same_type (type_of_reference r) (type_of_reference q)))
    joins f r q first second is = (
      join_put_on c (design_made m) f line r.part q.part _ (part_more (design_made m) (design_made m) kind f.kind
          is.1 r.part (signal_parts (design_made m) kind r first).0)
          (part_more (design_made m) (design_made m) kind f.kind is.1 q.part (signal_parts (design_made m) kind q
          second).0) (same_ends r q) is.0,
      kept_lists f (with_join f line r.part q.part _) refl refl refl refl refl (keeps_same f.kind.states) is.1,
    )

    ties : (f : Frame) (r : Reference) (w : Option Word) → taken_fits (design_made m) kind (taken.Signal r) ≡ true
        → Grown f → Grown (with_tie f line r.part w)
    ties f r w fits is = (
      tie_put_on c (design_made m) f line r.part w (part_more (design_made m) (design_made m) kind f.kind is.1
          r.part (signal_parts (design_made m) kind r fits).0) is.0,
      kept_lists f (with_tie f line r.part w) refl refl refl refl refl (keeps_same f.kind.states) is.1,
    )

    binds : (f : Frame) (x y : Callee) → callee_fits (design_made m) kind x ≡ true
        → callee_fits (design_made m) kind y ≡ true → Grown f
        → Grown (with_bind f line x y (equal_calls m.kinds f x y))
    binds f x y first second is = (
      bind_put_on c (design_made m) f line x y _ (calls_alike f x y is.0.kept (callee_more (design_made m)
          (design_made m) kind f.kind is.1 x first) (callee_more (design_made m) (design_made m) kind f.kind is.1 y
          second)) is.0,
      kept_lists f (with_bind f line x y _) refl refl refl refl refl (keeps_same f.kind.states) is.1,
    )

    only_sound : (r : Checked Frame) → On r Grown → On r (IsSound c (design_made m))
    only_sound (Ok f) is = is.0
    only_sound (Err e) is = tt

    -- two values are connected
    pub connected_sound : (a b : Value) (f : Frame) → f.kind ≡ kind → Good (tests (design_made m) kind) free a
        → Good (tests (design_made m) kind) free b → IsSound c (design_made m) f
        → On (connected m.kinds a b line f) (IsSound c (design_made m))
    unfolding connecting
    connected_sound a b f same first second is =
        only_sound (connected m.kinds a b line f) (joined_on connecting Grown m.kinds line joins ties binds
        (λ f is. (
          mismatch_on c (design_made m) f line is.0,
          kept_lists f (with_mismatch f line) refl refl refl refl
              refl (keeps_same f.kind.states) is.1,
        )) a b f first second (
          is,
          subst (λ (k : Kind). Extends (design_made m) (design_made m) k f.kind) same (extends_same c
              (design_made m) f.kind),
        ))

-- ---- values under names

-- what is last is there
pub last_there : {A : Type 0} (xs : List A) (x : A) → slice_get (xs ++ x ∷ []) (length xs) ≡ Some x
last_there [] x = refl
last_there (y ∷ xs) x = last_there xs x

module _ (c : ConstructedClass) (d : Design) where
  placing : Framing
  placing = record {
    IsFine = IsSound c d;
    Grows = λ f g. Extends d d f.kind g.kind;
    IsGood = λ f v. Good (tests d f.kind) element v;
    IsHeld = λ f v. Good (tests d f.kind) held v;
    stays = λ f. extends_same c d f.kind;
    on = λ f g h first second. record {
      kinds = keeps_same d.kinds;
      shapes = keeps_same d.shapes;
      signals = λ i a is. second.signals i a (first.signals i a is);
      children = λ i a is. second.children i a (first.children i a is);
      methods = λ i a is. second.methods i a (first.methods i a is);
      callers = λ i a is. second.callers i a (first.callers i a is);
      blocks = λ i a is. second.blocks i a (first.blocks i a is);
      states = λ i a is. second.states i a (first.states i a is);
    };
    good_on = λ f g v grows good. good_more d d f.kind g.kind grows v element good;
    held_on = λ f g v grows good. good_more d d f.kind g.kind grows v held good;
    items = λ f vs good. (opened_layer (tests d f.kind) (Value-F.Items vs) element (subst (Good (tests d f.kind)
        element) (sym (value.rolls-Items vs)) good)).1;
    Long = λ n. nat_lt n (2 ^ 64) ≡ true;
    Names = λ ns. good_names ns ≡ true;
    items_long = λ f vs good. (opened_layer (tests d f.kind) (Value-F.Items vs) element
        (subst (Good (tests d f.kind) element) (sym (value.rolls-Items vs)) good)).0;
    news_names = λ f ms good. (opened_layer (tests d f.kind) (Value-F.NewInterface ms) element
        (subst (Good (tests d f.kind) element) (sym (value.rolls-NewInterface ms)) good)).0;
    members_names = λ f ms good. (opened_layer (tests d f.kind) (Value-F.Interface ms) element
        (subst (Good (tests d f.kind) element) (sym (value.rolls-Interface ms)) good)).0;
    items_held = λ f vs long each. closed (tests d f.kind) (Value-F.Items vs) _ held (value.rolls-Items vs)
        (long, each);
    news = λ f ms good. each_so (GoodMember (tests d f.kind) fresh) (GoodMember (tests d f.kind) element) ms
        (λ x is. lower (tests d f.kind) (signals_new d f.kind) x.value fresh element fresh_element is)
        (opened_layer (tests d f.kind) (Value-F.NewInterface ms) element (subst (Good (tests d f.kind) element)
        (sym (value.rolls-NewInterface ms)) good)).1;
    members = λ f ms good. each_so (GoodMember (tests d f.kind) held) (GoodMember (tests d f.kind) element) ms
        (λ x is. lower (tests d f.kind) (signals_new d f.kind) x.value held element held_element is)
        (opened_layer (tests d f.kind) (Value-F.Interface ms) element (subst (Good (tests d f.kind) element)
        (sym (value.rolls-Interface ms)) good)).1;
    members_held = λ f ms names each. closed (tests d f.kind) (Value-F.Interface ms) _ held (value.rolls-Interface
        ms) (names, each);
    left = λ f x single good. rolled_layer (tests d f.kind) x held (stays_held f x single (opened_layer
        (tests d f.kind) x element good));
  }
    where
      stays_held : (f : Frame) (x : Value-F Value Member) → is_left x ≡ true → GoodLayer (tests d f.kind) element x
          → GoodLayer (tests d f.kind) held x
      stays_held f (Value-F.Int i) single is = tt
      stays_held f (Value-F.Type t) single is = is
      stays_held f (Value-F.Const w) single is = is
      stays_held f (Value-F.Class n) single is = tt
      stays_held f Value-F.Own single is = tt
      stays_held f (Value-F.Taken t) single is = is
      stays_held f (Value-F.Term t) single is = never is
      stays_held f (Value-F.Rule t u) single is = never is
      stays_held f (Value-F.New n) single is = never single
      stays_held f (Value-F.NewInterface ms) single is = never single
      stays_held f (Value-F.Interface ms) single is = never single
      stays_held f (Value-F.Items vs) single is = never single

  module _ (m : Elaboration) (same : design_made m ≡ d) (line : ℕ) where
    place_news : (n : New) (at : List ℕ) (f : Frame) → IsSound c d f → Good (tests d f.kind) element (value.New n)
        → On (place_new m.kinds n at line f) (IsPlaced placing f)
    unfolding placing place_new place_child place_signal place_caller instances_in
    place_news (new.Signal role t) at f is good =
        let fits : type_fits d t ≡ true = opened_layer (tests d f.kind) (Value-F.New (new.Signal role t)) element
        (subst (Good (tests d f.kind) element) (sym (value.rolls-New _)) good) in
        let s : Signal = record { name = at; role = role; width = t.width; shape = t.shape } in
        record {
          fine = signal_put c d f s fits is;
          grows = signal_grows c d f s;
          held = closed (tests d (with_signal f s).kind) (Value-F.Taken (taken.Signal (whole_signal
              (length f.kind.signals) role t))) _ held (value.rolls-Taken _)
              (both _ _ (ap (bits_in (whole_signal (length f.kind.signals) role
              t).part) (last_there f.kind.signals s) ∙ whole t fits) (both (shape_fits d t.width t.shape) _
              (and_parts (is_width t.width) (shape_fits d t.width t.shape) fits).1
              (ap (sees (is_told_of (whole_signal (length f.kind.signals) role t)) true)
              (last_there f.kind.signals s) ∙ seen role t.width)));
        }
      where
        seen : (role : Role) (w : ℕ) → ((same_role role role && (0 == 0 && w == w)) && true) ≡ true
        seen Input w = both (w == w) true (eq-eqb w w refl) refl
        seen Output w = both (w == w) true (eq-eqb w w refl) refl
        seen Inner w = both (w == w) true (eq-eqb w w refl) refl

        whole : (t : ValueType) → type_fits d t ≡ true → (nat_lt 0 t.width && nat_le (0 + t.width) t.width) ≡ true
        whole t fits =
            let width = and_parts (nat_le 1 t.width) (nat_le t.width 128) (and_parts (is_width t.width)
            (shape_fits d t.width t.shape) fits).0 in
            let some : 1 ≤ t.width = leb-true _ _ width.0 in
            let first : nat_lt 0 t.width ≡ true = grind (arith, some) in
            let last : nat_le (0 + t.width) t.width ≡ true = grind arith in
            both (nat_lt 0 t.width) (nat_le (0 + t.width) t.width) first last
    place_news (new.Child k) at f is good =
        by (nat_le (f.kind.instances + instances_of_made (slice_get m.kinds k)) MAX_INSTANCES)
      where
        x : Child
        x = record { name = at; kind = k; line = line }

        there : is_some (slice_get d.kinds k) ≡ true
        there = opened_layer (tests d f.kind) (Value-F.New (new.Child k)) element (subst (Good (tests d f.kind)
            element) (sym (value.rolls-New _)) good)

        count : (y : Option MadeKind) → instances_of_made y ≡ instances_of (option_map (λ (made : MadeKind).
            made.kind) y)
        count None = refl
        count (Some y) = refl

        counted : instances_of_made (slice_get m.kinds k) ≡ instances_at d x
        counted = count (slice_get m.kinds k) ∙ (ap instances_of (sym (slice_get-map (λ (made : MadeKind).
            made.kind) m.kinds k)) ∙ ap (λ (e : Design). instances_of (slice_get e.kinds k)) same)

        by : (b : Bool) → On {A = Frame × Value} (if b then Ok (
          with_child f x (instances_of_made (slice_get m.kinds
              k)),
          value.Taken (taken.Child (length f.kind.children)),
        ) else Err (TooManyInstances line))
            (IsPlaced placing f)
        by false = tt
        by true = record {
          fine = child_put c d f x (instances_of_made (slice_get m.kinds k)) there counted is;
          grows = child_grows c d f x (instances_of_made (slice_get m.kinds k));
          held = closed (tests d (with_child f x _).kind) (Value-F.Taken (taken.Child (length f.kind.children))) _
              held (value.rolls-Taken _) (ap is_some (last_there f.kind.children x));
        }
    place_news (new.Caller t) at f is good =
        let fits = and_parts (type_fits_if d t.argument) (type_fits_if d t.result)
        (opened_layer (tests d f.kind) (Value-F.New (new.Caller t)) element (subst (Good (tests d f.kind) element)
        (sym (value.rolls-New _)) good)) in
        record {
          fine = caller_put c d f at t fits.0 fits.1 is;
          grows = caller_grows c d f at t;
          held = closed (tests d (with_caller f at t).kind) (Value-F.Taken (taken.Method (callee.Port
              (length f.kind.callers)))) _ held (value.rolls-Taken _)
              (ap (λ (o : Option Caller). is_some (option_map caller_widths o)) (last_there f.kind.callers _));
        }
    place_news (new.Callee e) at f is good = record {
      fine = is;
      grows = extends_same c d f.kind;
      held = closed (tests d f.kind) (Value-F.Taken (taken.Method e)) _ held (value.rolls-Taken _)
          (opened_layer (tests d f.kind) (Value-F.New (new.Callee e)) element (subst (Good (tests d f.kind) element)
          (sym (value.rolls-New _)) good));
    }
    place_news (new.Deque n) at f is good = tt

    placed_parts : (r : Checked (Frame × Value)) (f : Frame) → On r (IsPlaced placing f)
        → On r (λ r. IsSound c d r.0 × Good (tests d r.0.kind) held r.1)
    unfolding placing
    placed_parts (Ok r) f is = (is.fine, is.held)
    placed_parts (Err e) f is = tt

    -- a component takes a value under a name
    pub place_sound : (v : Value) (at : List ℕ) (f : Frame) → IsSound c d f → Good (tests d f.kind) element v
        → On (place v m.kinds at line f) (λ r. IsSound c d r.0 × Good (tests d r.0.kind) held r.1)
    unfolding placing
    place_sound v at f is good = placed_parts _ f (places placing m.kinds line place_news v at f is good)
