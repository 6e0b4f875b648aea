-- Names of signals and children, while values are placed under a name.
use Rattle.std.proofs.Common.{◌≡◌, ◌∙◌, ◌+◌, ◌<◌, ◌≤◌, ◌^◌, ℕ, Bool, true, false, not, List, [], ◌∷◌, ◌++◌, refl, sym}
use Rattle.std.proofs.Common.{subst, map, ap, length, arith, ltb-true}
use Rattle.std.specs.Prelude.{Ok, Err, nat_le, bytes_eq, if◌then◌else◌}
use Rattle.std.specs.List.{list_all}
use Rattle.std.proofs.lemmas.Bool.{and_parts}
use Rattle.std.proofs.lemmas.List.{append-nil, append_assoc, map-append}
use Rattle.std.proofs.lemmas.Slice.Eq.{bytes_eq-Decides}
use Rattle.pm_design.specs.declared.design.Child.{Child}
use Rattle.pm_design.specs.declared.design.Kind.{Kind}
use Rattle.pm_design.specs.declared.signal.Signal.{Signal}
use Rattle.pm_design.specs.Elaborated.{member_names}
use Rattle.pm_design.specs.Names.{IsMemberName, all_differ}
use Rattle.pm_syn.specs.Names.{is_proper_name}
use Rattle.pm_values.specs.declared.fault.BuildFault.TheVariants.{TooManyInstances}
use Rattle.pm_values.specs.declared.value.Member.{Member, fold_out-Member}
use Rattle.pm_values.specs.declared.value.New.{New}
use Rattle.pm_values.specs.declared.value.New.TheVariants as new
use Rattle.pm_values.specs.declared.value.Taken.TheVariants as taken
use Rattle.pm_values.specs.declared.value.Value.{Value, Value-F, fold-roll-Value, roll-Value}
use Rattle.pm_values.specs.declared.value.Value.TheFolds.{map-Value}
use Rattle.pm_values.specs.declared.value.Value.TheVariants as value
use Rattle.pm_elab.specs.declared.elaboration.MadeKind.{MadeKind}
use Rattle.pm_elab.specs.declared.elaboration.TheConstants.{MAX_INSTANCES}
use Rattle.pm_elab.specs.declared.frame.Frame.{Frame}
use Rattle.pm_elab.specs.Elab.{Checked}
use Rattle.pm_elab.specs.Placing.{Placing, MemberPlacing, element_name, member_name, instances_in, with_signal}
use Rattle.pm_elab.specs.Placing.{with_child, place_new, place_signal, place_child, place_caller, place_items}
use Rattle.pm_elab.specs.Placing.{place_members, placing_of, member_placing, place, place_member}
use Rattle.pm_elab_laws.proofs.Framing.{chain}
use Rattle.pm_elab_laws.proofs.Keeping.{On, Each}
use Rattle.pm_elab_laws.proofs.MemberNames.{Covers, Apart, apart_turned, covers_self, covers_below, apart_below}
use Rattle.pm_elab_laws.proofs.MemberNames.{AllApart, each_put, apart_put, elements_apart, members_apart}
use Rattle.pm_elab_laws.proofs.MemberNames.{element_covered, member_covered, element_named, member_named_so}
use Rattle.pm_elab_laws.proofs.Moves.{with_each}
use Rattle.pm_elab_laws.proofs.Places.{each_so, each_more, each_left, each_right}
use Rattle.pm_elab_laws.proofs.Tests.{Parts, each_value, Tests, Good, GoodLayer, GoodMember, good_names, element, fresh}
use Rattle.pm_elab_laws.proofs.Tests.{held, never, opened_layer}

abbrev pub signal_names : Kind → List (List ℕ)
signal_names k = map (λ (s : Signal). s.name) k.signals

abbrev pub child_names : Kind → List (List ℕ)
child_names k = map (λ (c : Child). c.name) k.children

-- names of members, each two apart
pub record AreMembers (names : List (List ℕ)) : Type 0 where
  pub named : Each IsMemberName names
  pub apart : AllApart names

-- nothing has the name, stands below it or covers it
abbrev pub IsFree : List ℕ → Frame → Type 0
IsFree at f = Each (Apart at) (member_names f.kind)

-- what was placed under a name stands below it
pub record IsPlacedBelow (at : List ℕ) (f g : Frame) : Type 0 where
  pub members : AreMembers (member_names g.kind)
  pub signals : List (List ℕ)
  pub signals_are : signal_names g.kind ≡ signal_names f.kind ++ signals
  pub signals_below : Each (Covers at) signals
  pub children : List (List ℕ)
  pub children_are : child_names g.kind ≡ child_names f.kind ++ children
  pub children_below : Each (Covers at) children
  pub class : g.kind.class ≡ f.kind.class
  pub blocks : g.kind.blocks ≡ f.kind.blocks
  pub attributes : g.raw.attributes ≡ f.raw.attributes

-- what holds of all names before, and of those below the name
pub each_added : (P : List ℕ → Type 0) (at : List ℕ) (f g : Frame) → IsPlacedBelow at f g
    → Each P (member_names f.kind) → ((n : List ℕ) → Covers at n → P n) → Each P (member_names g.kind)
each_added P at f g is each so =
    let signals = each_more P (signal_names f.kind) is.signals (each_left P (signal_names f.kind) (child_names
    f.kind) each) (each_so (Covers at) P is.signals so is.signals_below) in
    let children = each_more P (child_names f.kind) is.children (each_right P (signal_names f.kind) (child_names
    f.kind) each) (each_so (Covers at) P is.children so is.children_below) in
    each_more P (signal_names g.kind) (child_names g.kind) (subst (Each P) (sym is.signals_are) signals)
    (subst (Each P) (sym is.children_are) children)

nothing_placed : (at : List ℕ) (f : Frame) → AreMembers (member_names f.kind) → IsPlacedBelow at f f
nothing_placed at f members = record {
  members = members;
  signals = [];
  signals_are = sym (append-nil (signal_names f.kind));
  signals_below = tt;
  children = [];
  children_are = sym (append-nil (child_names f.kind));
  children_below = tt;
  class = refl;
  blocks = refl;
  attributes = refl;
}

-- first below one name that stands below another, then below that one
placed_on : (at x : List ℕ) (f g h : Frame) → Covers at x → IsPlacedBelow x f g → IsPlacedBelow at g h
    → IsPlacedBelow at f h
placed_on at x f g h below first second = record {
  members = second.members;
  signals = first.signals ++ second.signals;
  signals_are = second.signals_are ∙ (ap (λ (ns : List (List ℕ)). ns ++ second.signals) first.signals_are ∙
      append_assoc (signal_names f.kind) first.signals second.signals);
  signals_below = each_more (Covers at) first.signals second.signals (each_so (Covers x) (Covers at) first.signals
      (λ n. covers_below at x n below) first.signals_below) second.signals_below;
  children = first.children ++ second.children;
  children_are = second.children_are ∙ (ap (λ (ns : List (List ℕ)). ns ++ second.children) first.children_are ∙
      append_assoc (child_names f.kind) first.children second.children);
  children_below = each_more (Covers at) first.children second.children (each_so (Covers x) (Covers at)
      first.children (λ n. covers_below at x n below) first.children_below) second.children_below;
  class = second.class ∙ first.class;
  blocks = second.blocks ∙ first.blocks;
  attributes = second.attributes ∙ first.attributes;
}

-- a name in the middle, among names from which it is apart
members_put : (xs ys : List (List ℕ)) (n : List ℕ) → AreMembers (xs ++ ys) → IsMemberName n
    → Each (Apart n) (xs ++ ys) → AreMembers (xs ++ n ∷ ys)
members_put xs ys n members named free = record {
  named = each_put IsMemberName xs ys n members.named named;
  apart =
      apart_put xs ys n members.apart free;
}

-- ---- placing

module _ (k : Tests) (kinds : List MadeKind) (line : ℕ) where
  abbrev Places : Value → Type 0
  Places v = (at : List ℕ) (f : Frame) → Good k element v → IsMemberName at → IsFree at f
      → AreMembers (member_names f.kind) → On (place v kinds at line f) (λ r. IsPlacedBelow at f r.0)

  place_new_names : (n : New) (at : List ℕ) (f : Frame) → IsMemberName at → IsFree at f
      → AreMembers (member_names f.kind) → On (place_new kinds n at line f) (λ r. IsPlacedBelow at f r.0)
  unfolding place_new place_child place_signal place_caller
  place_new_names (new.Signal role t) at f named free members =
      let s : Signal = record { name = at; role = role; width = t.width; shape = t.shape } in
      let more : signal_names (with_signal f s).kind ≡ signal_names f.kind ++ at ∷ [] = map-append (λ (s : Signal).
      s.name) f.kind.signals (s ∷ []) in
      let all : member_names (with_signal f s).kind ≡ signal_names f.kind ++ at ∷ child_names f.kind =
      ap (λ (ns : List (List ℕ)). ns ++ child_names f.kind) more ∙ append_assoc (signal_names f.kind) (at ∷ [])
      (child_names f.kind) in
      record {
        members = subst AreMembers (sym all) (members_put (signal_names f.kind) (child_names f.kind) at members
            named free);
        signals = at ∷ [];
        signals_are = more;
        signals_below = (covers_self at, tt);
        children = [];
        children_are = sym (append-nil (child_names f.kind));
        children_below = tt;
        class = refl;
        blocks = refl;
        attributes = refl;
      }
  place_new_names (new.Child c) at f named free members = by (nat_le (f.kind.instances + instances_in kinds c)
      MAX_INSTANCES)
    where
      x : Child
      x = record { name = at; kind = c; line = line }

      by : (b : Bool) → On {A = Frame × Value} (if b then Ok (
        with_child f (record {
          name = at;
          kind = c;
          line =
              line;
        }) (instances_in kinds c),
        value.Taken (taken.Child (length f.kind.children)),
      ) else Err
          (TooManyInstances line)) (λ r. IsPlacedBelow at f r.0)
      by false = tt
      by true =
          let more : child_names (with_child f (record { name = at; kind = c; line = line }) (instances_in kinds
          c)).kind ≡ child_names f.kind ++ at ∷ [] =
          map-append (λ (c : Child). c.name) f.kind.children (record { name = at; kind = c; line = line } ∷ []) in
          let all : member_names (with_child f (record { name = at; kind = c; line = line }) (instances_in kinds
          c)).kind ≡ (signal_names f.kind ++ child_names f.kind) ++ at ∷ [] =
          ap (λ (ns : List (List ℕ)). signal_names f.kind ++ ns) more ∙ sym (append_assoc (signal_names f.kind)
          (child_names f.kind) (at ∷ [])) in
          let whole = append-nil (signal_names f.kind ++ child_names f.kind) in
          record {
            members = subst AreMembers (sym all) (members_put (signal_names f.kind ++ child_names f.kind) [] at
                (subst AreMembers (sym whole) members) named (subst (Each (Apart at)) (sym whole) free));
            signals = [];
            signals_are = sym (append-nil (signal_names f.kind));
            signals_below = tt;
            children = at ∷ [];
            children_are = more;
            children_below = (covers_self at, tt);
            class = refl;
            blocks = refl;
            attributes = refl;
          }
  place_new_names (new.Caller types) at f named free members = record {
    members = members;
    signals = [];
    signals_are = sym (append-nil (signal_names f.kind));
    signals_below = tt;
    children = [];
    children_are = sym (append-nil (child_names f.kind));
    children_below = tt;
    class = refl;
    blocks = refl;
    attributes = refl;
  }
  place_new_names (new.Callee c) at f named free members = nothing_placed at f members
  place_new_names (new.Deque n) at f named free members = tt

  further : (at x : List ℕ) (f g : Frame) (r : Checked (Frame × Value)) → Covers at x → IsPlacedBelow x f g
      → On r (λ r. IsPlacedBelow at g r.0) → On r (λ r. IsPlacedBelow at f r.0)
  further at x f g (Ok r) below first second = placed_on at x f g r.0 below first second
  further at x f g (Err e) below first second = tt

  items_walk : (vs : List Value) → Each Places vs → (i : ℕ) (done : List Value) (at : List ℕ) (f : Frame)
      → Each (Good k element) vs → i + length vs < 2 ^ 64 → IsMemberName at
      → ((j : ℕ) → i ≤ j → j < 2 ^ 64 → IsFree (element_name at j) f) → AreMembers (member_names f.kind)
      → On (place_items i done (map place vs) kinds at line f) (λ r. IsPlacedBelow at f r.0)
  unfolding place_items
  items_walk [] parts i done at f good few named free members = nothing_placed at f members
  items_walk (v ∷ vs) parts i done at f good few named free members =
      let here : i < 2 ^ 64 = omega (arith, few) in
      chain (λ (r : Frame × Value). IsPlacedBelow (element_name at i) f r.0) (λ (r : Frame × Value). IsPlacedBelow
      at f r.0) (place v kinds (element_name at i) line f) _
      (parts.0 (element_name at i) f good.0 (element_named at i named) (free i (omega arith) here) members) (λ r is.
      further at (element_name at i) f r.0 _ (element_covered at i) is
      (items_walk vs parts.1 (i + 1) (done ++ r.1 ∷ []) at r.0 good.1 (omega (arith, few)) named
      (λ j le less. each_added (Apart (element_name at j)) (element_name at i) f r.0 is (free j (omega (arith, le))
      less)
      (λ n below. apart_turned n (element_name at j) (apart_below (element_name at i) (element_name at j) n
      (elements_apart at i j here less (λ same. omega (arith, same, le))) below))) is.members))

  -- a member that may be placed
  abbrev Fresh : List ℕ → Frame → Member → Type 0
  Fresh at f m = (is_proper_name m.name ≡ true) × IsFree (member_name at m.name) f

  others_differ : (name : List ℕ) (ms : List Member)
      → list_all (λ other. not (bytes_eq name other)) (map (λ (m : Member). m.name) ms) ≡ true
      → Each (λ (m : Member). name ≡ m.name → ⊥) ms
  others_differ name [] all = tt
  others_differ name (m ∷ ms) all =
      let parts = and_parts (not (bytes_eq name m.name)) (list_all (λ other. not (bytes_eq name other))
      (map (λ (m : Member). m.name) ms)) all in
      (λ same. never (ap not (sym ((bytes_eq-Decides name m.name).1 same)) ∙ parts.0), others_differ name ms parts.1)

  members_walk : (ms : List Member) → Each (λ (m : Member). Places m.value) ms
      → (done : List Member) (at : List ℕ) (f : Frame) → Each (GoodMember k element) ms
      → all_differ (map (λ (m : Member). m.name) ms) ≡ true → IsMemberName at → Each (Fresh at f) ms
      → AreMembers (member_names f.kind)
      → On (place_members done (map place_member ms) kinds at line f) (λ r. IsPlacedBelow at f r.0)
  unfolding place_members place_member place
  members_walk [] parts done at f good differ named free members = nothing_placed at f members
  members_walk (m ∷ ms) parts done at f good differ named free members =
      let split = and_parts (list_all (λ other. not (bytes_eq m.name other)) (map (λ (m : Member). m.name) ms))
      (all_differ (map (λ (m : Member). m.name) ms)) differ in
      let one : On (place_member m kinds at line f) (λ (r : Frame × Member). IsPlacedBelow (member_name at m.name) f
      r.0) =
      subst (λ (p : MemberPlacing). On (p kinds at line f) (λ (r : Frame × Member). IsPlacedBelow (member_name at
      m.name) f r.0)) (sym (fold_out-Member Placing MemberPlacing placing_of member_placing m))
      (chain (λ (r : Frame × Value). IsPlacedBelow (member_name at m.name) f r.0) (λ (r : Frame × Member).
      IsPlacedBelow (member_name at m.name) f r.0) (place m.value kinds (member_name at m.name) line f) _
      (parts.0 (member_name at m.name) f good.0 (member_named_so at m.name free.0.0 named) free.0.1 members)
      (λ r is. is)) in
      chain (λ (r : Frame × Member). IsPlacedBelow (member_name at m.name) f r.0) (λ (r : Frame × Value).
      IsPlacedBelow at f r.0) (place_member m kinds at line f) _ one (λ r is.
      further at (member_name at m.name) f r.0 _ (member_covered at m.name) is
      (members_walk ms parts.1 (done ++ r.1 ∷ []) at r.0 good.1 split.1 named
      (with_each (Fresh at f) (λ (n : Member). m.name ≡ n.name → ⊥) (Fresh at r.0) ms (λ n fresh other. (
        fresh.0,
        each_added (Apart (member_name at n.name)) (member_name at m.name) f r.0 is fresh.1
            (λ x below. apart_turned x (member_name at n.name) (apart_below (member_name at m.name) (member_name at
            n.name) x (members_apart at m.name n.name free.0.0 fresh.0 other) below)),
      )) free.1 (others_differ m.name ms split.0)) is.members))

  free_below : (at x : List ℕ) (f : Frame) → Covers at x → IsFree at f → IsFree x f
  free_below at x f below free = each_so (Apart at) (Apart x) (member_names f.kind) (λ n apart. apart_below at n x
      apart below) free

  fresh_members : (at : List ℕ) (f : Frame) (ms : List Member)
      → list_all is_proper_name (map (λ (m : Member). m.name) ms) ≡ true → IsFree at f → Each (Fresh at f) ms
  fresh_members at f [] all free = tt
  fresh_members at f (m ∷ ms) all free =
      let parts = and_parts (is_proper_name m.name) (list_all is_proper_name (map (λ (m : Member). m.name) ms)) all in (
        (parts.0, free_below at (member_name at m.name) f (member_covered at m.name) free),
        fresh_members at f ms
            parts.1 free,
      )

  module _ (lower_fresh : (v : Value) → Good k fresh v → Good k element v) (lower_held : (v : Value) → Good k held v
      → Good k element v) where
    walk_members : (ms : List Member) → Each (λ (m : Member). Places m.value) ms → (at : List ℕ) (f : Frame)
        → Each (GoodMember k element) ms → good_names (map (λ (m : Member). m.name) ms) ≡ true
        → IsMemberName at → IsFree at f → AreMembers (member_names f.kind)
        → On (place_members [] (map place_member ms) kinds at line f) (λ r. IsPlacedBelow at f r.0)
    walk_members ms parts at f good names named free members =
        let split = and_parts (list_all is_proper_name (map (λ (m : Member). m.name) ms))
        (all_differ (map (λ (m : Member). m.name) ms)) names in
        members_walk ms parts [] at f good split.1 named (fresh_members at f ms split.0 free) members

    walk_layer : (x : Value-F Value Member) → Parts Places x → (at : List ℕ) (f : Frame) → GoodLayer k element x
        → IsMemberName at → IsFree at f → AreMembers (member_names f.kind)
        → On (placing_of (map-Value Value Member Placing MemberPlacing place place_member x) kinds at line f)
        (λ r. IsPlacedBelow at f r.0)
    walk_layer (Value-F.New n) parts at f good named free members = place_new_names n at f named free members
    walk_layer (Value-F.NewInterface ms) parts at f good named free members =
        walk_members ms parts at f (each_so (GoodMember k fresh) (GoodMember k element) ms (λ m. lower_fresh
        m.value) good.1) good.0 named free members
    walk_layer (Value-F.Interface ms) parts at f good named free members =
        walk_members ms parts at f (each_so (GoodMember k held) (GoodMember k element) ms (λ m. lower_held m.value)
        good.1) good.0 named free members
    walk_layer (Value-F.Items vs) parts at f good named free members =
        let few : length vs < 2 ^ 64 = ltb-true _ _ good.0 in
        items_walk vs parts 0 [] at f good.1 (omega (arith, few)) named (λ j le less. free_below at (element_name at
        j) f (element_covered at j) free) members
    walk_layer (Value-F.Int i) parts at f good named free members = nothing_placed at f members
    walk_layer (Value-F.Type t) parts at f good named free members = nothing_placed at f members
    walk_layer (Value-F.Const w) parts at f good named free members = nothing_placed at f members
    walk_layer (Value-F.Class n) parts at f good named free members = nothing_placed at f members
    walk_layer Value-F.Own parts at f good named free members = nothing_placed at f members
    walk_layer (Value-F.Taken t) parts at f good named free members = nothing_placed at f members
    walk_layer (Value-F.Term t) parts at f good named free members = nothing_placed at f members
    walk_layer (Value-F.Rule t u) parts at f good named free members = nothing_placed at f members

    walk_step : (x : Value-F Value Member) → Parts Places x → Places (roll-Value x)
    unfolding place place_member
    walk_step x parts at f good named free members =
        subst (λ (p : Placing). On (p kinds at line f) (λ r. IsPlacedBelow at f r.0)) (sym (fold-roll-Value Placing
        MemberPlacing placing_of member_placing x))
        (walk_layer x parts at f (opened_layer k x element good) named free members)

    -- a value is placed below its name
    pub placed_names : (v : Value) → Places v
    placed_names v = each_value Places walk_step v
