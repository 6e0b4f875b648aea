-- A design that is given fits, in the words of the design.
use Rattle.pm_design.specs.Elaborated.{is_good_state, is_good_method, is_good_caller, is_before, IsElaboratedKind}
use Rattle.pm_elab_laws.proofs.ChildKinds.{children_before}
use Rattle.pm_elab_laws.proofs.Sized.{IsKindSized}
use Rattle.pm_elab_laws.specs.Components.{IsComponent}
use Rattle.pm_elab_laws.specs.Names.{names_of}
use Rattle.pm_elab_laws.proofs.WellBuilt.{components}
use Rattle.pm_elab_laws.proofs.Named.{IsKindNamed}
use Rattle.pm_elab_laws.proofs.MemberNames.{Covers, Apart, AllApart, all_apart_so, avoids_so}
use Rattle.pm_design.specs.Names.{IsMemberName, avoids}
use Rattle.pm_design.specs.Elaborated.{IsWellNamed, member_names, is_reset}
use Rattle.pm_design.specs.Lookups.{is_input}
use Rattle.pm_syn.specs.Names.{is_proper_name}
use Rattle.std.proofs.lemmas.Slice.Eq.{bytes_eq-Decides}
use Rattle.std.proofs.lemmas.List.Elements.{All-nil, All-cons}
use Rattle.std.specs.Prelude.{codes, drop, bytes_eq}
use Rattle.std.proofs.Common.{All, ◌++◌}
use Rattle.std.proofs.Common.{◌≡◌, ◌∙◌, ◌+◌, ◌<◌, ◌==◌, ◌&&◌, ◌||◌, ℕ, zero, suc, Bool, true, not, List, [], ◌∷◌, refl}
use Rattle.std.proofs.Common.{sym, subst, map, ap, ap₂, length, arith}
use Rattle.std.specs.Prelude.{Option, Some, None, Ok, Err, nat_lt, nat_le, is_some, slice_get, slice_index_or, IsTrue}
use Rattle.std.specs.List.{list_all}
use Rattle.std.specs.Option.{option_map}
use Rattle.std.proofs.lemmas.Bool.{and_parts}
use Rattle.std.proofs.lemmas.Option.{same_Some, slice_get_within, get_or_from_slice_get}
use Rattle.pm_design.specs.declared.body.Block.{Block}
use Rattle.pm_design.specs.declared.body.Method.{Method}
use Rattle.pm_design.specs.declared.connection.Bind.{Bind}
use Rattle.pm_design.specs.declared.connection.Callee.{Callee}
use Rattle.pm_design.specs.declared.connection.Callee.TheVariants as callee
use Rattle.pm_design.specs.declared.connection.Caller.{Caller}
use Rattle.pm_design.specs.declared.connection.Join.{Join}
use Rattle.pm_design.specs.declared.connection.Part.{Part}
use Rattle.pm_design.specs.declared.connection.Rule.{Rule}
use Rattle.pm_design.specs.declared.connection.Term.{Term}
use Rattle.pm_design.specs.declared.connection.Term.TheVariants as term
use Rattle.pm_design.specs.declared.connection.Tie.{Tie}
use Rattle.pm_design.specs.declared.design.Child.{Child}
use Rattle.pm_design.specs.declared.design.Design.{Design}
use Rattle.pm_design.specs.declared.design.Kind.{Kind}
use Rattle.pm_design.specs.declared.signal.Field.{Field}
use Rattle.pm_design.specs.declared.signal.Shape.{Shape}
use Rattle.pm_design.specs.declared.signal.Signal.{Signal}
use Rattle.pm_design.specs.Elaborated.{is_shape_or_none, is_good_shape, is_good_signal, is_good_join, are_alike}
use Rattle.pm_design.specs.Elaborated.{is_good_bind, is_good_term}
use Rattle.pm_design.specs.Lookups.{no_kind, kind_of, no_child, child_kind_of, owner_kind_of, no_signal, lies_within}
use Rattle.pm_design.specs.Lookups.{Signature, method_signature, caller_signature, signature_of}
use Rattle.pm_design.specs.Widths.{is_width, total}
use Rattle.pm_elab.specs.declared.elaboration.Elaboration.{Elaboration}
use Rattle.pm_elab.specs.declared.elaboration.MadeKind.{MadeKind}
use Rattle.pm_elab.specs.declared.elaboration.RawDesign.{RawDesign}
use Rattle.pm_elab.specs.declared.parameter.Param.{Param}
use Rattle.pm_elab.specs.declared.parameter.ParamValue.{ParamValue}
use Rattle.pm_elab.specs.declared.parameter.ParamValue.TheVariants as given
use Rattle.pm_elab.specs.Elab.{Checked, and_then}
use Rattle.pm_elab.specs.Files.{Globals, build, design_of}
use Rattle.pm_elab_laws.specs.Soundness.{is_good_param, DesignsAreSound}
use Rattle.pm_elab_laws.proofs.EqualValues.{both}
use Rattle.pm_elab_laws.proofs.Fits.{all_more, shape_fits, has_width, child_kind, owner_of, bits_in, signal_in}
use Rattle.pm_elab_laws.proofs.Fits.{part_fits, CallWidths, method_widths, caller_widths, of_methods, of_callers}
use Rattle.pm_elab_laws.proofs.Fits.{callee_widths, callee_fits, term_fits, join_fits, alike, bind_fits, rule_fits}
use Rattle.pm_elab_laws.proofs.Fits.{keeps_same}
use Rattle.pm_elab_laws.proofs.FittingValues.{design_made, field_fits, shape_is_good}
use Rattle.pm_elab_laws.proofs.Joined.{IsKindSound}
use Rattle.pm_elab_laws.proofs.Keeping.{On, Each}
use Rattle.pm_elab_laws.proofs.Kept.{signal_fits, child_fits, IsKept, instances_of, instances_at, kept_more}
use Rattle.pm_elab_laws.proofs.Sounding.{IsMade, IsGoodParam, good_shape_more, file_sound}
use Rattle.pm_elab_laws.proofs.Tests.{never}

none_is_some : {A B : Type 0} (a : A) → None ≡ Some a → B
none_is_some {A = A} a is = absurd (subst (λ (o : Option A). elim o as (λ _. Type 0) [
  | Some a ↦ ⊥
  | None ↦ Unit {0}
]) is tt)

pub got : {A : Type 0} (xs : List A) (i : ℕ) (d : A) (x : A) → slice_get xs i ≡ Some x → slice_index_or xs i d ≡ x
got xs i d x is = get_or_from_slice_get xs i x d is

-- the lists of a kind, in the words of the design
record IsFitting (design : Design) (kind : Kind) : Type 0 where
  signals : IsTrue (list_all (is_good_signal design) kind.signals)
  states : IsTrue (list_all is_good_state kind.states)
  methods : IsTrue (list_all is_good_method kind.methods)
  callers : IsTrue (list_all is_good_caller kind.callers)
  joins : IsTrue (list_all (is_good_join design kind) kind.joins)
  ties : IsTrue (list_all (λ (t : Tie). lies_within design kind t.part) kind.ties)
  binds : IsTrue (list_all (is_good_bind design kind) kind.binds)
  rules : IsTrue (list_all (λ (r : Rule). is_good_term design kind r.before && is_good_term design kind r.after)
      kind.rules)
  blocks : IsTrue (list_all (λ (b : Block). list_all is_width b.temps) kind.blocks)
  instances : kind.instances ≡ 1 + total (map (λ (c : Child). (kind_of design c.kind).instances) kind.children)

module _ (d : Design) where
  shape_there : (w : ℕ) (s : Option ℕ) → shape_fits d w s ≡ true → is_shape_or_none d s ≡ true
  shape_there w None is = refl
  shape_there w (Some s) is = by (slice_get d.shapes s) refl is
    where
      by : (x : Option Shape) → slice_get d.shapes s ≡ x → has_width w x ≡ true → nat_lt s (length d.shapes) ≡ true
      by None at is = never is
      by (Some x) at is = let less : s < length d.shapes = slice_get_within d.shapes s x at in grind (arith, less)

  signal_good : (s : Signal) → signal_fits d s ≡ true → is_good_signal d s ≡ true
  signal_good s is = let parts = and_parts (is_width s.width) (shape_fits d s.width s.shape) is in both
      (is_width s.width) _ parts.0 (shape_there s.width s.shape parts.1)

  field_good : (w : ℕ) (f : Field) → field_fits d w f ≡ true → (is_width f.width && is_shape_or_none d f.shape) ≡ true
  field_good w f is =
      let first = and_parts (is_width f.width) (shape_fits d f.width f.shape && nat_le (f.lo + f.width) w) is in
      let second = and_parts (shape_fits d f.width f.shape) (nat_le (f.lo + f.width) w) first.1 in
      both (is_width f.width) _ first.0 (shape_there f.width f.shape second.0)

  shape_good : (s : Shape) → shape_is_good d s ≡ true → is_good_shape d s ≡ true
  shape_good s is =
      let parts = and_parts (is_width s.width) (list_all (field_fits d s.width) s.fields) is in
      both (is_width s.width) _ parts.0 (all_more (field_fits d s.width) (λ (f : Field). is_width f.width &&
      is_shape_or_none d f.shape) s.fields (field_good s.width) parts.1)

  -- ---- parts

  child_there : (kind : Kind) (c : ℕ) (k : Kind) → child_kind d (slice_get kind.children c) ≡ Some k
      → child_kind_of d kind c ≡ k
  child_there kind c k is = by (slice_get kind.children c) refl is
    where
      by : (x : Option Child) → slice_get kind.children c ≡ x → child_kind d x ≡ Some k → child_kind_of d kind c ≡ k
      by None at is = none_is_some k is
      by (Some x) at is = ap (λ (y : Child). kind_of d y.kind) (got kind.children c (no_child d.kinds) x at) ∙ got
          d.kinds x.kind no_kind k is

  pub owner_there : (kind : Kind) (o : ℕ) (k : Kind) → owner_of d kind o ≡ Some k → owner_kind_of d kind o ≡ k
  owner_there kind zero k is = same_Some kind k is
  owner_there kind (suc c) k is = child_there kind c k is

  pub part_good : (kind : Kind) (part : Part) → part_fits d kind part ≡ true → lies_within d kind part ≡ true
  part_good kind part is = by (owner_of d kind part.owner) refl is
    where
      next : (k : Kind) (s : Option Signal) → slice_get k.signals part.signal ≡ s → bits_in part s ≡ true
          → (nat_lt 0 part.width && nat_le (part.lo + part.width) (slice_index_or k.signals part.signal
          no_signal).width) ≡ true
      next k None at is = never is
      next k (Some s) at is = subst (λ (s : Signal). (nat_lt 0 part.width && nat_le (part.lo + part.width) s.width)
          ≡ true) (sym (got k.signals part.signal no_signal s at)) is

      by : (k : Option Kind) → owner_of d kind part.owner ≡ k → signal_in part k ≡ true → lies_within d kind part ≡ true
      by None at is = never is
      by (Some k) at is =
          subst (λ (k : Kind). (nat_lt 0 part.width && nat_le (part.lo + part.width) (slice_index_or k.signals
          part.signal no_signal).width) ≡ true) (sym (owner_there kind part.owner k at))
          (next k (slice_get k.signals part.signal) refl is)

  -- ---- calls

  abbrev signed : CallWidths → Signature
  signed w = record { there = true; arguments = w.arguments; answer = w.answer }

  methods_signed : (ms : List Method) (i : ℕ) (w : CallWidths) → option_map method_widths (slice_get ms i) ≡ Some w
      → method_signature ms i ≡ signed w
  methods_signed [] i w is = none_is_some w is
  methods_signed (m ∷ ms) zero w is = ap signed (same_Some (method_widths m) w is)
  methods_signed (m ∷ ms) (suc i) w is = methods_signed ms i w is

  callers_signed : (ms : List Caller) (i : ℕ) (w : CallWidths) → option_map caller_widths (slice_get ms i) ≡ Some w
      → caller_signature ms i ≡ signed w
  callers_signed [] i w is = none_is_some w is
  callers_signed (m ∷ ms) zero w is = ap signed (same_Some (caller_widths m) w is)
  callers_signed (m ∷ ms) (suc i) w is = callers_signed ms i w is

  callee_signed : (kind : Kind) (c : Callee) (w : CallWidths) → callee_widths d kind c ≡ Some w
      → signature_of d kind c ≡ signed w
  callee_signed kind (callee.Own m) w is = methods_signed kind.methods m w is
  callee_signed kind (callee.Port p) w is = callers_signed kind.callers p w is
  callee_signed kind (callee.Child c m) w is = by (child_kind d (slice_get kind.children c)) refl is
    where
      by : (k : Option Kind) → child_kind d (slice_get kind.children c) ≡ k → of_methods m k ≡ Some w
          → method_signature (child_kind_of d kind c).methods m ≡ signed w
      by None at is = none_is_some w is
      by (Some k) at is = ap (λ (k : Kind). method_signature k.methods m) (child_there kind c k at) ∙ methods_signed
          k.methods m w is
  callee_signed kind (callee.ChildPort c p) w is = by (child_kind d (slice_get kind.children c)) refl is
    where
      by : (k : Option Kind) → child_kind d (slice_get kind.children c) ≡ k → of_callers p k ≡ Some w
          → caller_signature (child_kind_of d kind c).callers p ≡ signed w
      by None at is = none_is_some w is
      by (Some k) at is = ap (λ (k : Kind). caller_signature k.callers p) (child_there kind c k at) ∙ callers_signed
          k.callers p w is

  pub callee_good : (kind : Kind) (c : Callee) → callee_fits d kind c ≡ true → (signature_of d kind c).there ≡ true
  callee_good kind c is = by (callee_widths d kind c) refl is
    where
      by : (w : Option CallWidths) → callee_widths d kind c ≡ w → is_some w ≡ true
          → (signature_of d kind c).there ≡ true
      by None at is = never is
      by (Some w) at is = ap (λ (s : Signature). s.there) (callee_signed kind c w at)

  term_good : (kind : Kind) (t : Term) → term_fits d kind t ≡ true → is_good_term d kind t ≡ true
  term_good kind (term.Block b) is = by (slice_get kind.blocks b) refl is
    where
      by : (x : Option Block) → slice_get kind.blocks b ≡ x → is_some x ≡ true → nat_lt b (length kind.blocks) ≡ true
      by None at is = never is
      by (Some x) at is = let less : b < length kind.blocks = slice_get_within kind.blocks b x at in grind (arith, less)
  term_good kind (term.Reads part) is = part_good kind part is
  term_good kind (term.Writes part) is = part_good kind part is
  term_good kind (term.Calls c) is = callee_good kind c is
  term_good kind term.Wrong is = refl

  join_good : (kind : Kind) (j : Join) → join_fits d kind j ≡ true → is_good_join d kind j ≡ true
  join_good kind j is =
      let first = and_parts (part_fits d kind j.a) (part_fits d kind j.b && (not j.equal_types || j.a.width ==
      j.b.width)) is in
      let second = and_parts (part_fits d kind j.b) (not j.equal_types || j.a.width == j.b.width) first.1 in
      both (lies_within d kind j.a) _ (part_good kind j.a first.0) (both (lies_within d kind j.b) _ (part_good kind
      j.b second.0) second.1)

  bind_good : (kind : Kind) (b : Bind) → bind_fits d kind b ≡ true → is_good_bind d kind b ≡ true
  bind_good kind b is = by (callee_widths d kind b.a) (callee_widths d kind b.b) refl refl is
    where
      by : (x y : Option CallWidths) → callee_widths d kind b.a ≡ x → callee_widths d kind b.b ≡ y
          → alike b.equal_types x y ≡ true → is_good_bind d kind b ≡ true
      by None y first second is = never is
      by (Some x) None first second is = never is
      by (Some x) (Some y) first second is =
          let pair : Signature → Signature
          → Bool = λ s t. s.there && (t.there && (not b.equal_types || are_alike s t)) in
          subst (λ (s : Signature). pair s (signature_of d kind b.b) ≡ true) (sym (callee_signed kind b.a x first))
          (subst (λ (t : Signature). pair (signed x) t ≡ true) (sym (callee_signed kind b.b y second)) is)

  rule_good : (kind : Kind) (r : Rule) → rule_fits d kind r ≡ true
      → (is_good_term d kind r.before && is_good_term d kind r.after) ≡ true
  rule_good kind r is =
      let parts = and_parts (term_fits d kind r.before) (term_fits d kind r.after) is in
      both (is_good_term d kind r.before) _ (term_good kind r.before parts.0) (term_good kind r.after parts.1)

  counted : (cs : List Child) → list_all (child_fits d) cs ≡ true
      → map (instances_at d) cs ≡ map (λ (c : Child). (kind_of d c.kind).instances) cs
  counted [] is = refl
  counted (c ∷ cs) is =
      let parts = and_parts (child_fits d c) (list_all (child_fits d) cs) is in
      ap₂ (λ (n : ℕ) (ns : List ℕ). n ∷ ns) (by (slice_get d.kinds c.kind) refl parts.0) (counted cs parts.1)
    where
      by : (x : Option Kind) → slice_get d.kinds c.kind ≡ x → is_some x ≡ true
          → instances_at d c ≡ (kind_of d c.kind).instances
      by None at is = never is
      by (Some k) at is = ap instances_of at ∙ ap (λ (k : Kind). k.instances) (sym (got d.kinds c.kind no_kind k at))

  -- a kind that fits
  kind_fitting : (k : MadeKind) → IsKept d k.kind k.raw → IsFitting d k.kind
  kind_fitting k is = record {
    signals = all_more (signal_fits d) (is_good_signal d) k.kind.signals signal_good is.signals;
    states = is.states;
    methods = is.methods;
    callers = is.callers;
    joins = all_more (join_fits d k.kind) (is_good_join d k.kind) k.kind.joins (join_good k.kind) is.links.joins_fit;
    ties = all_more (λ (t : Tie). part_fits d k.kind t.part) (λ (t : Tie). lies_within d k.kind t.part) k.kind.ties
        (λ t. part_good k.kind t.part) is.links.ties_fit;
    binds = all_more (bind_fits d k.kind) (is_good_bind d k.kind) k.kind.binds (bind_good k.kind) is.links.binds_fit;
    rules = all_more (rule_fits d k.kind) (λ (r : Rule). is_good_term d k.kind r.before && is_good_term d k.kind
        r.after) k.kind.rules (rule_good k.kind) is.links.rules_fit;
    blocks = is.blocks;
    instances = is.instances ∙ ap (λ (ns : List ℕ). 1 + total ns) (counted k.kind.children is.children);
  }

-- ---- names

all_named : (ns : List (List ℕ)) → Each IsMemberName ns → All IsMemberName ns
all_named [] each = All-nil IsMemberName
all_named (n ∷ ns) each = All-cons IsMemberName n ns each.0 (all_named ns each.1)

all_avoid : (first : List ℕ) (ns : List (List ℕ)) → Each (λ (n : List ℕ). Covers first n → ⊥) ns
    → list_all (avoids first) ns ≡ true
all_avoid first [] each = refl
all_avoid first (n ∷ ns) each = both (avoids first n) (list_all (avoids first) ns) (avoids_so first n each.0)
    (all_avoid first ns each.1)

reset_avoided : (first : List ℕ) (ns : List (List ℕ)) → first ≡ codes "reset" → Each (Apart first) ns
    → Each (λ (n : List ℕ). Covers (codes "reset") n → ⊥) ns
reset_avoided first [] is each = tt
reset_avoided first (n ∷ ns) is each = (
  subst (λ (r : List ℕ). Covers r n → ⊥) is each.0.not_over,
  reset_avoided
      first ns is each.1,
)

rest_avoids : (ns : List (List ℕ)) (head : List ℕ) (tail : List (List ℕ)) → ns ≡ head ∷ tail → head ≡ codes "reset"
    → AllApart ns → list_all (avoids (codes "reset")) (drop 1 ns) ≡ true
rest_avoids ns head tail same is all =
    subst (λ (ms : List (List ℕ)). list_all (avoids (codes "reset")) (drop 1 ms) ≡ true) (sym same)
    (all_avoid (codes "reset") tail (reset_avoided head tail is (subst AllApart same all).0))

first_member : (kind : Kind) → IsTrue (is_reset (slice_index_or kind.signals 0 no_signal))
    → (head : List ℕ) × (tail : List (List ℕ)) × (member_names kind ≡ head ∷ tail) × (head ≡ codes "reset")
first_member kind is = by kind.signals refl
  where
    by : (ss : List Signal) → kind.signals ≡ ss → (head : List ℕ) × (tail : List (List ℕ)) × (member_names kind ≡
        head ∷ tail) × (head ≡ codes "reset")
    by [] same = never (subst (λ (ss : List Signal). is_reset (slice_index_or ss 0 no_signal) ≡ true) same is)
    by (s ∷ ss) same =
        let here : is_reset s ≡ true = subst (λ (ss : List Signal). is_reset (slice_index_or ss 0 no_signal) ≡ true)
        same is in
        let name = and_parts (bytes_eq s.name (codes "reset")) (s.width == 1 && is_input s.role) here in (
          s.name,
          map (λ (s : Signal). s.name) ss ++ map (λ (c : Child). c.name) kind.children,
          ap (λ (ss : List Signal). map (λ (s : Signal). s.name) ss ++ map (λ (c : Child). c.name) kind.children) same,
          (bytes_eq-Decides s.name (codes "reset")).0 name.0,
        )

well_named : (kind : Kind) → IsKindNamed kind → IsComponent kind → IsWellNamed kind
well_named kind is component =
    let first = first_member kind component.reset in
    record {
      class = is.class_named;
      blocks = is.blocks_named;
      blocks_differ = component.blocks_differ;
      members = all_named (member_names kind) is.members.named;
      members_apart = all_apart_so (member_names kind) is.members.apart;
      no_clock = all_avoid (codes "clk") (member_names kind) is.no_clock;
      one_reset = rest_avoids (member_names kind) first.0 first.1 first.2 first.3 is.members.apart;
    }

-- ---- designs that are given

record IsWhole (d : Design) (k : MadeKind) : Type 0 where
  kept : IsKept d k.kind k.raw
  named : IsKindNamed k.kind
  sized : IsKindSized k.kind

record IsGiven (d : Design) (kind : Kind) : Type 0 where
  fitting : IsFitting d kind
  named : IsKindNamed kind
  sized : IsKindSized kind

kind_is : (d : Design) (ks : List MadeKind) → Each (IsWhole d) ks → (k : ℕ)
    → k < length (map (λ (made : MadeKind). made.kind) ks)
    → IsGiven d (slice_index_or (map (λ (made : MadeKind). made.kind) ks) k no_kind)
kind_is d [] each k less = absurd (omega (arith, less))
kind_is d (c ∷ ks) each zero less = record {
  fitting = kind_fitting d c each.0.kept;
  named = each.0.named;
  sized =
      each.0.sized;
}
kind_is d (c ∷ ks) each (suc k) less = kind_is d ks each.1 k (omega (arith, less))

abbrev Fits : RawDesign → Type 0
Fits r = IsTrue (list_all (is_good_shape r.design) r.design.shapes) × ((k : ℕ) → k < length r.design.kinds
    → IsGiven r.design (kind_of r.design k))

fit : (r : Checked ((Globals × ℕ) × Elaboration)) → On r (λ x. IsMade x.1)
    → On (and_then r (λ x. Ok (design_of x.1 x.0.0 x.0.1))) Fits
fit (Err e) fine = tt
fit (Ok x) fine =
    let d : Design = design_made x.1 in
    let e : Design = record {
      kinds = map (λ (made : MadeKind). made.kind) x.1.kinds;
      shapes = x.1.shapes;
      top =
          x.0.1;
    } in (
      all_more (shape_is_good d) (is_good_shape e) x.1.shapes (λ s is. shape_good e s (good_shape_more d e s
          (keeps_same d.kinds) (keeps_same d.shapes) is)) fine.shapes,
      λ k less. kind_is e x.1.kinds (each_kind x.1.kinds fine.kinds fine.names fine.sizes) k less,
    )
  where
    each_kind : (ks : List MadeKind) → Each (IsKindSound (design_made x.1)) ks
        → Each (λ (k : MadeKind). IsKindNamed k.kind) ks → Each (λ (k : MadeKind). IsKindSized k.kind) ks
        → Each (IsWhole (record {
          kinds = map (λ (made : MadeKind). made.kind) x.1.kinds;
          shapes = x.1.shapes;
          top =
              x.0.1;
        })) ks
    each_kind [] each names sizes = tt
    each_kind (k ∷ ks) each names sizes = (
      record {
        kept = kept_more (design_made x.1) (record {
          kinds = map (λ (made : MadeKind). made.kind) x.1.kinds;
          shapes
              = x.1.shapes;
          top = x.0.1;
        }) k.kind k.raw
            (keeps_same (design_made x.1).kinds) (keeps_same x.1.shapes) each.0.0;
        named = names.0;
        sized = sizes.0;
      },
      each_kind ks each.1 names.1 sizes.1,
    )

pub params_good : (ps : List Param) → list_all (λ (p : Param). is_good_param p.value) ps ≡ true
    → Each (λ (p : Param). IsGoodParam p.value) ps
params_good [] all = tt
params_good (p ∷ ps) all = let parts = and_parts (is_good_param p.value) (list_all (λ (p : Param). is_good_param
    p.value) ps) all in (one p.value parts.0, params_good ps parts.1)
  where
    one : (v : ParamValue) → is_good_param v ≡ true → IsGoodParam v
    one (given.Int n) is = tt
    one (given.Width n) is = is

names_good : (ns : List (List ℕ)) → list_all is_proper_name ns ≡ true
    → Each (λ (n : List ℕ). is_proper_name n ≡ true) ns
names_good [] all = tt
names_good (n ∷ ns) all = let parts = and_parts (is_proper_name n) (list_all is_proper_name ns) all in
    (parts.0, names_good ns parts.1)

kind_elaborated : (d : Design) (k : ℕ) (kind : Kind) → IsGiven d kind → IsComponent kind
    → IsTrue (list_all (is_before k) kind.children) → IsElaboratedKind d k kind
kind_elaborated d k kind is component children = record {
  named = well_named kind is.named component;
  sized = record {
    signals = is.sized.signals;
    states = is.sized.states;
    blocks = is.sized.blocks;
    instances = is.fitting.instances;
    few_instances = component.few_instances;
  };
  reset = component.reset;
  signals = is.fitting.signals;
  states = is.fitting.states;
  children = children;
  methods = is.fitting.methods;
  callers = is.fitting.callers;
  joins = is.fitting.joins;
  ties = is.fitting.ties;
  binds = is.fitting.binds;
  blocks = is.fitting.blocks;
  rules = is.fitting.rules;
}

-- each design that is given is sound
pub designs_sound : DesignsAreSound
unfolding build
designs_sound nodes name params given names good is =
    let fits = subst (λ (r : Checked RawDesign). On r Fits) is (fit _ (file_sound nodes name params
    (names_good (names_of nodes) names) (params_good params good))) in
    let before = children_before nodes name params given is in
    record {
      top = before.0;
      shapes = fits.0;
      kinds = λ k less. kind_elaborated given.design k (kind_of given.design k) (fits.1 k less) (components nodes
          name params given is k less) (before.1 k less);
    }
