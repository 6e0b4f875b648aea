-- Methods and caller ports of a design that is given take and answer the types that are noted of them.
use Rattle.std.proofs.Common.{◌≡◌, ◌∙◌, ℕ, zero, suc, Bool, true, false, List, [], ◌∷◌, refl, sym, ap, subst, map, length, arith}
use Rattle.std.specs.Prelude.{IsTrue, Option, Some, None, Ok, is_some, slice_get, slice_index_or}
use Rattle.std.specs.List.{list_all}
use Rattle.std.specs.Option.{option_map}
use Rattle.std.proofs.lemmas.Bool.{and_parts, false≢true}
use Rattle.std.proofs.lemmas.Option.{same_Some}
use Rattle.pm_design.specs.declared.body.Method.{Method}
use Rattle.pm_design.specs.declared.connection.Callee.{Callee}
use Rattle.pm_design.specs.declared.connection.Callee.TheVariants as callee
use Rattle.pm_design.specs.declared.connection.Caller.{Caller}
use Rattle.pm_design.specs.declared.design.Child.{Child}
use Rattle.pm_design.specs.declared.design.Design.{Design}
use Rattle.pm_design.specs.declared.design.Kind.{Kind}
use Rattle.pm_design.specs.Lookups.{Signature, caller_signature, kind_of, listed, method_signature, no_child, no_kind, signature_of}
use Rattle.pm_syn.specs.declared.statement.Node.{Node}
use Rattle.pm_values.specs.declared.reference.CallerTypes.{CallerTypes}
use Rattle.pm_values.specs.declared.reference.ValueType.{ValueType}
use Rattle.pm_values.specs.Tables.{Names}
use Rattle.pm_elab.specs.declared.body.Argument.{Argument}
use Rattle.pm_elab.specs.declared.body.MethodTypes.{MethodTypes}
use Rattle.pm_elab.specs.declared.elaboration.RawDesign.{RawDesign}
use Rattle.pm_elab.specs.declared.elaboration.RawKind.{RawKind}
use Rattle.pm_elab.specs.declared.parameter.Param.{Param}
use Rattle.pm_elab.specs.Files.{build}
use Rattle.pm_elab.specs.Placing.{width_if}
use Rattle.pm_elab.specs.Views.{kind_of_child}
use Rattle.pm_elab_laws.specs.Soundness.{are_good_params, declares_proper_names}
use Rattle.pm_elab_laws.proofs.Fits.{type_fits, type_fits_if}
use Rattle.pm_elab_laws.proofs.Kept.{IsKept, caller_fits, method_fits}
use Rattle.pm_elab_laws.proofs.Tests.{never}
use Rattle.pm_typing.specs.declared.scope.BodySort.{BodySort}
use Rattle.pm_typing.specs.Sites.{Scope}
use Rattle.pm_types.specs.declared.effects.CallTypes.{CallTypes}
use Rattle.pm_types.specs.Effects.{argument_list, call_types, caller_types, child_kind, method_of, method_types, port_of}
use Rattle.pm_type_laws.specs.Good.{is_type}
use Rattle.pm_type_laws.proofs.Values.{both}
use Rattle.pm_made_laws.specs.Noted.{IsNoted, Widths, caller_widths, method_widths, noted_caller, noted_method}
use Rattle.pm_made_laws.proofs.KeptKinds.{kinds_kept}
use Rattle.pm_made_laws.proofs.MadeScopes.{type_is}
use Rattle.pm_made_laws.proofs.NotedKinds.{kinds_noted}
use Rattle.pm_body_laws.specs.Premises.{AreCalled}

-- the first widths, and the others
abbrev first : List Widths → Widths
first [] = record { arguments = []; answer = None }
first (w ∷ ws) = w

abbrev others : List Widths → List Widths
others [] = []
others (w ∷ ws) = ws

abbrev is_empty : List Widths → Bool
is_empty [] = true
is_empty (w ∷ ws) = false

-- a call of these types has this signature
pub record IsSigned (d : Design) (sig : Signature) (types : CallTypes) : Type 0 where
  pub there : IsTrue sig.there
  pub arguments : sig.arguments ≡ map (λ (t : ValueType). t.width) types.arguments
  pub answer : sig.answer ≡ option_map (λ (t : ValueType). t.width) types.result
  pub typed : IsTrue (list_all (is_type d.shapes) types.arguments)
  pub result : (ty : ValueType) → types.result ≡ Some ty → IsTrue (is_type d.shapes ty)

-- something is at the same place of a list that is as long
pub at_both : {A B : Type 0} (xs : List A) (ys : List B) → length xs ≡ length ys → (i : ℕ) (y : B) → slice_get ys i ≡ Some y
    → (x : A) × (slice_get xs i ≡ Some x)
at_both xs [] same i y at = never (ap is_some at)
at_both [] (b ∷ ys) same i y at = absurd (omega (arith, same))
at_both (a ∷ xs) (b ∷ ys) same zero y at = (a, refl)
at_both (a ∷ xs) (b ∷ ys) same (suc i) y at = at_both xs ys (omega (arith, same)) i y at

-- what is there is what is looked up
pub got_there : {A : Type 0} (xs : List A) (i : ℕ) (other a : A) → slice_get xs i ≡ Some a → slice_index_or xs i other ≡ a
got_there [] i other a at = never (ap is_some at)
got_there (x ∷ xs) zero other a at = same_Some x a at
got_there (x ∷ xs) (suc i) other a at = got_there xs i other a at

none_there : {A : Type 0} (xs : List A) (i : ℕ) (other : A) → slice_get xs i ≡ None → slice_index_or xs i other ≡ other
none_there [] i other at = refl
none_there (x ∷ xs) zero other at = never (ap is_some (sym at))
none_there (x ∷ xs) (suc i) other at = none_there xs i other at

module _ (d : Design) where
  result_is : (r : Option ValueType) → type_fits_if d r ≡ true → (ty : ValueType) → r ≡ Some ty → IsTrue (is_type d.shapes ty)
  result_is None fits ty is = never (ap is_some is)
  result_is (Some r) fits ty is = subst (λ (t : ValueType). IsTrue (is_type d.shapes t)) (same_Some r ty is) (type_is d r fits)

  argument_widths : (xs : List Argument)
      → map (λ (a : Argument). a.ty.width) xs ≡ map (λ (t : ValueType). t.width) (map (λ (a : Argument). a.ty) xs)
  argument_widths [] = refl
  argument_widths (x ∷ xs) = ap (λ (ws : List ℕ). x.ty.width ∷ ws) (argument_widths xs)

  arguments_typed : (xs : List Argument) → list_all (λ (a : Argument). type_fits d a.ty) xs ≡ true
      → IsTrue (list_all (is_type d.shapes) (map (λ (a : Argument). a.ty) xs))
  arguments_typed [] all = refl
  arguments_typed (x ∷ xs) all =
      let parts = and_parts (type_fits d x.ty) (list_all (λ (a : Argument). type_fits d a.ty) xs) all in
      both (is_type d.shapes x.ty) _ (type_is d x.ty parts.0) (arguments_typed xs parts.1)

  width_same : (r : Option ValueType) → width_if r ≡ option_map (λ (t : ValueType). t.width) r
  width_same None = refl
  width_same (Some t) = refl

  listed_same : (r : Option ValueType) → listed (width_if r) ≡ map (λ (t : ValueType). t.width) (argument_list r)
  listed_same None = refl
  listed_same (Some t) = refl

  listed_typed : (r : Option ValueType) → type_fits_if d r ≡ true → IsTrue (list_all (is_type d.shapes) (argument_list r))
  listed_typed None fits = refl
  listed_typed (Some t) fits = both (is_type d.shapes t) true (type_is d t fits) refl

  -- ---- methods

  method_signed : (x : Method) (t : MethodTypes) → method_widths x ≡ noted_method t → method_fits d t ≡ true
      → IsSigned d (record { there = true; arguments = x.arguments; answer = x.result }) (record { arguments = map (λ (a : Argument). a.ty) t.arguments; result = t.result })
  method_signed x t same fits =
      let parts = and_parts (list_all (λ (a : Argument). type_fits d a.ty) t.arguments) (type_fits_if d t.result) fits in
      record {
        there = refl;
        arguments = ap (λ (w : Widths). w.arguments) same ∙ argument_widths t.arguments;
        answer = ap (λ (w : Widths). w.answer) same ∙ width_same t.result;
        typed = arguments_typed t.arguments parts.0;
        result = result_is t.result parts.1;
      }

  pub methods_signed : (xs : List Method) (ts : List MethodTypes) → map method_widths xs ≡ map noted_method ts
      → list_all (method_fits d) ts ≡ true → (m : ℕ) (types : CallTypes) → method_types (slice_get ts m) ≡ Some types
      → IsSigned d (method_signature xs m) types
  methods_signed xs [] same fit m types at = never (ap is_some at)
  methods_signed [] (t ∷ ts) same fit m types at = absurd (false≢true (sym (ap is_empty same)))
  methods_signed (x ∷ xs) (t ∷ ts) same fit zero types at =
      subst (λ (types : CallTypes). IsSigned d (record { there = true; arguments = x.arguments; answer = x.result }) types)
      (same_Some _ types at)
      (method_signed x t (ap first same) (and_parts (method_fits d t) (list_all (method_fits d) ts) fit).0)
  methods_signed (x ∷ xs) (t ∷ ts) same fit (suc m) types at =
      methods_signed xs ts (ap others same) (and_parts (method_fits d t) (list_all (method_fits d) ts) fit).1 m types at

  -- ---- caller ports

  caller_signed : (x : Caller) (t : CallerTypes) → caller_widths x ≡ noted_caller t → caller_fits d t ≡ true
      → IsSigned d (record { there = true; arguments = listed x.argument; answer = x.result }) (record { arguments = argument_list t.argument; result = t.result })
  caller_signed x t same fits =
      let parts = and_parts (type_fits_if d t.argument) (type_fits_if d t.result) fits in
      record {
        there = refl;
        arguments = ap (λ (w : Widths). w.arguments) same ∙ listed_same t.argument;
        answer = ap (λ (w : Widths). w.answer) same ∙ width_same t.result;
        typed = listed_typed t.argument parts.0;
        result = result_is t.result parts.1;
      }

  callers_signed : (xs : List Caller) (ts : List CallerTypes) → map caller_widths xs ≡ map noted_caller ts
      → list_all (caller_fits d) ts ≡ true → (m : ℕ) (types : CallTypes) → caller_types (slice_get ts m) ≡ Some types
      → IsSigned d (caller_signature xs m) types
  callers_signed xs [] same fit m types at = never (ap is_some at)
  callers_signed [] (t ∷ ts) same fit m types at = absurd (false≢true (sym (ap is_empty same)))
  callers_signed (x ∷ xs) (t ∷ ts) same fit zero types at =
      subst (λ (types : CallTypes). IsSigned d (record { there = true; arguments = listed x.argument; answer = x.result }) types)
      (same_Some _ types at)
      (caller_signed x t (ap first same) (and_parts (caller_fits d t) (list_all (caller_fits d) ts) fit).0)
  callers_signed (x ∷ xs) (t ∷ ts) same fit (suc m) types at =
      callers_signed xs ts (ap others same) (and_parts (caller_fits d t) (list_all (caller_fits d) ts) fit).1 m types at

-- ---- a design

-- a kind that fits, with what is noted of it
pub record Fits (d : Design) (kind : Kind) (raw : RawKind) : Type 0 where
  pub kept : IsKept d kind raw
  pub noted : IsNoted d kind raw

module _ (given : RawDesign) (many : length given.design.kinds ≡ length given.kinds)
    (fits : (k : ℕ) (kind : Kind) (raw : RawKind) → slice_get given.design.kinds k ≡ Some kind
    → slice_get given.kinds k ≡ Some raw → Fits given.design kind raw) where
  abbrev d : Design
  d = given.design

  -- a method or caller port of a kind
  own_methods : (kind : Kind) (raw : RawKind) → Fits d kind raw → (m : ℕ) (types : CallTypes) → method_of (Some raw) m ≡ Some types
      → IsSigned d (method_signature kind.methods m) types
  own_methods kind raw is m types at = methods_signed d kind.methods raw.methods is.noted.methods is.kept.typed.methods_fit m types at

  own_callers : (kind : Kind) (raw : RawKind) → Fits d kind raw → (p : ℕ) (types : CallTypes) → port_of (Some raw) p ≡ Some types
      → IsSigned d (caller_signature kind.callers p) types
  own_callers kind raw is p types at = callers_signed d kind.callers raw.callers is.noted.callers is.kept.typed.callers_fit p types at

  -- what is looked up in the kind of a child that is there
  module _ (sign : Kind → ℕ → Signature) (of : Option RawKind → ℕ → Option CallTypes)
      (nothing : (n : ℕ) → of None n ≡ None) (bare : (n : ℕ) → (sign no_kind n).there ≡ false)
      (own : (kind : Kind) (raw : RawKind) → Fits d kind raw → (n : ℕ) (types : CallTypes) → of (Some raw) n ≡ Some types
      → IsSigned d (sign kind n) types) where
    kind_signed : (k n : ℕ) (types : CallTypes) → of (slice_get given.kinds k) n ≡ Some types → IsSigned d (sign (kind_of d k) n) types
    kind_signed k n types at = by (slice_get given.kinds k) refl at
      where
        by : (raw : Option RawKind) → slice_get given.kinds k ≡ raw → of raw n ≡ Some types → IsSigned d (sign (kind_of d k) n) types
        by None is at = never (ap is_some (sym (nothing n) ∙ at))
        by (Some raw) is at =
            let found = at_both d.kinds given.kinds many k raw is in
            subst (λ (kind : Kind). IsSigned d (sign kind n) types) (sym (got_there d.kinds k no_kind found.0 found.1))
            (own found.0 raw (fits k found.0 raw found.1 is) n types at)

    past_end : (n : ℕ) → IsTrue (sign (kind_of d (length d.kinds)) n).there → ⊥
    past_end n there =
        false≢true (sym (bare n) ∙ subst (λ (kind : Kind). (sign kind n).there ≡ true) (past d.kinds) there)
      where
        past : (ks : List Kind) → slice_index_or ks (length ks) no_kind ≡ no_kind
        past [] = refl
        past (k ∷ ks) = past ks

    child_signed : (children : List Child) (c n : ℕ) (types : CallTypes) → of (slice_get given.kinds (kind_of_child children c)) n ≡ Some types
        → IsTrue (sign (kind_of d (slice_index_or children c (no_child d.kinds)).kind) n).there
        → IsSigned d (sign (kind_of d (slice_index_or children c (no_child d.kinds)).kind) n) types
    unfolding kind_of_child
    child_signed children c n types at there = by (slice_get children c) refl at
      where
        by : (x : Option Child) → slice_get children c ≡ x
            → of (slice_get given.kinds (elim x as (λ _. ℕ) [ Some c ↦ c.kind | None ↦ 0 ])) n ≡ Some types
            → IsSigned d (sign (kind_of d (slice_index_or children c (no_child d.kinds)).kind) n) types
        by None is at =
            absurd (past_end n (subst (λ (x : Child). IsTrue (sign (kind_of d x.kind) n).there) (none_there children c (no_child d.kinds) is) there))
        by (Some x) is at =
            subst (λ (x : Child). IsSigned d (sign (kind_of d x.kind) n) types) (sym (got_there children c (no_child d.kinds) x is))
            (kind_signed x.kind n types at)

  methods_none : (n : ℕ) → method_of None n ≡ None
  methods_none n = refl

  callers_none : (n : ℕ) → port_of None n ≡ None
  callers_none n = refl

  module _ (kind : Kind) (raw : RawKind) (own : Names ℕ) (sort : BodySort) (is : Fits given.design kind raw) where
    abbrev scope : Scope
    scope = record { design = given; kind = kind; raw = raw; own = own; sort = sort }

    signed : (c : Callee) (types : CallTypes) → call_types scope c ≡ Some types → IsTrue (signature_of given.design kind c).there
        → IsSigned given.design (signature_of given.design kind c) types
    unfolding call_types child_kind
    signed (callee.Own m) types at there = own_methods kind raw is m types at
    signed (callee.Port p) types at there = own_callers kind raw is p types at
    signed (callee.Child c m) types at there =
        child_signed (λ (k : Kind) (m : ℕ). method_signature k.methods m) method_of methods_none (λ n. refl) own_methods kind.children c m types at there
    signed (callee.ChildPort c p) types at there =
        child_signed (λ (k : Kind) (p : ℕ). caller_signature k.callers p) port_of callers_none (λ n. refl) own_callers kind.children c p types at there

    pub are_called : AreCalled scope
    are_called c types at there =
        let so = signed c types at there in
        record { there = so.there; arguments = so.arguments; answer = so.answer; typed = so.typed; result = so.result }

-- each kind of a design that is given fits, with what is noted of it
pub kinds_fit : (nodes : List Node) (name : List ℕ) (params : List Param) (given : RawDesign)
    → IsTrue (declares_proper_names nodes) → IsTrue (are_good_params params) → build nodes name params ≡ Ok given
    → (k : ℕ) (kind : Kind) (raw : RawKind) → slice_get given.design.kinds k ≡ Some kind
    → slice_get given.kinds k ≡ Some raw → Fits given.design kind raw
kinds_fit nodes name params given names good is k kind raw first second = record {
  kept = kinds_kept nodes name params given names good is k kind raw first second;
  noted = kinds_noted nodes name params given names good is k kind raw first second;
}
