-- Values that names, attributes and elements are.
use Rattle.std.proofs.Common.{◌≡◌, ◌∙◌, ◌==◌, ◌&&◌, ℕ, zero, suc, Bool, true, false, List, [], ◌∷◌, refl, sym, subst, map}
use Rattle.std.specs.Prelude.{IsTrue, if◌then◌else◌, slice_get, Option, Some, None, Ok, Err}
use Rattle.std.specs.Str.{bytes_eq}
use Rattle.std.specs.List.{list_all}
use Rattle.std.proofs.lemmas.Bool.{and_parts}
use Rattle.pm_design.specs.declared.connection.Callee.{Callee}
use Rattle.pm_design.specs.declared.connection.Callee.TheVariants as callee
use Rattle.pm_design.specs.Lookups.{Signature}
use Rattle.pm_values.specs.declared.reference.Reference.{Reference}
use Rattle.pm_values.specs.declared.value.Member.{Member, fold-Member, fold_out-Member}
use Rattle.pm_values.specs.declared.value.Taken.{Taken}
use Rattle.pm_values.specs.declared.value.Taken.TheVariants as taken
use Rattle.pm_values.specs.declared.value.Value.{Value, Value-F, fold_out-Value, out-Value}
use Rattle.pm_values.specs.declared.value.Value.TheFolds.{map-Value}
use Rattle.pm_values.specs.Tables.{Names, get}
use Rattle.pm_elab.specs.Values.{is_plain, member_sort}
use Rattle.pm_elab.specs.Views.{is_port}
use Rattle.pm_typing.specs.declared.fault.TypeFault.TheVariants.{NotAllowedHere}
use Rattle.pm_typing.specs.Names.{own_taken, method_of_child, child_taken, taken_by, plain_by, seen_at, seen, meant}
use Rattle.pm_typing.specs.Sites.{Scope}
use Rattle.pm_typing.specs.Things as things
use Rattle.pm_typing.specs.Things.{Thing}
use Rattle.pm_type_laws.specs.Views.{Sees, View}
use Rattle.pm_type_laws.specs.Good.{is_value, is_value_of, is_taken, is_own, is_childs, is_callable, is_callable_of, of_child, is_reference}
use Rattle.pm_type_laws.proofs.Yields.{On, Where, test_on}
use Rattle.pm_type_laws.proofs.Things.{IsThing}

-- each element passes the test
pub find_in : {A : Type 0} (test : A → Bool) (xs : List A) (k : ℕ) → IsTrue (list_all test xs)
    → Where (λ (a : A). IsTrue (test a)) (slice_get xs k)
find_in test [] k all = tt
find_in test (x ∷ xs) zero all = (and_parts (test x) (list_all test xs) all).0
find_in test (x ∷ xs) (suc k) all = find_in test xs k (and_parts (test x) (list_all test xs) all).1

pub either : {A : Type 0} (P : A → Type 0) (b : Bool) (x y : Option A) → Where P x → Where P y
    → Where P (if b then x else y)
either P true x y first second = first
either P false x y first second = second

-- what a table has under a name passes the test
pub named_in : {A : Type 0} (test : A → Bool) (names : Names A) (name : List ℕ)
    → IsTrue (list_all (λ n. test n.1) names)
    → Where (λ (a : A). IsTrue (test a)) (get names name)
named_in test [] name all = tt
named_in {A} test (n ∷ ns) name all =
    let parts = and_parts (test n.1) (list_all (λ n. test n.1) ns) all in
    either (λ (a : A). IsTrue (test a)) (bytes_eq name n.0) (Some n.1) (get ns name) parts.0 (named_in test ns name parts.1)

-- ---- values

pub both : (a b : Bool) → IsTrue a → IsTrue b → IsTrue (a && b)
both true b first second = second
both false b first second = first

abbrev member_value : Scope → Option ℕ → Member → Bool
member_value scope whose = fold-Member Bool Bool (is_value_of scope whose) member_sort

member_is : (scope : Scope) (whose : Option ℕ) (m : Member) → member_value scope whose m ≡ is_value scope whose m.value
unfolding is_value
member_is scope whose m = fold_out-Member Bool Bool (is_value_of scope whose) member_sort m

value_is : (scope : Scope) (whose : Option ℕ) (v : Value) → is_value scope whose v
    ≡ is_value_of scope whose (map-Value Value Member Bool Bool (is_value scope whose) (member_value scope whose) (out-Value v))
unfolding is_value
value_is scope whose v = fold_out-Value Bool Bool (is_value_of scope whose) member_sort v

module _ (s : View) (scope : Scope) (sees : Sees s scope) where
  callable : (c : Callee) → IsTrue (is_callable scope c) → IsTrue (s.sight.calls c).there
  callable c is = subst (λ (f : Callee → Signature). IsTrue (f c).there) (sym sees.calls) is

  own_thing : (line : ℕ) (t : Taken) → IsTrue (is_own scope t) → On (IsThing s scope) (own_taken line t)
  own_thing line (taken.Signal r) is = is
  own_thing line (taken.Child k) is = is
  own_thing line (taken.State k) is = is
  own_thing line (taken.Method c) is = callable c is
  own_thing line _ is = tt

  port_thing : (line k : ℕ) (r : Reference) (b : Bool) → IsTrue (if b then is_reference scope (of_child k r) else true)
      → On (IsThing s scope) (if b then Ok (things.signal (of_child k r)) else Err (NotAllowedHere line))
  port_thing line k r true is = is
  port_thing line k r false is = tt

  method_thing : (line k : ℕ) (c : Callee) → IsTrue (is_callable_of scope k c)
      → On (IsThing s scope) (method_of_child line k c)
  method_thing line k (callee.Own m) is = callable (callee.Child k m) is
  method_thing line k (callee.Port p) is = callable (callee.ChildPort k p) is
  method_thing line k _ is = tt

  child_thing : (line k : ℕ) (t : Taken) → IsTrue (is_childs scope k t) → On (IsThing s scope) (child_taken line k t)
  child_thing line k (taken.Signal r) is = port_thing line k r (r.part.owner == 0 && is_port r.role) is
  child_thing line k (taken.Method c) is = method_thing line k c is
  child_thing line k _ is = tt

  taken_thing : (line : ℕ) (whose : Option ℕ) (t : Taken) → IsTrue (is_taken scope whose t)
      → On (IsThing s scope) (taken_by line whose t)
  taken_thing line None t is = own_thing line t is
  taken_thing line (Some k) t is = child_thing line k t is

  plain_thing : (line : ℕ) (whose : Option ℕ) (t : Thing) → IsThing s scope t
      → On (IsThing s scope) (plain_by line whose t)
  plain_thing line None t is = is
  plain_thing line (Some k) t is = tt

  items_are : (whose : Option ℕ) (vs : List Value) → IsTrue (list_all (λ b. b) (map (is_value scope whose) vs))
      → IsTrue (list_all (is_value scope whose) vs)
  items_are whose [] all = refl
  items_are whose (v ∷ vs) all =
      let parts = and_parts (is_value scope whose v) (list_all (λ b. b) (map (is_value scope whose) vs)) all in
      both (is_value scope whose v) _ parts.0 (items_are whose vs parts.1)

  members_are : (whose : Option ℕ) (ms : List Member) → IsTrue (list_all (λ b. b) (map (member_value scope whose) ms))
      → IsTrue (list_all (λ m. is_value scope whose m.value) ms)
  members_are whose [] all = refl
  members_are whose (m ∷ ms) all =
      let parts = and_parts (member_value scope whose m) (list_all (λ b. b) (map (member_value scope whose) ms)) all in
      both (is_value scope whose m.value) _ (sym (member_is scope whose m) ∙ parts.0) (members_are whose ms parts.1)

  layer_thing : (line : ℕ) (whose : Option ℕ) (y : Value-F Value Member)
      → IsTrue (is_value_of scope whose (map-Value Value Member Bool Bool (is_value scope whose) (member_value scope whose) y))
      → On (IsThing s scope) (seen_at line whose y)
  layer_thing line whose (Value-F.Int n) is = plain_thing line whose (things.integer n) tt
  layer_thing line whose (Value-F.Type t) is = plain_thing line whose (things.of_type t) is
  layer_thing line whose (Value-F.Const w) is = plain_thing line whose (things.constant w) is
  layer_thing line whose (Value-F.Class n) is = plain_thing line whose things.class tt
  layer_thing line whose (Value-F.Items vs) is = items_are whose vs is
  layer_thing line whose (Value-F.Interface ms) is = members_are whose ms is
  layer_thing line whose (Value-F.Taken t) is = taken_thing line whose t is
  layer_thing line whose _ is = tt

  -- what a value is as the component, or its child, has it
  pub seen_thing : (line : ℕ) (whose : Option ℕ) (v : Value) → IsTrue (is_value scope whose v)
      → On (IsThing s scope) (seen line whose v)
  unfolding seen
  seen_thing line whose v is = layer_thing line whose (out-Value v) (sym (value_is scope whose v) ∙ is)

  -- what a value is that a name stands for
  pub meant_thing : (line : ℕ) (v : Value) → IsTrue (is_value scope None v) → On (IsThing s scope) (meant line v)
  unfolding meant
  meant_thing line v is = test_on (IsThing s scope) (is_plain v) (seen line None v) _ (λ _. seen_thing line None v is) tt
