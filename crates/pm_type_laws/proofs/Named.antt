-- Names and attributes.
use Rattle.std.proofs.Common.{◌≡◌, ◌<◌, ℕ, zero, suc, Bool, true, List, [], ◌∷◌, refl, length}
use Rattle.std.specs.Prelude.{IsTrue, slice_get, nat_lt, pos, codes, Option, Some, None, Ok, Err}
use Rattle.std.specs.Str.{bytes_eq}
use Rattle.std.specs.List.{find, list_all, range_with_len}
use Rattle.std.proofs.lemmas.Bool.{and_parts}
use Rattle.pm_design.specs.Widths.{is_width}
use Rattle.pm_values.specs.declared.value.Member.{Member}
use Rattle.pm_values.specs.declared.value.Value.{Value}
use Rattle.pm_values.specs.Tables.{get}
use Rattle.pm_elab.specs.declared.elaboration.RawKind.{RawKind}
use Rattle.pm_elab.specs.declared.frame.Local.{Local}
use Rattle.pm_elab.specs.Attributes.{member_named}
use Rattle.pm_elab.specs.Sites.{is_type_name, named_width}
use Rattle.pm_elab.specs.Views.{kind_of_child}
use Rattle.pm_typing.specs.declared.fault.TypeFault.TheVariants.{NotAllowedHere}
use Rattle.pm_typing.specs.declared.frame.Bound.{Bound}
use Rattle.pm_typing.specs.declared.frame.Bound.TheVariants as bound
use Rattle.pm_typing.specs.declared.operand.Change.{Change}
use Rattle.pm_typing.specs.declared.scope.BodySort.{BodySort}
use Rattle.pm_typing.specs.declared.scope.BodySort.TheVariants as sort
use Rattle.pm_typing.specs.declared.thing.BodyFunction.{BodyFunction}
use Rattle.pm_typing.specs.Counted.{Checked}
use Rattle.pm_typing.specs.Names.{width_meant, function_meant, body_function, built_in, file_meant, file_named, local_meant, local_named, outer_of, outer_named, bound_thing, named_at, name_thing, seen_if, attribute_in, child_attribute_in, child_attribute, member_thing, change_named, change_if, deque_attribute, state_attribute, most_items}
use Rattle.pm_typing.specs.Sites.{Scope, Site}
use Rattle.pm_typing.specs.Things as things
use Rattle.pm_typing.specs.Things.{Thing}
use Rattle.pm_type_laws.specs.Views.{Each, IsBound, IsSite, Sees, View}
use Rattle.pm_type_laws.specs.Good.{is_value, is_state, has_values}
use Rattle.pm_type_laws.proofs.Yields.{On, Where, test_on}
use Rattle.pm_type_laws.proofs.Things.{IsThing, is_deque}
use Rattle.pm_type_laws.proofs.Values.{either, named_in, seen_thing, meant_thing, both}

-- one of the list has the property
pub found_in : {A : Type 0} (P : A → Type 0) (xs : List A) (k : ℕ) → Each P xs → Where P (slice_get xs k)
found_in P [] k each = tt
found_in P (x ∷ xs) zero each = each.0
found_in P (x ∷ xs) (suc k) each = found_in P xs k each.1

-- what is found is one of those that pass
found_all : {A : Type 0} (passes test : A → Bool) (xs : List A) → IsTrue (list_all passes xs)
    → Where (λ (a : A). IsTrue (passes a)) (find test xs)
found_all passes test [] all = tt
found_all {A} passes test (x ∷ xs) all =
    let parts = and_parts (passes x) (list_all passes xs) all in
    either (λ (a : A). IsTrue (passes a)) (test x) (Some x) (find test xs) parts.0 (found_all passes test xs parts.1)

-- a type's name has a width
named_type : (name : List ℕ) → Where (λ (w : ℕ). IsTrue (is_width w)) (named_width name)
unfolding named_width
named_type name = found_all is_width (is_type_name name) (range_with_len 1 128) refl

module _ (s : View) (scope : Scope) (sees : Sees s scope) where
  width_thing : (line : ℕ) (w : Option ℕ) → Where (λ (n : ℕ). IsTrue (is_width n)) w
      → On (IsThing s scope) (width_meant line w)
  width_thing line (Some w) is = both (is_width w) true is refl
  width_thing line None is = tt

  function_thing : (line : ℕ) (f : Option BodyFunction) (name : List ℕ)
      → On (IsThing s scope) (function_meant line f name)
  function_thing line (Some f) name = tt
  function_thing line None name = width_thing line (named_width name) (named_type name)

  file_thing : (line : ℕ) (v : Option Value) (name : List ℕ) → Where (λ (v : Value). IsTrue (is_value scope None v)) v
      → On (IsThing s scope) (file_meant line v name)
  unfolding built_in
  file_thing line (Some v) name is = meant_thing s scope sees line v is
  file_thing line None name is = function_thing line (body_function name) name

  file_name : (line : ℕ) (name : List ℕ) → On (IsThing s scope) (file_named scope line name)
  unfolding file_named
  file_name line name =
      test_on (IsThing s scope) (bytes_eq name (codes "s")) (Ok things.own) _ (λ _. tt)
      (file_thing line (get scope.design.names name) name (named_in (is_value scope None) scope.design.names name sees.made.names))

  local_thing : (line : ℕ) (l : Option Local) (name : List ℕ)
      → Where (λ (l : Local). IsTrue (is_value scope None l.value)) l
      → On (IsThing s scope) (local_meant scope line l name)
  local_thing line (Some l) name is = meant_thing s scope sees line l.value is
  local_thing line None name is = file_name line name

  local_name : (line : ℕ) (name : List ℕ) → On (IsThing s scope) (local_named scope line name)
  local_name line name =
      local_thing line (get scope.raw.locals name) name
      (named_in (λ (l : Local). is_value scope None l.value) scope.raw.locals name sees.made.locals)

  outer_name : (b : BodySort) (line : ℕ) (name : List ℕ) → On (IsThing s scope) (outer_of b scope line name)
  outer_name sort.Method line name = file_name line name
  outer_name _ line name = local_name line name

  bound_is : (line : ℕ) (b : Option Bound) → Where (IsBound s scope) b → On (IsThing s scope) (bound_thing line b)
  bound_is line (Some (bound.Int n)) is = tt
  bound_is line (Some (bound.Temp t ty)) is = is
  bound_is line (Some bound.Unassigned) is = tt
  bound_is line None is = tt

  named_is : (line : ℕ) (bounds : List Bound) (k : Option ℕ) (name : List ℕ) → Each (IsBound s scope) bounds
      → On (IsThing s scope) (elim k as (λ _. Checked Thing) [ Some i ↦ bound_thing line (slice_get bounds i) | None ↦ outer_named scope line name ])
  unfolding outer_named
  named_is line bounds (Some k) name each = bound_is line (slice_get bounds k) (found_in (IsBound s scope) bounds k each)
  named_is line bounds None name each = outer_name scope.sort line name

  -- ---- attributes

  seen_is : (line : ℕ) (whose : Option ℕ) (v : Option Value) → Where (λ (v : Value). IsTrue (is_value scope whose v)) v
      → On (IsThing s scope) (seen_if line whose v)
  seen_is line whose (Some v) is = seen_thing s scope sees line whose v is
  seen_is line whose None is = tt

  attribute_is : (line : ℕ) (whose : Option ℕ) (raw : RawKind) (name : List ℕ) → IsTrue (has_values scope whose raw)
      → On (IsThing s scope) (attribute_in line whose raw name)
  unfolding attribute_in
  attribute_is line whose raw name is =
      test_on (IsThing s scope) (bytes_eq name (codes "clk")) (Err (NotAllowedHere line)) _ (λ _. tt)
      (seen_is line whose (get raw.attributes name) (named_in (is_value scope whose) raw.attributes name is))

  -- an attribute of the component
  pub own_attribute : (line : ℕ) (name : List ℕ) → On (IsThing s scope) (attribute_in line None scope.raw name)
  own_attribute line name = attribute_is line None scope.raw name sees.made.own

  child_attribute_is : (line k : ℕ) (raw : Option RawKind) (name : List ℕ)
      → Where (λ (raw : RawKind). IsTrue (has_values scope (Some k) raw)) raw
      → On (IsThing s scope) (child_attribute_in line k raw name)
  child_attribute_is line k (Some raw) name is = attribute_is line (Some k) raw name is
  child_attribute_is line k None name is = tt

  child_is : (k : ℕ) (raw : Option RawKind) → k < length scope.kind.children
      → slice_get scope.design.kinds (kind_of_child scope.kind.children k) ≡ raw
      → Where (λ (raw : RawKind). IsTrue (has_values scope (Some k) raw)) raw
  child_is k (Some raw) there e = sees.made.children k raw there e
  child_is k None there e = tt

  -- an attribute of a child
  pub childs_attribute : (line k : ℕ) (name : List ℕ) → k < length scope.kind.children
      → On (IsThing s scope) (child_attribute scope line k name)
  unfolding child_attribute
  childs_attribute line k name there =
      child_attribute_is line k (slice_get scope.design.kinds (kind_of_child scope.kind.children k)) name (child_is k _ there refl)

  member_of : (whose : Option ℕ) (ms : List Member) (name : List ℕ)
      → IsTrue (list_all (λ m. is_value scope whose m.value) ms)
      → Where (λ (v : Value). IsTrue (is_value scope whose v)) (member_named ms name)
  unfolding member_named
  member_of whose [] name all = tt
  member_of whose (m ∷ ms) name all =
      let parts = and_parts (is_value scope whose m.value) (list_all (λ m. is_value scope whose m.value) ms) all in
      either (λ (v : Value). IsTrue (is_value scope whose v)) (bytes_eq m.name name) (Some m.value) (member_named ms name)
      parts.0 (member_of whose ms name parts.1)

  -- a member of an interface
  pub member_is : (line : ℕ) (whose : Option ℕ) (ms : List Member) (name : List ℕ)
      → IsTrue (list_all (λ m. is_value scope whose m.value) ms)
      → On (IsThing s scope) (member_thing line whose ms name)
  unfolding member_thing
  member_is line whose ms name all = seen_is line whose (member_named ms name) (member_of whose ms name all)

  change_is : (line k : ℕ) (c : Option Change) → IsTrue (is_deque scope k) → On (IsThing s scope) (change_if line k c)
  change_is line k (Some c) is = is
  change_is line k None is = tt

  deque_is : (line k most : ℕ) (name : List ℕ) → IsTrue (is_deque scope k)
      → On (IsThing s scope) (deque_attribute line k most name)
  unfolding deque_attribute
  deque_is line k most name is =
      test_on (IsThing s scope) (bytes_eq name (codes "maxlen")) (Ok (things.integer (pos most))) _ (λ _. tt)
      (change_is line k (change_named name) is)

  -- an attribute of a state
  pub state_is : (line k : ℕ) (name : List ℕ) → IsTrue (is_state scope k)
      → On (IsThing s scope) (state_attribute scope line k name)
  unfolding state_attribute
  state_is line k name is =
      test_on (IsThing s scope) (nat_lt 0 (most_items scope k)) (deque_attribute line k (most_items scope k) name) _
      (λ deque. deque_is line k (most_items scope k) name (both (is_state scope k) _ is deque)) tt

-- what a name is
pub name_is : (s : View) (site : Site) (name : List ℕ) → IsSite s site
    → On (IsThing s site.scope) (name_thing name site)
unfolding name_thing
name_is s site name at = by (get site.scope.own name)
  where
    by : (k : Option ℕ) → On (IsThing s site.scope) (named_at site k name)
    by (Some k) = named_is s site.scope at.0 site.line site.bounds (Some k) name at.1
    by None = named_is s site.scope at.0 site.line site.bounds None name at.1
