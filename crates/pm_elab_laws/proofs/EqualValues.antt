-- An argument equals itself.
use Rattle.std.proofs.Common.{◌≡◌, ◌∙◌, ◌==◌, ◌&&◌, ℕ, ℤ, Bool, true, false, List, [], ◌∷◌, refl, sym, subst, map, ap}
use Rattle.std.proofs.Common.{arith}
use Rattle.std.specs.Prelude.{Option, Some, None, pos, negsuc, nat_le}
use Rattle.std.specs.List.{list_all}
use Rattle.std.specs.Str.{bytes_eq}
use Rattle.std.proofs.lemmas.Slice.Eq.{bytes_eq-Decides}
use Rattle.std.proofs.lemmas.Bool.{and_parts}
use Rattle.pm_values.specs.declared.reference.ValueType.{ValueType}
use Rattle.pm_values.specs.declared.value.Member.{Member, fold-Member}
use Rattle.pm_values.specs.declared.value.Value.{Value, Value-F, fold-roll-Value, out-Value, roll-Value, out-roll-Value}
use Rattle.pm_values.specs.declared.value.Value.TheFolds.{ind-Value, map-Value}
use Rattle.pm_values.specs.Integers.{equal}
use Rattle.pm_elab.specs.Connections.{same_number, same_type}
use Rattle.pm_elab.specs.Equality.{Test, same_items, int_same, type_same, constant_same, class_same, list_same, same_of}
use Rattle.pm_elab.specs.Equality.{member_test, same, same_arguments}
use Rattle.pm_elab.specs.Values.{is_plain, plain_of, member_sort}

equal_nat : (n : ℕ) → (n == n) ≡ true
equal_nat n = grind arith

pub both : (a b : Bool) → a ≡ true → b ≡ true → (a && b) ≡ true
both true b first second = second
both false b first second = first

at_most : (n : ℕ) → nat_le n n ≡ true
at_most n = grind arith

equal_int : (n : ℤ) → equal n n ≡ true
equal_int (pos n) = both (nat_le n n) (nat_le n n) (at_most n) (at_most n)
equal_int (negsuc n) = both (nat_le n n) (nat_le n n) (at_most n) (at_most n)

pub equal_bytes : (xs : List ℕ) → bytes_eq xs xs ≡ true
equal_bytes xs = (bytes_eq-Decides xs xs).1 refl

equal_number : (n : Option ℕ) → same_number n n ≡ true
unfolding same_number
equal_number (Some n) = equal_nat n
equal_number None = refl

equal_type : (t : ValueType) → same_type t t ≡ true
unfolding same_type
equal_type t = both (t.width == t.width) (same_number t.shape t.shape) (equal_nat t.width) (equal_number t.shape)

abbrev Equals : Value → Type 0
Equals v = is_plain v ≡ true → same v v ≡ true

abbrev Nothing : Member → Type 0
Nothing m = Unit {0}

abbrev plain_member : Member → Bool
plain_member = fold-Member Bool Bool plain_of member_sort

abbrev test_member : Member → Test
test_member = fold-Member Test Test same_of member_test

abbrev Down : Value-F ((v : Value) × Equals v) ((m : Member) × Nothing m) → Value-F Value Member
Down y = map-Value ((v : Value) × Equals v) ((m : Member) × Nothing m) Value Member (λ v. v.0) (λ m. m.0) y

items : (vs : List ((v : Value) × Equals v)) → list_all (λ b. b) (map is_plain (map (λ v. v.0) vs)) ≡ true
    → same_items (map same (map (λ v. v.0) vs)) (map (λ v. v.0) vs) ≡ true
items [] plain = refl
items (v ∷ vs) plain =
    let parts = and_parts (is_plain v.0) (list_all (λ b. b) (map is_plain (map (λ v. v.0) vs))) plain in
    both (same v.0 v.0) (same_items (map same (map (λ v. v.0) vs)) (map (λ v. v.0) vs)) (v.1 parts.0) (items vs parts.1)

never : {A : Type 0} → false ≡ true → A
never {A = A} e = absurd (subst (λ (b : Bool). elim b as (λ _. Type 0) [ true ↦ ⊥ | false ↦ Unit {0} ]) e tt)

opened : (x : Value-F Value Member) (P : Value-F Value Member → Type 0) → P x → P (out-Value (roll-Value x))
opened x P is = subst P (sym (out-roll-Value x)) is

layer : (y : Value-F ((v : Value) × Equals v) ((m : Member) × Nothing m))
    → plain_of (map-Value Value Member Bool Bool is_plain plain_member (Down y)) ≡ true
    → same_of (map-Value Value Member Test Test same test_member (Down y)) (roll-Value (Down y)) ≡ true
layer (Value-F.Int n) plain = opened (Value-F.Int n) (λ o. int_same n o ≡ true) (equal_int n)
layer (Value-F.Type t) plain = opened (Value-F.Type t) (λ o. type_same t o ≡ true) (equal_type t)
layer (Value-F.Const w) plain = opened (Value-F.Const w) (λ o. constant_same w o ≡ true) (both (w.width == w.width)
    (w.value == w.value) (equal_nat w.width) (equal_nat w.value))
layer (Value-F.Class n) plain = opened (Value-F.Class n) (λ o. class_same n o ≡ true) (equal_bytes n)
layer (Value-F.Items vs) plain = opened (Value-F.Items (map (λ v. v.0) vs)) (λ o. list_same
    (map same (map (λ v. v.0) vs)) o ≡ true) (items vs plain)
layer Value-F.Own plain = never plain
layer (Value-F.New n) plain = never plain
layer (Value-F.NewInterface ms) plain = never plain
layer (Value-F.Taken t) plain = never plain
layer (Value-F.Interface ms) plain = never plain
layer (Value-F.Term t) plain = never plain
layer (Value-F.Rule t u) plain = never plain

whole : (x : Value-F Value Member) (y : Value-F ((v : Value) × Equals v) ((m : Member) × Nothing m)) → Down y ≡ x
    → Equals (roll-Value x)
unfolding is_plain same
whole x y is plain =
    let step : Value-F Value Member → Type 0 = λ z. plain_of (map-Value Value Member Bool Bool is_plain plain_member
    z) ≡ true → same_of (map-Value Value Member Test Test same test_member z) (roll-Value z) ≡ true in
    ap (λ (t : Test). t (roll-Value x)) (fold-roll-Value Test Test same_of member_test x)
    ∙ subst step is (layer y) (sym (fold-roll-Value Bool Bool plain_of member_sort x) ∙ plain)

pub equals : (v : Value) → is_plain v ≡ true → same v v ≡ true
equals v = ind-Value Equals Nothing whole (λ x y is. tt) v

pub all_equal : (vs : List Value) → list_all is_plain vs ≡ true → same_arguments vs vs ≡ true
unfolding same_arguments
all_equal [] plain = refl
all_equal (v ∷ vs) plain =
    let parts = and_parts (is_plain v) (list_all is_plain vs) plain in
    both (same v v) (same_items (map same vs) vs) (equals v parts.0) (all_equal vs parts.1)
