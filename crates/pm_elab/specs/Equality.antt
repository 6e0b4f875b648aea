-- Which arguments are equal.
use Rattle.std.specs.Prelude.{ℕ, ℤ, Bool, true, false, ◌&&◌, ◌==◌, List, [], ◌∷◌, map}
use Rattle.std.specs.Str.{bytes_eq}
use Rattle.pm_bits.specs.Word.{Word}
use Rattle.pm_values.specs.declared.reference.ValueType.{ValueType}
use Rattle.pm_values.specs.declared.value.Member.{Member, Member-F}
use Rattle.pm_values.specs.declared.value.Value.{Value, Value-F, out-Value, fold-Value}
use Rattle.pm_values.specs.Integers.{equal}
use Rattle.pm_elab.specs.Connections.{same_type}

-- whether a value equals one that is given
abbrev pub Test : Type 0
Test = Value → Bool

-- the lists are as long, and each value equals the one at its place
abbrev pub same_items : List Test → List Value → Bool
same_items [] [] = true
same_items (p ∷ ps) (v ∷ vs) = p v && same_items ps vs
same_items _ _ = false

-- the integer
abbrev pub int_same : ℤ → Value-F Value Member → Bool
int_same n (Value-F.Int k) = equal n k
int_same n _ = false

-- the type
abbrev pub type_same : ValueType → Value-F Value Member → Bool
type_same t (Value-F.Type u) = same_type t u
type_same t _ = false

-- the constant
abbrev pub constant_same : Word → Value-F Value Member → Bool
constant_same w (Value-F.Const x) = w.width == x.width && w.value == x.value
constant_same w _ = false

-- the class
abbrev pub class_same : List ℕ → Value-F Value Member → Bool
class_same n (Value-F.Class c) = bytes_eq n c
class_same n _ = false

-- a list of equal elements
abbrev pub list_same : List Test → Value-F Value Member → Bool
list_same ps (Value-F.Items vs) = same_items ps vs
list_same ps _ = false

-- a value equals another, by what its elements equal
abbrev pub same_of : Value-F Test Test → Test
same_of (Value-F.Int n) v = int_same n (out-Value v)
same_of (Value-F.Type t) v = type_same t (out-Value v)
same_of (Value-F.Const w) v = constant_same w (out-Value v)
same_of (Value-F.Class n) v = class_same n (out-Value v)
same_of (Value-F.Items ps) v = list_same ps (out-Value v)
same_of _ v = false

-- arguments are integers, types, constants, classes and lists of such values, so no other values are compared
abbrev pub member_test : Member-F Test Test → Test
member_test m = m.value

-- two arguments are equal
unfoldable pub same : Value → Test
same = fold-Value Test Test same_of member_test

-- two lists of arguments are equal
unfoldable pub same_arguments : List Value → List Value → Bool
same_arguments vs ws = same_items (map same vs) ws
