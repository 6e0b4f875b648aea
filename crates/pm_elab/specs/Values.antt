-- The sorts of values, and what takes a value of one sort alone.
use Rattle.std.specs.Prelude.{ℕ, ◌-◌, ◌^◌, ℤ, pos, negsuc, Bool, true, false, ◌&&◌, if◌then◌else◌, nat_lt, nat_le, List, slice_get, Option, Some, None, Ok, Err}
use Rattle.std.specs.List.{list_all}
use Rattle.pm_bits.specs.Word.{Word, word_of_int}
use Rattle.pm_values.specs.declared.fault.BuildFault.TheVariants.{WrongKind, IntRange, WidthRange}
use Rattle.pm_values.specs.declared.reference.ValueType.{ValueType}
use Rattle.pm_values.specs.declared.value.New.{New}
use Rattle.pm_values.specs.declared.value.New.TheVariants as new
use Rattle.pm_values.specs.declared.value.Member.{Member, Member-F}
use Rattle.pm_values.specs.declared.value.Value.{Value, Value-F, out-Value, fold-Value}
use Rattle.pm_elab.specs.Elab.{Checked, and_then, or_else}

-- ---- a value of one sort

-- the integer
abbrev pub int_at : ℕ → Value-F Value Member → Checked ℤ
int_at line (Value-F.Int n) = Ok n
int_at line _ = Err (WrongKind line)

-- the integer that a value is
unfoldable pub int : ℕ → Value → Checked ℤ
int line v = int_at line (out-Value v)

-- the list
abbrev pub list_at : ℕ → Value-F Value Member → Checked (List Value)
list_at line (Value-F.Items vs) = Ok vs
list_at line _ = Err (WrongKind line)

-- the list that a value is
unfoldable pub list : ℕ → Value → Checked (List Value)
list line v = list_at line (out-Value v)

-- the type
abbrev pub type_at : ℕ → Value-F Value Member → Checked ValueType
type_at line (Value-F.Type t) = Ok t
type_at line _ = Err (WrongKind line)

-- the type that a value is
unfoldable pub type_in : ℕ → Value → Checked ValueType
type_in line v = type_at line (out-Value v)

-- ---- widths and constants

-- Bits of a width
abbrev pub bits_of : ℕ → ValueType
bits_of width = record { width = width; shape = None }

-- the width is 1 to 128
abbrev pub is_width : ℕ → Bool
is_width n = nat_le 1 n && nat_le n 128

-- Bits of a width of 1 to 128
abbrev pub bits_in : ℕ → ℤ → Checked ValueType
bits_in line (pos n) = if is_width n then Ok (bits_of n) else Err (WidthRange line)
bits_in line (negsuc n) = Err (WidthRange line)

-- Bits of a width of 1 to 128
unfoldable pub bits_of_width : ℕ → ℤ → Checked ValueType
bits_of_width = bits_in

-- the type of a signal
abbrev pub signal_type_at : ℕ → Value-F Value Member → Checked ValueType
signal_type_at line (Value-F.Int n) = bits_of_width line n
signal_type_at line (Value-F.Type t) = Ok t
signal_type_at line _ = Err (WrongKind line)

-- the type of a signal, by a type or a width
unfoldable pub signal_type : ℕ → Value → Checked ValueType
signal_type line v = signal_type_at line (out-Value v)

-- c is a number of the width, `-2^(n-1) <= c < 2^n`
abbrev pub fits_width : ℕ → ℤ → Bool
fits_width width (pos n) = nat_lt n (2 ^ width)
fits_width width (negsuc n) = nat_lt n (2 ^ (width - 1))

-- the constant of the width, if the integer is a number of it
unfoldable pub constant_of : ℕ → ℤ → Option Word
constant_of width c = if is_width width && fits_width width c then Some (word_of_int width c) else None

-- the constant that an integer is in a width
unfoldable pub constant : ℕ → ℕ → Value → Checked Word
constant line width v = and_then (int line v) (λ n. or_else (constant_of width n) (IntRange line))

-- the constant of the width, if the literal is a number of it
unfoldable pub literal_of : ℕ → ℕ → Option Word
literal_of width n = if is_width width && nat_lt n (2 ^ width) then Some (record { width = width; value = n }) else None

-- a literal directly inside `BitsN( .. )`, which may have more than 64 bits
unfoldable pub literal_constant : ℕ → ℕ → ℕ → Checked Word
literal_constant line width n = or_else (literal_of width n) (IntRange line)

-- ---- elements of a list

-- the element at an index from 0
abbrev pub item_at : ℕ → List Value → ℤ → Checked Value
item_at line vs (pos n) = or_else (slice_get vs n) (IntRange line)
item_at line vs (negsuc n) = Err (IntRange line)

-- the element at an index from 0
unfoldable pub item : ℕ → List Value → ℤ → Checked Value
item = item_at

-- ---- what may stand where

-- a member is of the sort that its value is
abbrev pub member_sort : Member-F Bool Bool → Bool
member_sort m = m.value

-- an integer, a type, a constant, a class, or a list of such values
abbrev pub plain_of : Value-F Bool Bool → Bool
plain_of (Value-F.Int n) = true
plain_of (Value-F.Type t) = true
plain_of (Value-F.Const w) = true
plain_of (Value-F.Class n) = true
plain_of (Value-F.Items bs) = list_all (λ b. b) bs
plain_of _ = false

-- an argument of a class: an integer, a type, a constant, a class, or a list of such values
unfoldable pub is_plain : Value → Bool
is_plain = fold-Value Bool Bool plain_of member_sort

-- nothing in it is new, and it is no part of a constraint
abbrev pub settled_of : Value-F Bool Bool → Bool
settled_of (Value-F.New n) = false
settled_of (Value-F.NewInterface ms) = false
settled_of (Value-F.Term t) = false
settled_of (Value-F.Rule t u) = false
settled_of (Value-F.Items bs) = list_all (λ b. b) bs
settled_of _ = true

-- what a name of `construct` may stand for: a value with nothing new in it
unfoldable pub is_settled : Value → Bool
is_settled = fold-Value Bool Bool settled_of member_sort

-- a new thing that a list may have as an element
abbrev pub new_element : New → Bool
new_element (new.Signal role t) = true
new_element (new.Child kind) = true
new_element _ = false

-- what a list that is an attribute may have as an element
abbrev pub element_of : Value-F Bool Bool → Bool
element_of (Value-F.New n) = new_element n
element_of Value-F.Own = false
element_of (Value-F.Term t) = false
element_of (Value-F.Rule t u) = false
element_of (Value-F.Items bs) = list_all (λ b. b) bs
element_of _ = true

-- an element of a list that is an attribute: no caller port, no state
unfoldable pub is_element : Value → Bool
is_element = fold-Value Bool Bool element_of member_sort

-- a new thing that an attribute may take
abbrev pub new_attribute : New → Bool
new_attribute (new.Deque n) = false
new_attribute _ = true

-- what an attribute of a component takes
abbrev pub attribute_sort : Value → Value-F Value Member → Bool
attribute_sort v (Value-F.New n) = new_attribute n
attribute_sort v _ = is_element v

-- a value that an attribute of a component takes: what an element of a list may be, or a port for calls
unfoldable pub is_attribute : Value → Bool
is_attribute v = attribute_sort v (out-Value v)

-- a new thing that a member of an interface may be
abbrev pub new_member : New → Bool
new_member (new.Signal role t) = true
new_member _ = false

-- what a member of an interface may be
abbrev pub member_of : Value-F Bool Bool → Bool
member_of (Value-F.Int n) = true
member_of (Value-F.New n) = new_member n
member_of (Value-F.NewInterface ms) = true
member_of (Value-F.Items bs) = list_all (λ b. b) bs
member_of _ = false

-- a member of an interface: a signal, an interface, an integer, or a list of such members
unfoldable pub is_member : Value → Bool
is_member = fold-Value Bool Bool member_of member_sort
