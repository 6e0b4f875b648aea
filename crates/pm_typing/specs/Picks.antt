-- Elements by an index, which is an integer or Bits.
use Rattle.std.specs.Prelude.{ℕ, ◌+◌, ◌^◌, ℤ, pos, negsuc, Bool, true, false, nat_lt, nat_eq, if◌then◌else◌, zero, suc, List, [], ◌∷◌, ◌++◌, take, length, slice_get, Option, Some, None, Ok, Err}
use Rattle.std.specs.List.{list_all}
use Rattle.pm_design.specs.declared.body.Ex.{Ex}
use Rattle.pm_design.specs.declared.body.Ex.TheVariants as ex
use Rattle.pm_values.specs.declared.reference.Form.{Form}
use Rattle.pm_values.specs.declared.reference.Form.TheVariants as form
use Rattle.pm_values.specs.declared.reference.Reference.{Reference}
use Rattle.pm_values.specs.declared.value.Value.{Value}
use Rattle.pm_typing.specs.declared.fault.TypeFault.TheVariants.{WidthMismatch, NotAllowedHere, IndexRange}
use Rattle.pm_typing.specs.Counted.{Checked, and_then, Counted, ◌>>=◌, ◌>>◌, pure, fail, lift, node, nodes}
use Rattle.pm_typing.specs.Names.{seen, most_items}
use Rattle.pm_typing.specs.Operands.{Typed, is_bits, same_type, state_type}
use Rattle.pm_typing.specs.References.{bit, cut_part, element_type, type_of}
use Rattle.pm_typing.specs.Sites.{Scope}
use Rattle.pm_typing.specs.Things as things
use Rattle.pm_typing.specs.Things.{Thing}

-- ---- an integer as index

-- the element of a list that there is
abbrev pub item_if : ℕ → Option ℕ → Option Value → Checked Thing
item_if line whose (Some v) = seen line whose v
item_if line whose None = Err (IndexRange line)

-- the element of a list at an index from 0
abbrev pub item_at : ℕ → Option ℕ → List Value → ℤ → Checked Thing
item_at line whose vs (pos k) = item_if line whose (slice_get vs k)
item_at line whose vs (negsuc k) = Err (IndexRange line)

-- the element of a list at an index from 0
unfoldable pub item : ℕ → Option ℕ → List Value → ℤ → Checked Thing
item = item_at

-- an item of a deque, which is a node more
abbrev pub read_item : Scope → ℕ → Ex → Counted Thing
read_item scope k e = node >> pure (things.value e (state_type scope k))

-- an item of a deque at an index from 0, or the last one at -1
abbrev pub deque_item_at : Scope → ℕ → ℕ → ℤ → Counted Thing
deque_item_at scope line k (pos i) =
    if nat_lt i (most_items scope k) then read_item scope k (ex.Item k i) else fail (IndexRange line)
deque_item_at scope line k (negsuc i) = if nat_eq i 0 then read_item scope k (ex.Last k) else fail (IndexRange line)

-- an item of a deque; a number has none
unfoldable pub deque_item : Scope → ℕ → ℕ → ℤ → Counted Thing
deque_item scope line k i =
    if nat_lt 0 (most_items scope k) then deque_item_at scope line k i else fail (NotAllowedHere line)

-- the element of a list, the item of a deque, or else the bit of what has bits
abbrev pub element_at : Scope → ℕ → ℤ → Thing → Counted Thing
element_at scope line k (things.items whose vs) = lift (item line whose vs k)
element_at scope line k (things.state n) = deque_item scope line n k
element_at scope line k t = lift (bit line k t)

-- `x[k]` of an integer k
unfoldable pub element : Scope → ℕ → ℤ → Thing → Counted Thing
element = element_at

-- ---- Bits as index

-- a signal that a thing is
abbrev pub signal_at : ℕ → Thing → Checked Reference
signal_at line (things.signal r) = Ok r
signal_at line _ = Err (NotAllowedHere line)

-- a signal that a value is
unfoldable pub signal_seen : ℕ → Option ℕ → Value → Checked Reference
signal_seen line whose v = and_then (seen line whose v) (signal_at line)

-- the signals that values are, behind those that stand, or the first fault
unfoldable pub signals_seen : ℕ → Option ℕ → List Reference → List Value → Checked (List Reference)
signals_seen line whose done [] = Ok done
signals_seen line whose done (v ∷ vs) = and_then (signal_seen line whose v) (λ r. signals_seen line whose (done ++ r ∷ []) vs)

-- some of them are there
abbrev pub filled : ℕ → List Reference → Checked (List Reference)
filled line [] = Err (NotAllowedHere line)
filled line (r ∷ rs) = Ok (r ∷ rs)

-- signals and fields have bits that an index chooses; bits and slices have none
abbrev pub has_bits : Form → Bool
has_bits form.Whole = true
has_bits form.Field = true
has_bits form.Slice = false
has_bits form.Bit = false

-- bit k of a signal
abbrev pub bit_part : Reference → ℕ → Reference
bit_part r k = cut_part (record { lo = k; width = 1; form = form.Bit }) r

-- so many bits of a signal, from bit k on
unfoldable pub bits_from : Reference → ℕ → ℕ → List Reference
bits_from r k zero = []
bits_from r k (suc n) = bit_part r k ∷ bits_from r (k + 1) n

-- the bits of a signal
abbrev pub bit_parts : Reference → List Reference
bit_parts r = bits_from r 0 r.part.width

-- what an index chooses among
abbrev pub elements_at : ℕ → Thing → Checked (List Reference)
elements_at line (things.signal r) = if has_bits r.form then Ok (bit_parts r) else Err (NotAllowedHere line)
elements_at line (things.items whose vs) = and_then (signals_seen line whose [] vs) (filled line)
elements_at line _ = Err (NotAllowedHere line)

-- what an index chooses among: the bits of a signal or field, or the signals of a list
unfoldable pub elements : ℕ → Thing → Checked (List Reference)
elements = elements_at

-- the references have one type
unfoldable pub are_alike : List Reference → Bool
are_alike rs = list_all (λ r. same_type (type_of r) (element_type rs)) rs

-- the elements whose number fits the width
abbrev pub in_reach : ℕ → List Reference → List Reference
in_reach width rs = take (2 ^ width) rs

-- the elements among which an index chooses, each of them a node
unfoldable pub picked : ℕ → Bool → Typed → List Reference → Counted Thing
picked line inside index rs =
    if are_alike rs
    then (if inside then fail (NotAllowedHere line)
    else nodes (length (in_reach index.ty.width rs)) >> pure (things.pick index.expression (in_reach index.ty.width rs)))
    else fail (WidthMismatch line)

-- `x[e]`, where e is Bits
unfoldable pub dynamic : ℕ → Bool → Typed → Thing → Counted Thing
dynamic line inside index t =
    if is_bits index.ty then lift (elements line t) >>= (λ rs. picked line inside index rs) else fail (WidthMismatch line)
