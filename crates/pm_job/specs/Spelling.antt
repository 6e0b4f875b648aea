-- The spelling of the narrow form: names, numbers, and the parts of a line.
use Rattle.std.specs.Prelude.{ℕ, ◌^◌, Bool, not, ◌&&◌, ◌==◌, nat_lt, nat_le, if◌then◌else◌, List, [], ◌∷◌, length, slice_index, codes, Option, Some, None, option_map}
use Rattle.std.specs.Option.{option_and_then}
use Rattle.std.specs.Str.{bytes_eq}
use Rattle.pm_bits.specs.declared.operator.Op.{Op}
use Rattle.pm_bits.specs.declared.operator.Op.TheVariants as op
use Rattle.pm_bits.specs.Word.{Word}
use Rattle.pm_design.specs.declared.signal.Role.{Role}
use Rattle.pm_design.specs.declared.signal.Role.TheVariants as role
use Rattle.pm_syn.specs.Names.{is_proper_name}
use Rattle.pm_job.specs.Words.{is_blank, number_below}
use Rattle.pm_job.specs.Sound.{is_width}

-- the second step on what the first one gives, if it gives something
infixr 6 ◌and_then◌
abbrev pub ◌and_then◌ : {A B : Type 0} → Option A → (A → Option B) → Option B
first and_then second = option_and_then second first

-- the text before the first blank, and the text after it
unfoldable pub cut : List ℕ → Option (List ℕ × List ℕ)
cut [] = None
cut (byte ∷ text) = if is_blank byte then Some ([], text) else option_map (λ parts. (byte ∷ parts.0, parts.1)) (cut text)

-- a proper name of 64 bytes at most
unfoldable pub is_name : List ℕ → Bool
is_name word = is_proper_name word && nat_le (length word) 64

-- a name that a signal or a block is allowed to have
unfoldable pub is_new_name : List ℕ → Bool
is_new_name word = (is_name word && not (bytes_eq word (codes "clk"))) && not (bytes_eq word (codes "reset"))

-- the number that a word writes in decimal digits without leading zeros, if it is below the bound
unfoldable pub numeral_below : ℕ → List ℕ → Option ℕ
numeral_below bound word = if slice_index word 0 == 48 && nat_lt 1 (length word) then None else number_below bound word

-- the number as a value of this width, if it fits
unfoldable pub value_where_it_fits : ℕ → ℕ → Option Word
value_where_it_fits width number =
    if is_width width && nat_lt number (2 ^ width) then Some (record { width = width; value = number }) else None

-- the role that a kind of port gives
unfoldable pub role_of : List ℕ → Option Role
role_of word =
    if bytes_eq word (codes "InPort(") then Some role.Input
    else if bytes_eq word (codes "OutPort(") then Some role.Output
    else if bytes_eq word (codes "Wire(") then Some role.Inner
    else None

-- the operator that a sign means
unfoldable pub operator_of : List ℕ → Option Op
operator_of word =
    if bytes_eq word (codes "+") then Some op.Add
    else if bytes_eq word (codes "&") then Some op.And
    else if bytes_eq word (codes "|") then Some op.Or
    else if bytes_eq word (codes "^") then Some op.Xor
    else None
