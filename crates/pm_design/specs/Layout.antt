-- Where signals are among the flat bits, and which net each flat bit is of.
use Rattle.std.specs.Prelude.{ℕ, zero, suc, ◌+◌, ◌^◌, ◌==◌, ◌&&◌, Bool, true, not, nat_lt, nat_le, List, [], ◌∷◌, ◌++◌, length, map, slice_index_or, None}
use Rattle.std.specs.List.{list_any}
use Rattle.pm_design.specs.declared.connection.Part.{Part}
use Rattle.pm_design.specs.declared.design.Design.{Design}
use Rattle.pm_design.specs.declared.plan.FlatPart.{FlatPart}
use Rattle.pm_design.specs.declared.plan.Instance.{Instance}
use Rattle.pm_design.specs.declared.plan.Plan.{Plan}
use Rattle.pm_design.specs.declared.signal.Signal.{Signal}
use Rattle.pm_design.specs.Instances.{first_bits_of}
use Rattle.pm_design.specs.Lookups.{kind_of}
use Rattle.pm_design.specs.Widths.{is_width}

-- the net of each flat bit, and the flat bits of each signal
pub record Layout : Type 0 where
  pub net_of : List ℕ
  pub signals : List FlatPart

-- the flat bits of signals, of which the first begins at the given bit
abbrev pub signals_from : ℕ → List Signal → List FlatPart
signals_from bit [] = []
signals_from bit (s ∷ ss) = record { bit = bit; width = s.width } ∷ signals_from (bit + s.width) ss

-- the flat bits of the signals of instances
abbrev pub signals_of : Design → List Instance → List FlatPart
signals_of design [] = []
signals_of design (i ∷ is) = signals_from i.first_bit (kind_of design i.kind).signals ++ signals_of design is

-- the layout of a plan
abbrev pub layout_of : Plan → Layout
layout_of plan = record { net_of = plan.nets.net_of; signals = signals_of plan.design plan.instances }

-- some flat bits that lie within others
abbrev pub is_within : FlatPart → FlatPart → Bool
is_within inner outer = nat_le outer.bit inner.bit && nat_le (inner.bit + inner.width) (outer.bit + outer.width)

-- 1 to 128 flat bits of one signal
abbrev pub is_part : Layout → FlatPart → Bool
is_part layout part =
    is_width part.width && (nat_lt (part.bit + part.width) (2 ^ 32)
    && (nat_le (part.bit + part.width) (length layout.net_of) && list_any (is_within part) layout.signals))

-- the net of each bit from a flat bit on
abbrev pub net_from : Layout → ℕ → ℕ → ℕ
net_from layout first i = slice_index_or layout.net_of (first + i) 0

-- none of the first n places is this one
unfoldable pub is_other : (ℕ → ℕ) → ℕ → ℕ → Bool
is_other place p zero = true
is_other place p (suc n) = not (place n == p) && is_other place p n

-- the first n places differ
unfoldable pub are_apart : (ℕ → ℕ) → ℕ → Bool
are_apart place zero = true
are_apart place (suc n) = is_other place (place n) n && are_apart place n

-- a part that names no net twice
abbrev pub is_put : Layout → FlatPart → Bool
is_put layout part = is_part layout part && are_apart (net_from layout part.bit) part.width

-- an instance that is nowhere
abbrev pub no_instance : Plan → Instance
no_instance plan = record {
  path = [];
  kind = length plan.design.kinds;
  parent = None;
  children = [];
  first_bit = 0;
  first_state = 0;
}

-- the instance of a number, and one of no kind past the end
abbrev pub instance_of : Plan → ℕ → Instance
instance_of plan i = slice_index_or plan.instances i (no_instance plan)

-- the first flat bits of the signals that an instance's parts name: its own, then each child's
abbrev pub scope_of : Plan → ℕ → List (List ℕ)
scope_of plan i =
    map (λ owner. first_bits_of plan.design (instance_of plan owner)) (i ∷ (instance_of plan i).children)

-- the first flat bit of an owner's signal
abbrev pub first_bit_of : List (List ℕ) → ℕ → ℕ → ℕ
first_bit_of scope owner signal = slice_index_or (slice_index_or scope owner []) signal 0

-- a part among the flat bits
abbrev pub flat_part : List (List ℕ) → Part → FlatPart
flat_part scope part = record { bit = first_bit_of scope part.owner part.signal + part.lo; width = part.width }
