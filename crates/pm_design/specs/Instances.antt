-- The instances of a design in preorder, and its flat bits.
use Rattle.std.specs.Prelude.{ℕ, zero, suc, ◌+◌, List, [], ◌∷◌, ◌++◌, length, map, codes, slice_index_or, Option, None, Some}
use Rattle.pm_design.specs.declared.design.Child.{Child}
use Rattle.pm_design.specs.declared.design.Design.{Design}
use Rattle.pm_design.specs.declared.design.Kind.{Kind}
use Rattle.pm_design.specs.declared.plan.Instance.{Instance}
use Rattle.pm_design.specs.declared.signal.Signal.{Signal}
use Rattle.pm_design.specs.Lookups.{kind_of}
use Rattle.pm_design.specs.Widths.{total}

-- how many bits an instance of a kind has, without those of its children
abbrev pub own_bits : Kind → ℕ
own_bits kind = total (map (λ s. s.width) kind.signals)

-- how many instances, flat bits and states stand before an instance
pub record Place : Type 0 where
  pub instance : ℕ
  pub bit : ℕ
  pub state : ℕ

-- the place behind one instance of a kind
abbrev pub behind_one : Kind → Place → Place
behind_one kind at = record {
  instance = at.instance + 1;
  bit = at.bit + own_bits kind;
  state = at.state + length kind.states;
}

-- the place behind a list of instances
abbrev pub behind : Design → List Instance → Place → Place
behind design [] at = at
behind design (i ∷ is) at = behind design is (behind_one (kind_of design i.kind) at)

-- the numbers of the instances of children, of which the first has the given number
abbrev pub numbers_from : Design → ℕ → List Child → List ℕ
numbers_from design n [] = []
numbers_from design n (c ∷ cs) = n ∷ numbers_from design (n + (kind_of design c.kind).instances) cs

-- the instances of children, once each child at a place has its instances
abbrev pub of_children : Design → (Place → Child → List Instance) → Place → List Child → List Instance
of_children design of_child at [] = []
of_children design of_child at (c ∷ cs) =
    let instances = of_child at c in
    instances ++ of_children design of_child (behind design instances at) cs

-- the instances of a component of a kind at a path and a place, in preorder, through so many levels
abbrev pub instances_at : ℕ → Design → Option ℕ → List ℕ → Place → ℕ → List Instance
instances_at zero design parent path at k = []
instances_at (suc levels) design parent path at k =
    let kind = kind_of design k in
    record {
      path = path;
      kind = k;
      parent = parent;
      children = numbers_from design (at.instance + 1) kind.children;
      first_bit = at.bit;
      first_state = at.state;
    } ∷ of_children design
    (λ here c. instances_at levels design (Some at.instance) (path ++ codes "." ++ c.name) here c.kind)
    (behind_one kind at) kind.children

-- the instances of a design; it has no more levels than kinds, as each child's kind is before its parent's
abbrev pub instances_of : Design → List Instance
instances_of design =
    instances_at (length design.kinds) design None (codes "s") (record { instance = 0; bit = 0; state = 0 }) design.top

-- the first flat bit of each signal, of which the first is the given one
abbrev pub first_bits_from : ℕ → List Signal → List ℕ
first_bits_from bit [] = []
first_bits_from bit (s ∷ ss) = bit ∷ first_bits_from (bit + s.width) ss

-- the first flat bit of each signal of an instance
abbrev pub first_bits_of : Design → Instance → List ℕ
first_bits_of design i = first_bits_from i.first_bit (kind_of design i.kind).signals

-- the flat bit of an instance's signal's bit
abbrev pub flat_bit : Design → Instance → ℕ → ℕ → ℕ
flat_bit design i signal bit = slice_index_or (first_bits_of design i) signal 0 + bit

-- how many flat bits a design has
abbrev pub flat_bits : Design → ℕ
flat_bits design = total (map (λ i. own_bits (kind_of design i.kind)) (instances_of design))
