-- A small sound design: a component adds 1 to its input, and its parent keeps the sum.
use Rattle.std.specs.Prelude.{ℕ, true, List, [], ◌∷◌, codes, None, Some}
use Rattle.pm_bits.specs.declared.operator.Op.TheVariants as operator
use Rattle.pm_design.specs.declared.body.Block.{Block}
use Rattle.pm_design.specs.declared.body.BlockSort.TheVariants as sort
use Rattle.pm_design.specs.declared.body.Ex.TheVariants as ex
use Rattle.pm_design.specs.declared.body.St.TheVariants as st
use Rattle.pm_design.specs.declared.connection.Part.{Part}
use Rattle.pm_design.specs.declared.design.Design.{Design}
use Rattle.pm_design.specs.declared.design.Kind.{Kind}
use Rattle.pm_design.specs.declared.plan.Instance.{Instance}
use Rattle.pm_design.specs.declared.plan.Plan.{Plan}
use Rattle.pm_design.specs.declared.signal.Role.{Role}
use Rattle.pm_design.specs.declared.signal.Role.TheVariants as role
use Rattle.pm_design.specs.declared.signal.Signal.{Signal}

-- a signal that isn't a bitstruct
abbrev pub plain_signal : List ℕ → Role → ℕ → Signal
plain_signal name role width = record { name = name; role = role; width = width; shape = None }

-- all of an owner's signal of 8 bits
abbrev pub byte_of : ℕ → ℕ → Part
byte_of owner signal = record { owner = owner; signal = signal; lo = 0; width = 8 }

-- `reset`, an input and an output of 8 bits
abbrev pub byte_ports : List Signal
byte_ports =
    plain_signal (codes "reset") role.Input 1 ∷ plain_signal (codes "in_") role.Input 8
    ∷ plain_signal (codes "out") role.Output 8 ∷ []

-- `t = s.in_ + 1`, then `s.out @= t`
abbrev pub adding : Block
adding = record {
  name = codes "up";
  sort = sort.Update;
  body =
      st.SetTemp 0 (ex.Bin operator.Add (ex.Get (byte_of 0 1)) (ex.Const (record { width = 8; value = 1 })))
      ∷ st.Set (byte_of 0 2) (ex.Temp 0 0 8) ∷ [];
  temps = 8 ∷ [];
}

-- the component that adds 1
abbrev pub adder : Kind
adder = record {
  class = codes "Adder";
  signals = byte_ports;
  states = [];
  children = [];
  methods = [];
  callers = [];
  joins = [];
  mismatched = [];
  ties = [];
  binds = [];
  blocks = adding ∷ [];
  rules = [];
  instances = 1;
}

-- `s.out <<= s.add.out` where `reset` is 0, else `s.out <<= 0`
abbrev pub keeping : Block
keeping = record {
  name = codes "keep";
  sort = sort.Edge;
  body =
      st.If (ex.Get (record { owner = 0; signal = 0; lo = 0; width = 1 }))
      (st.Set (byte_of 0 2) (ex.Const (record { width = 8; value = 0 })) ∷ [])
      (st.Set (byte_of 0 2) (ex.Get (byte_of 1 2)) ∷ []) ∷ [];
  temps = [];
}

-- the component that keeps the sum of its child
abbrev pub keeper : Kind
keeper = record {
  class = codes "Keeper";
  signals = byte_ports;
  states = [];
  children = (record { name = codes "add"; kind = 0; line = 2 }) ∷ [];
  methods = [];
  callers = [];
  joins = (record { line = 3; a = byte_of 0 1; b = byte_of 1 1; equal_types = true }) ∷ [];
  mismatched = [];
  ties = [];
  binds = [];
  blocks = keeping ∷ [];
  rules = [];
  instances = 2;
}

-- the design of both
abbrev pub sample : Design
sample = record { kinds = adder ∷ keeper ∷ []; shapes = []; top = 1 }

-- its instances: the parent, and its child behind the 17 bits of the parent
abbrev pub sample_instances : List Instance
sample_instances =
    (record { path = codes "s"; kind = 1; parent = None; children = 1 ∷ []; first_bit = 0; first_state = 0 })
    ∷ (record { path = codes "s.add"; kind = 0; parent = Some 0; children = []; first_bit = 17; first_state = 0 }) ∷ []

-- the nets of its flat bits: the child's `reset` and `in_` are those of the parent
abbrev pub sample_nets : List ℕ
sample_nets =
    0 ∷ 1 ∷ 2 ∷ 3 ∷ 4 ∷ 5 ∷ 6 ∷ 7 ∷ 8 ∷ 9 ∷ 10 ∷ 11 ∷ 12 ∷ 13 ∷ 14 ∷ 15 ∷ 16
    ∷ 0 ∷ 1 ∷ 2 ∷ 3 ∷ 4 ∷ 5 ∷ 6 ∷ 7 ∷ 8 ∷ 17 ∷ 18 ∷ 19 ∷ 20 ∷ 21 ∷ 22 ∷ 23 ∷ 24 ∷ []

-- a plan of it
abbrev pub sample_plan : Plan
sample_plan = record {
  design = sample;
  instances = sample_instances;
  nets = record { net_of = sample_nets; count = 25 };
  scheduled = (record { instance = 1; block = 0; name = codes "s.add.up" }) ∷ [];
  edge_blocks = (record { instance = 0; block = 0; name = codes "s.keep" }) ∷ [];
  edges = record { count = 1; after = [] ∷ []; explicit = [] ∷ []; conflicts = [] ∷ [] };
  order = 0 ∷ [];
  inputs = 1 ∷ [];
  ports = 1 ∷ 2 ∷ [];
  work = 6;
}
