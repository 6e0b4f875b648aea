-- A plan of one block, `s.out @= ( s.acc ^ s.in_ ) + s.k`, of 32 bits.
use Rattle.std.specs.Prelude.{ℕ, List, [], ◌∷◌, codes, Option, None, Some}
use Rattle.pm_bits.specs.declared.operator.Op.TheVariants as operator
use Rattle.pm_design.specs.declared.body.Block.{Block}
use Rattle.pm_design.specs.declared.body.BlockSort.TheVariants as sort
use Rattle.pm_design.specs.declared.body.Ex.TheVariants as ex
use Rattle.pm_design.specs.declared.body.St.{St}
use Rattle.pm_design.specs.declared.body.St.TheVariants as st
use Rattle.pm_design.specs.declared.connection.Part.{Part}
use Rattle.pm_design.specs.declared.design.Design.{Design}
use Rattle.pm_design.specs.declared.design.Kind.{Kind}
use Rattle.pm_design.specs.declared.plan.Instance.{Instance}
use Rattle.pm_design.specs.declared.plan.Plan.{Plan}
use Rattle.pm_design.specs.declared.signal.Role.{Role}
use Rattle.pm_design.specs.declared.signal.Role.TheVariants as role
use Rattle.pm_design.specs.declared.signal.Signal.{Signal}

-- a signal that isn't a bitstruct
abbrev pub plain_signal : List ℕ → Role → ℕ → Signal
plain_signal name role width = record { name = name; role = role; width = width; shape = None }

-- all of a signal of 32 bits
abbrev pub word_of : ℕ → Part
word_of signal = record { owner = 0; signal = signal; lo = 0; width = 32 }

-- `s.out @= ( s.acc ^ s.in_ ) + s.k`
unfoldable pub body : List St
body =
    st.Set (word_of 4)
    (ex.Bin operator.Add (ex.Bin operator.Xor (ex.Get (word_of 1)) (ex.Get (word_of 2))) (ex.Get (word_of 3))) ∷ []

-- `reset`, three inputs and an output
unfoldable pub signals : List Signal
signals =
    plain_signal (codes "reset") role.Input 1 ∷ plain_signal (codes "acc") role.Input 32
    ∷ plain_signal (codes "in_") role.Input 32 ∷ plain_signal (codes "k") role.Input 32
    ∷ plain_signal (codes "out") role.Output 32 ∷ []

-- the block
abbrev pub block : Block
block = record { name = codes "up"; sort = sort.Update; body = body; temps = [] }

-- the component
abbrev pub kind : Kind
kind = record {
  class = codes "Sum";
  signals = signals;
  states = [];
  children = [];
  methods = [];
  callers = [];
  joins = [];
  mismatched = [];
  ties = [];
  binds = [];
  blocks = block ∷ [];
  rules = [];
  instances = 1;
}

-- its only instance
abbrev pub instance : Instance
instance = record { path = codes "s"; kind = 0; parent = None; children = []; first_bit = 0; first_state = 0 }

-- each flat bit is a net of its own
unfoldable pub nets : List ℕ
nets =
    0 ∷ 1 ∷ 2 ∷ 3 ∷ 4 ∷ 5 ∷ 6 ∷ 7 ∷ 8 ∷ 9 ∷ 10 ∷ 11 ∷ 12 ∷ 13 ∷ 14 ∷ 15 ∷ 16 ∷ 17 ∷ 18 ∷ 19 ∷ 20 ∷ 21 ∷
    22 ∷ 23 ∷ 24 ∷ 25 ∷ 26 ∷ 27 ∷ 28 ∷ 29 ∷ 30 ∷ 31 ∷ 32 ∷ 33 ∷ 34 ∷ 35 ∷ 36 ∷ 37 ∷ 38 ∷ 39 ∷ 40 ∷ 41 ∷
    42 ∷ 43 ∷ 44 ∷ 45 ∷ 46 ∷ 47 ∷ 48 ∷ 49 ∷ 50 ∷ 51 ∷ 52 ∷ 53 ∷ 54 ∷ 55 ∷ 56 ∷ 57 ∷ 58 ∷ 59 ∷ 60 ∷ 61 ∷
    62 ∷ 63 ∷ 64 ∷ 65 ∷ 66 ∷ 67 ∷ 68 ∷ 69 ∷ 70 ∷ 71 ∷ 72 ∷ 73 ∷ 74 ∷ 75 ∷ 76 ∷ 77 ∷ 78 ∷ 79 ∷ 80 ∷ 81 ∷
    82 ∷ 83 ∷ 84 ∷ 85 ∷ 86 ∷ 87 ∷ 88 ∷ 89 ∷ 90 ∷ 91 ∷ 92 ∷ 93 ∷ 94 ∷ 95 ∷ 96 ∷ 97 ∷ 98 ∷ 99 ∷ 100 ∷ 101
    ∷ 102 ∷ 103 ∷ 104 ∷ 105 ∷ 106 ∷ 107 ∷ 108 ∷ 109 ∷ 110 ∷ 111 ∷ 112 ∷ 113 ∷ 114 ∷ 115 ∷ 116 ∷ 117 ∷
    118 ∷ 119 ∷ 120 ∷ 121 ∷ 122 ∷ 123 ∷ 124 ∷ 125 ∷ 126 ∷ 127 ∷ 128 ∷ []

-- the plan
abbrev pub plan : Plan
plan = record {
  design = record { kinds = kind ∷ []; shapes = []; top = 0 };
  instances = instance ∷ [];
  nets = record { net_of = nets; count = 129 };
  scheduled = (record { instance = 0; block = 0; name = codes "s.up" }) ∷ [];
  edge_blocks = [];
  edges = record { count = 1; after = [] ∷ []; explicit = [] ∷ []; conflicts = [] ∷ [] };
  order = 0 ∷ [];
  inputs = 1 ∷ 2 ∷ 3 ∷ [];
  ports = 1 ∷ 2 ∷ 3 ∷ 4 ∷ [];
  work = 6;
}
