-- The smallest design: a component with its `reset` alone.
use Rattle.std.specs.Prelude.{List, [], ◌∷◌, codes, None}
use Rattle.pm_design.specs.declared.design.Design.{Design}
use Rattle.pm_design.specs.declared.design.Kind.{Kind}
use Rattle.pm_design.specs.declared.signal.Role.TheVariants as role
use Rattle.pm_design.specs.declared.signal.Signal.{Signal}

-- its `reset`
abbrev pub resets : List Signal
resets = (record { name = codes "reset"; role = role.Input; width = 1; shape = None }) ∷ []

-- the component
abbrev pub smallest_kind : Kind
smallest_kind = record {
  class = codes "A";
  signals = resets;
  states = [];
  children = [];
  methods = [];
  callers = [];
  joins = [];
  mismatched = [];
  ties = [];
  binds = [];
  blocks = [];
  rules = [];
  instances = 1;
}

-- the design
abbrev pub smallest : Design
smallest = record { kinds = smallest_kind ∷ []; shapes = []; top = 0 }
