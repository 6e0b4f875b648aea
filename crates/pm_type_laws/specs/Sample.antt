-- A small body: a block of a component with the input `a`, behind `t = s.a`.
use Rattle.std.specs.Prelude.{◌==◌, false, [], ◌∷◌, None, codes}
use Rattle.pm_design.specs.declared.design.Design.{Design}
use Rattle.pm_design.specs.declared.design.Kind.{Kind}
use Rattle.pm_design.specs.declared.signal.Role.TheVariants as role
use Rattle.pm_design.specs.Lookups.{is_readable, signature_of}
use Rattle.pm_design.specs.Typing.{Sight}
use Rattle.pm_values.specs.declared.value.Taken.TheVariants as taken
use Rattle.pm_values.specs.declared.value.Value.TheVariants as value
use Rattle.pm_elab.specs.declared.elaboration.RawKind.{RawKind}
use Rattle.pm_elab.specs.Placing.{whole_signal}
use Rattle.pm_elab.specs.Values.{bits_of}
use Rattle.pm_typing.specs.declared.frame.Bound.TheVariants as bound
use Rattle.pm_typing.specs.declared.scope.BodySort.TheVariants as sort
use Rattle.pm_typing.specs.Sites.{Scope, Site}
use Rattle.pm_type_laws.specs.Views.{View}

-- `reset` and `a`
abbrev pub kind : Kind
kind = record {
  class = codes "Sample";
  signals = record { name = codes "reset"; role = role.Input; width = 1; shape = None }
      ∷ record { name = codes "a"; role = role.Input; width = 8; shape = None } ∷ [];
  states = [];
  children = [];
  methods = [];
  callers = [];
  joins = [];
  mismatched = [];
  ties = [];
  binds = [];
  blocks = [];
  rules = [];
  instances = 1;
}

-- the component alone
abbrev pub design : Design
design = record { kinds = kind ∷ []; shapes = []; top = 0 }

-- what `s.a` is
abbrev pub raw : RawKind
raw = record {
  locals = [];
  attributes = (codes "a", value.Taken (taken.Signal (whole_signal 1 role.Input (bits_of 8)))) ∷ [];
  states = [];
  methods = [];
  callers = [];
  bodies = [];
}

-- what the block sees, whose only name is `t`
abbrev pub scope : Scope
scope = record {
  design = record { design = design; kinds = raw ∷ []; names = [] };
  kind = kind;
  raw = raw;
  own = (codes "t", 0) ∷ [];
  sort = sort.Update;
}

-- behind the assignment
abbrev pub site : Site
site = record { scope = scope; bounds = bound.Temp 0 (bits_of 8) ∷ []; line = 1; inside_index = false }

-- what the block may name
abbrev pub sight : Sight
sight = record {
  reads = is_readable design kind;
  writes = λ part. false;
  states = [];
  changes = false;
  calls = signature_of design kind;
  temps = 8 ∷ [];
}

-- the temporary is assigned
abbrev pub view : View
view = record { sight = sight; assigned = λ t. t == 0 }
