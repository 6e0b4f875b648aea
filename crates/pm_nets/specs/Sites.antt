-- Where the parts that connections name are among the flat bits.
use Rattle.std.specs.Prelude.{ℕ, zero, suc, ◌≡◌, List, map}
use Rattle.pm_design.specs.declared.connection.Part.{Part}
use Rattle.pm_design.specs.declared.design.Design.{Design}
use Rattle.pm_design.specs.declared.plan.Plan.{Plan}
use Rattle.pm_design.specs.Calls.{child_of}
use Rattle.pm_design.specs.Instances.{first_bits_from, instances_of}
use Rattle.pm_design.specs.Layout.{flat_part, scope_of}
use Rattle.pm_nets.specs.declared.site.Site.{Site}

-- the first flat bit of a part of an instance's kind
abbrev pub first_of : Plan → ℕ → Part → ℕ
first_of plan i part = (flat_part (scope_of plan i) part).bit

-- the instance whose signals a part names: 0 for the instance itself, c + 1 for its child c
abbrev pub owner_of : Plan → ℕ → ℕ → ℕ
owner_of plan i zero = i
owner_of plan i (suc c) = child_of plan i c

-- the first bit of each signal of each kind, among the bits of a component
abbrev pub offsets_of : Design → List (List ℕ)
offsets_of design = map (λ kind. first_bits_from 0 kind.signals) design.kinds

-- what is kept of a design
pub record IsSite (design : Design) (site : Site) : Type 0 where
  pub instances : site.instances ≡ instances_of design
  pub offsets : site.offsets ≡ offsets_of design
