-- Instances that are added one after another.
use Rattle.std.specs.Prelude.{ℕ, suc, ◌+◌, ◌*◌, ◌^◌, ◌≡◌, ◌≤◌, ◌++◌, List, length, Option}
use Rattle.pm_design.specs.declared.design.Design.{Design}
use Rattle.pm_design.specs.declared.plan.Instance.{Instance}
use Rattle.pm_design.specs.Instances.{Place, behind, instances_at, numbers_from}
use Rattle.pm_design.specs.Lookups.{kind_of}
use Rattle.pm_instances.specs.declared.flattening.Progress.{Progress}

-- how many instances, flat bits and states are there so far
abbrev pub place_of : Progress → Place
place_of p = record { instance = length p.instances.items; bit = p.bit; state = p.state }

-- a component of a kind at a place, without those within it
abbrev pub instance_here : Design → Option ℕ → List ℕ → Place → ℕ → Instance
instance_here design parent path at k = record {
  path = path;
  kind = k;
  parent = parent;
  children = numbers_from design (at.instance + 1) (kind_of design k).children;
  first_bit = at.bit;
  first_state = at.state;
}

-- a component of a kind at a place and those within it, whose kinds are all before its own
abbrev pub below : Design → Option ℕ → List ℕ → Place → ℕ → List Instance
below design parent path at k = instances_at (suc k) design parent path at k

-- some instances are added
pub record Adds (design : Design) (old new : Progress) (more : List Instance) : Type 0 where
  pub instances : new.instances.items ≡ old.instances.items ++ more
  pub place : place_of new ≡ behind design more (place_of old)

-- the numbers of some instances more fit their types
pub record HasRoom (design : Design) (old : Progress) (more : List Instance) : Type 0 where
  pub instances : (behind design more (place_of old)).instance ≤ 4096
  pub bits : (behind design more (place_of old)).bit ≤ 2 ^ 18
  pub states : old.state ≤ length old.instances.items * 2 ^ 20
