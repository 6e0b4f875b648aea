-- What the numbers of a design's instances name.
use Rattle.std.specs.Prelude.{ℕ, ◌+◌, ◌≡◌, ◌≤◌, ◌<◌, [], length, slice_index_or}
use Rattle.pm_design.specs.declared.design.Child.{Child}
use Rattle.pm_design.specs.declared.design.Design.{Design}
use Rattle.pm_design.specs.declared.plan.Plan.{Plan}
use Rattle.pm_design.specs.Calls.{child_of}
use Rattle.pm_design.specs.Instances.{flat_bits, instances_of, own_bits}
use Rattle.pm_design.specs.Layout.{instance_of}
use Rattle.pm_design.specs.Lookups.{no_child}
use Rattle.pm_design.specs.Runnable.{kind_at}

-- a design with its instances, and nothing else of a plan
abbrev pub laid_out : Design → Plan
laid_out design = record {
  design = design;
  instances = instances_of design;
  nets = record { net_of = []; count = 0 };
  scheduled = [];
  edge_blocks = [];
  edges = record { count = 0; after = []; explicit = []; conflicts = [] };
  order = [];
  inputs = [];
  ports = [];
  work = 0;
}

-- a child of an instance's kind
abbrev pub child_at : Plan → ℕ → ℕ → Child
child_at plan i c = slice_index_or (kind_at plan i).children c (no_child plan.design.kinds)

-- each instance has a kind, its flat bits are among those of the design, and each child of its kind has an instance
pub record IsLaid (plan : Plan) : Type 0 where
  pub kinds : (i : ℕ) → i < length plan.instances → (instance_of plan i).kind < length plan.design.kinds
  pub bits : (i : ℕ) → i < length plan.instances →
      (instance_of plan i).first_bit + own_bits (kind_at plan i) ≤ flat_bits plan.design
  pub children : (i c : ℕ) → i < length plan.instances → c < length (kind_at plan i).children →
      (child_of plan i c < length plan.instances) × ((instance_of plan (child_of plan i c)).kind ≡
      (child_at plan i c).kind)
