-- The naming of a plan: each bit of a component is the net of its flat bit.
use Rattle.std.specs.Prelude.{ℕ, ◌+◌, false, List, [], map, slice_index_or}
use Rattle.pm_bits.specs.Word.{Word}
use Rattle.pm_design.specs.declared.plan.Plan.{Plan}
use Rattle.pm_design.specs.Calls.{leads_to, methods_of}
use Rattle.pm_design.specs.Layout.{Layout, is_part, is_put, net_from, layout_of, instance_of, scope_of, first_bit_of, flat_part}
use Rattle.pm_design.specs.Lookups.{kind_of, no_signature}
use Rattle.pm_design.specs.Sound.{holdings_of}
use Rattle.pm_design.specs.Typing.{Sight}
use Rattle.pm_block.specs.Run.{Scene, scene_in}
use Rattle.pm_block.specs.Value.{Names, Frame, World}

-- the net of an owner's signal's bit
abbrev pub names_of : List (List ℕ) → Layout → Names
names_of scope layout owner signal bit = net_from layout (first_bit_of scope owner signal) bit

-- the frame of an instance's bodies
abbrev pub frame_of : Plan → ℕ → List (List ℕ) → Layout → Frame
frame_of plan i scope layout = record {
  names = names_of scope layout;
  object = λ k. (instance_of plan i).first_state + k;
  holding = λ k. slice_index_or (holdings_of (kind_of plan.design (instance_of plan i).kind)) k (record { width = 0; maxlen = 0 });
}

-- all that the names of a plan's bodies mean
unfoldable pub world_of : Plan → World
world_of plan = record {
  frames = λ i. frame_of plan i (scope_of plan i) (layout_of plan);
  leads = leads_to plan;
  levels = methods_of plan;
}

-- what an instance's bodies mean, with its signals at these flat bits
abbrev pub scene_at : Plan → ℕ → List (List ℕ) → Layout → Scene
scene_at plan i scope layout = scene_in (world_of plan) i (frame_of plan i scope layout)

-- what an instance's bodies mean
abbrev pub scene_of : Plan → ℕ → Scene
scene_of plan i = scene_at plan i (scope_of plan i) (layout_of plan)

-- what a body may name that has neither states nor methods
abbrev pub plain_sight : List (List ℕ) → Layout → List ℕ → Sight
plain_sight scope layout temps = record {
  reads = λ p. is_part layout (flat_part scope p);
  writes = λ p. is_put layout (flat_part scope p);
  states = [];
  changes = false;
  calls = λ m. no_signature;
  temps = temps;
}

-- the widths of words
abbrev pub widths_of : List Word → List ℕ
widths_of ws = map (λ w. w.width) ws
