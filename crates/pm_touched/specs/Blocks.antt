-- What the blocks of a plan read and write.
use Rattle.std.specs.Prelude.{ℕ, ◌+◌, ◌≡◌, ◌≢◌, ◌⊎◌, ◌↔◌, Bool, IsTrue, List, slice_index_or}
use Rattle.pm_design.specs.declared.plan.Flat.{Flat}
use Rattle.pm_design.specs.declared.plan.Plan.{Plan}
use Rattle.pm_design.specs.Calls.{leads_to, methods_of}
use Rattle.pm_design.specs.Layout.{first_bit_of, layout_of, scope_of}
use Rattle.pm_design.specs.Runnable.{block_at}
use Rattle.pm_block.specs.Plans.{frame_of, world_of}
use Rattle.pm_block.specs.Value.{Names, Frame, World}
use Rattle.pm_touched.specs.Events.{Path}
use Rattle.pm_touched.specs.Events.Place.{Bit, Object}
use Rattle.pm_touched.specs.Paths.{paths_of}
use Rattle.pm_touched.specs.Touches.{touch_of}

-- the net of a flat bit
abbrev pub net_at : Plan → ℕ → ℕ
net_at plan bit = slice_index_or plan.nets.net_of bit 0

-- the flat bit of an owner's signal's bit
abbrev pub flat_names : List (List ℕ) → Names
flat_names scope owner signal bit = first_bit_of scope owner signal + bit

-- the frame of an instance's bodies, each of whose bits is its flat bit
abbrev pub flat_frame : Plan → ℕ → Frame
flat_frame plan i = record (frame_of plan i (scope_of plan i) (layout_of plan)) { names = flat_names (scope_of plan i) }

-- all that the names of a plan's bodies mean, where each bit is its flat bit
abbrev pub flat_world : Plan → World
flat_world plan = record { frames = flat_frame plan; leads = leads_to plan; levels = methods_of plan }

-- the paths of a block over flat bits
abbrev pub flat_paths : Plan → Flat → List Path
flat_paths plan block = paths_of (flat_world plan) block.instance (block_at plan block).body

-- the paths of a block over nets
abbrev pub net_paths : Plan → Flat → List Path
net_paths plan block = paths_of (world_of plan) block.instance (block_at plan block).body

-- a block reads a net, on some path
abbrev pub reads_net : Plan → Flat → ℕ → Bool
reads_net plan block net = (touch_of (Bit net) (net_paths plan block)).read

-- a block may write a net, on some path
abbrev pub writes_net : Plan → Flat → ℕ → Bool
writes_net plan block net = (touch_of (Bit net) (net_paths plan block)).written

-- a block reads a state object, on some path
abbrev pub reads_object : Plan → Flat → ℕ → Bool
reads_object plan block k = (touch_of (Object k) (net_paths plan block)).read

-- a block may write a state object, on some path
abbrev pub writes_object : Plan → Flat → ℕ → Bool
writes_object plan block k = (touch_of (Object k) (net_paths plan block)).written

-- a block reads a flat bit, on some path
abbrev pub reads_bit : Plan → Flat → ℕ → Bool
reads_bit plan block bit = (touch_of (Bit bit) (flat_paths plan block)).read

-- a block may write a flat bit, on some path
abbrev pub writes_bit : Plan → Flat → ℕ → Bool
writes_bit plan block bit = (touch_of (Bit bit) (flat_paths plan block)).written

-- a block writes a flat bit on each path
abbrev pub surely_writes : Plan → Flat → ℕ → Bool
surely_writes plan block bit = (touch_of (Bit bit) (flat_paths plan block)).surely

-- some path of a block reads a flat bit before its first write
abbrev pub reads_early : Plan → Flat → ℕ → Bool
reads_early plan block bit = (touch_of (Bit bit) (flat_paths plan block)).early

-- a block reads a flat bit before writing it: on some path, or some path reads another flat bit of its net
abbrev pub ReadsBeforeWriting : Plan → Flat → ℕ → Type 0
ReadsBeforeWriting plan block bit =
    IsTrue (reads_early plan block bit)
    ⊎ ((other : ℕ) × (other ≢ bit) × (net_at plan other ≡ net_at plan bit) × IsTrue (reads_bit plan block other))

-- a block reads a net exactly where it reads one of its flat bits, and may write it where it may write one
pub record HasNets (plan : Plan) (block : Flat) (net : ℕ) : Type 0 where
  pub reads : IsTrue (reads_net plan block net) ↔
      ((bit : ℕ) × (net_at plan bit ≡ net) × IsTrue (reads_bit plan block bit))
  pub writes : IsTrue (writes_net plan block net) ↔
      ((bit : ℕ) × (net_at plan bit ≡ net) × IsTrue (writes_bit plan block bit))
