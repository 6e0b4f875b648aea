-- What a scheduled block changes, and what that hangs on.
use Rattle.std.specs.Prelude.{◌≡◌, ◌||◌, false, true}
use Rattle.pm_design.specs.declared.plan.Flat.{Flat}
use Rattle.pm_design.specs.declared.plan.Plan.{Plan}
use Rattle.pm_design.specs.Runnable.{block_at}
use Rattle.pm_block.specs.Plans.{scene_of}
use Rattle.pm_block.specs.Run.{Memory, run_block}
use Rattle.pm_touched.specs.Blocks.{net_paths}
use Rattle.pm_touched.specs.Events.{Place}
use Rattle.pm_touched.specs.Touches.{Touch, touch_of}
use Rattle.pm_paths.specs.Memories.{at}

-- what the paths of a block do with a place: each bit is its net
abbrev pub touch : Plan → Flat → Place → Touch
touch plan flat q = touch_of q (net_paths plan flat)

-- the memory that a scheduled block leaves
abbrev pub left_by_block : Plan → Flat → Memory → Memory
left_by_block plan flat m =
    run_block false (scene_of plan flat.instance) (block_at plan flat).body (block_at plan flat).temps m

-- a block keeps what no path of it writes
abbrev pub BlocksKeep : Type 0
BlocksKeep =
    (plan : Plan) (flat : Flat) (m : Memory) (q : Place) → (touch plan flat q).written ≡ false
    → at (left_by_block plan flat m) q ≡ at m q

-- what a block leaves where it may write hangs on what it reads or may write
abbrev pub BlocksHangOnWhatTheyTouch : Type 0
BlocksHangOnWhatTheyTouch =
    (plan : Plan) (flat : Flat) (m o : Memory)
    → ((q : Place) → ((touch plan flat q).read || (touch plan flat q).written) ≡ true → at m q ≡ at o q)
    → (q : Place) → (touch plan flat q).written ≡ true
    → at (left_by_block plan flat m) q ≡ at (left_by_block plan flat o) q

-- every path of a block writes all that it may write, and reads none of that before
abbrev pub WritesFirst : Plan → Flat → Type 0
WritesFirst plan flat =
    (q : Place) → (touch plan flat q).written ≡ true
    → ((touch plan flat q).surely ≡ true) × ((touch plan flat q).early ≡ false)

-- what such a block leaves where it may write hangs only on what it reads and doesn't write
abbrev pub BlocksHangOnWhatTheyRead : Type 0
BlocksHangOnWhatTheyRead =
    (plan : Plan) (flat : Flat) (m o : Memory) → WritesFirst plan flat
    → ((q : Place) → (touch plan flat q).read ≡ true → (touch plan flat q).written ≡ false → at m q ≡ at o q)
    → (q : Place) → (touch plan flat q).written ≡ true
    → at (left_by_block plan flat m) q ≡ at (left_by_block plan flat o) q
