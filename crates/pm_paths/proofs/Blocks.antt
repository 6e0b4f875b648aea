-- The run of a scheduled block.
use std.Path.{fun_ext}
use Rattle.std.proofs.Common.{◌≡◌, refl, sym, subst, true, false, inl, inr, map}
use Rattle.std.proofs.lemmas.Bool.{both_ways, false_from_ne_true, or_left, or_right}
use Rattle.pm_design.specs.declared.plan.Flat.{Flat}
use Rattle.pm_design.specs.declared.plan.Plan.{Plan}
use Rattle.pm_design.specs.Runnable.{block_at}
use Rattle.pm_block.specs.Plans.{scene_of, world_of}
use Rattle.pm_block.specs.Run.{Memory, State, in_turn, run, temps_of}
use Rattle.pm_block.specs.Value.{zero_word}
use Rattle.pm_touched.specs.Events.{Place}
use Rattle.pm_touched.specs.Expressions.{guards_to}
use Rattle.pm_touched.specs.Walks.{call_touch, walked}
use Rattle.pm_touched.proofs.Walked.{paths_are_walked}
use Rattle.pm_paths.specs.BlockLaws.{BlocksHangOnWhatTheyRead, BlocksHangOnWhatTheyTouch, BlocksKeep, touch}
use Rattle.pm_paths.proofs.Calls.{scene_fits}
use Rattle.pm_paths.proofs.Frames.{IsFrame, Touches}
use Rattle.pm_paths.proofs.Statements.{body_frame}

-- a block's run keeps to its walk
walk_frame : (plan : Plan) (flat : Flat)
    → IsFrame (λ s. in_turn (map (run false (scene_of plan flat.instance)) (block_at plan flat).body) s)
    (λ q. walked (world_of plan) flat.instance q (block_at plan flat).body)
unfolding world_of
walk_frame plan flat =
    body_frame (scene_of plan flat.instance) (guards_to (world_of plan).levels (world_of plan) flat.instance)
    (λ m q. call_touch (world_of plan).levels (world_of plan) flat.instance q m) (scene_fits (world_of plan) flat.instance)
    (block_at plan flat).body

-- so it keeps to its paths
block_frame : (plan : Plan) (flat : Flat)
    → IsFrame (λ s. in_turn (map (run false (scene_of plan flat.instance)) (block_at plan flat).body) s)
    (touch plan flat)
block_frame plan flat =
    subst (λ (p : Touches). IsFrame (λ s. in_turn (map (run false (scene_of plan flat.instance)) (block_at plan flat).body) s) p)
    (fun_ext (λ q. sym (paths_are_walked (world_of plan) flat.instance (block_at plan flat).body q))) (walk_frame plan flat)

-- the state in which a block begins
abbrev begun : Plan → Flat → Memory → State
begun plan flat m = record {
  places = m.places;
  items = m.items;
  later = λ u. u;
  temps = temps_of (map zero_word (block_at plan flat).temps);
}

pub blocks_keep : BlocksKeep
blocks_keep plan flat m q none = (block_frame plan flat).keeps (begun plan flat m) q none

pub blocks_hang_on_what_they_touch : BlocksHangOnWhatTheyTouch
blocks_hang_on_what_they_touch plan flat m o same q writes =
    frame.agrees (begun plan flat m) (begun plan flat o)
    (record { places = λ r holds. same r (or_left ((touch plan flat r).read) ((touch plan flat r).written) (frame.reads r holds)); temps = refl }) q
    (inl (same q (or_right ((touch plan flat q).read) ((touch plan flat q).written) writes)))
  where
    frame : IsFrame (λ s. in_turn (map (run false (scene_of plan flat.instance)) (block_at plan flat).body) s)
        (touch plan flat)
    frame = block_frame plan flat

pub blocks_hang_on_what_they_read : BlocksHangOnWhatTheyRead
blocks_hang_on_what_they_read plan flat m o fine same q writes =
    frame.agrees (begun plan flat m) (begun plan flat o)
    (record { places = λ r holds. same r (frame.reads r holds) (unwritten r holds); temps = refl }) q
    (inr (fine q writes).0)
  where
    frame : IsFrame (λ s. in_turn (map (run false (scene_of plan flat.instance)) (block_at plan flat).body) s)
        (touch plan flat)
    frame = block_frame plan flat

    unwritten : (r : Place) → (touch plan flat r).early ≡ true → (touch plan flat r).written ≡ false
    unwritten r holds =
        false_from_ne_true ((touch plan flat r).written)
        (λ (w : (touch plan flat r).written ≡ true). both_ways ((touch plan flat r).early) (fine r w).1 holds)
