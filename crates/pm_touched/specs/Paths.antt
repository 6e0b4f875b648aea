-- The paths through a body. Conditions aren't looked at, so each branch gives a path.
use Rattle.std.specs.Prelude.{ℕ, zero, suc, List, [], ◌∷◌, ◌++◌, map, flat_map}
use Rattle.pm_design.specs.declared.body.Ex.{Ex}
use Rattle.pm_design.specs.declared.body.St.{St, St-F, fold-St}
use Rattle.pm_design.specs.declared.connection.Callee.{Callee}
use Rattle.pm_block.specs.Value.{Frame, World}
use Rattle.pm_touched.specs.Events.{Place, Path, before}
use Rattle.pm_touched.specs.Events.Event.{Read, Write, MayWrite}
use Rattle.pm_touched.specs.Expressions.{part_places, parts_places, state_place, reads, reads_of, guards_to}

-- what the names of a body mean: its frame, the places that its callees' guards read, and its callees' paths, each
-- followed by each of some
pub record Scene : Type 0 where
  pub frame : Frame
  pub guards : Callee → List Place
  pub calls : Callee → List Path → List Path

-- some places are read, and then each of these paths
abbrev pub after_reads : List Place → List Path → List Path
after_reads places paths = before (map Read places) paths

-- some places are written, and then each of these paths
abbrev pub after_writes : List Place → List Path → List Path
after_writes places paths = before (map Write places) paths

-- some places may be written, and then each of these paths
abbrev pub after_picks : List Place → List Path → List Path
after_picks places paths = before (map MayWrite places) paths

-- paths of one thing after another
abbrev pub in_turn : List (List Path → List Path) → List Path → List Path
in_turn [] paths = paths
in_turn (f ∷ fs) paths = f (in_turn fs paths)

-- the places that expressions read
abbrev pub all_reads : Scene → List Ex → List Place
all_reads scene es = flat_map (reads scene.guards scene.frame) es

-- each path of a statement followed by each of these, once its own statements have theirs
abbrev pub paths_step : Scene → St-F (List Path → List Path) → List Path → List Path
paths_step scene (St-F.Set p e) paths =
    after_reads (reads scene.guards scene.frame e) (after_writes (part_places scene.frame.names p) paths)
paths_step scene (St-F.SetPick i ps e) paths =
    after_reads (reads scene.guards scene.frame i)
    (after_reads (reads scene.guards scene.frame e) (after_picks (parts_places scene.frame.names ps) paths))
paths_step scene (St-F.SetTemp t e) paths = after_reads (reads scene.guards scene.frame e) paths
paths_step scene (St-F.SetNumber k e) paths =
    after_reads (reads scene.guards scene.frame e) (after_writes (state_place scene.frame k ∷ []) paths)
paths_step scene (St-F.Push k side e) paths =
    after_reads (reads scene.guards scene.frame e)
    (after_reads (state_place scene.frame k ∷ []) (after_writes (state_place scene.frame k ∷ []) paths))
paths_step scene (St-F.Pop k side target) paths =
    after_reads (state_place scene.frame k ∷ []) (after_writes (state_place scene.frame k ∷ []) paths)
paths_step scene (St-F.Clear k) paths = after_writes (state_place scene.frame k ∷ []) paths
paths_step scene (St-F.Call m es target) paths = after_reads (all_reads scene es) (scene.calls m paths)
paths_step scene (St-F.If c xs ys) paths =
    after_reads (reads scene.guards scene.frame c) (in_turn xs paths ++ in_turn ys paths)

-- each path of a statement followed by each of these
unfoldable pub paths : Scene → St → List Path → List Path
paths scene = fold-St (List Path → List Path) (paths_step scene)

-- each path of a body followed by each of these
abbrev pub body_paths : Scene → List St → List Path → List Path
body_paths scene body = in_turn (map (paths scene) body)

-- each path of what a callee leads to followed by each of these: through the method's body, and then through what it
-- answers, with calls within calls through so many levels
abbrev pub calls_to : ℕ → World → ℕ → Callee → List Path → List Path
calls_to zero world i m rest = rest
calls_to (suc levels) world i m rest =
    let target = world.leads i m in
    let scene : Scene = record {
      frame = world.frames target.instance;
      guards = guards_to world.levels world target.instance;
      calls = calls_to levels world target.instance;
    } in
    body_paths scene target.method.body (after_reads (reads_of scene.guards scene.frame target.method.answer) rest)

-- what the names of an instance's bodies mean
abbrev pub scene_in : World → ℕ → Scene
scene_in world i = record {
  frame = world.frames i;
  guards = guards_to world.levels world i;
  calls = calls_to world.levels world i;
}

-- the paths of a body of an instance
abbrev pub paths_of : World → ℕ → List St → List Path
paths_of world i body = body_paths (scene_in world i) body ([] ∷ [])
