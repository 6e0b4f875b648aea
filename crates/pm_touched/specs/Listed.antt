-- That what a body names is what its paths read and may write.
use Rattle.std.specs.Prelude.{ℕ, ◌≡◌, ◌||◌, Bool, List, [], ◌∷◌, map}
use Rattle.std.specs.List.{list_any}
use Rattle.pm_design.specs.declared.body.St.{St}
use Rattle.pm_design.specs.declared.connection.Callee.{Callee}
use Rattle.pm_block.specs.Value.{Frame, World}
use Rattle.pm_touched.specs.declared.named.Named.{Named}
use Rattle.pm_touched.specs.Events.{Place, is_among}
use Rattle.pm_touched.specs.Expressions.{guards_to, parts_places, state_place}
use Rattle.pm_touched.specs.Naming.{body_names}
use Rattle.pm_touched.specs.Paths.{calls_to, paths_of}
use Rattle.pm_touched.specs.Touches.{Touch, touch_of}

-- what is named reads a place, where callees' guards read these places and callees do this with it
unfoldable pub reads_named : Frame → (Callee → List Place) → (Callee → Touch) → Place → Named → Bool
reads_named frame guards touches x n =
    (is_among x (parts_places frame.names n.reads) || is_among x (map (state_place frame) n.state_reads))
    || (list_any (λ m. is_among x (guards m)) n.asked || list_any (λ m. (touches m).read) n.called)

-- what is named may write a place, where callees do this with it
unfoldable pub writes_named : Frame → (Callee → Touch) → Place → Named → Bool
writes_named frame touches x n =
    (is_among x (parts_places frame.names n.writes) || is_among x (map (state_place frame) n.state_writes))
    || list_any (λ m. (touches m).written) n.called

-- what the paths of what a callee leads to do with a place
abbrev pub callee_touch : World → ℕ → Place → Callee → Touch
callee_touch world i x m = touch_of x (calls_to world.levels world i m ([] ∷ []))

-- some path of a body reads a place, or may write it, exactly where what the body names does
pub record HasNames (world : World) (i : ℕ) (body : List St) (x : Place) : Type 0 where
  pub reads : (touch_of x (paths_of world i body)).read ≡
      reads_named (world.frames i) (guards_to world.levels world i) (callee_touch world i x) x (body_names body)
  pub writes : (touch_of x (paths_of world i body)).written ≡
      writes_named (world.frames i) (callee_touch world i x) x (body_names body)
