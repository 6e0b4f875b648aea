-- One walk over a body: what it does with a place, without its paths.
use Rattle.std.specs.Prelude.{ℕ, zero, suc, ◌&&◌, ◌||◌, Bool, false, not, List, [], ◌∷◌, map, flat_map}
use Rattle.pm_design.specs.declared.body.St.{St, St-F, fold-St}
use Rattle.pm_design.specs.declared.connection.Callee.{Callee}
use Rattle.pm_block.specs.Value.{Frame, World}
use Rattle.pm_touched.specs.Events.{Place, is_among}
use Rattle.pm_touched.specs.Expressions.{part_places, parts_places, state_place, reads, reads_of, guards_to}
use Rattle.pm_touched.specs.Touches.{Touch}

-- what the names of a body mean: its frame, the places that its callees' guards read, and what its callees do with the
-- place
pub record Sight : Type 0 where
  pub frame : Frame
  pub guards : Callee → List Place
  pub calls : Callee → Touch

-- nothing is done
abbrev pub untouched : Touch
untouched = record { read = false; written = false; surely = false; early = false }

-- the place is read, or not
abbrev pub reading : Bool → Touch
reading among = record { read = among; written = false; surely = false; early = among }

-- the place is written, or not
abbrev pub writing : Bool → Touch
writing among = record { read = false; written = among; surely = among; early = false }

-- the place may be written, or not
abbrev pub picking : Bool → Touch
picking among = record { read = false; written = among; surely = false; early = false }

-- one thing, and then another
abbrev pub followed_by : Touch → Touch → Touch
followed_by a b = record {
  read = a.read || b.read;
  written = a.written || b.written;
  surely = a.surely || b.surely;
  early = a.early || (not a.surely && b.early);
}

-- one thing or another
abbrev pub either_of : Touch → Touch → Touch
either_of a b = record {
  read = a.read || b.read;
  written = a.written || b.written;
  surely = a.surely && b.surely;
  early = a.early || b.early;
}

-- one thing after another
abbrev pub all_in_turn : List Touch → Touch
all_in_turn [] = untouched
all_in_turn (t ∷ ts) = followed_by t (all_in_turn ts)

-- what a statement does with a place, once its own statements are known
abbrev pub walk_step : Sight → Place → St-F Touch → Touch
walk_step sight x (St-F.Set p e) =
    followed_by (reading (is_among x (reads sight.guards sight.frame e)))
    (writing (is_among x (part_places sight.frame.names p)))
walk_step sight x (St-F.SetPick i ps e) =
    followed_by (reading (is_among x (reads sight.guards sight.frame i)))
    (followed_by (reading (is_among x (reads sight.guards sight.frame e)))
    (picking (is_among x (parts_places sight.frame.names ps))))
walk_step sight x (St-F.SetTemp t e) = reading (is_among x (reads sight.guards sight.frame e))
walk_step sight x (St-F.SetNumber k e) =
    followed_by (reading (is_among x (reads sight.guards sight.frame e)))
    (writing (is_among x (state_place sight.frame k ∷ [])))
walk_step sight x (St-F.Push k side e) =
    followed_by (reading (is_among x (reads sight.guards sight.frame e)))
    (followed_by (reading (is_among x (state_place sight.frame k ∷ [])))
    (writing (is_among x (state_place sight.frame k ∷ []))))
walk_step sight x (St-F.Pop k side target) =
    followed_by (reading (is_among x (state_place sight.frame k ∷ [])))
    (writing (is_among x (state_place sight.frame k ∷ [])))
walk_step sight x (St-F.Clear k) = writing (is_among x (state_place sight.frame k ∷ []))
walk_step sight x (St-F.Call m es target) =
    followed_by (reading (is_among x (flat_map (reads sight.guards sight.frame) es))) (sight.calls m)
walk_step sight x (St-F.If c xs ys) =
    followed_by (reading (is_among x (reads sight.guards sight.frame c)))
    (either_of (all_in_turn xs) (all_in_turn ys))

-- what a statement does with a place
unfoldable pub walk : Sight → Place → St → Touch
walk sight x = fold-St Touch (walk_step sight x)

-- what a body does with a place
abbrev pub walk_body : Sight → Place → List St → Touch
walk_body sight x body = all_in_turn (map (walk sight x) body)

-- what that does with a place to which a callee leads, with calls within calls through so many levels
abbrev pub call_touch : ℕ → World → ℕ → Place → Callee → Touch
call_touch zero world i x m = untouched
call_touch (suc levels) world i x m =
    let target = world.leads i m in
    let sight : Sight = record {
      frame = world.frames target.instance;
      guards = guards_to world.levels world target.instance;
      calls = call_touch levels world target.instance x;
    } in
    followed_by (walk_body sight x target.method.body)
    (reading (is_among x (reads_of sight.guards sight.frame target.method.answer)))

-- what the names of an instance's bodies mean to one place
abbrev pub sight_in : World → ℕ → Place → Sight
sight_in world i x = record {
  frame = world.frames i;
  guards = guards_to world.levels world i;
  calls = call_touch world.levels world i x;
}

-- what a body of an instance does with a place
abbrev pub walked : World → ℕ → Place → List St → Touch
walked world i x body = walk_body (sight_in world i x) x body
