-- The run of a body, under a naming of its bits and states.
use Rattle.std.specs.Prelude.{ℕ, zero, suc, ◌+◌, ◌-◌, ◌==◌, Bool, false, nat_lt, if◌then◌else◌, List, [], ◌∷◌, ◌++◌, length, map, take, drop, slice_index_or, Option, None, Some}
use Rattle.pm_bits.specs.Word.{Word}
use Rattle.pm_design.specs.declared.body.Ex.{Ex}
use Rattle.pm_design.specs.declared.body.Method.{Method}
use Rattle.pm_design.specs.declared.body.Side.{Side}
use Rattle.pm_design.specs.declared.body.Side.TheVariants as side
use Rattle.pm_design.specs.declared.body.St.{St, St-F, fold-St}
use Rattle.pm_design.specs.declared.connection.Callee.{Callee}
use Rattle.pm_design.specs.declared.connection.Part.{Part}
use Rattle.pm_block.specs.Places.{Valuation, Items, put_at}
use Rattle.pm_block.specs.Value.{Names, Frame, World, Temporaries, zero_word, no_part, places_of, item_of, value, ready_to}

-- the values of places, states and temporaries, and what the assignments that wait will do
pub record State : Type 0 where
  pub places : Valuation
  pub items : Items
  pub later : Valuation → Valuation
  pub temps : Temporaries

-- what a call leaves, and its answer
pub record Returned : Type 0 where
  pub state : State
  pub answer : Word

-- what the names of a body mean: its frame, its callees' guards, its callees' runs
pub record Scene : Type 0 where
  pub frame : Frame
  pub ready : Valuation → Items → Callee → Word
  pub call : Callee → List Word → State → Returned

-- a change of the places, at once or at the end
abbrev pub assigned : Bool → (Valuation → Valuation) → State → State
assigned clocked change s =
    if clocked then record s { later = λ v. change (s.later v) } else record s { places = change s.places }

-- a word put into a part
abbrev pub put_part : Names → Part → Word → Valuation → Valuation
put_part names p w = put_at (places_of names p) p.width w

-- a word put into the part that an index picks, and into none past the end
abbrev pub picked_put : Bool → Names → List Part → ℕ → Word → State → State
picked_put clocked names ps i w s =
    if nat_lt i (length ps) then assigned clocked (put_part names (slice_index_or ps i no_part) w) s else s

-- another word in one temporary
abbrev pub put_temp : ℕ → Word → Temporaries → Temporaries
put_temp t w temps r = if r == t then w else temps r

-- a word in the temporary that is named, if one is
abbrev pub put_target : Option ℕ → Word → Temporaries → Temporaries
put_target None w temps = temps
put_target (Some t) w temps = put_temp t w temps

-- other words of one state object
abbrev pub put_items : ℕ → List Word → Items → Items
put_items k words items j = if j == k then words else items j

-- one more item: a full deque loses that at the other end
abbrev pub pushed : ℕ → Side → Word → List Word → List Word
pushed maxlen side.Left w ws = take maxlen (w ∷ ws)
pushed maxlen side.Right w ws = drop (length ws + 1 - maxlen) (ws ++ w ∷ [])

-- which item a pop takes
abbrev pub popped_place : Side → List Word → ℕ
popped_place side.Left ws = 0
popped_place side.Right ws = length ws - 1

-- the items that a pop leaves
abbrev pub popped : Side → List Word → List Word
popped side.Left ws = drop 1 ws
popped side.Right ws = take (length ws - 1) ws

-- one run after another
abbrev pub in_turn : List (State → State) → State → State
in_turn [] s = s
in_turn (f ∷ fs) s = in_turn fs (f s)

-- the value of an expression in a state
abbrev pub value_in : Scene → State → Ex → Word
value_in scene s e = value (scene.ready s.places s.items) scene.frame s.places s.items s.temps e

-- other words of one state of a body
abbrev pub with_items : Scene → ℕ → List Word → State → State
with_items scene k words s = record s { items = put_items (scene.frame.object k) words s.items }

-- the words of a state of a body
abbrev pub words_of : Scene → State → ℕ → List Word
words_of scene s k = s.items (scene.frame.object k)

-- what a call leaves, with its answer in the temporary that is named; its own temporaries are gone
abbrev pub returned : Option ℕ → State → Returned → State
returned target s r = record r.state { temps = put_target target r.answer s.temps }

-- the run of a statement, once each of its own statements has its run
abbrev pub run_step : Bool → Scene → St-F (State → State) → State → State
run_step clocked scene (St-F.Set p e) s =
    assigned clocked (put_part scene.frame.names p (value_in scene s e)) s
run_step clocked scene (St-F.SetPick i ps e) s =
    picked_put clocked scene.frame.names ps (value_in scene s i).value (value_in scene s e) s
run_step clocked scene (St-F.SetTemp t e) s = record s { temps = put_temp t (value_in scene s e) s.temps }
run_step clocked scene (St-F.SetNumber k e) s = with_items scene k (value_in scene s e ∷ []) s
run_step clocked scene (St-F.Push k end e) s =
    with_items scene k (pushed (scene.frame.holding k).maxlen end (value_in scene s e) (words_of scene s k)) s
run_step clocked scene (St-F.Pop k end target) s =
    let word = item_of scene.frame s.items k (popped_place end (words_of scene s k)) in
    let left : State = with_items scene k (popped end (words_of scene s k)) s in
    record left { temps = put_target target word s.temps }
run_step clocked scene (St-F.Clear k) s = with_items scene k [] s
run_step clocked scene (St-F.Call m es target) s = returned target s (scene.call m (map (value_in scene s) es) s)
run_step clocked scene (St-F.If c xs ys) s = if (value_in scene s c).value == 0 then in_turn ys s else in_turn xs s

-- the run of a statement
unfoldable pub run : Bool → Scene → St → State → State
run clocked scene = fold-St (State → State) (run_step clocked scene)

-- the run of a body
abbrev pub run_body : Bool → Scene → List St → State → State
run_body clocked scene body = in_turn (map (run clocked scene) body)

-- the words of a list, one for each temporary
abbrev pub temps_of : List Word → Temporaries
temps_of ws t = slice_index_or ws t (zero_word 0)

-- a method's arguments are its first temporaries, and the others start at 0
abbrev pub entered : Method → List Word → State → State
entered method args s = record s { temps = temps_of (args ++ map zero_word (drop (length args) method.temps)) }

-- what a method answers, if anything
abbrev pub answer_in : Scene → State → Option Ex → Word
answer_in scene s None = zero_word 0
answer_in scene s (Some e) = value_in scene s e

-- the method that a callee leads to, put in its place, with calls within calls through so many levels
abbrev pub call_to : ℕ → World → ℕ → Callee → List Word → State → Returned
call_to zero world i m args s = record { state = s; answer = zero_word 0 }
call_to (suc levels) world i m args s =
    let target = world.leads i m in
    let scene : Scene = record {
      frame = world.frames target.instance;
      ready = ready_to world.levels world target.instance;
      call = call_to levels world target.instance;
    } in
    let left : State = run_body false scene target.method.body (entered target.method args s) in
    record { state = left; answer = answer_in scene left target.method.answer }

-- what an instance's bodies mean, in a frame of their own
abbrev pub scene_in : World → ℕ → Frame → Scene
scene_in world i frame = record {
  frame = frame;
  ready = ready_to world.levels world i;
  call = call_to world.levels world i;
}

-- the values of places and of state objects
pub record Memory : Type 0 where
  pub places : Valuation
  pub items : Items

-- the values behind a block: temporaries start at 0, and what waits takes effect in turn at the end
abbrev pub run_block : Bool → Scene → List St → List ℕ → Memory → Memory
run_block clocked scene body widths m =
    let first : State = record {
      places = m.places;
      items = m.items;
      later = λ u. u;
      temps = temps_of (map zero_word widths);
    } in
    let last : State = run_body clocked scene body first in
    record { places = if clocked then last.later last.places else last.places; items = last.items }
