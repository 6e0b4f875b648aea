-- The places that expressions read.
use Rattle.std.specs.Prelude.{ℕ, zero, suc, List, [], ◌∷◌, ◌++◌, map, flat_map, Option, None, Some}
use Rattle.std.specs.List.{range_with_len}
use Rattle.pm_design.specs.declared.body.Ex.{Ex, Ex-F, fold-Ex}
use Rattle.pm_design.specs.declared.connection.Callee.{Callee}
use Rattle.pm_design.specs.declared.connection.Part.{Part}
use Rattle.pm_block.specs.Value.{Names, Frame, World, places_of}
use Rattle.pm_touched.specs.Events.{Place}
use Rattle.pm_touched.specs.Events.Place.{Bit, Object}

-- the bits of a part
abbrev pub part_places : Names → Part → List Place
part_places names part = map (λ i. Bit (places_of names part i)) (range_with_len 0 part.width)

-- the bits of some parts
abbrev pub parts_places : Names → List Part → List Place
parts_places names parts = flat_map (part_places names) parts

-- a state
abbrev pub state_place : Frame → ℕ → Place
state_place frame k = Object (frame.object k)

-- the places that an expression reads, once its operands and the guards have theirs: of a choice those of both values,
-- of a dynamic index those of all elements
abbrev pub reads_step : (Callee → List Place) → Frame → Ex-F (List Place) → List Place
reads_step guards frame (Ex-F.Const c) = []
reads_step guards frame (Ex-F.Get p) = part_places frame.names p
reads_step guards frame (Ex-F.Temp t lo n) = []
reads_step guards frame (Ex-F.Pick i ps) = i ++ parts_places frame.names ps
reads_step guards frame (Ex-F.Number k) = state_place frame k ∷ []
reads_step guards frame (Ex-F.Count k) = state_place frame k ∷ []
reads_step guards frame (Ex-F.Item k i) = state_place frame k ∷ []
reads_step guards frame (Ex-F.Last k) = state_place frame k ∷ []
reads_step guards frame (Ex-F.Ready m) = guards m
reads_step guards frame (Ex-F.Not a) = a
reads_step guards frame (Ex-F.Fold f a) = a
reads_step guards frame (Ex-F.Bin op a b) = a ++ b
reads_step guards frame (Ex-F.Cat es) = flat_map (λ places. places) es
reads_step guards frame (Ex-F.Zext a n) = a
reads_step guards frame (Ex-F.Sext a n) = a
reads_step guards frame (Ex-F.Trunc a n) = a
reads_step guards frame (Ex-F.Cond c a b) = c ++ a ++ b

-- the places that an expression reads
unfoldable pub reads : (Callee → List Place) → Frame → Ex → List Place
reads guards frame = fold-Ex (List Place) (reads_step guards frame)

-- the places that an expression reads, if there is one
abbrev pub reads_of : (Callee → List Place) → Frame → Option Ex → List Place
reads_of guards frame None = []
reads_of guards frame (Some e) = reads guards frame e

-- the places that the guard of what a callee leads to reads, with guards within guards through so many levels
abbrev pub guards_to : ℕ → World → ℕ → Callee → List Place
guards_to zero world i m = []
guards_to (suc levels) world i m =
    let target = world.leads i m in
    reads_of (guards_to levels world target.instance) (world.frames target.instance) target.method.guard
