-- Places under other names.
use Rattle.std.specs.Prelude.{ℕ, ◌≡◌, List, map}
use Rattle.pm_design.specs.declared.body.St.{St}
use Rattle.pm_block.specs.Value.{Frame, World}
use Rattle.pm_touched.specs.Events.{Place, Event, Path}
use Rattle.pm_touched.specs.Events.Event.{Read, Write, MayWrite}
use Rattle.pm_touched.specs.Events.Place.{Bit, Object}
use Rattle.pm_touched.specs.Paths.{paths_of}

-- a place whose bit has another number
abbrev pub renamed_place : (ℕ → ℕ) → Place → Place
renamed_place f (Bit b) = Bit (f b)
renamed_place f (Object k) = Object k

-- an event at a place whose bit has another number
abbrev pub renamed_event : (ℕ → ℕ) → Event → Event
renamed_event f (Read x) = Read (renamed_place f x)
renamed_event f (Write x) = Write (renamed_place f x)
renamed_event f (MayWrite x) = MayWrite (renamed_place f x)

-- a path whose bits have other numbers
abbrev pub renamed_path : (ℕ → ℕ) → Path → Path
renamed_path f path = map (renamed_event f) path

-- a frame whose bits have other numbers
abbrev pub renamed_frame : (ℕ → ℕ) → Frame → Frame
renamed_frame f frame = record frame { names = λ owner signal bit. f (frame.names owner signal bit) }

-- a world whose bits have other numbers
abbrev pub renamed_world : (ℕ → ℕ) → World → World
renamed_world f world = record {
  frames = λ i. renamed_frame f (world.frames i);
  leads = world.leads;
  levels = world.levels;
}

-- under other numbers of its bits a body has the same paths, with these numbers
abbrev pub PathsAreRenamed : Type 0
PathsAreRenamed =
    (f : ℕ → ℕ) (world : World) (i : ℕ) (body : List St)
    → paths_of (renamed_world f world) i body ≡ map (renamed_path f) (paths_of world i body)
