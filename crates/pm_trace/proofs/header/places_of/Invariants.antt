use Rattle.std.proofs.Common.{take}
use Rattle.name_places.specs.Places.{FindsPlaces}
use Rattle.pm_trace.proofs.header.places_of.Given as goal

-- the inputs so far are in the table
abbrev pub invariant-loop-place : goal.invariant-loop-place
invariant-loop-place l = FindsPlaces (λ name. name) (take l.place l.inputs) l.places
