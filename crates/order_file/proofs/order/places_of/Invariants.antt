use Rattle.std.proofs.Common.{take}
use Rattle.name_places.specs.Places.{FindsPlaces}
use Rattle.order_file.proofs.order.places_of.Given as goal

-- the blocks so far are in the table
abbrev pub invariant-loop-place : goal.invariant-loop-place
invariant-loop-place l = FindsPlaces (λ block. block.name) (take l.place l.blocks) l.places
