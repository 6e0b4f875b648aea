use Rattle.std.proofs.Common.{List, ℕ}
use Rattle.name_places.proofs.Places.{no_more, one_more}
use Rattle.pm_trace.proofs.header.places_of.Goals as goal

pub loop-place-preserved : goal.loop-place-preserved
loop-place-preserved c =
    one_more (λ (name : List ℕ). name) c.args.inputs.now c.loop-place.place c.index-inputs-place.result
    c.as_slice.result.now c.loop-place.places c.add_place.new.places c.loop-place-test.true c.index-inputs-place.is
    c.as_slice.ensures c.loop-place.invariant c.in_ok-add_place.ensures.first

pub returns : goal.returns
returns c =
    no_more (λ (name : List ℕ). name) c.args.inputs.now c.loop-place.place c.loop-place.places c.loop-place-test.false
    c.loop-place.invariant
