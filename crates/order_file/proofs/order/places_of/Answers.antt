use Rattle.pm_design.specs.declared.plan.Flat.{Flat}
use Rattle.name_places.proofs.Places.{no_more, one_more}
use Rattle.order_file.proofs.order.places_of.Goals as goal

pub loop-place-preserved : goal.loop-place-preserved
loop-place-preserved c =
    one_more (λ (block : Flat). block.name) c.args.blocks.now c.loop-place.place c.index-blocks-place.result
    c.as_slice.result.now c.loop-place.places c.add_place.new.places c.loop-place-test.true c.index-blocks-place.is
    c.as_slice.ensures c.loop-place.invariant c.in_ok-add_place.ensures.first

pub returns : goal.returns
returns c =
    no_more (λ (block : Flat). block.name) c.args.blocks.now c.loop-place.place c.loop-place.places c.loop-place-test.false
    c.loop-place.invariant
