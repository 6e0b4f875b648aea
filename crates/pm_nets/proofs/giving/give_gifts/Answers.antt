use Rattle.std.proofs.Common.{◌∙◌}
use Rattle.pm_instances.specs.Laid.{laid_out}
use Rattle.pm_nets.specs.Givers.{gift_givers}
use Rattle.pm_nets.proofs.GiverLists.{gift_more}
use Rattle.pm_nets.proofs.giving.give_gifts.Goals as goal

pub loop-gift-preserved : goal.loop-gift-preserved
loop-gift-preserved c = (
  c.give_gift-found.ensures.same ∙ c.loop-gift.invariant.0,
  gift_more (gift_givers (laid_out c.args.design.now) c.args.i) c.args.sets.now c.loop-gift.sets c.args.first.now
      c.loop-gift.first c.give_gift-found.new.first c.args.least c.loop-gift.found c.give_gift-found.result
      c.args.gifts.now
      c.loop-gift.gift-index _ c.loop-gift.invariant.0 c.loop-gift-test.true c.loop-gift.invariant.1
      c.give_gift-found.ensures.given,
)
