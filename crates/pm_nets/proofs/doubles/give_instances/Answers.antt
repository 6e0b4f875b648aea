use Rattle.std.proofs.Common.{◌∙◌, None}
use Rattle.pm_instances.specs.Laid.{laid_out}
use Rattle.pm_nets.specs.Givers.{givers_in}
use Rattle.pm_nets.proofs.DoubleBits.{all_given}
use Rattle.pm_nets.proofs.GiverLists.{instances_more, instances_all}
use Rattle.pm_nets.proofs.doubles.give_instances.Goals as goal

pub loop-i-preserved : goal.loop-i-preserved
loop-i-preserved c = (
  c.give_instance.ensures.same ∙ c.loop-i.invariant.0,
  instances_more
      (givers_in (laid_out c.args.design.now)) c.args.sets.now c.loop-i.sets c.args.first.now c.loop-i.first
      c.give_instance.new.first None c.loop-i.found c.in_ok-found.found c.loop-i.i c.loop-i.invariant.0
      c.loop-i.invariant.1
      c.in_ok-found.ensures.given,
)

pub returns-clause-given : goal.returns-clause-given
returns-clause-given c =
    all_given c.args.design.now c.args.site.now c.requires.site c.args.sets.now c.args.first.now c.loop-i.first
    c.loop-i.found
    c.requires.none
    (instances_all
    (givers_in (laid_out c.args.design.now)) c.args.sets.now c.args.first.now c.loop-i.first None c.loop-i.found
    c.loop-i.i c.len-i-end.result _ c.loop-i-test.false c.loop-i.auto.i-end c.len-i-end.ensures c.loop-i.invariant.1)
