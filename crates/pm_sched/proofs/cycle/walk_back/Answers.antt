use Rattle.std.proofs.Common.{◌∙◌}
use Rattle.pm_sched.specs.Tables.{precedence_in}
use Rattle.pm_sched.proofs.Ready.{blocks_in}
use Rattle.pm_sched.proofs.Walked.{step_is, more_walked, never_none, all_walked}
use Rattle.pm_sched.proofs.cycle.walk_back.Goals as goal

pub unreachable-requires : goal.unreachable-requires
unreachable-requires c = never_none (precedence_in c.args.predecessors.now) c.args.last c.args.block c.loop-step.step c.loop-step.at c.loop-step.list c.loop-step-test.true c.loop-step.invariant
    (c.in-None.ensures ∙ step_is c.args.predecessors.now c.args.layers.now c.args.block c.args.last c.loop-step.step c.loop-step.at c.loop-step-test.true c.requires.layers)

pub loop-step-preserved : goal.loop-step-preserved
loop-step-preserved c = more_walked (precedence_in c.args.predecessors.now) (blocks_in c.args.predecessors.now c.requires.square) c.args.last c.args.block c.loop-step.step c.loop-step.at c.in-Some.next c.loop-step.list c.push-in-Some.new.self c.loop-step-test.true c.loop-step.invariant
    (c.in-Some.ensures ∙ step_is c.args.predecessors.now c.args.layers.now c.args.block c.args.last c.loop-step.step c.loop-step.at c.loop-step-test.true c.requires.layers)
    c.in_ok-push-in-Some.ensures.ok

pub returns : goal.returns
returns c = all_walked (precedence_in c.args.predecessors.now) c.args.last c.args.block c.loop-step.step c.loop-step.at c.loop-step.list c.loop-step-test.false c.loop-step.invariant
