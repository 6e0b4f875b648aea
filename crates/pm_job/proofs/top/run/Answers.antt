use Rattle.std.proofs.Common.{sym, subst}
use Rattle.std.specs.Prelude.{Option, Some}
use Rattle.pm_job.specs.declared.status.Status.{Status}
use Rattle.pm_job.specs.Answers.{Answers, IsMessageOf, Shows}
use Rattle.pm_job.specs.CommandLine.{Target, target_now}
use Rattle.pm_job.specs.Endings.{message_of}
use Rattle.pm_job.proofs.Outcomes.{answers_target, is_message, says}
use Rattle.pm_job.proofs.top.run.Goals as goal

pub returns-in-Some-clause-answer : goal.returns-in-Some-clause-answer
returns-in-Some-clause-answer g c =
    let finish = c.simulate_target-finish.result in
    let old = g.O.Sink.held c.args.output.now in
    let new = g.O.Sink.held c.simulate_target-finish.new.output in
    let errors = g.E.Sink.held c.args.errors.now in
    let errors' = g.E.Sink.held c.say.new.errors in
    let faults = g.E.Sink.faults c.args.errors.now in
    let faults' = g.E.Sink.faults c.say.new.errors in
    let files = g.S.Store.files c.args.store.now in
    let left = g.I.Source.left c.args.input.now in
    let target = target_now c.in-Some.target in
    let said = says errors errors' faults faults' (message_of finish) c.say.result c.say.ensures.cause.cause c.say.ensures.text in
    let answered = answers_target target files left old new errors errors' faults faults' finish c.simulate_target-finish.ensures.ends said in
    subst (λ (job : Option Target). Answers job files left (Shows c.status.result old new errors errors' faults faults')) c.in-Some.ensures
    (subst (λ (status : Status). Answers (Some target) files left (Shows status old new errors errors' faults faults')) (sym c.status.ensures) answered)

pub returns-in-Some-clause-message : goal.returns-in-Some-clause-message
returns-in-Some-clause-message g c =
    let finish = c.simulate_target-finish.result in (
      message_of finish,
      subst (λ (status : Status). IsMessageOf status (message_of finish)) (sym c.status.ensures) (is_message finish),
      says (g.E.Sink.held c.args.errors.now) (g.E.Sink.held c.say.new.errors) (g.E.Sink.faults c.args.errors.now) (g.E.Sink.faults c.say.new.errors)
          (message_of finish) c.say.result c.say.ensures.cause.cause c.say.ensures.text,
    )
