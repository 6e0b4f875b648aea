use Rattle.std.proofs.Common.{List, ℕ, refl, subst, inl, inr}
use Rattle.std.specs.Prelude.{Option}
use Rattle.pm_io.specs.Stores.{MayPass, told_of}
use Rattle.pm_job.specs.CommandLine.{target_now}
use Rattle.pm_job.specs.declared.form.TheConstants.{MAX_TEXT}
use Rattle.pm_job.proofs.Outcomes.{target_at_once, target_too_large}
use Rattle.pm_job.proofs.top.simulate_target.Goals as goal

pub returns-in-TooLarge-clause-ends : goal.returns-in-TooLarge-clause-ends
returns-in-TooLarge-clause-ends g c =
    let files = g.S.Store.files c.args.store.now in
    target_too_large (target_now c.args.target) files (g.I.Source.left c.args.input.now) (g.O.Sink.held c.args.output.now)
    (subst (λ (current : Option (List ℕ)). MayPass (told_of files current (g.S.Store.written c.args.store.now) c.args.target.file.now) MAX_TEXT) c.requires c.in-TooLarge.ensures.content)

pub returns-in-Failed-clause-ends : goal.returns-in-Failed-clause-ends
returns-in-Failed-clause-ends g c =
    target_at_once (target_now c.args.target) (g.S.Store.files c.args.store.now) (g.I.Source.left c.args.input.now) (g.O.Sink.held c.args.output.now) _ (inl refl)

pub returns-clause-ends : goal.returns-clause-ends
returns-clause-ends g c =
    target_at_once (target_now c.args.target) (g.S.Store.files c.args.store.now) (g.I.Source.left c.args.input.now) (g.O.Sink.held c.args.output.now) _ (inr refl)
