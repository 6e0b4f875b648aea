use Rattle.std.proofs.Common.{◌∙◌, refl, sym, subst, inr}
use Rattle.std.specs.Prelude.{Option}
use Rattle.pm_job.specs.declared.component.Component.{Component}
use Rattle.pm_job.specs.Endings.{EndsAs}
use Rattle.pm_job.specs.Form.{component_of}
use Rattle.pm_job.proofs.Components.{is_read}
use Rattle.pm_job.proofs.Outcomes.{ends_refused, ends_at_once}
use Rattle.pm_job.proofs.top.simulate_text.Goals as goal

pub returns-in_default-clause-ends : goal.returns-in_default-clause-ends
returns-in_default-clause-ends g c =
    ends_at_once c.args.class.now c.args.text.now (g.I.Source.left c.args.input.now) (g.O.Sink.held c.args.output.now) _ (inr refl)

pub simulate_component-requires : goal.simulate_component-requires
simulate_component-requires g c = is_read c.args.class.now c.args.text.now c.in-Some.component (sym c.in-Ok.ensures ∙ c.in-Some.is)

pub returns-in-Some-clause-ends : goal.returns-in-Some-clause-ends
returns-in-Some-clause-ends g c =
    subst (λ (found : Option Component). EndsAs found (g.I.Source.left c.args.input.now) (g.O.Sink.held c.args.output.now) (g.O.Sink.held c.simulate_component.new.output) c.simulate_component.result)
    (sym (sym c.in-Ok.ensures ∙ c.in-Some.is)) c.simulate_component.ensures.ends

pub returns-in-None-clause-ends : goal.returns-in-None-clause-ends
returns-in-None-clause-ends g c =
    ends_refused (component_of c.args.class.now c.args.text.now) (g.I.Source.left c.args.input.now) (g.O.Sink.held c.args.output.now) (sym c.in-Ok.ensures ∙ c.in-None.is)
