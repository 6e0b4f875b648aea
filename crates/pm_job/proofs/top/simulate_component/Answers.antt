use Rattle.std.proofs.Common.{List, length, ap, sym, subst}
use Rattle.std.specs.Option.{IfSome, is_some}
use Rattle.pm_job.specs.declared.component.Assignment.{Assignment}
use Rattle.pm_job.specs.Precedence.{HasLoop, IsArrangement}
use Rattle.pm_job.specs.Progress.{AreWithin}
use Rattle.pm_job.proofs.Outcomes.{ends_arranged, ends_looped, ends_read_at_once}
use Rattle.pm_job.proofs.Rearranged.{arranged_ready, indices_within}
use Rattle.pm_job.proofs.top.simulate_component.Goals as goal

pub returns-in_default-clause-ends : goal.returns-in_default-clause-ends
returns-in_default-clause-ends g c = ends_read_at_once c.args.component.now (g.I.Source.left c.args.input.now) (g.O.Sink.held c.args.output.now) c.requires

pub simulate-requires : goal.simulate-requires
simulate-requires g c =
    let order : IsArrangement c.args.component.now.blocks c.in-Some.order.items =
    subst (λ (blocks : List Assignment). IsArrangement blocks c.in-Some.order.items) c.as_slice.ensures
    (subst (λ found. IfSome found (λ order. IsArrangement c.as_slice.result.now order.items)) c.in-Some.is c.in-Ok.ensures.ordered) in
    let within = indices_within (length c.args.component.now.blocks) c.in-Some.order.items order.each_once in
    record {
      runs = record {
        indices = subst (AreWithin (length c.args.component.now.blocks)) (sym c.deref.ensures.value) within;
        ready = arranged_ready c.args.component.now c.deref.result.now c.requires
            (subst (IsArrangement c.args.component.now.blocks) (sym c.deref.ensures.value) order);
      };
    }

pub returns-in-Some-clause-ends : goal.returns-in-Some-clause-ends
returns-in-Some-clause-ends g c =
    let order : IsArrangement c.args.component.now.blocks c.in-Some.order.items =
    subst (λ (blocks : List Assignment). IsArrangement blocks c.in-Some.order.items) c.as_slice.ensures
    (subst (λ found. IfSome found (λ order. IsArrangement c.as_slice.result.now order.items)) c.in-Some.is c.in-Ok.ensures.ordered) in
    ends_arranged c.args.component.now c.deref.result.now (g.I.Source.left c.args.input.now) (g.O.Sink.held c.args.output.now) (g.O.Sink.held c.simulate.new.output) c.simulate.result
    c.requires (subst (IsArrangement c.args.component.now.blocks) (sym c.deref.ensures.value) order) c.simulate.ensures.ends

pub returns-in-None-clause-ends : goal.returns-in-None-clause-ends
returns-in-None-clause-ends g c =
    let loop : HasLoop c.args.component.now.blocks = subst HasLoop c.as_slice.ensures (c.in-Ok.ensures.looped.0 (ap is_some c.in-None.is)) in
    ends_looped c.args.component.now (g.I.Source.left c.args.input.now) (g.O.Sink.held c.args.output.now) loop
