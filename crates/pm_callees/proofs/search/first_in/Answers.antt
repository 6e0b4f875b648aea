use Rattle.std.proofs.Common.{rules, ◌∙◌, ◌<◌, ◌^◌, ap, arith, length, refl, sym, List, true, ℕ}
use Rattle.pm_design.specs.declared.design.Kind.{Kind}
use Rattle.pm_design.specs.Runnable.{kind_at}
use Rattle.pm_instances.specs.Laid.{laid_out}
use Rattle.pm_callees.specs.Numbers.{end_at}
use Rattle.pm_callees.specs.Search.{methods_at}
use Rattle.pm_callees.proofs.Placing.{instance_there}
use Rattle.pm_callees.proofs.SiteNumbers.{few_ends}
use Rattle.pm_callees.proofs.Searching.{none_more, none_next}
use Rattle.pm_callees.proofs.search.first_in.Goals as goal

pub overflow_cast-port-end : goal.overflow_cast-port-end
overflow_cast-port-end c =
    let few = few_ends c.args.design.now c.args.site.now c.requires.site c.args.i
    (instance_there c.args.design.now c.args.site.now c.requires.site c.args.i c.requires.instance) in
    let same = ap (λ (k : Kind). length k.callers) c.instance_kind.ensures in
    let count = c.len-port-end.ensures in
    let all : c.args.site.now.count < 2 ^ 32 = c.requires.site.few in
    let low : c.len-port-end.result < 2 ^ 32 = omega arith in
    search (rules, low)

pub loop-port-preserved : goal.loop-port-preserved
loop-port-preserved c = (
  c.port_methods-methods.ensures.same ∙ c.loop-port.invariant.0,
  none_more (laid_out c.args.design.now) c.args.sets.now c.args.tally.now c.args.wanted c.port_methods-methods.result
      c.args.i c.loop-port.port
      (c.port_methods-methods.ensures.methods
      ∙ ap (λ (l : List ℕ). methods_at (laid_out c.args.design.now) l c.args.tally.now
      (end_at c.args.i true c.loop-port.port)) c.loop-port.invariant.0)
      (c.are_as_many.ensures.no c.if-are_as_many.false) c.loop-port.invariant.1,
)

pub returns-then-are_as_many-clause-found : goal.returns-then-are_as_many-clause-found
returns-then-are_as_many-clause-found c =
    let same = ap (λ (k : Kind). length k.callers) c.instance_kind.ensures in
    let count = c.len-port-end.ensures in
    let test = c.loop-port-test.true in
    let within : c.loop-port.port < length (kind_at (laid_out c.args.design.now) c.args.i).callers = omega arith in
    record {
      port = (
        refl,
        (
          instance_there c.args.design.now c.args.site.now c.requires.site c.args.i c.requires.instance,
          within,
        ),
      );
      counted = sym (c.port_methods-methods.ensures.methods
          ∙ ap (λ (l : List ℕ). methods_at (laid_out c.args.design.now) l c.args.tally.now
          (end_at c.args.i true c.loop-port.port)) c.loop-port.invariant.0)
          ∙ c.are_as_many.ensures.yes c.if-are_as_many.true;
      first = c.loop-port.invariant.1;
    }

pub returns-clause-found : goal.returns-clause-found
returns-clause-found c =
    none_next (laid_out c.args.design.now) c.args.sets.now c.args.tally.now c.args.wanted c.args.i c.loop-port.port
    (let same = ap (λ (k : Kind). length k.callers) c.instance_kind.ensures in
    let count = c.len-port-end.ensures in let end = c.loop-port-test.false in omega arith)
    c.loop-port.invariant.1
