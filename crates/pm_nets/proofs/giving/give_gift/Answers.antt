use Rattle.std.proofs.Common.{◌≡◌, ◌∙◌, ◌+◌, ap, ℕ}
use Rattle.pm_instances.specs.Laid.{laid_out}
use Rattle.pm_nets.specs.Ends.{end_at, end_of}
use Rattle.pm_nets.proofs.GiverLists.{bits_all, bits_more}
use Rattle.pm_nets.proofs.giving.give_gift.Goals as goal

pub loop-t-preserved : goal.loop-t-preserved
loop-t-preserved c =
    let end : c.end_at-end.result ≡ end_of (laid_out c.args.design.now) c.args.i c.args.gift.part c.loop-t.t =
    c.end_at-end.ensures
    ∙ ap (λ (b : ℕ). end_at c.args.gift.part.owner (b + c.loop-t.t)) c.first_bit-start.ensures.value in (
      c.give-found.ensures.same ∙ c.loop-t.invariant.0,
      bits_more
          (λ t. record {
            source = c.args.gift.source;
            end =
                end_of (laid_out c.args.design.now) c.args.i c.args.gift.part t;
          })
          c.args.sets.now c.loop-t.sets c.args.first.now c.loop-t.first c.give-found.new.first c.args.least
          c.loop-t.found
          c.give-found.result c.loop-t.t (record { source = c.args.gift.source; end = c.end_at-end.result })
          c.loop-t.invariant.0 (ap (λ (e : ℕ). record { source = c.args.gift.source; end = e }) end)
          c.loop-t.invariant.1
          c.give-found.ensures.given,
    )

pub returns-clause-given : goal.returns-clause-given
returns-clause-given c =
    bits_all (λ t. record {
      source = c.args.gift.source;
      end =
          end_of (laid_out c.args.design.now) c.args.i c.args.gift.part t;
    })
    c.args.sets.now c.args.first.now c.loop-t.first c.args.least c.loop-t.found c.loop-t.t c.args.gift.part.width
    c.loop-t-test.false c.loop-t.auto.t-end c.loop-t.invariant.1
