use Rattle.std.proofs.Common.{◌∙◌, ◌+◌, ◌∷◌, [], List, ℕ, subst}
use Rattle.pm_nets.specs.Drivers.{Marks}
use Rattle.pm_nets.proofs.Marking.{bits_marked}
use Rattle.pm_nets.proofs.drivers.mark_bits.Goals as goal

pub loop-t-preserved : goal.loop-t-preserved
loop-t-preserved c = (
  c.mark_bit.ensures.same ∙ c.loop-t.invariant.0,
  bits_marked c.args.sets.now c.args.driven.now c.loop-t.driven c.mark_bit.new.driven c.args.first
      c.loop-t.t c.loop-t.invariant.1
      (subst (λ (l : List ℕ). Marks l c.loop-t.driven c.mark_bit.new.driven
      ((c.args.first + c.loop-t.t) ∷ [])) c.loop-t.invariant.0
      c.mark_bit.ensures.marks),
)
