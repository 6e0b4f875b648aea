use Rattle.std.proofs.Common.{◌≡◌, ◌∙◌, ◌+◌, ℕ, suc, ap, arith}
use Rattle.pm_instances.specs.Laid.{laid_out}
use Rattle.pm_nets.specs.Links.{reset_part}
use Rattle.pm_nets.specs.Sites.{first_of}
use Rattle.pm_nets.proofs.Ending.{reset_ended}
use Rattle.pm_nets.proofs.ends.join_reset_ends.Goals as goal

pub returns : goal.returns
returns c =
    let plan = laid_out c.args.design.now in
    let next : c.args.child + 1 ≡ suc c.args.child = omega arith in
    reset_ended plan c.args.i c.args.child c.args.sets.now c.join.new.self c.end_at.result c.end_at-2.result
    c.first_bit-own.result c.first_bit-other.result c.end_at.ensures c.end_at-2.ensures
    (c.first_bit-own.ensures.value ∙ ap (first_of plan c.args.i) c.reset_of.ensures)
    (c.first_bit-other.ensures.value ∙ (ap (first_of plan c.args.i) c.reset_of-2.ensures
    ∙ ap (λ (n : ℕ). first_of plan c.args.i (reset_part n)) next)) c.join.ensures
