use Rattle.std.proofs.Common.{◌+◌, ap₂, ℕ}
use Rattle.pm_nets.specs.Ends.{end_at}
use Rattle.pm_nets.proofs.Ending.{end_bits_all, end_bits_more}
use Rattle.pm_nets.proofs.ends.join_end_bits.Goals as goal

pub loop-t-preserved : goal.loop-t-preserved
loop-t-preserved c =
    end_bits_more
    (λ t. (end_at c.args.a.0 (c.args.a.1 + t), end_at c.args.b.0 (c.args.b.1 + t))) c.args.sets.now c.loop-t.sets
    c.join.new.self c.loop-t.t (c.end_at.result, c.end_at-in-loop-t.result)
    (ap₂ (λ (x y : ℕ). (x, y)) c.end_at.ensures c.end_at-in-loop-t.ensures) c.loop-t.invariant c.join.ensures

pub returns : goal.returns
returns c =
    end_bits_all
    (λ t. (end_at c.args.a.0 (c.args.a.1 + t), end_at c.args.b.0 (c.args.b.1 + t))) c.args.sets.now c.loop-t.sets
    c.loop-t.t c.args.width c.loop-t-test.false c.loop-t.auto.t-end c.loop-t.invariant
