use Rattle.std.proofs.Common.{not, sym, ap, arith}
use Rattle.std.proofs.lemmas.Bool.{not_from_false}
use Rattle.pm_cons.proofs.Below.{least_below_at, least_below_empty}
use Rattle.pm_cons.specs.Breaks.{missing_of}
use Rattle.pm_sched.specs.Tables.{flag}
use Rattle.pm_sched.proofs.checking.first_unlisted.Goals as goal

pub returns-then-not-listed-block : goal.returns-then-not-listed-block
returns-then-not-listed-block c = sym
    (ap missing_of
    (least_below_at c.args.count (λ b. not (flag c.args.listed.now b)) c.loop-block.block
    c.loop-block-test.true (not_from_false (flag c.args.listed.now c.loop-block.block) c.if-not-listed-block.true) c.loop-block.invariant))

pub returns : goal.returns
returns c = sym
    (ap missing_of
    (least_below_empty c.args.count (λ b. not (flag c.args.listed.now b))
    (λ k lt. c.loop-block.invariant k (omega arith))))
