use Rattle.std.proofs.Common.{sym, ◌∙◌, arith}
use Rattle.pm_cons.proofs.Below.{least_below_at, least_below_empty}
use Rattle.bit_table.specs.Tables.{is_set}
use Rattle.pm_sched.proofs.closing.first_on_diagonal.Goals as goal

pub returns-then-has : goal.returns-then-has
returns-then-has c = sym (least_below_at c.args.table.now.rows (λ b. is_set c.args.table.now b b) c.loop-block.block (omega (arith, c.loop-block-test.true, c.rows-block-end.ensures)) (sym c.has.ensures ∙ c.if-has.true) c.loop-block.invariant)

pub returns : goal.returns
returns c = sym (least_below_empty c.args.table.now.rows (λ b. is_set c.args.table.now b b) (λ k lt. c.loop-block.invariant k (omega (arith, c.loop-block-test.false, c.rows-block-end.ensures))))
