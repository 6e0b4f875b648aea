use Rattle.std.proofs.Common.{◌&&◌, sym, ◌∙◌, arith}
use Rattle.std.proofs.lemmas.Bool.{and_from}
use Rattle.bit_table.specs.Tables.{is_set}
use Rattle.pm_cons.proofs.Below.{least_below_at, least_below_empty}
use Rattle.pm_sched.proofs.cycle.next_step.Goals as goal

pub returns-then-has-2 : goal.returns-then-has-2
returns-then-has-2 c = sym (least_below_at c.args.predecessors.now.rows (λ b. is_set c.args.predecessors.now b c.args.block && is_set c.args.layers.now c.args.layer b) c.loop-next.next (omega (arith, c.loop-next-test.true, c.rows-next-end.ensures))
    (and_from _ _ (sym c.has.ensures ∙ c.if-has.true) (sym c.has-then-has.ensures ∙ c.if-has-2.true)) c.loop-next.invariant)

pub returns : goal.returns
returns c = sym (least_below_empty c.args.predecessors.now.rows (λ b. is_set c.args.predecessors.now b c.args.block && is_set c.args.layers.now c.args.layer b) (λ k lt. c.loop-next.invariant k (omega (arith, c.loop-next-test.false, c.rows-next-end.ensures))))
