use Rattle.std.proofs.Common.{sym, ◌∙◌, arith}
use Rattle.pm_sched.specs.Tables.{flag, precedence_in}
use Rattle.pm_sched.proofs.Ready.{next_here, next_none}
use Rattle.pm_sched.proofs.ordering.next_block.Goals as goal

pub returns-then-is_ready-clause-value : goal.returns-then-is_ready-clause-value
returns-then-is_ready-clause-value c = sym (next_here (precedence_in c.args.predecessors.now) (flag c.args.listed.now) c.loop-block.block (omega arith) (sym c.is_ready.ensures.value ∙ c.if-is_ready.true) c.loop-block.invariant.1)

pub returns-clause-value : goal.returns-clause-value
returns-clause-value c = sym (next_none (precedence_in c.args.predecessors.now) (flag c.args.listed.now) (λ k lt. c.loop-block.invariant.1 k (omega (arith, c.loop-block-test.false, c.rows-block-end.ensures))))
