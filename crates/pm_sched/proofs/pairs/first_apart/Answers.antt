use Rattle.bit_table.specs.Tables.{is_set}
use Rattle.pm_sched.proofs.Firsts.{first_least, first_none}
use Rattle.pm_sched.proofs.pairs.first_apart.Goals as goal

pub returns-then-not-has-2-clause-least : goal.returns-then-not-has-2-clause-least
returns-then-not-has-2-clause-least c = first_least (is_set c.args.table.now) c.args.row.now c.args.table.now.rows c.args.first c.loop-second.second-index c.requires.row c.loop-second.invariant

pub returns-clause-none : goal.returns-clause-none
returns-clause-none c = λ _. first_none (is_set c.args.table.now) c.args.row.now c.args.first c.loop-second.second-index c.loop-second-test.false c.loop-second.invariant
