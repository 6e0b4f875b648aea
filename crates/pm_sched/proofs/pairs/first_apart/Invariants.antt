use Rattle.bit_table.specs.Tables.{is_set}
use Rattle.pm_sched.proofs.Firsts.{NoneApart}
use Rattle.pm_sched.proofs.pairs.first_apart.Given as goal

abbrev pub invariant-loop-second : goal.invariant-loop-second
invariant-loop-second l = NoneApart (is_set l.table) l.row l.first l.second-index
