use Rattle.std.proofs.Common.{◌&&◌, eqb, take}
use Rattle.bit_table.specs.Tables.{Adds}
use Rattle.pm_cons.specs.Orders.{has}
use Rattle.pm_sched.proofs.predecessors.set_column.Given as goal

abbrev pub invariant-loop-row : goal.invariant-loop-row
invariant-loop-row l = Adds l.fn.table l.table (λ r c. has (take l.row-index l.rows) r && eqb c l.column)
