use Rattle.std.proofs.Common.{◌∙◌}
use Rattle.pm_cons.specs.Edges.{precedence_of}
use Rattle.pm_sched.proofs.Extended.{least_is}
use Rattle.pm_sched.proofs.closing.least_on_loop.Goals as goal

pub returns : goal.returns
returns c = c.first_on_diagonal.ensures ∙ least_is c.in_ok-table.table c.close.new.table (precedence_of c.args.edges.now) c.in_ok-table.ensures.bits c.close.ensures.rows c.close.ensures.bits
