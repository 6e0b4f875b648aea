use Rattle.std.proofs.Common.{◌≡◌, drop, map}
use Rattle.pm_touched.specs.Naming.{all_together, statement_names, together}
use Rattle.pm_touched.proofs.naming.+statements.Given as goal

abbrev pub invariant-add_body-loop-st : goal.invariant-add_body-loop-st
invariant-add_body-loop-st l =
    together l.named (all_together (map statement_names (drop l.st-index l.body)))
    ≡ together l.fn.named (all_together (map statement_names l.body))
