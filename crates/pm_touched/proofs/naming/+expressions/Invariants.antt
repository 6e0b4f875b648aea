use Rattle.std.proofs.Common.{◌≡◌, drop, map}
use Rattle.pm_touched.specs.Naming.{all_together, named_in, together}
use Rattle.pm_touched.proofs.naming.+expressions.Given as goal

abbrev pub invariant-add_expressions-loop-ex : goal.invariant-add_expressions-loop-ex
invariant-add_expressions-loop-ex l =
    together l.named (all_together (map named_in (drop l.ex-index l.expressions)))
    ≡ together l.fn.named (all_together (map named_in l.expressions))
