use Rattle.std.proofs.Common.{◌≡◌, ◌++◌, drop}
use Rattle.design_copy.proofs.statements.+statement.Given as goal

abbrev pub invariant-copy_body-loop-statement : goal.invariant-copy_body-loop-statement
invariant-copy_body-loop-statement l = l.copied ++ drop l.statement-index l.body ≡ l.body
