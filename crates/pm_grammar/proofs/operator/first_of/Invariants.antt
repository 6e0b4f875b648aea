use Rattle.std.proofs.Common.{◌≡◌, drop}
use Rattle.pm_grammar.specs.Operations.{first_of}
use Rattle.pm_grammar.proofs.operator.first_of.Given as goal

abbrev pub invariant-loop-at : goal.invariant-loop-at
invariant-loop-at l = first_of (drop l.at-index l.levels) l.token ≡ first_of l.levels l.token
