use Rattle.pm_edges.specs.Wrong.{HasNoWrong}
use Rattle.pm_edges.proofs.terms.unknown_term.Given as goal

abbrev pub invariant-loop-k : goal.invariant-loop-k
invariant-loop-k l = HasNoWrong l.design l.k
