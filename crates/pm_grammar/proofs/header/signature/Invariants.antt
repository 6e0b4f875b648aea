use Rattle.std.proofs.Common.{length}
use Rattle.pm_grammar.specs.Reading.{Begins}
use Rattle.pm_grammar.specs.Statements.{SpellsParameters}
use Rattle.pm_grammar.proofs.Signatures.{IsGoingOn}
use Rattle.pm_grammar.proofs.header.signature.Given as goal

abbrev pub invariant-parameters : goal.invariant-parameters
invariant-parameters l = record {
  found : Begins SpellsParameters l.tokens l.parameters l.rest;
  only : IsGoingOn l.tokens l.parameters l.rest;
}

abbrev pub decreases-parameters : goal.decreases-parameters
decreases-parameters l = length l.rest
