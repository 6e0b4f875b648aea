use Rattle.std.proofs.Common.{length}
use Rattle.pm_grammar.specs.Statements.{SpellsNames}
use Rattle.pm_grammar.proofs.Imports.{HasNames, NamesGoOn}
use Rattle.pm_grammar.proofs.header.are_names.Given as goal

abbrev pub invariant-names : goal.invariant-names
invariant-names l = record {
  found : HasNames l.tokens l.rest;
  only : SpellsNames l.tokens → NamesGoOn l.rest;
}

abbrev pub decreases-names : goal.decreases-names
decreases-names l = length l.rest
