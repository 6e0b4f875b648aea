use Rattle.std.proofs.Common.{◌+◌, ◌*◌, ◌<◌, ◌≤◌, Some, length}
use Rattle.pm_grammar.specs.Expressions.{Spells, SpellsSequence}
use Rattle.pm_grammar.specs.Levels.{rank}
use Rattle.pm_grammar.specs.Operations.{ContinuesFrom}
use Rattle.pm_grammar.specs.Reading.{Begins}
use Rattle.pm_grammar.specs.declared.level.Level.TheVariants as level
use Rattle.pm_grammar.proofs.CallArguments.{GoesOnArguments, SpellsLeading}
use Rattle.pm_grammar.proofs.Lists.{GoesOnItems, IsSequenceBehind}
use Rattle.pm_grammar.proofs.Ranges.{GoesOnBounds}
use Rattle.pm_grammar.proofs.SuffixChains.{GoesOnSuffixes}
use Rattle.pm_grammar.proofs.+parse.Given as goal

abbrev pub decreases-operand::atom : goal.decreases-operand::atom
decreases-operand::atom l = 16 * length l.tokens.now + 0

abbrev pub decreases-operand::suffix : goal.decreases-operand::suffix
decreases-operand::suffix l = 16 * length l.tokens.now + 0

abbrev pub decreases-operand::suffixed : goal.decreases-operand::suffixed
decreases-operand::suffixed l = 16 * length l.tokens.now + 1

abbrev pub decreases-operand::power : goal.decreases-operand::power
decreases-operand::power l = 16 * length l.tokens.now + 2

abbrev pub decreases-operand::signed : goal.decreases-operand::signed
decreases-operand::signed l = 16 * length l.tokens.now + 3

abbrev pub decreases-operation::operand : goal.decreases-operation::operand
decreases-operation::operand l = 16 * length l.tokens.now + 4

abbrev pub decreases-operation::operation : goal.decreases-operation::operation
decreases-operation::operation l = 16 * length l.tokens.now + 5

abbrev pub decreases-operation::expression : goal.decreases-operation::expression
decreases-operation::expression l = 16 * length l.tokens.now + 6

abbrev pub decreases-operand::argument : goal.decreases-operand::argument
decreases-operand::argument l = 16 * length l.tokens.now + 7

abbrev pub decreases-operand::bounds : goal.decreases-operand::bounds
decreases-operand::bounds l = 16 * length l.tokens.now + 7

abbrev pub decreases-operand::group : goal.decreases-operand::group
decreases-operand::group l = 16 * length l.tokens.now + 7

abbrev pub decreases-operand::list : goal.decreases-operand::list
decreases-operand::list l = 16 * length l.tokens.now + 7

abbrev pub decreases-operand::subscript : goal.decreases-operand::subscript
decreases-operand::subscript l = 16 * length l.tokens.now + 7

abbrev pub decreases-operand::more_items : goal.decreases-operand::more_items
decreases-operand::more_items l = 16 * length l.tokens.now + 7

abbrev pub decreases-operand::range : goal.decreases-operand::range
decreases-operand::range l = 16 * length l.tokens.now + 8

abbrev pub decreases-operand::arguments : goal.decreases-operand::arguments
decreases-operand::arguments l = 16 * length l.tokens.now + 8

abbrev pub decreases-operand::each : goal.decreases-operand::each
decreases-operand::each l = 16 * length l.tokens.now + 9

abbrev pub invariant-operand::suffixed-suffixes : goal.invariant-operand::suffixed-suffixes
invariant-operand::suffixed-suffixes l = record {
  found : Begins (Spells level.Postfix) l.tokens l.tree l.rest;
  only : GoesOnSuffixes l.tokens l.tree l.rest;
  shorter : length l.rest < length l.tokens;
}

abbrev pub decreases-operand::suffixed-suffixes : goal.decreases-operand::suffixed-suffixes
decreases-operand::suffixed-suffixes l = length l.rest

abbrev pub invariant-operand::more_items-items : goal.invariant-operand::more_items-items
invariant-operand::more_items-items l = record {
  found : IsSequenceBehind l.fn.first l.tokens l.items l.rest;
  only : GoesOnItems l.fn.first l.tokens l.items l.rest;
  no_longer : length l.rest ≤ length l.tokens;
}

abbrev pub decreases-operand::more_items-items : goal.decreases-operand::more_items-items
decreases-operand::more_items-items l = length l.rest

abbrev pub invariant-operand::bounds-bounds : goal.invariant-operand::bounds-bounds
invariant-operand::bounds-bounds l = record {
  found : Begins SpellsSequence l.tokens l.bounds l.rest;
  few : length l.bounds ≤ 3;
  only : GoesOnBounds l.tokens l.bounds l.rest;
  no_longer : length l.rest ≤ length l.tokens;
}

abbrev pub decreases-operand::bounds-bounds : goal.decreases-operand::bounds-bounds
decreases-operand::bounds-bounds l = length l.rest

abbrev pub invariant-operand::arguments-arguments : goal.invariant-operand::arguments-arguments
invariant-operand::arguments-arguments l = record {
  found : Begins SpellsLeading l.tokens l.arguments l.rest;
  only : GoesOnArguments l.tokens l.arguments l.rest;
  no_longer : length l.rest ≤ length l.tokens;
}

abbrev pub decreases-operand::arguments-arguments : goal.decreases-operand::arguments-arguments
decreases-operand::arguments-arguments l = length l.rest

abbrev pub invariant-operation::operation-operators : goal.invariant-operation::operation-operators
invariant-operation::operation-operators l = record {
  found : Begins (Spells l.bound) l.tokens l.tree l.rest;
  only : ContinuesFrom l.level l.tokens (Some ((l.tree, l.bound), l.rest));
  loosest : rank l.level ≤ rank l.bound;
  tightest : rank l.bound ≤ 11;
  shorter : length l.rest < length l.tokens;
}

abbrev pub decreases-operation::operation-operators : goal.decreases-operation::operation-operators
decreases-operation::operation-operators l = length l.rest
