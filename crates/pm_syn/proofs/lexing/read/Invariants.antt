use Rattle.std.proofs.Common.{◌-◌, length}
use Rattle.pm_syn.proofs.ReadTo.{IsReadTo}
use Rattle.pm_syn.proofs.lexing.read.Given as goal

abbrev pub invariant-lexemes : goal.invariant-lexemes
invariant-lexemes l = IsReadTo l.text l.at l.reader

abbrev pub decreases-lexemes : goal.decreases-lexemes
decreases-lexemes l = length l.text - l.at
