use Rattle.std.proofs.Common.{All, IsTrue, is_some, length}
use Rattle.pm_parse.specs.declared.entry.Entry.{Entry}
use Rattle.pm_parse.proofs.Trees.{AreMade}
use Rattle.pm_parse.proofs.tree.trees.Given as goal

abbrev pub invariant-loop-last : goal.invariant-loop-last
invariant-loop-last l = record {
  made : AreMade l.fn.entries l.entries l.after;
  said : All (λ (e : Entry). IsTrue (is_some e.statement)) l.entries;
}

abbrev pub decreases-loop-last : goal.decreases-loop-last
decreases-loop-last l = length l.entries
