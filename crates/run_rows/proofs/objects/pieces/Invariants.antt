use Rattle.pm_io.specs.Memory.{AreFilled}
use Rattle.run_rows.proofs.objects.pieces.Given as goal

-- no piece so far is empty
abbrev pub invariant-loop-piece : goal.invariant-loop-piece
invariant-loop-piece l = record {
  next : (goal.iterator-loop-piece).can_next l.piece-iterator;
  ends : (goal.iterator-loop-piece).is_finite l.piece-iterator;
  filled : AreFilled l.pieces;
}
