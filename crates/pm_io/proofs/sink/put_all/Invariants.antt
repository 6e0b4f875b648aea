use Rattle.std.proofs.Common.{length, ◌-◌, ◌≤◌, take}
use Rattle.pm_io.specs.Known.{Grows}
use Rattle.pm_io.proofs.sink.put_all.Given as goal

-- so much of the piece was taken
abbrev pub invariant-loop-taken : goal.invariant-loop-taken
invariant-loop-taken g l = record {
  within : l.taken ≤ length l.piece;
  grown : Grows (g.K.Sink.held l.fn.sink) (g.K.Sink.held l.sink) (take l.taken l.piece);
  later : g.K.Sink.faults l.fn.sink ≤ g.K.Sink.faults l.sink;
}

abbrev pub decreases-loop-taken : goal.decreases-loop-taken
decreases-loop-taken g l = length l.piece - l.taken
