use Rattle.std.proofs.Common.{◌≤◌, length, drop, arith, length-drop}
use Rattle.std.proofs.lemmas.List.{take_rest}
use Rattle.pm_io.proofs.KnownBytes.{grows_along, grows_by_take_kept}
use Rattle.pm_io.proofs.sink.put_all.Goals as goal

-- src/sink.rt:45:5
pub loop-taken-preserved : goal.loop-taken-preserved
loop-taken-preserved g c =
    let count : c.in-Bytes.count ≤ length (drop c.loop-taken.taken c.args.piece.now) = rw take_rest at c.in-Bytes.ensures.bytes.1 in
    record {
      within = omega (arith, count, c.loop-taken.invariant.within, length-drop c.loop-taken.taken c.args.piece.now);
      grown = grows_along _ _ _ c.args.piece.now c.loop-taken.taken c.in-Bytes.count c.loop-taken.invariant.grown c.in-Bytes.ensures.bytes.2;
      later = omega (arith, c.in-Bytes.ensures.cause.later, c.loop-taken.invariant.later);
    }

-- src/sink.rt:48:13
pub returns-in-Failed-clause-bytes : goal.returns-in-Failed-clause-bytes
returns-in-Failed-clause-bytes g c =
    grows_by_take_kept _ _ _ c.args.piece.now c.loop-taken.taken c.loop-taken.invariant.grown c.in-Failed.ensures.bytes
