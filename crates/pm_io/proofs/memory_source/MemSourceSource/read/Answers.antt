use Rattle.std.proofs.Common.{◌<◌, ◌≤◌, length, refl, arith}
use Rattle.pm_io.specs.Memory.{first_of, pieces_from, joined}
use Rattle.pm_io.proofs.Pieces.{filled-left_after, joined-left_after}
use Rattle.pm_io.proofs.memory_source.MemSourceSource.read.Goals as goal

pub invariant_of-self-2 : goal.invariant_of-self-2
invariant_of-self-2 c = rw c.position_after-piece.ensures (filled-left_after _ _ c.self.invariant)

pub returns-clause-bytes : goal.returns-clause-bytes
returns-clause-bytes c =
    let left = pieces_from c.self.inside.piece c.self.inside.at c.self.inside.pieces in
    let within : c.fill-count.result ≤ length (first_of left) = rw (← c.rest_of-rest.ensures.bytes) (omega arith) in
    let some : 0 < length c.rest_of-rest.result.now = grind (arith, c.if-is_empty.ensures) in (
      omega arith,
      omega arith,
      (
        joined (pieces_from c.position_after-piece.result.0 c.position_after-piece.result.1 c.self.inside.pieces),
        refl,
        rw (← c.self.view_is, c.position_after-piece.ensures, c.fill-count.ensures.bytes, c.rest_of-rest.ensures.bytes)
            (joined-left_after c.fill-count.result left within),
      ),
    )
