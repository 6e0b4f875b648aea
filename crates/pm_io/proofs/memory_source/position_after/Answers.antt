use Rattle.std.proofs.Common.{◌∙◌, ◌<◌, ◌≤◌, length, sym, arith, add-one}
use Rattle.pm_io.specs.Memory.{first_of, pieces_from}
use Rattle.pm_io.proofs.Pieces.{pieces_from-next, left_after_all}
use Rattle.pm_io.proofs.memory_source.position_after.Goals as goal

pub prove-unreachable-requires : goal.prove-unreachable-requires
prove-unreachable-requires c =
    let some : 0 < length c.rest_of-rest.result.now = rw c.rest_of-rest.ensures.bytes c.requires.left in
    grind (arith, c.rest_of-rest.ensures.there some)

pub returns-else-count-rest : goal.returns-else-count-rest
returns-else-count-rest c =
    let past : length (first_of (pieces_from c.args.piece c.args.at c.args.pieces.now)) ≤ c.args.count = rw c.rest_of-rest.ensures.bytes at c.if-count-rest.false in
    rw add-one (pieces_from-next c.args.piece c.args.at c.args.pieces.now ∙ sym (left_after_all c.args.count (pieces_from c.args.piece c.args.at c.args.pieces.now) past))
