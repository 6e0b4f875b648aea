use Rattle.std.proofs.Common.{arith, ◌≡◌, ◌+◌, ◌^◌}
use Rattle.pm_bits.proofs.Joins.{replaced}
use Rattle.pm_bits.proofs.bits.Bits.with_slice.Goals as goal

pub returns-clause-value : goal.returns-clause-value
returns-clause-value c =
    let ones : c.mask.result + 1 ≡ 2 ^ c.args.part.width = rw c.width-2.ensures.width at c.mask.ensures in
    cc (replaced c.args.self.width c.args.lo c.args.part.width c.mask.result c.args.self.value c.args.part.value
    ones (omega arith) (omega arith) (omega arith) (omega arith))
