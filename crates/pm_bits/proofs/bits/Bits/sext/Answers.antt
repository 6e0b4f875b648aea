use Rattle.std.proofs.Common.{arith}
use Rattle.pm_bits.proofs.Signs.{extended}
use Rattle.pm_bits.proofs.bits.Bits.sext.Goals as goal

pub returns-clause-value : goal.returns-clause-value
returns-clause-value c =
    cc (extended c.args.self.width c.args.n c.args.self.value (omega arith) (omega arith) (omega arith) (omega arith))
