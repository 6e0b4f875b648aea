use Rattle.std.proofs.Common.{arith, ◌≡◌, ◌<◌, ◌%◌, ◌^◌}
use Rattle.pm_bits.proofs.Masks.{uncut, fits_wider}
use Rattle.pm_bits.proofs.bits.Bits.zext.Goals as goal

pub returns-clause-value : goal.returns-clause-value
returns-clause-value c =
    let fits : c.args.self.value < 2 ^ c.args.n = fits_wider c.args.self.width c.args.n c.args.self.value (omega arith) (omega arith) in
    let whole : c.args.self.value % 2 ^ c.args.n ≡ c.args.self.value = uncut c.args.n c.args.self.value fits in
    cc
