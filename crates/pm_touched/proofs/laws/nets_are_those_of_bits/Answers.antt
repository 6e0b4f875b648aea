use Rattle.pm_touched.proofs.Nets.{has_nets}
use Rattle.pm_touched.proofs.laws.nets_are_those_of_bits.Goals as goal

pub returns : goal.returns
returns c = has_nets
