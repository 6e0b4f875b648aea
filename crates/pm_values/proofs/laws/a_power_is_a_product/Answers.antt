use Rattle.pm_values.proofs.Powers.{power_is_product}
use Rattle.pm_values.proofs.laws.a_power_is_a_product.Goals as goal

pub returns : goal.returns
returns c = power_is_product
