use Rattle.pm_cons.proofs.Left.{same_at, only_left}
use Rattle.pm_cons.proofs.laws.nothing_else_is_left.Goals as goal

pub returns : goal.returns
returns g c = λ d start f b p within ordered solves. same_at _ _ (only_left d start within ordered f solves b) p
