use Rattle.pm_cons.proofs.Pairs.{ordered}
use Rattle.pm_cons.proofs.laws.no_loop_and_no_pair_are_ordered.Goals as goal

pub returns : goal.returns
returns g c = λ d conflicts listed loop none. ordered d conflicts listed loop none
