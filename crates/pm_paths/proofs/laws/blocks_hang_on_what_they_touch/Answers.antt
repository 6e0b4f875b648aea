use Rattle.pm_paths.proofs.Blocks.{blocks_hang_on_what_they_touch}
use Rattle.pm_paths.proofs.laws.blocks_hang_on_what_they_touch.Goals as goal

pub returns : goal.returns
returns c = blocks_hang_on_what_they_touch
