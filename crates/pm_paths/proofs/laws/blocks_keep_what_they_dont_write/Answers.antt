use Rattle.pm_paths.proofs.Blocks.{blocks_keep}
use Rattle.pm_paths.proofs.laws.blocks_keep_what_they_dont_write.Goals as goal

pub returns : goal.returns
returns c = blocks_keep
