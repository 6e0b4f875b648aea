use Rattle.pm_body_laws.proofs.Blocks.{blocks_are_sound}
use Rattle.pm_body_laws.proofs.laws.blocks_are_sound.Goals as goal

pub returns : goal.returns
returns c = blocks_are_sound
