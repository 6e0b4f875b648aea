use Rattle.pm_type_laws.proofs.Expressions.{expressions_are_sound}
use Rattle.pm_type_laws.proofs.laws.expressions_are_sound.Goals as goal

pub returns : goal.returns
returns c = expressions_are_sound
