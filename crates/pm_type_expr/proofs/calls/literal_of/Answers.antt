use Rattle.pm_elab.proofs.Constants.{literal_is}
use Rattle.pm_type_expr.proofs.calls.literal_of.Goals as goal

pub returns : goal.returns
returns c = literal_is _ _ _ c.new.ensures.none c.new.ensures.value
