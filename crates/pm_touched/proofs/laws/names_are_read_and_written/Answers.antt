use Rattle.pm_touched.proofs.Listed.{has_names}
use Rattle.pm_touched.proofs.laws.names_are_read_and_written.Goals as goal

pub returns : goal.returns
returns c = has_names
