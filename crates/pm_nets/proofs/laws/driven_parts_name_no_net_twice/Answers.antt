use Rattle.pm_nets.proofs.Legality.{tie_once, write_once}
use Rattle.pm_nets.proofs.laws.driven_parts_name_no_net_twice.Goals as goal

pub returns-clause-tied : goal.returns-clause-tied
returns-clause-tied c = tie_once

pub returns-clause-written : goal.returns-clause-written
returns-clause-written c = write_once
