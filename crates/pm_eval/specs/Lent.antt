-- Results that lend values.
use Rattle.std.specs.Prelude.{Result, Ok, Err}
use denote.Ref.{Bor}
use Rattle.pm_values.specs.declared.fault.BuildFault.{BuildFault}
use Rattle.pm_elab.specs.Elab.{Checked}

-- the outcome of a function that lends two results
abbrev pub lent_pair : {A B : Type 0} → Result (Bor A × Bor B) BuildFault → Checked (A × B)
lent_pair (Ok p) = Ok (p.0.now, p.1.now)
lent_pair (Err e) = Err e
