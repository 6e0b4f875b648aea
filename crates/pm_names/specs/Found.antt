-- Values that were looked up.
use Rattle.std.specs.Prelude.{Result, Ok, Err}
use Rattle.pm_values.specs.declared.fault.BuildFault.{BuildFault}
use Rattle.pm_values.specs.declared.value.Value.{Value}
use Rattle.pm_elab.specs.Elab.{Checked}
use Rattle.pm_names.specs.declared.found.Found.{Found}
use Rattle.pm_names.specs.declared.found.Found.TheVariants.{Kept, Made}

-- the value
abbrev pub value_of : Found → Value
value_of (Kept value) = value.now
value_of (Made value) = value

-- the outcome of a function that looks a value up
abbrev pub found_in : Result Found BuildFault → Checked Value
found_in (Ok f) = Ok (value_of f)
found_in (Err e) = Err e
