-- What a function ensures that declares a temporary: the outcome, unless memory runs out.
use Rattle.std.specs.Prelude.{◌≡◌, ◌≢◌, ℕ, Ok, Err}
use Rattle.pm_typing.specs.declared.fault.TypeFault.TheVariants.{NoMemory}
use Rattle.pm_typing.specs.declared.frame.Frame.{Frame}
use Rattle.pm_typing.specs.Counted.{Checked}

-- the outcome is the frame and the number of the temporary
abbrev pub Declares : Checked (Frame × ℕ) → Checked ℕ → Frame → Type 0
Declares outcome (Ok temp) frame = outcome ≡ Ok (frame, temp)
Declares outcome (Err e) frame = e ≢ NoMemory → outcome ≡ Err e
