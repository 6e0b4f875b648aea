-- How a simulation ended, and its message. Only the contracts between the parts of the program use these.
use Rattle.std.specs.Prelude.{ℕ, List, [], Option, None, Some}
use Rattle.pm_io.specs.Stores.{Files, MayHold, told_among}
use Rattle.pm_job.specs.declared.component.Component.{Component}
use Rattle.pm_job.specs.declared.finish.Finish.{Finish}
use Rattle.pm_job.specs.declared.finish.Finish.TheVariants as finish
use Rattle.pm_job.specs.declared.status.Status.{Status}
use Rattle.pm_job.specs.declared.status.Status.TheVariants as status
use Rattle.pm_job.specs.Answers.{Outcome, SimulatesIn, fault_line, refusal_line}
use Rattle.pm_job.specs.CommandLine.{Target}
use Rattle.pm_job.specs.Form.{component_of}
use Rattle.pm_job.specs.Progress.{Ends}

-- the status of the end
abbrev pub status_of : Finish → Status
status_of finish.Done = status.Done
status_of (finish.Refused line) = status.Refused
status_of finish.ReadFault = status.ReadFault
status_of finish.WriteFault = status.WriteFault
status_of finish.NoMemory = status.NoMemory

-- the message of the end
abbrev pub message_of : Finish → List ℕ
message_of finish.Done = []
message_of (finish.Refused line) = refusal_line line
message_of finish.ReadFault = fault_line status.ReadFault
message_of finish.WriteFault = fault_line status.WriteFault
message_of finish.NoMemory = fault_line status.NoMemory

-- if the input tells its bytes, a simulation of what the file holds ended like this
abbrev pub EndsAs : Option Component → Option (List ℕ) → Option (List ℕ) → Option (List ℕ) → Finish → Type 0
EndsAs found None old new answer = Unit {0}
EndsAs found (Some input) old new answer = (outcome : Outcome) × SimulatesIn found input outcome × Ends outcome old new answer

-- if the input tells its bytes, a simulation of the target ended like this
abbrev pub EndsTarget : Target → Option Files → Option (List ℕ) → Option (List ℕ) → Option (List ℕ) → Finish → Type 0
EndsTarget target files None old new answer = Unit {0}
EndsTarget target files (Some input) old new answer =
    (file : List ℕ) × MayHold (told_among files target.file) file × EndsAs (component_of target.class file) (Some input) old new answer
