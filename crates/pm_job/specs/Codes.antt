-- The exit statuses of the program.
use Rattle.std.specs.Prelude.{ℕ}
use Rattle.pm_job.specs.declared.status.Status.{Status}
use Rattle.pm_job.specs.declared.status.Status.TheVariants as status

-- the exit status
abbrev pub code_of : Status → ℕ
code_of status.Done = 0
code_of status.Refused = 1
code_of status.Usage = 2
code_of status.ReadFault = 3
code_of status.WriteFault = 4
code_of status.NoMemory = 5
