-- What the call answers is what the words ask for.
use Rattle.std.proofs.Common.{◌≡◌, ap, ◌∙◌, sym, subst, ℕ, List}
use Rattle.std.specs.Prelude.{Result, Ok, Err, IfOk, IsErrOf}
use Rattle.pm_words.specs.Command.{AreTaken, found_in}
use Rattle.pm_words.specs.Readings.{Gives, job_in}
use Rattle.pm_words.specs.Words.{AskFor, Entries, entries_of}
use Rattle.pm_words.specs.declared.fault.WordsFault.{WordsFault}
use Rattle.pm_words.specs.declared.fault.WordsFault.TheVariants as fault
use Rattle.pm_words.specs.declared.job.Job.{Job}
use Rattle.pm_words.proofs.Jobs.{job_read, to_job}
use Rattle.pm_words.proofs.Steps.{nothing}

pub job_given : (words : List (List ℕ)) (entries : Entries) (result : Result Job WordsFault) → AreTaken words
    → entries ≡ entries_of (found_in words) → Gives (job_in entries) result → IfOk result (λ job. AskFor words job)
job_given words entries (Ok asked) taken are read =
    (taken, job_read (entries_of (found_in words)) asked (rw are at read))
job_given words entries (Err error) taken are read = tt

usage_no_memory : fault.Usage ≡ fault.NoMemory → ⊥
usage_no_memory same = cc

pub job_refused : (words : List (List ℕ)) (entries : Entries) (result : Result Job WordsFault)
    → entries ≡ entries_of (found_in words) → Gives (job_in entries) result
    → IsErrOf result fault.Usage → (asked : Job) → AskFor words asked → ⊥
job_refused words entries result are read is asked asks =
    let none = subst (Gives (job_in entries)) is read usage_no_memory in
    nothing asked (sym none ∙ ap job_in are ∙ to_job (entries_of (found_in words)) asked asks.1)
