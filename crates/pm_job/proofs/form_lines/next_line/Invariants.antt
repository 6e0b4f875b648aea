use Rattle.std.proofs.Common.{◌≡◌, ◌≤◌, length}
use Rattle.pm_job.specs.Form.{form_lines}
use Rattle.pm_job.proofs.form_lines.next_line.Given as goal

-- only empty lines were left out
abbrev pub invariant-empty : goal.invariant-empty
invariant-empty l = record {
  lines : form_lines l.rest ≡ form_lines l.text;
  within : length l.rest ≤ length l.text;
}

abbrev pub decreases-empty : goal.decreases-empty
decreases-empty l = length l.rest
