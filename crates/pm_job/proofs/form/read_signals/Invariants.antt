use Rattle.std.proofs.Common.{◌≡◌, ◌++◌, length}
use Rattle.pm_job.specs.Form.{form_lines, declared, after_declared}
use Rattle.pm_job.proofs.form.read_signals.Given as goal

-- the lines so far declared the signals so far
abbrev pub invariant-lines : goal.invariant-lines
invariant-lines l = record {
  declared : l.signals ++ declared (form_lines l.rest) ≡ l.fn.signals ++ declared (form_lines l.text);
  rest : after_declared (form_lines l.rest) ≡ after_declared (form_lines l.text);
}

abbrev pub decreases-lines : goal.decreases-lines
decreases-lines l = length l.rest
