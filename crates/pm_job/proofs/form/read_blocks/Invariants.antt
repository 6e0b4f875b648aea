use Rattle.std.proofs.Common.{◌≡◌, ◌++◌, length}
use Rattle.std.specs.Prelude.{option_map}
use Rattle.pm_job.specs.Form.{form_lines, blocks_of}
use Rattle.pm_job.proofs.form.read_blocks.Given as goal

-- the lines so far spell the blocks so far
abbrev pub invariant-lines : goal.invariant-lines
invariant-lines l = option_map (λ more. l.found ++ more) (blocks_of l.signals (form_lines l.rest)) ≡ blocks_of l.signals (form_lines l.text)

abbrev pub decreases-lines : goal.decreases-lines
decreases-lines l = length l.rest
