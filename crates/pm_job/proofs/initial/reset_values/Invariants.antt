use Rattle.std.proofs.Common.{◌≡◌, ◌++◌, true, drop}
use Rattle.std.specs.List.{list_all}
use Rattle.pm_job.specs.Answers.{with_reset, zeros_of}
use Rattle.pm_job.specs.Sound.{is_width, widths_of}
use Rattle.pm_job.specs.Trace.{inputs_of}
use Rattle.pm_job.proofs.initial.reset_values.Given as goal

-- the values so far and those of the inputs that are left make the row
abbrev pub invariant-loop-index : goal.invariant-loop-index
invariant-loop-index l = record {
  done : l.row.items ++ zeros_of (widths_of (inputs_of (drop l.index l.signals))) ≡ with_reset 1 (zeros_of (widths_of (inputs_of (drop 1 l.signals))));
  wide : list_all is_width (widths_of (drop l.index l.signals)) ≡ true;
}
