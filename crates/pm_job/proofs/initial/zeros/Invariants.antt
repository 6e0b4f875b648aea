use Rattle.std.proofs.Common.{◌≡◌, ◌++◌, true, drop}
use Rattle.std.specs.List.{list_all}
use Rattle.pm_job.specs.Sound.{is_width, widths_of}
use Rattle.pm_job.specs.Trace.{initial_values}
use Rattle.pm_job.proofs.initial.zeros.Given as goal

-- the values so far and those that are left make all of them
abbrev pub invariant-loop-signal : goal.invariant-loop-signal
invariant-loop-signal l = record {
  done : l.values.items ++ initial_values (drop l.signal-index l.signals) ≡ initial_values l.signals;
  wide : list_all is_width (widths_of (drop l.signal-index l.signals)) ≡ true;
}
