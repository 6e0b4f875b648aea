use Rattle.std.proofs.Common.{◌≡◌, ◌-◌}
use Rattle.std.specs.Prelude.{find}
use Rattle.std.specs.List.{range_with_len}
use Rattle.pm_words.specs.Readings.{is_width, width_of}
use Rattle.pm_words.proofs.parameter.width_of.Given as goal

abbrev pub invariant-loop-width : goal.invariant-loop-width
invariant-loop-width l = find (is_width l.word) (range_with_len l.width (129 - l.width)) ≡ width_of l.word
