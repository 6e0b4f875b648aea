use Rattle.std.proofs.Common.{◌≡◌, true, drop}
use Rattle.std.specs.List.{list_all}
use Rattle.pm_job.specs.Precedence.{blocks_at}
use Rattle.pm_job.specs.Sound.{assignment_fits}
use Rattle.pm_job.specs.Values.{value_widths}
use Rattle.pm_job.specs.Progress.{after_blocks}
use Rattle.pm_job.proofs.settle.settle.Given as goal

-- the blocks that are left end in the values that all of them end in
abbrev pub invariant-loop-index : goal.invariant-loop-index
invariant-loop-index l = record {
  rest : after_blocks (blocks_at l.blocks (drop l.index-index l.order)) l.values ≡ after_blocks (blocks_at l.blocks l.order) l.fn.values;
  typed : list_all (assignment_fits (value_widths l.values)) (blocks_at l.blocks (drop l.index-index l.order)) ≡ true;
  widths : value_widths l.values ≡ value_widths l.fn.values;
}
