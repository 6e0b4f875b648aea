use Rattle.std.proofs.Common.{◌≡◌}
use Rattle.pm_job.specs.Vectors.{row_of}
use Rattle.pm_job.specs.Values.{value_widths}
use Rattle.pm_job.proofs.Rows.{words_left, fill_from}
use Rattle.pm_job.proofs.vectors.read_row.Given as goal

-- the indices so far are filled, and the rest of the line gives the others
abbrev pub invariant-row : goal.invariant-row
invariant-row l = record {
  widths : value_widths l.row ≡ value_widths l.fn.row;
  filled : row_of (value_widths l.fn.row) l.line ≡ fill_from (value_widths l.fn.row) l.row l.index (words_left l.rest);
}
