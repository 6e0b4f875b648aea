use Rattle.std.proofs.Common.{◌≡◌, drop}
use Rattle.pm_trace.specs.Rows.{filled}
use Rattle.pm_trace.specs.Words.{words_of}
use Rattle.pm_trace.proofs.row.fill.Given as goal

-- the inputs so far have their values, and the rest of the line gives the others
abbrev pub invariant-inputs : goal.invariant-inputs
invariant-inputs l =
    filled (drop l.input-index l.inputs) (words_of l.rest) l.row ≡ filled l.inputs (words_of l.line) l.fn.row
