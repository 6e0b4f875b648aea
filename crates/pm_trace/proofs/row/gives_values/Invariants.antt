use Rattle.std.proofs.Common.{◌≡◌, drop}
use Rattle.pm_trace.specs.Rows.{give_values}
use Rattle.pm_trace.specs.Words.{words_of}
use Rattle.pm_trace.proofs.row.gives_values.Given as goal

-- the inputs so far have values, and the rest of the line decides
abbrev pub invariant-inputs : goal.invariant-inputs
invariant-inputs l =
    give_values l.row (drop l.input-index l.inputs) (words_of l.rest) ≡ give_values l.row l.inputs (words_of l.line)
