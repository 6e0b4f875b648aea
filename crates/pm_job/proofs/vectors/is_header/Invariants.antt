use Rattle.std.proofs.Common.{drop}
use Rattle.pm_job.specs.Vectors.{header_of}
use Rattle.pm_job.proofs.Headers.{Follows, listed}
use Rattle.pm_job.proofs.vectors.is_header.Given as goal

-- the line is the header just where its rest lists the inputs that are left
abbrev pub invariant-inputs : goal.invariant-inputs
invariant-inputs l = Follows l.line (header_of l.component) l.rest (listed l.separator (drop l.index l.signals))
