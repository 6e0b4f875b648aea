use Rattle.std.proofs.Common.{◌≡◌, drop}
use Rattle.pm_trace.specs.Headers.{unnamed}
use Rattle.pm_trace.proofs.header.unnamed.Given as goal

-- the names so far are words
abbrev pub invariant-inputs : goal.invariant-inputs
invariant-inputs l = unnamed l.words (drop l.name-index l.inputs) ≡ unnamed l.words l.inputs
