use Rattle.std.proofs.Common.{◌≡◌, drop}
use Rattle.pm_trace.specs.Reading.{with_bytes}
use Rattle.pm_trace.proofs.digits.number_in.Given as goal

-- the rest is read after the digits so far
abbrev pub invariant-digits : goal.invariant-digits
invariant-digits l = with_bytes l.base l.number (drop l.byte-index l.digits) ≡ with_bytes l.base 0 l.digits
