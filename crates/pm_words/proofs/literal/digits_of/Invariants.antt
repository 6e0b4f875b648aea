use Rattle.std.proofs.Common.{◌≡◌, drop}
use Rattle.pm_words.specs.Readings.{with_bytes, no_digits}
use Rattle.pm_words.proofs.literal.digits_of.Given as goal

-- the rest is read after the digits so far
abbrev pub invariant-digits : goal.invariant-digits
invariant-digits l = with_bytes l.base l.read (drop l.byte-index l.bytes) ≡ with_bytes l.base no_digits l.bytes
