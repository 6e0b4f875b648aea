use Rattle.std.proofs.Common.{◌≡◌, ◌<◌, ◌^◌, drop}
use Rattle.std.specs.List.{list_all}
use Rattle.std.specs.Char.{is_digit}
use Rattle.std.specs.Str.Parse.{digits_value, digits_value_after}
use Rattle.pm_job.proofs.words.number.Given as goal

-- the digits so far have the value, and the rest is read after it
abbrev pub invariant-digits : goal.invariant-digits
invariant-digits l = record {
  fits : l.value < 2 ^ 128;
  value : digits_value_after 10 l.value (drop l.byte-index l.word) ≡ digits_value 10 l.word;
  digits : list_all (λ byte. is_digit byte 10) (drop l.byte-index l.word) ≡ list_all (λ byte. is_digit byte 10) l.word;
}
