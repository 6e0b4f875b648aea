use Rattle.std.proofs.Common.{◌≡◌, ◌<◌, ◌^◌, drop}
use Rattle.std.specs.List.{list_all}
use Rattle.std.specs.Char.{is_digit}
use Rattle.std.specs.Str.Parse.{digits_value, digits_value_after}
use Rattle.pm_words.proofs.number.decimal_of.Given as goal

-- the digits so far have the number, and the rest is read after it
abbrev pub invariant-digits : goal.invariant-digits
invariant-digits l = record {
  fits : l.number < 2 ^ 64;
  value : digits_value_after 10 l.number (drop l.byte-index l.digits) ≡ digits_value 10 l.digits;
  digits : list_all (λ byte. is_digit byte 10) (drop l.byte-index l.digits) ≡ list_all
      (λ byte. is_digit byte 10) l.digits;
}
