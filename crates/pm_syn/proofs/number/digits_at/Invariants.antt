use Rattle.std.proofs.Common.{◌≡◌, ◌⊎◌, ◌≤◌, ◌-◌, length, take}
use Rattle.pm_syn.specs.Heads.{IsNumberRead}
use Rattle.pm_syn.specs.Numbers.{AreDigits, value_of}
use Rattle.pm_syn.proofs.number.digits_at.Given as goal

-- the text up to the literal's length is none or digits, and the number is theirs
abbrev pub invariant-digits : goal.invariant-digits
invariant-digits l = record {
  within : l.literal.length ≤ length l.text;
  read : IsNumberRead (value_of l.base (take l.literal.length l.text)) l.literal.number;
  spelled : (l.literal.length ≡ 0) ⊎ AreDigits l.base (take l.literal.length l.text);
}

abbrev pub decreases-digits : goal.decreases-digits
decreases-digits l = length l.text - l.literal.length
