use Rattle.std.proofs.Common.{length, ◌-◌, ◌≡◌, ◌≤◌}
use Rattle.pm_syn.specs.Strings as spec
use Rattle.pm_syn.proofs.Quotes.{quotes_from}
use Rattle.pm_syn.proofs.string.closing_quotes.Given as goal

-- what is found from here on is what is found from the start
abbrev pub invariant-loop-at : goal.invariant-loop-at
invariant-loop-at l = (l.at ≤ length l.text) × (quotes_from l.quote l.at l.text ≡ spec.closing_quotes l.quote l.text)

abbrev pub decreases-loop-at : goal.decreases-loop-at
decreases-loop-at l = length l.text - l.at
