use Rattle.std.proofs.Common.{◌≡◌, take}
use Rattle.pm_values.proofs.equality.+same.Given as goal

abbrev pub invariant-same_items-loop-at : goal.invariant-same_items-loop-at
invariant-same_items-loop-at l = take l.at l.a ≡ take l.at l.b

abbrev pub invariant-same_members-loop-at : goal.invariant-same_members-loop-at
invariant-same_members-loop-at l = take l.at l.a ≡ take l.at l.b
