use Rattle.std.proofs.Common.{◌≡◌, ◌++◌, drop, map}
use Rattle.pm_nets.proofs.driving.push_ties.Given as goal

abbrev pub invariant-loop-tie : goal.invariant-loop-tie
invariant-loop-tie l =
    l.parts.items ++ map (λ t. t.part) (drop l.tie-index l.ties) ≡ l.fn.parts.items ++ map (λ t. t.part) l.ties
