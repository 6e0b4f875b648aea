use Rattle.std.proofs.Common.{◌≡◌, [], ◌∷◌, drop, map}
use Rattle.pm_touched.specs.Naming.{all_together, writing_parts, together}
use Rattle.pm_touched.proofs.named.Named.write_all.Given as goal

abbrev pub invariant-loop-part : goal.invariant-loop-part
invariant-loop-part l =
    together l.self (all_together (map (λ p. writing_parts (p ∷ [])) (drop l.part-index l.parts)))
    ≡ together l.fn.self (writing_parts l.parts)
