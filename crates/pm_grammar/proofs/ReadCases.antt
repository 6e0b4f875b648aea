-- The level of the first operand of an operation.
use Rattle.std.proofs.Common.{◌≤◌, ap, ⊎_elim, arith}
use Rattle.pm_grammar.specs.Levels.{rank}
use Rattle.pm_grammar.specs.Operations.{IsOperandLevel}
use Rattle.pm_grammar.specs.declared.level.Level.{Level}

-- the first operand isn't looser than the operation
pub operand_within : (l bound : Level) → rank l ≤ 11 → IsOperandLevel l bound → (rank l ≤ rank bound) × (rank bound ≤ 11)
operand_within l bound within which = ⊎_elim
    (λ signed.
    let same = ap rank signed in
    (omega (arith, same, within), omega (arith, same)))
    (λ negated.
    let same = ap rank negated.0 in
    (omega (arith, same, negated.1), omega (arith, same)))
    which
