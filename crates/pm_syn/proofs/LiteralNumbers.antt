-- Proof that a literal writes one number.
use Rattle.std.proofs.Common.{◌≡◌, ℕ, List, [], ◌∷◌, inl, inr, sym, ◌∙◌}
use Rattle.pm_syn.specs.Numbers.{IsLiteral, IsBased, IsDecimal}

-- the first two bytes determine a based literal's base, and with the digits its number
based_writes_one : (number other : ℕ) (bytes : List ℕ) → IsBased number bytes → IsBased other bytes → number ≡ other
based_writes_one number other bytes one two =
    let spelled : 48 ∷ one.letter ∷ one.digits ≡ 48 ∷ two.letter ∷ two.digits = sym one.spelled ∙ two.spelled in
    let letter : one.letter ≡ two.letter = cc in
    let digits : one.digits ≡ two.digits = cc in
    let base : one.base ≡ two.base = cc in
    cc

-- `0` is no decimal literal
zero_no_decimal : (number : ℕ) (bytes : List ℕ) → bytes ≡ 48 ∷ [] → IsDecimal number bytes → ⊥
zero_no_decimal number bytes is decimal = decimal.no_zero (cc)

-- `0` is no based literal
zero_no_based : (number : ℕ) (bytes : List ℕ) → bytes ≡ 48 ∷ [] → IsBased number bytes → ⊥
zero_no_based number bytes is based = cc

-- a decimal literal is no based one
decimal_no_based : (number other : ℕ) (bytes : List ℕ) → IsDecimal number bytes → IsBased other bytes → ⊥
decimal_no_based number other bytes decimal based = decimal.no_zero (cc)

-- a literal writes one number
pub literal_writes_one : (number other : ℕ) (bytes : List ℕ) → IsLiteral number bytes → IsLiteral other bytes → number ≡ other
literal_writes_one number other bytes (inl zero) (inl too) = zero.1 ∙ sym too.1
literal_writes_one number other bytes (inl zero) (inr (inl decimal)) = absurd (zero_no_decimal other bytes zero.0 decimal)
literal_writes_one number other bytes (inl zero) (inr (inr based)) = absurd (zero_no_based other bytes zero.0 based)
literal_writes_one number other bytes (inr (inl decimal)) (inl zero) = absurd (zero_no_decimal number bytes zero.0 decimal)
literal_writes_one number other bytes (inr (inr based)) (inl zero) = absurd (zero_no_based number bytes zero.0 based)
literal_writes_one number other bytes (inr (inl decimal)) (inr (inl too)) = decimal.written ∙ sym too.written
literal_writes_one number other bytes (inr (inl decimal)) (inr (inr based)) = absurd (decimal_no_based number other bytes decimal based)
literal_writes_one number other bytes (inr (inr based)) (inr (inl decimal)) = absurd (decimal_no_based other number bytes decimal based)
literal_writes_one number other bytes (inr (inr based)) (inr (inr too)) = based_writes_one number other bytes based too
