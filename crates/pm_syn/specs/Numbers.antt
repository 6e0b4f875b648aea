-- Integer literals: `0`, decimal digits that don't begin with 0, and `0x`, `0o`, `0b` with digits of their base.
-- An underscore is allowed between two digits.
use Rattle.std.specs.Prelude.{◌≡◌, ◌≢◌, ◌⊎◌, ◌+◌, ◌*◌, ◌==◌, ℕ, IsTrue, if◌then◌else◌, List, [], ◌∷◌, ◌++◌, codes, Option, Some, None}
use Rattle.std.specs.Char.{digit_value, is_digit}

-- digits of the base, with single underscores between some of them
pub data AreDigits (base : ℕ) : List ℕ → Type 0 where
  one : (digit : ℕ) → IsTrue (is_digit digit base) → AreDigits base (digit ∷ [])
  more : (digits : List ℕ) (digit : ℕ) → AreDigits base digits → IsTrue (is_digit digit base) → AreDigits base (digits ++ digit ∷ [])
  spaced : (digits : List ℕ) (digit : ℕ) → AreDigits base digits → IsTrue (is_digit digit base) → AreDigits base (digits ++ 95 ∷ digit ∷ [])

-- the number of digits that follow those of a number, underscores left out
abbrev pub value_after : ℕ → ℕ → List ℕ → ℕ
value_after base number [] = number
value_after base number (byte ∷ digits) = value_after base (if byte == 95 then number else number * base + digit_value byte) digits

-- the number that digits of the base write
abbrev pub value_of : ℕ → List ℕ → ℕ
value_of base digits = value_after base 0 digits

-- the base that the second byte of a literal names
abbrev pub base_of : ℕ → Option ℕ
base_of letter = if letter == 120 then Some 16 else if letter == 111 then Some 8 else if letter == 98 then Some 2 else None

-- `0x`, `0o` or `0b` and digits, which write the number
pub record IsBased (number : ℕ) (bytes : List ℕ) : Type 0 where
  pub letter : ℕ
  pub base : ℕ
  pub digits : List ℕ
  pub spelled : bytes ≡ 48 ∷ letter ∷ digits
  pub based : base_of letter ≡ Some base
  pub are_digits : AreDigits base digits
  pub written : number ≡ value_of base digits

-- decimal digits that don't begin with 0, which write the number
pub record IsDecimal (number : ℕ) (bytes : List ℕ) : Type 0 where
  pub first : ℕ
  pub others : List ℕ
  pub spelled : bytes ≡ first ∷ others
  pub no_zero : first ≢ 48
  pub are_digits : AreDigits 10 bytes
  pub written : number ≡ value_of 10 bytes

-- the literal that writes the number, however large it is
abbrev pub IsLiteral : ℕ → List ℕ → Type 0
IsLiteral number bytes = ((bytes ≡ codes "0") × (number ≡ 0)) ⊎ IsDecimal number bytes ⊎ IsBased number bytes
