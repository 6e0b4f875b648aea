-- The parts of a literal with which a text begins, as the functions that look for them return them.
use Rattle.std.specs.Prelude.{◌≡◌, ◌⊎◌, ◌+◌, ◌<◌, ℕ, List, ◌++◌, length, IsTrue, false, slice_index}
use Rattle.std.specs.Char.{is_digit}
use Rattle.pm_syn.specs.Numbers.{IsBased}

-- a digit is at the position: where the digits so far end, or after an underscore there
pub record IsNextDigit (base : ℕ) (text : List ℕ) (end position : ℕ) : Type 0 where
  pub within : position < length text
  pub is_digit : IsTrue (is_digit (slice_index text position) base)
  pub near : (position ≡ end) ⊎ ((0 < end) × (position ≡ end + 1) × (slice_index text end ≡ 95))

-- no digit is where the digits so far end, nor after an underscore there
pub record HasNoNextDigit (base : ℕ) (text : List ℕ) (end : ℕ) : Type 0 where
  pub no_digit : is_digit (slice_index text end) base ≡ false
  pub no_spaced : 0 < end → slice_index text end ≡ 95 → is_digit (slice_index text (end + 1)) base ≡ false

-- the text begins with no literal with a base
abbrev pub HasNoBased : List ℕ → Type 0
HasNoBased text = (number : ℕ) (prefix rest : List ℕ) → prefix ++ rest ≡ text → IsBased number prefix → ⊥
