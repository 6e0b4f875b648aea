-- Which numbers a chain of links connects.
use Rattle.std.specs.Prelude.{◌<◌, ℕ, List, Contains}

-- a chain of links, each taken either way, leads from one number to another
pub data Connected (links : List (ℕ × ℕ)) : ℕ → ℕ → Type 0 where
  Itself : (a : ℕ) → Connected links a a
  Forward : (a b c : ℕ) → Contains links (a, b) → Connected links b c → Connected links a c
  Backward : (a b c : ℕ) → Contains links (b, a) → Connected links b c → Connected links a c

-- each link is of two numbers below a bound
abbrev pub AreBelow : ℕ → List (ℕ × ℕ) → Type 0
AreBelow count links = (a b : ℕ) → Contains links (a, b) → (a < count) × (b < count)
