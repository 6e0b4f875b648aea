-- Parts of a word, words joined, and words of another width.
use Rattle.std.specs.Prelude.{ℕ, ◌+◌, ◌-◌, ◌*◌, ◌/◌, ◌%◌, ◌^◌, nat_lt, if◌then◌else◌}
use Rattle.pm_bits.specs.Word.{Word, word_of}

-- the bits from lo up to hi, without hi
abbrev pub slice_of : Word → ℕ → ℕ → Word
slice_of w lo hi = record { width = hi - lo; value = w.value / 2 ^ lo % 2 ^ (hi - lo) }

-- the bits below the part, then the part, then the bits above the part
abbrev pub with_slice_of : Word → ℕ → Word → Word
with_slice_of w lo part = record {
  width = w.width;
  value = w.value % 2 ^ lo + part.value * 2 ^ lo + w.value / 2 ^ (lo + part.width) * 2 ^ (lo + part.width);
}

-- one word above another
abbrev pub concatenation_of : Word → Word → Word
concatenation_of high low = record { width = high.width + low.width; value = high.value * 2 ^ low.width + low.value }

-- the same number at another width
abbrev pub zero_extension_of : Word → ℕ → Word
zero_extension_of w n = record { width = n; value = w.value }

-- a word at another width, with the most significant bit repeated above it
abbrev pub sign_extension_of : Word → ℕ → Word
sign_extension_of w n = record {
  width = n;
  value = if nat_lt w.value (2 ^ (w.width - 1)) then w.value else w.value + 2 ^ n - 2 ^ w.width;
}

-- the low bits
abbrev pub truncation_of : Word → ℕ → Word
truncation_of w n = word_of n w.value
