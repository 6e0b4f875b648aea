-- Constants that elaboration makes.
use Rattle.std.proofs.Common.{◌≡◌, ◌&&◌, ◌^◌, ℕ, ℤ, Bool, true, false, leb-true, refl}
use Rattle.std.specs.Prelude.{Option, Some, None, nat_lt, nat_le, if◌then◌else◌}
use Rattle.std.proofs.lemmas.Bool.{and_parts, le-leb}
use Rattle.pm_bits.specs.Word.{Word, word_of_int}
use Rattle.pm_bits.proofs.OnWords.{int_is_word}
use Rattle.pm_design.specs.Widths.{is_width}
use Rattle.pm_elab.specs.Values.{constant_of, fits_width, literal_of}
use Rattle.pm_elab_laws.proofs.EqualValues.{both}

-- a constant has 1 to 128 bits, and fits them
abbrev pub is_constant : Word → Bool
is_constant w = is_width w.width && nat_lt w.value (2 ^ w.width)

-- a constant that is there is one
abbrev pub IsConstant : Option Word → Type 0
IsConstant None = Unit {0}
IsConstant (Some w) = is_constant w ≡ true

-- the constant that an integer is in a width
pub constant_is : (width : ℕ) (n : ℤ) → IsConstant (constant_of width n)
unfolding constant_of
constant_is width n = by (is_width width && fits_width width n) refl
  where
    by : (b : Bool) → (is_width width && fits_width width n) ≡ b
        → IsConstant (if b then Some (word_of_int width n) else None)
    by false e = tt
    by true e =
        let wide = and_parts (is_width width) (fits_width width n) e in
        let bounds = and_parts (nat_le 1 width) (nat_le width 128) wide.0 in
        let word = int_is_word width n (leb-true _ _ bounds.0) (leb-true _ _ bounds.1) in
        both (is_width width) _ wide.0 (le-leb _ _ word.fits)

-- the constant that a literal is in a width
pub literal_is : (width n : ℕ) → IsConstant (literal_of width n)
unfolding literal_of
literal_is width n = by (is_width width && nat_lt n (2 ^ width)) refl
  where
    by : (b : Bool) → (is_width width && nat_lt n (2 ^ width)) ≡ b
        → IsConstant (if b then Some (record { width = width; value = n }) else None)
    by false e = tt
    by true e = e
