-- Temporaries that were set to 0 up to here.
use Rattle.std.proofs.Common.{◌≡◌, ◌∙◌, ◌+◌, ◌<◌, ℕ, zero, suc, List, [], ◌∷◌, refl, ap, length, set, map, arith, add-one, ap₂}
use Rattle.std.specs.Prelude.{slice_index_or}
use Rattle.pm_bits.specs.Word.{Word}
use Rattle.pm_block.specs.Plans.{widths_of}
use Rattle.pm_block.specs.Value.{zero_word}

-- 0 at the first i widths, and the other words as they were
pub started : ℕ → List ℕ → List Word → List Word
started zero ns ws = ws
started (suc i) [] ws = ws
started (suc i) (n ∷ ns) [] = []
started (suc i) (n ∷ ns) (w ∷ ws) = zero_word n ∷ started i ns ws

-- none of them
pub started_none : (ns : List ℕ) (ws : List Word) → started 0 ns ws ≡ ws
unfolding started
started_none ns ws = refl

-- one more of them
pub started_more : (i : ℕ) (ns : List ℕ) (ws : List Word) → i < length ns → length ws ≡ length ns → set (started i ns ws) i (zero_word (slice_index_or ns i 0)) ≡ started (suc i) ns ws
unfolding started
started_more i [] ws lt same = absurd (omega arith)
started_more i (n ∷ ns) [] lt same = absurd (omega arith)
started_more zero (n ∷ ns) (w ∷ ws) lt same = refl
started_more (suc i) (n ∷ ns) (w ∷ ws) lt same = ap (λ (vs : List Word). zero_word n ∷ vs) (started_more i ns ws (omega arith) (omega arith))

-- one more of them, after some
pub started_next : (i : ℕ) (ns : List ℕ) (ws vs : List Word) (w : Word) (n : ℕ) → vs ≡ started i ns ws → i < length ns → length ws ≡ length ns → n ≡ slice_index_or ns i 0 → w ≡ zero_word n → set vs i w ≡ started (i + 1) ns ws
started_next i ns ws vs w n at lt same width zero_is =
    let word : w ≡ zero_word (slice_index_or ns i 0) = zero_is ∙ ap zero_word width in
    let both : List Word → Word → List Word = λ us u. set us i u in
    rw (add-one) (ap₂ both at word ∙ started_more i ns ws lt same)

-- as many words as before
pub started_length : (i : ℕ) (ns : List ℕ) (ws : List Word) → length (started i ns ws) ≡ length ws
unfolding started
started_length zero ns ws = refl
started_length (suc i) [] ws = refl
started_length (suc i) (n ∷ ns) [] = refl
started_length (suc i) (n ∷ ns) (w ∷ ws) = ap (λ (k : ℕ). suc k) (started_length i ns ws)

-- all of them
pub started_all : (ns : List ℕ) (ws : List Word) → length ws ≡ length ns → started (length ns) ns ws ≡ map zero_word ns
unfolding started
started_all [] [] same = refl
started_all [] (w ∷ ws) same = absurd (omega arith)
started_all (n ∷ ns) [] same = absurd (omega arith)
started_all (n ∷ ns) (w ∷ ws) same = ap (λ (vs : List Word). zero_word n ∷ vs) (started_all ns ws (omega arith))

-- the widths of zeros
pub widths_of_zeros : (ns : List ℕ) → widths_of (map zero_word ns) ≡ ns
widths_of_zeros [] = refl
widths_of_zeros (n ∷ ns) = ap (λ (ms : List ℕ). n ∷ ms) (widths_of_zeros ns)
