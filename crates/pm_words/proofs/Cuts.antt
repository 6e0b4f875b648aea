-- How a text is cut at its first `=`.
use Rattle.std.proofs.Common.{◌≡◌, ◌+◌, ◌-◌, ◌<◌, ◌==◌, ℕ, zero, suc, Bool, true, false, List, [], ◌∷◌, length, take, drop, get_or, refl, arith}
use Rattle.std.proofs.lemmas.List.{take_rest}
use Rattle.std.specs.Prelude.{None, Some}
use Rattle.memchr.specs.Find.{IsFirstByte, is_byte}
use Rattle.pm_words.specs.Readings.{cut}

-- a test that isn't true is false
pub untrue : (b : Bool) → ¬ (b ≡ true) → b ≡ false
untrue true never = absurd (never refl)
untrue false never = refl

cut_at_index : (text : List ℕ) (end : ℕ) → end < length text → (get_or text end 0 == 61) ≡ true
    → ((index : ℕ) → index < end → (get_or text index 0 == 61) ≡ false)
    → cut text ≡ Some (take end text, drop (end + 1) text)
unfolding cut
cut_at_index [] end inside passes before = absurd (omega arith)
cut_at_index (byte ∷ text) zero inside passes before = rw passes refl
cut_at_index (byte ∷ text) (suc end) inside passes before =
    let first : (byte == 61) ≡ false = before 0 (omega arith) in
    let more : cut text ≡ Some (take end text, drop (end + 1) text) =
    cut_at_index text end (omega arith) passes (λ index below. before (suc index) (omega arith)) in
    let next : suc end + 1 ≡ suc (end + 1) = omega arith in
    rw (next, first, more) refl

no_cut : (text : List ℕ) → ((index : ℕ) → index < length text → (get_or text index 0 == 61) ≡ false) → cut text ≡ None
unfolding cut
no_cut [] none = refl
no_cut (byte ∷ text) none =
    let first : (byte == 61) ≡ false = none 0 (omega arith) in
    let more : cut text ≡ None = no_cut text (λ index below. none (suc index) (omega arith)) in
    rw (first, more) refl

-- the cut of a text with an `=`
pub cut_at : (text : List ℕ) (end : ℕ) → IsFirstByte (is_byte 61) text (Some end)
    → cut text ≡ Some (take end text, take (length text - (end + 1)) (drop (end + 1) text))
cut_at text end first =
    rw take_rest
    (cut_at_index text end first.0.high first.1
    (λ index below. untrue _ (first.0.before index (omega arith) below)))

-- a text without an `=` is not cut
pub cut_nowhere : (text : List ℕ) → IsFirstByte (is_byte 61) text None → cut text ≡ None
cut_nowhere text none = no_cut text (λ index below. untrue _ (none index (omega arith) below))
