-- How a text is cut at its first byte of a kind.
use Rattle.std.proofs.Common.{◌≡◌, ◌+◌, ◌-◌, ◌<◌, ℕ, zero, suc, Bool, true, false, List, [], ◌∷◌, length, take, drop, get_or, refl, ap, ◌∙◌, arith, inl, inr}
use Rattle.std.specs.List.{slice_split, onto_first}
use Rattle.std.proofs.lemmas.Bool.{cases_Bool}
use Rattle.std.proofs.lemmas.List.{take_rest}
use Rattle.std.proofs.lemmas.List.Splits.{slice_split-cons_yes, slice_split-cons_no}
use Rattle.std.specs.Prelude.{None, Some}
use Rattle.memchr.specs.Find.{IsFirstByte, is_byte}
use Rattle.pm_job.specs.Words.{is_blank, words_of}
use Rattle.pm_job.specs.Spelling.{cut}

-- a text is cut at the first byte that passes
pub slice_split_at_index : (test : ℕ → Bool) (text : List ℕ) (end : ℕ) → end < length text → test (get_or text end 0) ≡ true
    → ((index : ℕ) → index < end → test (get_or text index 0) ≡ false)
    → slice_split test text ≡ take end text ∷ slice_split test (drop (end + 1) text)
slice_split_at_index test [] end inside passes before = absurd (omega arith)
slice_split_at_index test (byte ∷ text) zero inside passes before = slice_split-cons_yes test byte text passes
slice_split_at_index test (byte ∷ text) (suc end) inside passes before =
    let first : test byte ≡ false = before 0 (omega arith) in
    let more : slice_split test text ≡ take end text ∷ slice_split test (drop (end + 1) text) =
    slice_split_at_index test text end (omega arith) passes (λ index below. before (suc index) (omega arith)) in
    let next : suc end + 1 ≡ suc (end + 1) = omega arith in
    rw next (slice_split-cons_no test byte text first ∙ ap (onto_first byte) more)

-- a text is one part where no byte passes
pub slice_split_nowhere : (test : ℕ → Bool) (text : List ℕ) → ((index : ℕ) → index < length text → test (get_or text index 0) ≡ false)
    → slice_split test text ≡ text ∷ []
slice_split_nowhere test [] none = refl
slice_split_nowhere test (byte ∷ text) none =
    let first : test byte ≡ false = none 0 (omega arith) in
    let more : slice_split test text ≡ text ∷ [] = slice_split_nowhere test text (λ index below. none (suc index) (omega arith)) in
    slice_split-cons_no test byte text first ∙ ap (onto_first byte) more

-- a test that isn't true is false
pub untrue : (b : Bool) → ¬ (b ≡ true) → b ≡ false
untrue true never = absurd (never refl)
untrue false never = refl

-- the words of a text with a blank
pub words_at : (text : List ℕ) (end : ℕ) → IsFirstByte (is_byte 32) text (Some end)
    → words_of text ≡ take end text ∷ words_of (take (length text - (end + 1)) (drop (end + 1) text))
words_at text end first =
    rw take_rest (slice_split_at_index _ text end first.0.high first.1 (λ index below. untrue _ (first.0.before index (omega arith) below)))

-- the words of a text without a blank
pub words_nowhere : (text : List ℕ) → IsFirstByte (is_byte 32) text None → words_of text ≡ text ∷ []
words_nowhere text none = slice_split_nowhere _ text (λ index below. untrue _ (none index (omega arith) below))

parts_are : (byte : ℕ) (parts : List (List ℕ)) → (first : List ℕ) × (others : List (List ℕ)) × (onto_first byte parts ≡ first ∷ others)
parts_are byte [] = (byte ∷ [], [], refl)
parts_are byte (part ∷ parts) = (byte ∷ part, parts, refl)

-- a text has one part or more
pub slice_split_some : (test : ℕ → Bool) (text : List ℕ) → (first : List ℕ) × (others : List (List ℕ)) × (slice_split test text ≡ first ∷ others)
slice_split_some test [] = ([], [], refl)
slice_split_some test (byte ∷ text) =
    let more = parts_are byte (slice_split test text) in
    elim (cases_Bool (test byte)) [
      | inl passes ↦ ([], slice_split test text, slice_split-cons_yes test byte text passes)
      | inr fails ↦ (more.0, more.1, slice_split-cons_no test byte text fails ∙ more.2)
    ]

-- a text has one word or more
pub words_are : (text : List ℕ) → (first : List ℕ) × (others : List (List ℕ)) × (words_of text ≡ first ∷ others)
words_are text = slice_split_some _ text

cut_at_index : (text : List ℕ) (end : ℕ) → end < length text → is_blank (get_or text end 0) ≡ true
    → ((index : ℕ) → index < end → is_blank (get_or text index 0) ≡ false) → cut text ≡ Some (take end text, drop (end + 1) text)
unfolding cut
cut_at_index [] end inside passes before = absurd (omega arith)
cut_at_index (byte ∷ text) zero inside passes before = rw passes refl
cut_at_index (byte ∷ text) (suc end) inside passes before =
    let first : is_blank byte ≡ false = before 0 (omega arith) in
    let more : cut text ≡ Some (take end text, drop (end + 1) text) =
    cut_at_index text end (omega arith) passes (λ index below. before (suc index) (omega arith)) in
    let next : suc end + 1 ≡ suc (end + 1) = omega arith in
    rw (next, first, more) refl

no_cut : (text : List ℕ) → ((index : ℕ) → index < length text → is_blank (get_or text index 0) ≡ false) → cut text ≡ None
unfolding cut
no_cut [] none = refl
no_cut (byte ∷ text) none =
    let first : is_blank byte ≡ false = none 0 (omega arith) in
    let more : cut text ≡ None = no_cut text (λ index below. none (suc index) (omega arith)) in
    rw (first, more) refl

-- the cut of a text with a blank
pub cut_at : (text : List ℕ) (end : ℕ) → IsFirstByte (is_byte 32) text (Some end)
    → cut text ≡ Some (take end text, take (length text - (end + 1)) (drop (end + 1) text))
cut_at text end first =
    rw take_rest (cut_at_index text end first.0.high first.1 (λ index below. untrue _ (first.0.before index (omega arith) below)))

-- a text without a blank is not cut
pub cut_nowhere : (text : List ℕ) → IsFirstByte (is_byte 32) text None → cut text ≡ None
cut_nowhere text none = no_cut text (λ index below. untrue _ (none index (omega arith) below))
