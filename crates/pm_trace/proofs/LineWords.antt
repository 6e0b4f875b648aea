-- How a line is cut into words.
use Rattle.std.proofs.Common.{◌≡◌, ◌∙◌, ◌+◌, ◌<◌, ◌≤◌, ℕ, zero, suc, Bool, true, false, List, [], ◌∷◌, length, take, drop, get_or, refl, ap, sym, inl, inr, drop-cons, add-one, arith}
use Rattle.std.specs.Prelude.{None, Some, not, filter, position}
use Rattle.std.specs.List.{slice_split, onto_first}
use Rattle.std.proofs.lemmas.Bool.{cases_Bool, false≢true}
use Rattle.std.proofs.lemmas.List.Quantifiers.{position-Some}
use Rattle.std.proofs.lemmas.List.Splits.{slice_split-cons_yes, slice_split-cons_no}
use Rattle.std.proofs.Math.ListN.{drop_of_length-le}
use Rattle.pm_trace.proofs.Positions.{nowhere}
use Rattle.pm_trace.specs.Words.{is_space, is_printed, is_word, words_of}

-- a text is cut at the first byte that passes
pub slice_split_at_index : (test : ℕ → Bool) (text : List ℕ) (end : ℕ) → end < length text
    → test (get_or text end 0) ≡ true
    → ((index : ℕ) → index < end → test (get_or text index 0) ≡ false)
    → slice_split test text ≡ take end text ∷ slice_split test (drop (end + 1) text)
slice_split_at_index test [] end inside passes before = absurd (omega arith)
slice_split_at_index test (byte ∷ text) zero inside passes before = slice_split-cons_yes test byte text passes
slice_split_at_index test (byte ∷ text) (suc end) inside passes before =
    let first : test byte ≡ false = before 0 (omega arith) in
    let more : slice_split test text ≡ take end text ∷ slice_split test (drop (end + 1) text) =
    slice_split_at_index test text end (omega arith) passes (λ index below. before (suc index) (omega arith)) in
    let next : suc end + 1 ≡ suc (end + 1) = omega arith in
    rw next (slice_split-cons_no test byte text first ∙ ap (onto_first byte) more)

-- a text is one part where no byte passes
pub slice_split_nowhere : (test : ℕ → Bool) (text : List ℕ)
    → ((index : ℕ) → index < length text → test (get_or text index 0) ≡ false)
    → slice_split test text ≡ text ∷ []
slice_split_nowhere test [] none = refl
slice_split_nowhere test (byte ∷ text) none =
    let first : test byte ≡ false = none 0 (omega arith) in
    let more : slice_split test text ≡ text ∷ [] =
    slice_split_nowhere test text (λ index below. none (suc index) (omega arith)) in
    slice_split-cons_no test byte text first ∙ ap (onto_first byte) more

-- a test that isn't true is false
pub untrue : (b : Bool) → ¬ (b ≡ true) → b ≡ false
untrue true never = absurd (never refl)
untrue false never = refl

not_printed : (byte : ℕ) → is_printed byte ≡ false → is_space byte ≡ true
not_printed byte is = elim (cases_Bool (is_space byte)) [
  | inl space ↦ space
  | inr other ↦ absurd (false≢true (sym is ∙ ap not other))
]

printed : (byte : ℕ) → is_printed byte ≡ true → is_space byte ≡ false
printed byte is = elim (cases_Bool (is_space byte)) [
  | inl space ↦ absurd (false≢true (ap not (sym space) ∙ is))
  | inr other ↦ other
]

-- a blank before a line changes nothing
space_first : (byte : ℕ) (text : List ℕ) → is_space byte ≡ true → words_of (byte ∷ text) ≡ words_of text
unfolding words_of
space_first byte text space = ap (filter is_word) (slice_split-cons_yes is_space byte text space)

after_spaces : (text : List ℕ) (start : ℕ) → start ≤ length text
    → ((k : ℕ) → k < start → is_space (get_or text k 0) ≡ true)
    → words_of text ≡ words_of (drop start text)
after_spaces text zero within spaces = refl
after_spaces [] (suc start) within spaces = absurd (omega (arith, within))
after_spaces (byte ∷ text) (suc start) within spaces =
    space_first byte text (spaces 0 (omega arith))
    ∙ after_spaces text start (omega (arith, within)) (λ k below. spaces (suc k) (omega (arith, below)))

pub no_word : (text : List ℕ) → position is_printed text ≡ None → words_of text ≡ []
unfolding words_of
no_word text none =
    after_spaces text (length text) (omega arith)
    (λ k below. not_printed (get_or text k 0) (nowhere is_printed text none 0 k below))
    ∙ ap words_of (drop_of_length-le text (omega arith))

-- where the first word begins
begins_there : (text : List ℕ) (start : ℕ) → position is_printed text ≡ Some start
    → (words_of text ≡ words_of (drop start text)) × (start < length text) × (is_space (get_or text start 0) ≡ false)
begins_there text start is =
    let at = position-Some is_printed text start 0 is in (
      after_spaces text start (omega (arith, at.0))
          (λ k below. not_printed (get_or text k 0) (at.2 k below)),
      at.0,
      printed (get_or text start 0) at.1,
    )

positive : (byte : ℕ) (text : List ℕ) (end : ℕ) → is_space byte ≡ false → is_space (get_or (byte ∷ text) end 0) ≡ true
    → 0 < end
positive byte text zero begins is = absurd (false≢true (sym begins ∙ is))
positive byte text (suc end) begins is = omega arith

kept : (word : List ℕ) (words : List (List ℕ)) → is_word word ≡ true
    → filter is_word (word ∷ words) ≡ word ∷ filter is_word words
kept word words is = rw is refl

some_taken : (byte : ℕ) (text : List ℕ) (end : ℕ) → 0 < end → is_word (take end (byte ∷ text)) ≡ true
some_taken byte text zero some = absurd (omega (arith, some))
some_taken byte text (suc end) some = refl

-- a text that begins with a word, and what comes after the word
word_there : (byte : ℕ) (text : List ℕ) (end : ℕ) → is_space byte ≡ false → position is_space (byte ∷ text) ≡ Some end
    → words_of (byte ∷ text) ≡ take end (byte ∷ text) ∷ words_of (drop end (byte ∷ text))
unfolding words_of
word_there byte text end begins is =
    let at = position-Some is_space (byte ∷ text) end 0 is in
    let some : 0 < end = positive byte text end begins at.1 in
    let rest : words_of (drop end (byte ∷ text)) ≡ words_of (drop (end + 1) (byte ∷ text)) =
    ap words_of (drop-cons (byte ∷ text) end 0 at.0)
    ∙ (space_first (get_or (byte ∷ text) end 0) (drop (suc end) (byte ∷ text)) at.1
    ∙ ap (λ (n : ℕ). words_of (drop n (byte ∷ text))) (sym (add-one end))) in
    ap (filter is_word) (slice_split_at_index is_space (byte ∷ text) end at.0 at.1 at.2)
    ∙ (kept (take end (byte ∷ text)) (slice_split is_space (drop (end + 1) (byte ∷ text)))
    (some_taken byte text end some)
    ∙ ap (λ (ws : List (List ℕ)). take end (byte ∷ text) ∷ ws) (sym rest))

word_alone : (byte : ℕ) (text : List ℕ) → position is_space (byte ∷ text) ≡ None
    → words_of (byte ∷ text) ≡ (byte ∷ text) ∷ []
unfolding words_of
word_alone byte text none =
    ap (filter is_word) (slice_split_nowhere is_space (byte ∷ text) (nowhere is_space (byte ∷ text) none 0))

at_word : (text : List ℕ) (start : ℕ) → start < length text
    → drop start text ≡ get_or text start 0 ∷ drop (suc start) text
at_word text start within = drop-cons text start 0 within

pub first_word : (text : List ℕ) (start end : ℕ) → position is_printed text ≡ Some start
    → position is_space (drop start text) ≡ Some end
    → words_of text ≡ take end (drop start text) ∷ words_of (drop end (drop start text))
first_word text start end begins ends =
    let there = begins_there text start begins in
    let cut = at_word text start there.1 in
    there.0 ∙ rw cut (word_there (get_or text start 0) (drop (suc start) text) end there.2 (rw cut at ends))

pub last_word : (text : List ℕ) (start : ℕ) → position is_printed text ≡ Some start
    → position is_space (drop start text) ≡ None
    → words_of text ≡ drop start text ∷ words_of []
unfolding words_of
last_word text start begins none =
    let there = begins_there text start begins in
    let cut = at_word text start there.1 in
    there.0 ∙ (ap words_of cut ∙ word_alone (get_or text start 0) (drop (suc start) text) (rw cut at none)
    ∙ ap (λ (w : List ℕ). w ∷ []) (sym cut))
