-- How a text is cut into the lines of the form.
use Rattle.std.proofs.Common.{◌≡◌, ◌+◌, ◌-◌, ◌<◌, ℕ, zero, suc, true, false, List, [], ◌∷◌, length, take, drop, get_or, map, refl, arith}
use Rattle.std.specs.Prelude.{None, Some, ◌==◌}
use Rattle.std.proofs.lemmas.List.{take_rest, drop_all}
use Rattle.memchr.specs.Find.{IsFirstByte, is_byte}
use Rattle.pm_io.specs.Lines.{Line, lines_of, put_before}
use Rattle.pm_job.specs.Form.{form_lines}
use Rattle.pm_job.proofs.Cuts.{untrue}

-- the bytes of each line
abbrev pub bytes_of : List ℕ → List (List ℕ)
bytes_of text = map (λ line. line.bytes) (lines_of text)

longer : (byte : ℕ) (lines : List Line) (first : List ℕ) (others : List (List ℕ)) → map (λ line. line.bytes) lines ≡ first ∷ others
    → map (λ line. line.bytes) (put_before byte lines) ≡ (byte ∷ first) ∷ others
longer byte [] first others is = cc
longer byte (line ∷ lines) first others is = cc

lines_at_index : (text : List ℕ) (end : ℕ) → end < length text → is_byte 10 (get_or text end 0) ≡ true
    → ((index : ℕ) → index < end → is_byte 10 (get_or text index 0) ≡ false) → bytes_of text ≡ take end text ∷ bytes_of (drop (end + 1) text)
lines_at_index [] end inside passes before = absurd (omega arith)
lines_at_index (byte ∷ text) zero inside passes before = rw passes refl
lines_at_index (byte ∷ text) (suc end) inside passes before =
    let first : is_byte 10 byte ≡ false = before 0 (omega arith) in
    let more = lines_at_index text end (omega arith) passes (λ index below. before (suc index) (omega arith)) in
    let next : suc end + 1 ≡ suc (end + 1) = omega arith in
    rw (next, first) (longer byte (lines_of text) _ _ more)

one_line : (byte : ℕ) (text : List ℕ) → ((index : ℕ) → index < length (byte ∷ text) → is_byte 10 (get_or (byte ∷ text) index 0) ≡ false)
    → bytes_of (byte ∷ text) ≡ (byte ∷ text) ∷ []
one_line byte [] none = let first : is_byte 10 byte ≡ false = none 0 (omega arith) in rw first refl
one_line byte (next ∷ text) none =
    let first : is_byte 10 byte ≡ false = none 0 (omega arith) in
    let more = one_line next text (λ index below. none (suc index) (omega arith)) in
    rw first (longer byte (lines_of (next ∷ text)) _ _ more)

-- the lines of a text with a line end
pub lines_at : (text : List ℕ) (end : ℕ) → IsFirstByte (is_byte 10) text (Some end)
    → bytes_of text ≡ take end text ∷ bytes_of (take (length text - (end + 1)) (drop (end + 1) text))
lines_at text end first =
    rw take_rest (lines_at_index text end first.0.high first.1 (λ index below. untrue _ (first.0.before index (omega arith) below)))

-- a text without a line end is one line
pub lines_nowhere : (text : List ℕ) → 0 < length text → IsFirstByte (is_byte 10) text None
    → bytes_of text ≡ text ∷ bytes_of (take (length text - length text) (drop (length text) text))
lines_nowhere [] some none = absurd (omega arith)
lines_nowhere (byte ∷ text) some none =
    rw (take_rest (byte ∷ text) (length (byte ∷ text)), drop_all (length (byte ∷ text)) (byte ∷ text) (omega arith))
    (one_line byte text (λ index below. untrue _ (none index (omega arith) below)))

-- a text of no byte has no line
pub form_lines_nil : (text : List ℕ) → length text ≡ 0 → form_lines text ≡ []
unfolding form_lines
form_lines_nil [] nothing = refl
form_lines_nil (byte ∷ text) nothing = absurd (omega arith)

-- an empty line is left out
pub form_lines_skip : (text line rest : List ℕ) → bytes_of text ≡ line ∷ bytes_of rest → (length line == 0) ≡ true → form_lines text ≡ form_lines rest
unfolding form_lines
form_lines_skip text line rest is nothing = rw (is, nothing) refl

-- another line is kept
pub form_lines_take : (text line rest : List ℕ) → bytes_of text ≡ line ∷ bytes_of rest → (length line == 0) ≡ false → form_lines text ≡ line ∷ form_lines rest
unfolding form_lines
form_lines_take text line rest is something = rw (is, something) refl
