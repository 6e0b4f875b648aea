-- How a text falls into its lines, and that it falls into no others.
use Rattle.std.proofs.Common.{◌≡◌, ◌<◌, ◌≤◌, suc, length, arith, ◌≢◌, ◌∙◌, ◌==◌, ◌++◌, ℕ, Bool, true, false, List, [], ◌∷◌, inl, inr, ⊎_elim, refl, ap, sym, subst, append_assoc, append-nil}
use Rattle.std.specs.Prelude.{All}
use Rattle.std.specs.List.{flat_map}
use Rattle.std.proofs.lemmas.Bool.{cond-false, ne_eqb, false≢true, cases_eq}
use Rattle.std.proofs.lemmas.List.Elements.{All-nil, All-cons, All-head, All-tail}
use Rattle.pm_io.specs.Lines.{Line, HasNoLineEnd, put_before, without_cr, lines_of, spelled, AreEnded, IsCutInto, LinesCutTheText}
use Rattle.pm_io.specs.declared.lines.TheConstants.{LF, CR}

-- a byte that is no LF
abbrev pub IsNoEnd : ℕ → Type 0
IsNoEnd byte = byte ≢ LF

-- a line with no line end inside
abbrev IsClean : Line → Type 0
IsClean line = HasNoLineEnd line.bytes

-- a text that begins with another byte than LF
pub lines_of-other : (byte : ℕ) (text : List ℕ) → byte ≢ LF → lines_of (byte ∷ text) ≡ put_before byte (lines_of text)
lines_of-other byte text other = cond-false (byte == LF) _ _ (ne_eqb byte LF other)

-- a text whose first LF comes after a prefix: the prefix is its first line
pub lines_of-line : (front rest : List ℕ) → HasNoLineEnd front
    → lines_of (front ++ LF ∷ rest) ≡ record { bytes = front; ended = true } ∷ lines_of rest
lines_of-line [] rest clean = refl
lines_of-line (byte ∷ front) rest clean =
    lines_of-other byte (front ++ LF ∷ rest) (All-head IsNoEnd byte front clean)
    ∙ ap (put_before byte) (lines_of-line front rest (All-tail IsNoEnd byte front clean))

-- a list with a first byte isn't empty
cons-some : (byte : ℕ) (bytes : List ℕ) → byte ∷ bytes ≢ []
cons-some byte bytes is = cc

-- a text with no LF that isn't empty: it is one line without end
pub lines_of-unended : (text : List ℕ) → text ≢ [] → HasNoLineEnd text
    → lines_of text ≡ record { bytes = text; ended = false } ∷ []
lines_of-unended [] some clean = absurd (some refl)
lines_of-unended (byte ∷ []) some clean = lines_of-other byte [] (All-head IsNoEnd byte [] clean)
lines_of-unended (byte ∷ next ∷ text) some clean =
    lines_of-other byte (next ∷ text) (All-head IsNoEnd byte (next ∷ text) clean)
    ∙ ap (put_before byte) (lines_of-unended (next ∷ text) (cons-some next text) (All-tail IsNoEnd byte (next ∷ text) clean))

-- ---- a first line that is too long

-- how long the first of the lines is
abbrev first_length : List Line → ℕ
first_length [] = 0
first_length (line ∷ lines) = length line.bytes

first_length-put : (byte : ℕ) (lines : List Line) → first_length (put_before byte lines) ≡ suc (first_length lines)
first_length-put byte [] = refl
first_length-put byte (line ∷ lines) = refl

-- bytes with no LF lie in the first line
first_length-front : (front rest : List ℕ) → HasNoLineEnd front → length front ≤ first_length (lines_of (front ++ rest))
first_length-front [] rest clean = omega arith
first_length-front (byte ∷ front) rest clean =
    let before = first_length-front front rest (All-tail IsNoEnd byte front clean) in
    let more =
    ap first_length (lines_of-other byte (front ++ rest) (All-head IsNoEnd byte front clean))
    ∙ first_length-put byte (lines_of (front ++ rest)) in
    omega (arith, before, more)

first_of : (lines : List Line) (limit : ℕ) → limit < first_length lines
    → (first : Line) × (rest : List Line) × (lines ≡ first ∷ rest) × (limit < length first.bytes)
first_of [] limit over = absurd (omega (arith, over))
first_of (line ∷ lines) limit over = (line, lines, refl, over)

-- a text with a prefix that has no LF and is longer than the limit: its first line is too long
pub first_too_long : (front rest : List ℕ) (limit : ℕ) → HasNoLineEnd front → limit < length front
    → (first : Line) × (others : List Line) × (lines_of (front ++ rest) ≡ first ∷ others) × (limit < length first.bytes)
first_too_long front rest limit clean over =
    first_of (lines_of (front ++ rest)) limit (omega (arith, over, first_length-front front rest clean))

-- ---- a CR at the end

-- a CR at the end is dropped
pub without_cr-cr : (front : List ℕ) → without_cr (front ++ CR ∷ []) ≡ front
without_cr-cr [] = refl
without_cr-cr (byte ∷ []) = refl
without_cr-cr (byte ∷ next ∷ front) = ap (λ (bytes : List ℕ). byte ∷ bytes) (without_cr-cr (next ∷ front))

-- another byte at the end stays, and so does all before it
pub without_cr-other : (front : List ℕ) (last : ℕ) → last ≢ CR → without_cr (front ++ last ∷ []) ≡ front ++ last ∷ []
without_cr-other [] last other = cond-false (last == CR) _ _ (ne_eqb last CR other)
without_cr-other (byte ∷ []) last other = ap (λ (bytes : List ℕ). byte ∷ bytes) (without_cr-other [] last other)
without_cr-other (byte ∷ next ∷ front) last other = ap (λ (bytes : List ℕ). byte ∷ bytes) (without_cr-other (next ∷ front) last other)

-- ---- the lines of a text cut it

-- one more byte at the start of a line is at the start of its text
spelled-more : (byte : ℕ) (bytes : List ℕ) (ended : Bool)
    → spelled (record { bytes = byte ∷ bytes; ended = ended }) ≡ byte ∷ spelled (record { bytes = bytes; ended = ended })
spelled-more byte bytes true = refl
spelled-more byte bytes false = refl

joined-put : (byte : ℕ) (lines : List Line) → flat_map spelled (put_before byte lines) ≡ byte ∷ flat_map spelled lines
joined-put byte [] = refl
joined-put byte (line ∷ lines) = ap (λ (front : List ℕ). front ++ flat_map spelled lines) (spelled-more byte line.bytes line.ended)

inside-put : (byte : ℕ) (lines : List Line) → byte ≢ LF → All IsClean lines → All IsClean (put_before byte lines)
inside-put byte [] other clean = All-cons IsClean _ [] (All-cons IsNoEnd byte [] other (All-nil IsNoEnd)) (All-nil IsClean)
inside-put byte (line ∷ lines) other clean =
    All-cons IsClean _ lines (All-cons IsNoEnd byte line.bytes other (All-head IsClean line lines clean)) (All-tail IsClean line lines clean)

ended-put : (byte : ℕ) (lines : List Line) → AreEnded lines → AreEnded (put_before byte lines)
ended-put byte [] ended = inr (cons-some byte [])
ended-put byte (line ∷ []) ended = inr (cons-some byte line.bytes)
ended-put byte (line ∷ next ∷ lines) ended = (ended.0, ended.1)

ended-end : (lines : List Line) → AreEnded lines → AreEnded (record { bytes = []; ended = true } ∷ lines)
ended-end [] ended = inl refl
ended-end (line ∷ lines) ended = (refl, ended)

cut-end : (text : List ℕ) (lines : List Line) → IsCutInto text lines → IsCutInto (LF ∷ text) (record { bytes = []; ended = true } ∷ lines)
cut-end text lines cut = record {
  joined = ap (λ (rest : List ℕ). LF ∷ rest) cut.joined;
  inside = All-cons IsClean _ lines (All-nil IsNoEnd) cut.inside;
  ended = ended-end lines cut.ended;
}

cut-other : (byte : ℕ) (text : List ℕ) (lines : List Line) → byte ≢ LF → IsCutInto text lines → IsCutInto (byte ∷ text) (put_before byte lines)
cut-other byte text lines other cut = record {
  joined = joined-put byte lines ∙ ap (λ (rest : List ℕ). byte ∷ rest) cut.joined;
  inside = inside-put byte lines other cut.inside;
  ended = ended-put byte lines cut.ended;
}

-- the lines of a text cut it
pub lines_of-cut : (text : List ℕ) → IsCutInto text (lines_of text)
lines_of-cut [] = record { joined = refl; inside = All-nil IsClean; ended = tt }
lines_of-cut (byte ∷ text) =
    ⊎_elim (
    λ is. subst (λ b. IsCutInto (b ∷ text) (lines_of (b ∷ text))) (sym is) (cut-end text (lines_of text) (lines_of-cut text))
    ) (
    λ other. subst (IsCutInto (byte ∷ text)) (sym (lines_of-other byte text other)) (cut-other byte text (lines_of text) other (lines_of-cut text))
    ) (cases_eq byte LF)

-- ---- and nothing else does

ended-tail : (line : Line) (lines : List Line) → AreEnded (line ∷ lines) → AreEnded lines
ended-tail line [] ended = tt
ended-tail line (next ∷ lines) ended = ended.1

-- a line without end is the last one, and isn't empty
last-unended : (bytes : List ℕ) (lines : List Line) → AreEnded (record { bytes = bytes; ended = false } ∷ lines) → (bytes ≢ []) × (lines ≡ [])
last-unended bytes [] ended = ⊎_elim (λ is. absurd (false≢true is)) (λ some. (some, refl)) ended
last-unended bytes (next ∷ lines) ended = absurd (false≢true ended.0)

-- the lines of the text that lines spell, with one more line before them
lines_of-more : (bytes : List ℕ) (ended : Bool) (lines : List Line) → HasNoLineEnd bytes → AreEnded (record { bytes = bytes; ended = ended } ∷ lines)
    → lines_of (flat_map spelled lines) ≡ lines
    → lines_of (spelled (record { bytes = bytes; ended = ended }) ++ flat_map spelled lines) ≡ record { bytes = bytes; ended = ended } ∷ lines
lines_of-more bytes true lines clean ended rest =
    ap lines_of (append_assoc bytes (LF ∷ []) (flat_map spelled lines))
    ∙ lines_of-line bytes (flat_map spelled lines) clean
    ∙ ap (λ (others : List Line). record { bytes = bytes; ended = true } ∷ others) rest
lines_of-more bytes false lines clean ended rest =
    let last = last-unended bytes lines ended in
    subst (λ (others : List Line). lines_of (bytes ++ flat_map spelled others) ≡ record { bytes = bytes; ended = false } ∷ others) (sym last.1) (
    ap lines_of (append-nil bytes) ∙ lines_of-unended bytes last.0 clean)

-- lines are the lines of the text that they spell
lines_of-spelled : (lines : List Line) → All IsClean lines → AreEnded lines → lines_of (flat_map spelled lines) ≡ lines
lines_of-spelled [] clean ended = refl
lines_of-spelled (line ∷ lines) clean ended =
    lines_of-more line.bytes line.ended lines (All-head IsClean line lines clean) ended (
    lines_of-spelled lines (All-tail IsClean line lines clean) (ended-tail line lines ended))

-- lines that cut a text are its lines
pub cut-lines_of : (text : List ℕ) (lines : List Line) → IsCutInto text lines → lines ≡ lines_of text
cut-lines_of text lines cut = sym (lines_of-spelled lines cut.inside cut.ended) ∙ ap lines_of cut.joined

-- a text is cut into its lines, and into no other list of lines
pub lines_cut : LinesCutTheText
lines_cut text = (lines_of-cut text, λ lines cut. cut-lines_of text lines cut)
