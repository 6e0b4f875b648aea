-- Proof that one lexeme is at a position: its sort and its bytes are determined by the text.
use Rattle.std.proofs.Common.{◌≡◌, ◌≢◌, ◌==◌, ℕ, if◌then◌else◌, suc, List, [], ◌∷◌, ◌++◌, length, refl, inl, inr, sym, ap, ◌∙◌}
use Rattle.std.proofs.lemmas.Bool.{cond-false, ne_eqb}
use Rattle.std.proofs.lemmas.List.Elements.{All-head, All-tail}
use Rattle.pm_io.specs.Lines.{HasNoLineEnd}
use Rattle.pm_io.specs.declared.lines.TheConstants.{LF, CR}
use Rattle.pm_syn.specs.Bytes.{IsLineEnd, IsAtLineEnd}
use Rattle.pm_syn.specs.Lexemes.{Stands, IsGap}
use Rattle.pm_syn.specs.declared.lexeme.Sort.{Sort}
use Rattle.pm_syn.specs.declared.lexeme.Sort.TheVariants as sort
use Rattle.pm_syn.proofs.FirstBytes.{class_of_sort, lexeme_begins, lexeme_first}
use Rattle.pm_syn.proofs.TokenKinds.{same_split, one_token}

-- ---- how long gaps and line ends are

-- how many bytes are before the end of the line
line_length : List ℕ → ℕ
line_length [] = 0
line_length (byte ∷ bytes) = if byte == LF then 0 else suc (line_length bytes)

-- how long a backslash and the line end after it are, by what comes after the backslash
joined_length : List ℕ → ℕ
joined_length [] = 2
joined_length (byte ∷ bytes) = if byte == CR then 3 else 2

-- how long the gap or the line end is that a text begins with
gap_length : List ℕ → ℕ
gap_length [] = 0
gap_length (byte ∷ text) =
    if byte == 35 then suc (line_length text) else if byte == 92 then joined_length text else if byte == CR then 2 else 1

line_length-prefix : (prefix rest : List ℕ) → HasNoLineEnd prefix → IsAtLineEnd rest → line_length (prefix ++ rest) ≡ length prefix
unfolding line_length
line_length-prefix [] [] clean ends = refl
line_length-prefix [] (byte ∷ rest) clean ends = ap (λ b. line_length (b ∷ rest)) ends
line_length-prefix (byte ∷ prefix) rest clean ends =
    cond-false (byte == LF) _ _ (ne_eqb byte LF (All-head (λ byte. byte ≢ LF) byte prefix clean))
    ∙ ap suc (line_length-prefix prefix rest (All-tail (λ byte. byte ≢ LF) byte prefix clean) ends)

gap_length-line_end : (bytes after : List ℕ) → IsLineEnd bytes → gap_length (bytes ++ after) ≡ length bytes
unfolding gap_length
gap_length-line_end bytes after (inl short) = rw short
gap_length-line_end bytes after (inr long) = rw long

joined_length-line_end : (bytes after : List ℕ) → IsLineEnd bytes → joined_length (bytes ++ after) ≡ suc (length bytes)
unfolding joined_length
joined_length-line_end bytes after (inl short) = rw short
joined_length-line_end bytes after (inr long) = rw long

gap_length-gap : (bytes after : List ℕ) → IsGap bytes after → gap_length (bytes ++ after) ≡ length bytes
unfolding gap_length
gap_length-gap bytes after (inl blank) = rw blank
gap_length-gap bytes after (inr (inl tab)) = rw tab
gap_length-gap bytes after (inr (inr (inl comment))) =
    rw comment.spelled (ap suc (line_length-prefix comment.text after comment.on_one_line comment.to_its_end))
gap_length-gap bytes after (inr (inr (inr joining))) = rw joining.spelled (joined_length-line_end joining.line_end after joining.ends)

-- ---- one lexeme

-- a lexeme has a byte
pub lexeme_some : (sort : Sort) (bytes after : List ℕ) → Stands sort bytes after → bytes ++ after ≢ []
lexeme_some sort bytes after is none =
    let begun = lexeme_begins sort bytes after is in
    let e : begun.0 ∷ begun.1 ++ after ≡ [] = sym (ap (λ (prefix : List ℕ). prefix ++ after) begun.2) ∙ none in
    cc

-- lexemes that begin one text begin alike
same_class : (one other : Sort) (bytes prefix after rest : List ℕ) → Stands one bytes after → Stands other prefix rest
    → bytes ++ after ≡ prefix ++ rest → class_of_sort one ≡ class_of_sort other
same_class one other bytes prefix after rest is too same =
    let begun = lexeme_begins one bytes after is in
    let text : begun.0 ∷ begun.1 ++ after ≡ prefix ++ rest = sym (ap (λ (prefix : List ℕ). prefix ++ after) begun.2) ∙ same in
    sym begun.3 ∙ lexeme_first begun.0 (begun.1 ++ after) other prefix rest text too

-- lexemes of a length that the text determines
by_length : (sort : Sort) (bytes prefix after rest : List ℕ) → gap_length (bytes ++ after) ≡ length bytes → gap_length (prefix ++ rest) ≡ length prefix
    → bytes ++ after ≡ prefix ++ rest → (sort ≡ sort) × (bytes ≡ prefix) × (after ≡ rest)
by_length sort bytes prefix after rest is too same =
    let split = same_split bytes prefix after rest (sym is ∙ ap gap_length same ∙ too) same in
    (refl, split.0, split.1)

by_class : (one other : Sort) (bytes prefix after rest : List ℕ) → Stands one bytes after → Stands other prefix rest
    → bytes ++ after ≡ prefix ++ rest → class_of_sort one ≡ class_of_sort other → (one ≡ other) × (bytes ≡ prefix) × (after ≡ rest)
by_class sort.Gap sort.Gap bytes prefix after rest is too same class =
    by_length sort.Gap bytes prefix after rest (gap_length-gap bytes after is) (gap_length-gap prefix rest too) same
by_class sort.LineEnd sort.LineEnd bytes prefix after rest is too same class =
    by_length sort.LineEnd bytes prefix after rest (gap_length-line_end bytes after is) (gap_length-line_end prefix rest too) same
by_class (sort.Token one) (sort.Token other) bytes prefix after rest is too same class =
    let token = one_token one other bytes prefix after rest is.0 too.0 same in
    (ap sort.Token token.0, token.1, token.2)
by_class _ _ bytes prefix after rest is too same class = cc

-- one lexeme is at a position
pub one_lexeme : (one other : Sort) (bytes prefix after rest : List ℕ) → Stands one bytes after → Stands other prefix rest
    → bytes ++ after ≡ prefix ++ rest → (one ≡ other) × (bytes ≡ prefix) × (after ≡ rest)
one_lexeme one other bytes prefix after rest is too same =
    by_class one other bytes prefix after rest is too same (same_class one other bytes prefix after rest is too same)
