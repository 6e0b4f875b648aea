-- What is on its line before the first token of a logical line: blanks and tabs.
use Rattle.std.proofs.Common.{◌≡◌, ◌≢◌, ◌⊎◌, ◌==◌, ℕ, Bool, true, false, if◌then◌else◌, List, [], ◌∷◌, ◌++◌, length, refl, inl, inr, sym, ap, subst, ◌∙◌}
use Rattle.std.specs.Prelude.{All, None, replicate}
use Rattle.std.specs.List.{list_any}
use Rattle.std.proofs.lemmas.List.Elements.{All-nil, All-head, All-tail, All-push}
use Rattle.pm_io.specs.declared.lines.TheConstants.{LF, CR}
use Rattle.pm_syn.specs.Bytes.{IsLineEnd, IsAtLineEnd}
use Rattle.pm_syn.specs.Lexemes.{IsGap, Lexeme, Stands}
use Rattle.pm_syn.specs.LogicalLines.{begun_after, begun_line, indentation_of}
use Rattle.pm_syn.specs.Positions.{has_line_end, last_line}
use Rattle.pm_syn.specs.Reading.{Reads, bytes_of}
use Rattle.pm_syn.specs.declared.draft.Indentation.TheVariants as indentation
use Rattle.pm_syn.specs.declared.lexeme.Sort.{Sort}
use Rattle.pm_syn.specs.declared.lexeme.Sort.TheVariants as sort
use Rattle.pm_syn.specs.declared.token.TokenKind.{TokenKind}
use Rattle.pm_syn.proofs.LineEnds.{last_line-append_none, last_line-append_some}
use Rattle.pm_syn.proofs.OneLexeme.{lexeme_some, one_lexeme}
use Rattle.pm_syn.proofs.OneReading.{read_one}

-- a blank or a tab
abbrev pub IsBlank : ℕ → Type 0
IsBlank byte = (byte ≡ 32) ⊎ (byte ≡ 9)

-- only blanks and tabs are on the line so far, or it ends there
abbrev IsBlankUpTo : List ℕ → List ℕ → Type 0
IsBlankUpTo prefix rest = All IsBlank (last_line prefix) ⊎ IsAtLineEnd rest

-- one more byte on the line
blank_push : (prefix rest : List ℕ) (byte : ℕ) → has_line_end (byte ∷ []) ≡ false → IsBlank byte → All IsBlank (last_line prefix)
    → IsBlankUpTo (prefix ++ byte ∷ []) rest
blank_push prefix rest byte on_line blank blanks =
    let same : last_line (prefix ++ byte ∷ []) ≡ last_line prefix ++ byte ∷ [] = last_line-append_none prefix (byte ∷ []) on_line in
    inl (subst (All IsBlank) (sym same) (All-push IsBlank (last_line prefix) byte blanks blank))

-- after a line end nothing is on the line
blank_after : (prefix bytes rest : List ℕ) → has_line_end bytes ≡ true → last_line bytes ≡ [] → IsBlankUpTo (prefix ++ bytes) rest
blank_after prefix bytes rest ends none =
    inl (subst (All IsBlank) (sym (last_line-append_some prefix bytes ends ∙ none)) (All-nil IsBlank))

blank_line_end : (prefix bytes rest : List ℕ) → IsLineEnd bytes → IsBlankUpTo (prefix ++ bytes) rest
blank_line_end prefix bytes rest (inl short) = blank_after prefix bytes rest (ap has_line_end short) (ap last_line short)
blank_line_end prefix bytes rest (inr long) = blank_after prefix bytes rest (ap has_line_end long) (ap last_line long)

blank_joined : (prefix bytes line_end rest : List ℕ) → bytes ≡ 92 ∷ line_end → IsLineEnd line_end → IsBlankUpTo (prefix ++ bytes) rest
blank_joined prefix bytes line_end rest is (inl short) =
    let joined : bytes ≡ 92 ∷ LF ∷ [] = is ∙ ap (λ (ends : List ℕ). 92 ∷ ends) short in
    blank_after prefix bytes rest (ap has_line_end joined) (ap last_line joined)
blank_joined prefix bytes line_end rest is (inr long) =
    let joined : bytes ≡ 92 ∷ CR ∷ LF ∷ [] = is ∙ ap (λ (ends : List ℕ). 92 ∷ ends) long in
    blank_after prefix bytes rest (ap has_line_end joined) (ap last_line joined)

-- a text that isn't at its end, but where a line ends, begins with an LF
at_line_end : (text : List ℕ) → text ≢ [] → IsAtLineEnd text → (rest : List ℕ) × (text ≡ LF ∷ rest)
at_line_end [] some at = absurd (some refl)
at_line_end (byte ∷ text) some at = (text, ap (λ (first : ℕ). first ∷ text) at)

-- the lexeme that is where a line ends is a line end
lexeme_at_line_end : (kept : Sort) (bytes after : List ℕ) → Stands kept bytes after → IsAtLineEnd (bytes ++ after) → kept ≡ sort.LineEnd
lexeme_at_line_end kept bytes after stands at =
    let ends = at_line_end (bytes ++ after) (lexeme_some kept bytes after stands) at in
    (one_lexeme kept sort.LineEnd bytes (LF ∷ []) after ends.0 stands (inl refl) ends.1).0

-- a gap
blank_gap : (prefix bytes rest : List ℕ) → IsGap bytes rest → IsBlankUpTo prefix (bytes ++ rest) → IsBlankUpTo (prefix ++ bytes) rest
blank_gap prefix bytes rest gap (inr at) = let same = lexeme_at_line_end sort.Gap bytes rest gap at in absurd (cc)
blank_gap prefix bytes rest (inl blank) (inl blanks) =
    subst (λ (bytes : List ℕ). IsBlankUpTo (prefix ++ bytes) rest) (sym blank) (blank_push prefix rest 32 refl (inl refl) blanks)
blank_gap prefix bytes rest (inr (inl tab)) (inl blanks) =
    subst (λ (bytes : List ℕ). IsBlankUpTo (prefix ++ bytes) rest) (sym tab) (blank_push prefix rest 9 refl (inr refl) blanks)
blank_gap prefix bytes rest (inr (inr (inl comment))) (inl blanks) = inr comment.to_its_end
blank_gap prefix bytes rest (inr (inr (inr joining))) (inl blanks) = blank_joined prefix bytes joining.line_end rest joining.spelled joining.ends

-- one more lexeme after which no logical line has begun
blank_with : (before : List Lexeme) (sort : Sort) (bytes rest : List ℕ) → Stands sort bytes rest
    → (begun_line before ≡ None → IsBlankUpTo (bytes_of before) (bytes ++ rest))
    → begun_after before bytes sort (begun_line before) ≡ None → IsBlankUpTo (bytes_of before ++ bytes) rest
blank_with before sort.Gap bytes rest stands blank none = blank_gap (bytes_of before) bytes rest stands (blank none)
blank_with before sort.LineEnd bytes rest stands blank none = blank_line_end (bytes_of before) bytes rest stands
blank_with before (sort.Token kind) bytes rest stands blank none = absurd (cc)

-- where no logical line has begun, only blanks and tabs are on the line
blank_before : (text : List ℕ) (before : List Lexeme) (rest : List ℕ) → Reads text before rest → begun_line before ≡ None
    → IsBlankUpTo (bytes_of before) rest
blank_before text [] rest read none = inl (All-nil IsBlank)
blank_before text (lexeme ∷ before) rest read none =
    let last = read_one text lexeme before rest read in
    blank_with before lexeme.sort lexeme.bytes rest last.1 (blank_before text before (lexeme.bytes ++ rest) last.0) none

-- they are before a token
pub blank_token : (text : List ℕ) (before : List Lexeme) (kind : TokenKind) (bytes rest : List ℕ) → Reads text before (bytes ++ rest)
    → Stands (sort.Token kind) bytes rest → begun_line before ≡ None → All IsBlank (last_line (bytes_of before))
blank_token text before kind bytes rest read stands none = elim (blank_before text before (bytes ++ rest) read none) [
  | inl blanks ↦ blanks
  | inr at ↦ let same = lexeme_at_line_end (sort.Token kind) bytes rest stands at in absurd (cc)
]

-- ---- blanks

-- blanks and tabs among which there is no tab are blanks
all_blanks : (bytes : List ℕ) → All IsBlank bytes → list_any (λ byte. byte == 9) bytes ≡ false → bytes ≡ replicate (length bytes) 32
all_blanks [] blanks none = refl
all_blanks (byte ∷ bytes) blanks none = elim (All-head IsBlank byte bytes blanks) [
  | inl blank ↦
      let untabbed : list_any (λ byte. byte == 9) bytes ≡ false = rw blank at none in
      ap (λ (first : ℕ). first ∷ bytes) blank
      ∙ ap (λ (rest : List ℕ). 32 ∷ rest) (all_blanks bytes (All-tail IsBlank byte bytes blanks) untabbed)
  | inr tab ↦ let wrong : true ≡ false = rw tab at none in absurd (cc)
]

-- the indentation that makes a column has no tab
untabbed : (tabbed : Bool) (count column : ℕ) → (if tabbed then indentation.Tabbed else indentation.Blanks count) ≡ indentation.Blanks column
    → (tabbed ≡ false) × (count ≡ column)
untabbed true count column is = absurd (cc)
untabbed false count column is = (refl, cc)

-- blanks and tabs that make a column are as many blanks
pub column_blanks : (bytes : List ℕ) (column : ℕ) → All IsBlank bytes → indentation_of bytes ≡ indentation.Blanks column
    → bytes ≡ replicate column 32
column_blanks bytes column blanks is =
    let made = untabbed (list_any (λ byte. byte == 9) bytes) (length bytes) column is in
    all_blanks bytes blanks made.0 ∙ ap (λ (count : ℕ). replicate count 32) made.1
