-- Proof that gaps and line ends are between the tokens of a text.
use Rattle.std.proofs.Common.{◌≡◌, ◌≤◌, ◌+◌, ◌-◌, ℕ, List, [], ◌∷◌, ◌++◌, suc, length, take, drop, arith, sym, ap, subst, ◌∙◌, append-nil, append_assoc}
use Rattle.std.specs.List.{between}
use Rattle.std.proofs.Math.Seq.{drop-append_seam, take-append-add}
use Rattle.std.proofs.lemmas.List.{drop-drop, length-append, take-append-drop}
use Rattle.std.proofs.lemmas.List.Edits.{between_none}
use Rattle.pm_syn.specs.Bytes.{IsLineEnd}
use Rattle.pm_syn.specs.Lexemes.{IsGap, Lexeme, Stands}
use Rattle.pm_syn.specs.LogicalLines.{begun_line, drafts_of, ended_lines, token_of}
use Rattle.pm_syn.specs.Positions.{last_line}
use Rattle.pm_syn.specs.Reading.{Reads, are_closed, brackets_of, bytes_of, line_of}
use Rattle.pm_syn.specs.Spaces.{HasSpace, IsSpace, IsSpaced, IsSpacedUpTo}
use Rattle.pm_syn.specs.declared.draft.Draft.{Draft}
use Rattle.pm_syn.specs.declared.lexeme.Sort.{Sort}
use Rattle.pm_syn.specs.declared.lexeme.Sort.TheVariants as sort
use Rattle.pm_syn.specs.declared.token.Token.{Token}
use Rattle.pm_syn.proofs.CutFromText.{lines-line_end, lines_with, tokens-continued, tokens_in, whole}
use Rattle.pm_syn.proofs.OneReading.{read_one}

-- ---- space

-- no space is between a position and itself
pub no_space : (text : List ℕ) (position : ℕ) → HasSpace text position position 0
no_space text position = (omega arith, subst (λ (bytes : List ℕ). IsSpace 0 bytes (drop position text)) (sym (between_none text position)) (IsSpace.nothing (drop position text)))

-- more space before space
space_before : (text prefix bytes rest : List ℕ) (to count more : ℕ) → text ≡ prefix ++ (bytes ++ rest)
    → ((inside after : List ℕ) → inside ++ after ≡ rest → IsSpace count inside after → IsSpace more (bytes ++ inside) after)
    → HasSpace text (length prefix + length bytes) to count → HasSpace text (length prefix) to more
space_before text prefix bytes rest to count more is put space =
    let at : ℕ = length prefix in
    let next : ℕ = length prefix + length bytes in
    let within : next ≤ to = space.0 in
    let left : drop at text ≡ bytes ++ rest = ap (λ (all : List ℕ). drop at all) is ∙ drop-append_seam prefix (bytes ++ rest) in
    let after : drop next text ≡ rest =
    sym (drop-drop (length bytes) at text) ∙ ap (λ (part : List ℕ). drop (length bytes) part) left ∙ drop-append_seam bytes rest in
    let far : to - at ≡ length bytes + (to - next) = omega (arith, within) in
    let inside : between next to text ≡ take (to - next) rest = ap (λ (part : List ℕ). take (to - next) part) after in
    let whole : between at to text ≡ bytes ++ between next to text =
    ap (λ (part : List ℕ). take (to - at) part) left
    ∙ ap (λ (n : ℕ). take n (bytes ++ rest)) far
    ∙ take-append-add bytes rest (to - next)
    ∙ ap (λ (part : List ℕ). bytes ++ part) (sym inside) in
    let end : next + (to - next) ≡ to = omega (arith, within) in
    let same : between next to text ++ drop to text ≡ rest =
    ap (λ (n : ℕ). between next to text ++ drop n text) (sym end)
    ∙ ap (λ (part : List ℕ). between next to text ++ part) (sym (drop-drop (to - next) next text))
    ∙ take-append-drop (to - next) (drop next text)
    ∙ after in
    (omega (arith, within), subst (λ (part : List ℕ). IsSpace more part (drop to text)) (sym whole) (put (between next to text) (drop to text) same space.1))

-- a gap before space
pub gap_before : (text prefix bytes rest : List ℕ) (to count : ℕ) → text ≡ prefix ++ (bytes ++ rest) → IsGap bytes rest
    → HasSpace text (length prefix + length bytes) to count → HasSpace text (length prefix) to count
gap_before text prefix bytes rest to count is gap space =
    space_before text prefix bytes rest to count count is (
    λ inside after same more. IsSpace.gap count bytes inside after (subst (IsGap bytes) (sym same) gap) more) space

-- a line end before space
pub line_end_before : (text prefix bytes rest : List ℕ) (to count : ℕ) → text ≡ prefix ++ (bytes ++ rest) → IsLineEnd bytes
    → HasSpace text (length prefix + length bytes) to count → HasSpace text (length prefix) to (suc count)
line_end_before text prefix bytes rest to count is ends space =
    space_before text prefix bytes rest to count (suc count) is (λ inside after same more. IsSpace.line_end count bytes inside after ends more) space

-- ---- space between tokens

-- space that begins at an earlier position
spaced_before : (text : List ℕ) (end position next : ℕ) (tokens : List Token)
    → ((to count : ℕ) → HasSpace text next to count → (all : ℕ) × HasSpace text position to all)
    → IsSpacedUpTo text end next tokens → IsSpacedUpTo text end position tokens
spaced_before text end position next [] more spaced = more end spaced.0 spaced.1
spaced_before text end position next (token ∷ tokens) more spaced = (more token.start spaced.0.0 spaced.0.1, spaced.1)

-- the tokens so far have space between them, where those after them have
spaced_with : (text : List ℕ) (end : ℕ) (before : List Lexeme) (sort : Sort) (bytes rest : List ℕ) → text ≡ bytes_of before ++ (bytes ++ rest)
    → Stands sort bytes rest
    → ((tokens : List Token) → IsSpacedUpTo text end (length (bytes_of before)) tokens → IsSpacedUpTo text end 0 (tokens_in (drafts_of before) ++ tokens))
    → (tokens : List Token) → IsSpacedUpTo text end (length (bytes_of before) + length bytes) tokens → IsSpacedUpTo text end 0 (tokens_in (lines_with before sort bytes) ++ tokens)
spaced_with text end before sort.Gap bytes rest is stands so_far tokens spaced =
    so_far tokens (spaced_before text end (length (bytes_of before)) _ tokens (
    λ to count space. (count, gap_before text (bytes_of before) bytes rest to count is stands space)) spaced)
spaced_with text end before sort.LineEnd bytes rest is stands so_far tokens spaced =
    subst (λ (drafts : List Draft). IsSpacedUpTo text end 0 (tokens_in drafts ++ tokens)) (
    sym (lines-line_end (are_closed (brackets_of before)) (ended_lines before) (begun_line before))) (
    so_far tokens (spaced_before text end (length (bytes_of before)) _ tokens (
    λ to count space. (suc count, line_end_before text (bytes_of before) bytes rest to count is stands space)) spaced))
spaced_with text end before (sort.Token kind) bytes rest is stands so_far tokens spaced =
    let token : Token = token_of before kind bytes in
    let first : HasSpace text (length (bytes_of before)) token.start 0 = no_space text (length (bytes_of before)) in
    subst (IsSpacedUpTo text end 0) (
    sym (append_assoc (tokens_in (drafts_of before)) (token ∷ []) tokens)
    ∙ ap (λ (prefix : List Token). prefix ++ tokens) (
    sym (tokens-continued (line_of before) (last_line (bytes_of before)) (ended_lines before) (begun_line before) token))) (
    so_far (token ∷ tokens) ((0, first), spaced))

pub spaced : (text : List ℕ) (end : ℕ) (before : List Lexeme) (rest : List ℕ) → Reads text before rest
    → (tokens : List Token) → IsSpacedUpTo text end (length (bytes_of before)) tokens → IsSpacedUpTo text end 0 (tokens_in (drafts_of before) ++ tokens)
spaced text end [] rest read tokens after = after
spaced text end (lexeme ∷ before) rest read tokens after =
    let last = read_one text lexeme before rest read in
    spaced_with text end before lexeme.sort lexeme.bytes rest (whole text before (lexeme.bytes ++ rest) last.0) last.1 (
    spaced text end before (lexeme.bytes ++ rest) last.0) tokens (
    subst (λ (position : ℕ). IsSpacedUpTo text end position tokens) (length-append (bytes_of before) lexeme.bytes) after)

-- space is between all tokens
pub all_spaced : (text : List ℕ) (before : List Lexeme) → Reads text before [] → IsSpaced text 0 (tokens_in (drafts_of before))
all_spaced text before read =
    let all : length text ≡ length (bytes_of before) = ap length (whole text before [] read ∙ append-nil (bytes_of before)) in
    let nothing : HasSpace text (length (bytes_of before)) (length text) 0 =
    subst (λ (position : ℕ). HasSpace text position (length text) 0) all (no_space text (length text)) in
    subst (IsSpaced text 0) (append-nil (tokens_in (drafts_of before))) (spaced text (length text) before [] read [] (0, nothing))
