-- Proof that space before a token, and the token, can be read.
use Rattle.std.proofs.Common.{◌≡◌, ◌⊎◌, ◌<◌, ◌≤◌, ◌+◌, ◌-◌, ℕ, suc, Bool, true, false, if◌then◌else◌, List, [], ◌∷◌, ◌++◌, length, take, drop, Option, None, refl, inl, inr, sym, ap, subst, ◌∙◌, append-nil, append_assoc, take-append-drop, arith}
use Rattle.std.specs.List.{between}
use Rattle.std.specs.Option.{option_to_list}
use Rattle.std.proofs.lemmas.List.{drop-drop, length-append, length-drop, length-take-le}
use Rattle.std.proofs.lemmas.List.Edits.{length-between}
use Rattle.pm_syn.specs.CutLines.{IsCutFrom}
use Rattle.pm_syn.specs.Lexemes.{Lexeme, Stands}
use Rattle.pm_syn.specs.LogicalLines.{begun_line, drafts_of, ended_lines, token_of}
use Rattle.pm_syn.specs.Reading.{Reads, are_closed, bad_nesting, brackets_of, byte_of, bytes_of, is_name_after_number, line_of, misfit, nested, nesting_of, sort_before}
use Rattle.pm_syn.specs.Spaces.{HasSpace, IsSpace}
use Rattle.pm_syn.specs.declared.bracket.Bracket.{Bracket}
use Rattle.pm_syn.specs.declared.bracket.Nesting.{Nesting}
use Rattle.pm_syn.specs.declared.draft.Draft.{Draft}
use Rattle.pm_syn.specs.declared.lexeme.Sort.{Sort}
use Rattle.pm_syn.specs.declared.lexeme.Sort.TheVariants as sort
use Rattle.pm_syn.specs.declared.token.Token.{Token}
use Rattle.pm_syn.proofs.CutFromText.{lines-line_end, whole}
use Rattle.pm_syn.proofs.FirstBytes.{lexeme_begins}
use Rattle.pm_syn.proofs.MatchedBrackets.{gap_keeps, line_end_keeps}
use Rattle.pm_syn.proofs.NumbersApart.{IsLayoutSort, gap_no_name, line_end_no_name}
use Rattle.pm_syn.proofs.TokenKinds.{same_split}

-- ---- space

-- the space was read after these lexemes: no bracket is opened or closed; where no bracket is open, a line end ends the
-- logical line that has begun
pub record IsSpaceRead (text : List ℕ) (before : List Lexeme) (count : ℕ) (bytes after : List ℕ) : Type 0 where
  pub now : List Lexeme
  pub read : Reads text now after
  pub brackets : brackets_of now ≡ brackets_of before
  pub unbegun : begun_line before ≡ None → (ended_lines now ≡ ended_lines before) × (begun_line now ≡ None)
  pub inside : (count ≡ 0) ⊎ (are_closed (brackets_of before) ≡ false) → (ended_lines now ≡ ended_lines before) × (begun_line now ≡ begun_line before)
  pub ended : 0 < count → are_closed (brackets_of before) ≡ true → (ended_lines now ≡ drafts_of before) × (begun_line now ≡ None)
  pub drafts : drafts_of now ≡ drafts_of before
  pub last : ((length bytes ≡ 0) × (now ≡ before)) ⊎ ((0 < length bytes) × IsLayoutSort (sort_before now))

-- the last lexeme is this one, or a later gap or line end
last_layout : (kept : Sort) (bytes more : List ℕ) (before now : List Lexeme) → IsLayoutSort kept
    → ((length more ≡ 0) × (now ≡ record { sort = kept; bytes = bytes } ∷ before)) ⊎ ((0 < length more) × IsLayoutSort (sort_before now))
    → IsLayoutSort (sort_before now)
last_layout kept bytes more before now is (inl same) = subst IsLayoutSort (sym (ap sort_before same.1)) is
last_layout kept bytes more before now is (inr layout) = layout.1

-- a lexeme and more have a byte
some_bytes : (kept : Sort) (bytes more after : List ℕ) → Stands kept bytes after → 0 < length (bytes ++ more)
some_bytes kept bytes more after stands =
    let begun = lexeme_begins kept bytes after stands in
    omega (arith, ap length begun.2, length-append bytes more)

-- a line end, where no logical line has begun
end_unbegun : (closed : Bool) (ended : List Draft) (begun : Option Draft) → begun ≡ None
    → ((if closed then ended ++ option_to_list begun else ended) ≡ ended) × ((if closed then None else begun) ≡ None)
end_unbegun true ended begun none = (ap (λ (draft : Option Draft). ended ++ option_to_list draft) none ∙ append-nil ended, refl)
end_unbegun false ended begun none = (refl, none)

space_read : (text : List ℕ) (before : List Lexeme) (count : ℕ) (bytes after : List ℕ) → IsSpace count bytes after → Reads text before (bytes ++ after)
    → IsSpaceRead text before count bytes after
space_read text before count bytes after (IsSpace.nothing rest) read = record {
  now = before;
  read = read;
  brackets = refl;
  unbegun = λ none. (refl, none);
  inside = λ case. (refl, refl);
  ended = λ some closed. absurd (omega (arith, some));
  drafts = refl;
  last = inl (refl, refl);
}
space_read text before count bytes after (IsSpace.gap ends prefix more rest gap space) read =
    let lexeme : Lexeme = record { sort = sort.Gap; bytes = prefix } in
    let keeps : nesting_of prefix ≡ nesting_of (32 ∷ []) = gap_keeps prefix (more ++ after) gap in
    let fits : misfit before lexeme ≡ None = rw (gap_no_name (sort_before before), keeps) refl in
    let left : Reads text before (prefix ++ (more ++ after)) = subst (Reads text before) (append_assoc prefix more after) read in
    let same : brackets_of (lexeme ∷ before) ≡ brackets_of before =
    ap (λ (nests : Nesting). nested nests (line_of before) (byte_of prefix) (brackets_of before)) keeps in
    let step = space_read text (lexeme ∷ before) ends more after space (Reads.next before lexeme (more ++ after) left gap fits) in
    record {
      now = step.now;
      read = step.read;
      brackets = step.brackets ∙ same;
      unbegun = step.unbegun;
      inside = λ case. step.inside (moved (brackets_of (lexeme ∷ before)) (brackets_of before) same case);
      ended = λ some closed. step.ended some (ap are_closed same ∙ closed);
      drafts = step.drafts;
      last = inr (some_bytes sort.Gap prefix more (more ++ after) gap, last_layout sort.Gap prefix more before step.now (inl refl) step.last);
    } where
      moved : (one other : List Bracket) → one ≡ other → (ends ≡ 0) ⊎ (are_closed other ≡ false) → (ends ≡ 0) ⊎ (are_closed one ≡ false)
      moved one other same (inl none) = inl none
      moved one other same (inr opened) = inr (ap are_closed same ∙ opened)
space_read text before count bytes after (IsSpace.line_end ends prefix more rest line_end space) read =
    let lexeme : Lexeme = record { sort = sort.LineEnd; bytes = prefix } in
    let keeps : nesting_of prefix ≡ nesting_of (32 ∷ []) = line_end_keeps prefix line_end in
    let fits : misfit before lexeme ≡ None = rw (line_end_no_name (sort_before before), keeps) refl in
    let left : Reads text before (prefix ++ (more ++ after)) = subst (Reads text before) (append_assoc prefix more after) read in
    let same : brackets_of (lexeme ∷ before) ≡ brackets_of before =
    ap (λ (nests : Nesting). nested nests (line_of before) (byte_of prefix) (brackets_of before)) keeps in
    let closed_before : Bool = are_closed (brackets_of before) in
    let step = space_read text (lexeme ∷ before) ends more after space (Reads.next before lexeme (more ++ after) left line_end fits) in
    record {
      now = step.now;
      read = step.read;
      brackets = step.brackets ∙ same;
      unbegun = λ none. (
          let end = end_unbegun (are_closed (brackets_of before)) (ended_lines before) (begun_line before) none in
          let later = step.unbegun end.1 in
          (later.0 ∙ end.0, later.1)
          );
      inside = λ case. inside_open step case;
      ended = λ some closed. (
          let ended : ended_lines (lexeme ∷ before) ≡ drafts_of before =
          ap (λ (test : Bool). if test then ended_lines before ++ option_to_list (begun_line before) else ended_lines before) closed in
          let begun : begun_line (lexeme ∷ before) ≡ None = ap (λ (test : Bool). if test then None else begun_line before) closed in
          let later = step.unbegun begun in
          (later.0 ∙ ended, later.1)
          );
      drafts = step.drafts ∙ lines-line_end (are_closed (brackets_of before)) (ended_lines before) (begun_line before);
      last = inr (some_bytes sort.LineEnd prefix more (more ++ after) line_end, last_layout sort.LineEnd prefix more before step.now (inr refl) step.last);
    } where
      inside_open : (step : IsSpaceRead text (record { sort = sort.LineEnd; bytes = prefix } ∷ before) ends more after)
          → (suc ends ≡ 0) ⊎ (are_closed (brackets_of before) ≡ false)
          → (ended_lines step.now ≡ ended_lines before) × (begun_line step.now ≡ begun_line before)
      inside_open step (inl none) = absurd (omega (arith, none))
      inside_open step (inr opened) =
          let ended : ended_lines (record { sort = sort.LineEnd; bytes = prefix } ∷ before) ≡ ended_lines before =
          ap (λ (test : Bool). if test then ended_lines before ++ option_to_list (begun_line before) else ended_lines before) opened in
          let begun : begun_line (record { sort = sort.LineEnd; bytes = prefix } ∷ before) ≡ begun_line before =
          ap (λ (test : Bool). if test then None else begun_line before) opened in
          let same : brackets_of (record { sort = sort.LineEnd; bytes = prefix } ∷ before) ≡ brackets_of before =
          ap (λ (nests : Nesting). nested nests (line_of before) (byte_of prefix) (brackets_of before)) (line_end_keeps prefix line_end) in
          let later = step.inside (inr (ap are_closed same ∙ opened)) in
          (later.0 ∙ ended, later.1 ∙ begun)

-- the rest of a text is what is before a position, and the rest from there
pub rest_split : (text : List ℕ) (start end : ℕ) → start ≤ end → drop start text ≡ between start end text ++ drop end text
rest_split text start end le =
    let there : start + (end - start) ≡ end = omega (arith, le) in
    sym (take-append-drop (end - start) (drop start text))
    ∙ ap (λ (part : List ℕ). between start end text ++ part) (drop-drop (end - start) start text ∙ ap (λ (n : ℕ). drop n text) there)

-- the space between two positions was read
pub space_there : (text : List ℕ) (before : List Lexeme) (start end count : ℕ) → HasSpace text start end count → Reads text before (drop start text)
    → IsSpaceRead text before count (between start end text) (drop end text)
space_there text before start end count space read =
    space_read text before count (between start end text) (drop end text) space.1 (subst (Reads text before) (rest_split text start end space.0) read)

-- ---- tokens

-- what was read up to a position
pub read_up_to : (text : List ℕ) (before : List Lexeme) (position : ℕ) → position ≤ length text → Reads text before (drop position text)
    → bytes_of before ≡ take position text
read_up_to text before position within read =
    let all : text ≡ bytes_of before ++ drop position text = whole text before (drop position text) read in
    let counted : length (bytes_of before) ≡ length (take position text) =
    omega (arith, ap length all, length-append (bytes_of before) (drop position text), length-drop position text, length-take-le position text within, within) in
    (same_split (bytes_of before) (take position text) (drop position text) (drop position text) counted (sym all ∙ sym (take-append-drop position text))).0

-- the token was read after these lexemes
pub record IsTokenRead (text : List ℕ) (before : List Lexeme) (token : Token) : Type 0 where
  pub read : Reads text (record { sort = sort.Token token.kind; bytes = token.text } ∷ before) (drop token.end text)
  pub same : token_of before token.kind token.text ≡ token

pub token_there : (text : List ℕ) (before : List Lexeme) (token : Token) → IsCutFrom text token → Reads text before (drop token.start text)
    → is_name_after_number (sort_before before) (sort.Token token.kind) ≡ false
    → bad_nesting (nesting_of token.text) (line_of before) (byte_of token.text) (brackets_of before) ≡ None
    → IsTokenRead text before token
token_there text before token cut read no_name fits =
    let some : token.start ≤ token.end = (let less = cut.some in omega (arith, less)) in
    let start : token.start ≤ length text = omega (arith, some, cut.within) in
    let split : drop token.start text ≡ token.text ++ drop token.end text =
    rest_split text token.start token.end some ∙ ap (λ (part : List ℕ). part ++ drop token.end text) (sym cut.bytes) in
    let counted : length token.text ≡ token.end - token.start =
    ap length cut.bytes ∙ length-between text token.start token.end cut.within in
    let begins : length (bytes_of before) ≡ token.start =
    ap length (read_up_to text before token.start start read) ∙ length-take-le token.start text start in
    let ends : token.start + length token.text ≡ token.end = omega (arith, counted, some) in
    record {
      read = Reads.next before (record { sort = sort.Token token.kind; bytes = token.text }) (drop token.end text) (
          subst (Reads text before) split read) (cut.longest, cut.width) (rw (no_name, fits) refl);
      same =
          ap (λ (n : ℕ). let made : Token = record { kind = token.kind; text = token.text; start = n; end = n + length token.text } in made) begins
          ∙ ap (λ (n : ℕ). let made : Token = record { kind = token.kind; text = token.text; start = token.start; end = n } in made) ends;
    }
