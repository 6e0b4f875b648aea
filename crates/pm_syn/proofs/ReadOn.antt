-- One more lexeme is read.
use Rattle.std.proofs.Common.{◌≡◌, ◌∙◌, ◌+◌, ◌-◌, ◌≤◌, ◌++◌, ℕ, Bool, true, false, if◌then◌else◌, List, [], ◌∷◌, Option, Some, None, length, take, drop, ap, sym, subst, refl, arith}
use Rattle.std.proofs.Math.Seq.{drop-append_seam, take-add}
use Rattle.std.proofs.lemmas.List.{drop-drop, drop-take, length-take, length-append}
use Rattle.std.proofs.lemmas.List.Edits.{length-between}
use Rattle.std.specs.List.{between}
use Rattle.std.specs.Option.{option_to_list}
use Rattle.pm_syn.specs.Lexemes.{Lexeme}
use Rattle.pm_syn.specs.LogicalLines.{begun_after, begun_line, continued, ended_after, ended_lines}
use Rattle.pm_syn.specs.Positions.{has_line_end, last_line, line_ends}
use Rattle.pm_syn.specs.Progress.{HasRead, IsElsewhereSame, begun_with, ended_with}
use Rattle.pm_syn.specs.Reading.{are_closed, bytes_of, brackets_of, byte_of, line_of, nested, nesting_of}
use Rattle.pm_syn.specs.declared.bracket.Bracket.{Bracket}
use Rattle.pm_syn.specs.declared.draft.Draft.{Draft}
use Rattle.pm_syn.specs.declared.lexeme.Sort.{Sort}
use Rattle.pm_syn.specs.declared.lexeme.Sort.TheVariants as sort
use Rattle.pm_syn.specs.declared.text_line.TextLine.{TextLine}
use Rattle.pm_syn.specs.declared.reader.Reader.{Reader}
use Rattle.pm_syn.specs.declared.token.Token.{Token}
use Rattle.pm_syn.proofs.LineEnds.{line_ends-append, last_line-append_none, last_line-append_some}

-- ---- the bytes

pub between_prefix : (at count : ℕ) (text : List ℕ) → between at (at + count) text ≡ take count (drop at text)
between_prefix at count text = let same : at + count - at ≡ count = omega arith in ap (λ (n : ℕ). take n (drop at text)) same

take_on : (at count : ℕ) (text : List ℕ) → take (at + count) text ≡ take at text ++ between at (at + count) text
take_on at count text = take-add at count text ∙ ap (λ (bytes : List ℕ). take at text ++ bytes) (sym (between_prefix at count text))

length_between : (at count : ℕ) (text : List ℕ) → at + count ≤ length text → length (between at (at + count) text) ≡ count
length_between at count text fits = omega (arith, length-between text at (at + count) fits)

-- from a position on up to another, and from there on
between_on : (start at count : ℕ) (text : List ℕ) → start ≤ at → between start (at + count) text ≡ between start at text ++ between at (at + count) text
between_on start at count text le =
    let whole : at + count - start ≡ (at - start) + count = omega (arith, le) in
    let position : start + (at - start) ≡ at = omega (arith, le) in
    ap (λ (n : ℕ). take n (drop start text)) whole
    ∙ take-add (at - start) count (drop start text)
    ∙ ap (λ (bytes : List ℕ). between start at text ++ take count bytes) (drop-drop (at - start) start text ∙ ap (λ (n : ℕ). drop n text) position)
    ∙ ap (λ (bytes : List ℕ). between start at text ++ bytes) (sym (between_prefix at count text))

-- a part's end is a part
between_after : (at prefix count : ℕ) (text : List ℕ) → prefix ≤ count → between (at + prefix) (at + count) text ≡ drop prefix (between at (at + count) text)
between_after at prefix count text le =
    let rest : at + count - (at + prefix) ≡ count - prefix = omega (arith, le) in
    let whole : prefix + (count - prefix) ≡ count = omega (arith, le) in
    ap (λ (n : ℕ). take n (drop (at + prefix) text)) rest
    ∙ ap (λ (bytes : List ℕ). take (count - prefix) bytes) (sym (drop-drop prefix at text))
    ∙ sym (drop-take prefix (count - prefix) (drop at text))
    ∙ ap (λ (n : ℕ). drop prefix (take n (drop at text))) whole
    ∙ ap (λ (bytes : List ℕ). drop prefix bytes) (sym (between_prefix at count text))

-- the last line is the end of the bytes
last_line_ends : (xs : List ℕ) → (prefix : List ℕ) × (xs ≡ prefix ++ last_line xs)
last_line_ends [] = ([], refl)
last_line_ends (x ∷ xs) =
    elim (has_line_end (x ∷ xs)) as (λ (b : Bool). (prefix : List ℕ) × (x ∷ xs ≡ prefix ++ (if b then last_line xs else x ∷ xs))) [
      | true ↦ let rest = last_line_ends xs in (x ∷ rest.0, ap (λ (ys : List ℕ). x ∷ ys) rest.1)
      | false ↦ ([], refl)
    ]

last_line_drop : (xs : List ℕ) → drop (length xs - length (last_line xs)) xs ≡ last_line xs
last_line_drop xs =
    let parts = last_line_ends xs in
    let count : length xs - length (last_line xs) ≡ length parts.0 = omega (arith, ap length parts.1 ∙ length-append parts.0 (last_line xs)) in
    ap (λ (n : ℕ). drop n xs) count ∙ ap (λ (ys : List ℕ). drop (length parts.0) ys) parts.1 ∙ drop-append_seam parts.0 (last_line xs)

-- what is on the line after the bytes, where it ends in the second part or continues there
last_line_on : (start at count : ℕ) (text : List ℕ) → at + count ≤ length text → start ≤ at → between start at text ≡ last_line (take at text) → (b : Bool)
    → has_line_end (between at (at + count) text) ≡ b
    → between (if b then at + (length (between at (at + count) text) - length (last_line (between at (at + count) text))) else start) (at + count) text ≡ last_line (take (at + count) text)
last_line_on start at count text fits le same true ends =
    let ys = between at (at + count) text in
    let prefix : length ys - length (last_line ys) ≤ count = omega (arith, length_between at count text fits) in
    between_after at (length ys - length (last_line ys)) count text prefix
    ∙ last_line_drop ys
    ∙ sym (last_line-append_some (take at text) ys ends)
    ∙ ap last_line (sym (take_on at count text))
last_line_on start at count text fits le same false ends =
    let ys = between at (at + count) text in
    between_on start at count text le
    ∙ ap (λ (xs : List ℕ). xs ++ ys) same
    ∙ sym (last_line-append_none (take at text) ys ends)
    ∙ ap last_line (sym (take_on at count text))

start_within : (start at count : ℕ) (ys : List ℕ) → length ys ≡ count → start ≤ at → (b : Bool)
    → (if b then at + (length ys - length (last_line ys)) else start) ≤ at + count
start_within start at count ys is le true = omega (arith, is)
start_within start at count ys is le false = omega (arith, le)

-- ---- the logical lines

ended_on : (s : Sort) (before : List Lexeme) (old : Reader) → old.brackets ≡ brackets_of before → old.ended.items ≡ ended_lines before
    → old.begun ≡ begun_line before → ended_with s old ≡ ended_after before s (ended_lines before)
ended_on sort.Gap before old brackets ended begun = ended
ended_on (sort.Token kind) before old brackets ended begun = ended
ended_on sort.LineEnd before old brackets ended begun =
    ap (λ (b : List Bracket). if are_closed b then old.ended.items ++ option_to_list old.begun else old.ended.items) brackets
    ∙ ap (λ (d : List Draft). if are_closed (brackets_of before) then d ++ option_to_list old.begun else d) ended
    ∙ ap (λ (o : Option Draft). if are_closed (brackets_of before) then ended_lines before ++ option_to_list o else ended_lines before) begun

begun_on : (s : Sort) (at : ℕ) (indent bytes : List ℕ) (before : List Lexeme) (old : Reader) → old.brackets ≡ brackets_of before
    → old.begun ≡ begun_line before → old.line.number ≡ line_of before → indent ≡ last_line (bytes_of before) → at ≡ length (bytes_of before)
    → begun_with s at indent bytes old ≡ begun_after before bytes s (begun_line before)
begun_on sort.Gap at indent bytes before old brackets begun line is_indent is_at = begun
begun_on sort.LineEnd at indent bytes before old brackets begun line is_indent is_at =
    ap (λ (b : List Bracket). if are_closed b then None else old.begun) brackets
    ∙ ap (λ (o : Option Draft). if are_closed (brackets_of before) then None else o) begun
begun_on (sort.Token kind) at indent bytes before old brackets begun line is_indent is_at =
    let token : ℕ → Token = λ (n : ℕ). record { kind = kind; text = bytes; start = n; end = n + length bytes } in
    ap (λ (n : ℕ). Some (continued n indent old.begun (token at))) line
    ∙ ap (λ (xs : List ℕ). Some (continued (line_of before) xs old.begun (token at))) is_indent
    ∙ ap (λ (o : Option Draft). Some (continued (line_of before) (last_line (bytes_of before)) o (token at))) begun
    ∙ ap (λ (n : ℕ). Some (continued (line_of before) (last_line (bytes_of before)) (begun_line before) (token n))) is_at

-- ---- the reader

pub reads_on : (text : List ℕ) (at count : ℕ) (s : Sort) (old added new : Reader) → at + count ≤ length text → added.ended.items ≡ ended_with s old
    → added.begun ≡ begun_with s at (between old.line.start at text) (between at (at + count) text) old → IsElsewhereSame old added
    → new.brackets ≡ nested (nesting_of (between at (at + count) text)) added.line.number (byte_of (between at (at + count) text)) added.brackets
    → new.last ≡ s → new.line.number ≡ added.line.number + line_ends (between at (at + count) text)
    → new.line.start ≡ (if has_line_end (between at (at + count) text) then at + (length (between at (at + count) text) - length (last_line (between at (at + count) text))) else added.line.start)
    → new.ended.items ≡ added.ended.items → new.begun ≡ added.begun → (before : List Lexeme) → HasRead text at before old
    → HasRead text (at + count) (record { sort = s; bytes = between at (at + count) text } ∷ before) new
reads_on text at count s old added new fits ended begun same nests last line start new_ended new_begun before was =
    let ys = between at (at + count) text in
    let read : bytes_of before ++ ys ≡ take (at + count) text = ap (λ (xs : List ℕ). xs ++ ys) was.read ∙ sym (take_on at count text) in
    let number : added.line.number ≡ line_of before = ap (λ (p : TextLine). p.number) same.0 ∙ was.line in
    let is_start : new.line.start ≡ (if has_line_end ys then at + (length ys - length (last_line ys)) else old.line.start) =
    start ∙ ap (λ (p : TextLine). if has_line_end ys then at + (length ys - length (last_line ys)) else p.start) same.0 in
    let is_at : at ≡ length (bytes_of before) = omega (arith, ap length was.read, length-take at text) in
    let is_indent : between old.line.start at text ≡ last_line (bytes_of before) = was.start ∙ ap last_line (sym was.read) in
    let lines : line_of before + line_ends ys ≡ line_of (record { sort = s; bytes = ys } ∷ before) = omega (arith, line_ends-append (bytes_of before) ys) in
    record {
      read = read;
      line = line ∙ ap (λ (n : ℕ). n + line_ends ys) number ∙ lines;
      within = let P : ℕ → Type 0 = λ (n : ℕ). n ≤ at + count in subst P (sym is_start) (start_within old.line.start at count ys (length_between at count text fits) was.within (has_line_end ys));
      start = ap (λ (n : ℕ). between n (at + count) text) is_start ∙ last_line_on old.line.start at count text fits was.within was.start (has_line_end ys) refl;
      last = last;
      brackets = nests
          ∙ ap (λ (n : ℕ). nested (nesting_of ys) n (byte_of ys) added.brackets) number
          ∙ ap (λ (b : List Bracket). nested (nesting_of ys) (line_of before) (byte_of ys) b) (same.2 ∙ was.brackets);
      ended = new_ended ∙ ended ∙ ended_on s before old was.brackets was.ended was.begun;
      begun = new_begun ∙ begun ∙ begun_on s at (between old.line.start at text) ys before old was.brackets was.begun was.line is_indent is_at;
    }
