-- A text is read as far as it can be.
use Rattle.std.proofs.Common.{◌≡◌, ◌≢◌, ◌∙◌, ◌+◌, ◌≤◌, ◌<◌, ◌++◌, ℕ, List, [], ◌∷◌, Option, Some, None, length, drop, ap, sym, subst, arith}
use Rattle.std.specs.List.{between}
use Rattle.std.specs.Option.{option_to_list}
use Rattle.std.proofs.Math.ListN.{drop_of_length-le}
use Rattle.std.proofs.lemmas.List.{drop-drop, length-drop, length-take, take-append-drop}
use Rattle.pm_syn.specs.Heads.{IsHead, HasNoHead}
use Rattle.pm_syn.specs.Lexemes.{Lexeme, Stands}
use Rattle.pm_syn.specs.LogicalLines.{drafts_of, ended_lines}
use Rattle.pm_syn.specs.Progress.{HasRead, IsRead}
use Rattle.pm_syn.specs.Reading.{Reads, Stops, begin, next, at_end, at_no_lexeme, at_misfit, bytes_of, brackets_of, misfit, unclosed}
use Rattle.pm_syn.specs.declared.draft.Draft.{Draft}
use Rattle.pm_syn.specs.declared.lexeme.Head.{Head}
use Rattle.pm_syn.specs.declared.lexing.ReadText.{ReadText}
use Rattle.pm_syn.specs.declared.reader.Reader.{Reader}
use Rattle.pm_syn.proofs.LineEnds.{line_ends_within}
use Rattle.pm_syn.proofs.ReadOn.{between_prefix}

-- the text was read up to a position
pub record IsReadTo (text : List ℕ) (at : ℕ) (reader : Reader) : Type 0 where
  pub within : at ≤ length text
  pub line : reader.line.number ≤ at + 1
  pub start : reader.line.start ≤ at
  pub lexemes : List Lexeme
  pub reads : Reads text lexemes (drop at text)
  pub holds : HasRead text at lexemes reader

pub read_to_start : (text : List ℕ) (reader : Reader) → ((whole : List ℕ) → HasRead whole 0 [] reader) → IsReadTo text 0 reader
read_to_start text reader holds =
    let here = holds text in
    record {
      within = omega arith;
      line = omega (arith, here.line);
      start = here.within;
      lexemes = [];
      reads = begin;
      holds = here;
    }

line_within : (text : List ℕ) (at : ℕ) (before : List Lexeme) (reader : Reader) → HasRead text at before reader → reader.line.number ≤ at + 1
line_within text at before reader here =
    let read : length (bytes_of before) ≤ at = omega (arith, ap length here.read, length-take at text) in
    omega (arith, here.line, line_ends_within (bytes_of before), read)

-- the rest is the lexeme at its start and what comes after it
rest_is : (text : List ℕ) (at count : ℕ) → drop at text ≡ between at (at + count) text ++ drop (at + count) text
rest_is text at count =
    sym (take-append-drop count (drop at text))
    ∙ ap (λ (bytes : List ℕ). bytes ++ drop count (drop at text)) (sym (between_prefix at count text))
    ∙ ap (λ (bytes : List ℕ). between at (at + count) text ++ bytes) (drop-drop count at text)

stands_there : (text : List ℕ) (at : ℕ) (head : Head) → IsHead (drop at text) head → Stands head.sort (between at (at + head.length) text) (drop (at + head.length) text)
stands_there text at head here =
    subst (λ (bytes : List ℕ). Stands head.sort (between at (at + head.length) text) bytes) (drop-drop head.length at text)
    (subst (λ (bytes : List ℕ). Stands head.sort bytes (drop head.length (drop at text))) (sym (between_prefix at head.length text)) here.stands)

head_within : (text : List ℕ) (at : ℕ) (head : Head) → at ≤ length text → IsHead (drop at text) head → at + head.length ≤ length text
head_within text at head le here = omega (arith, here.within, length-drop at text, le)

pub read_to_next : (text : List ℕ) (at : ℕ) (head : Head) (old new : Reader) → IsHead (drop at text) head
    → ((whole : List ℕ) (position : ℕ) (before : List Lexeme) → HasRead whole position before old → None ≡ misfit before (record { sort = head.sort; bytes = between at (at + head.length) text }))
    → ((before : List Lexeme) → HasRead text at before old → HasRead text (at + head.length) (record { sort = head.sort; bytes = between at (at + head.length) text } ∷ before) new)
    → IsReadTo text at old → IsReadTo text (at + head.length) new
read_to_next text at head old new here fits takes was =
    let lexeme : Lexeme = record { sort = head.sort; bytes = between at (at + head.length) text } in
    let holds = takes was.lexemes was.holds in
    record {
      within = head_within text at head was.within here;
      line = line_within text (at + head.length) (lexeme ∷ was.lexemes) new holds;
      start = holds.within;
      lexemes = lexeme ∷ was.lexemes;
      reads = next was.lexemes lexeme (drop (at + head.length) text)
          (subst (λ (rest : List ℕ). Reads text was.lexemes rest) (rest_is text at head.length) was.reads)
          (stands_there text at head here)
          (sym (fits text at was.lexemes was.holds));
      holds = holds;
    }

drafts_are : (text : List ℕ) (at : ℕ) (before : List Lexeme) (reader : Reader) → HasRead text at before reader
    → reader.ended.items ++ option_to_list reader.begun ≡ drafts_of before
drafts_are text at before reader here =
    ap (λ (drafts : List Draft). drafts ++ option_to_list reader.begun) here.ended
    ∙ ap (λ (draft : Option Draft). ended_lines before ++ option_to_list draft) here.begun

stopped_read : (text : List ℕ) (at : ℕ) (reader : Reader) (bad : Option ℕ) (reading : ReadText) → (was : IsReadTo text at reader)
    → Stops was.lexemes (drop at text) bad → (reading.drafts.items ≡ reader.ended.items ++ option_to_list reader.begun) × (reading.bad_token ≡ bad)
    → IsRead text reading
stopped_read text at reader bad reading was stops is =
    record {
      lexemes = was.lexemes;
      rest = drop at text;
      read = was.reads;
      stopped = subst (λ (line : Option ℕ). Stops was.lexemes (drop at text) line) (sym is.1) stops;
      drafts = is.0 ∙ drafts_are text at was.lexemes reader was.holds;
    }

pub read_to_no_lexeme : (text : List ℕ) (at : ℕ) (reader : Reader) (reading : ReadText) → at < length text → HasNoHead (drop at text)
    → IsReadTo text at reader → (reading.drafts.items ≡ reader.ended.items ++ option_to_list reader.begun) × (reading.bad_token ≡ Some reader.line.number)
    → IsRead text reading
read_to_no_lexeme text at reader reading lt none was is =
    let some : drop at text ≢ [] = λ (e : drop at text ≡ []). absurd (omega (arith, ap length e, length-drop at text, lt)) in
    let stops : Stops was.lexemes (drop at text) (Some reader.line.number) =
    subst (λ (line : ℕ). Stops was.lexemes (drop at text) (Some line)) (sym was.holds.line) (at_no_lexeme was.lexemes (drop at text) some none) in
    stopped_read text at reader (Some reader.line.number) reading was stops is

pub read_to_misfit : (text : List ℕ) (at : ℕ) (head : Head) (line : ℕ) (reader : Reader) (reading : ReadText) → IsHead (drop at text) head
    → ((whole : List ℕ) (position : ℕ) (before : List Lexeme) → HasRead whole position before reader → Some line ≡ misfit before (record { sort = head.sort; bytes = between at (at + head.length) text }))
    → IsReadTo text at reader → (reading.drafts.items ≡ reader.ended.items ++ option_to_list reader.begun) × (reading.bad_token ≡ Some line)
    → IsRead text reading
read_to_misfit text at head line reader reading here fails was is =
    let lexeme : Lexeme = record { sort = head.sort; bytes = between at (at + head.length) text } in
    let stops : Stops was.lexemes (drop at text) (Some line) =
    subst (λ (rest : List ℕ). Stops was.lexemes rest (Some line)) (sym (rest_is text at head.length))
    (at_misfit was.lexemes lexeme (drop (at + head.length) text) line (stands_there text at head here) (sym (fails text at was.lexemes was.holds))) in
    stopped_read text at reader (Some line) reading was stops is

pub read_to_end : (text : List ℕ) (at : ℕ) (reader : Reader) (bad : Option ℕ) (reading : ReadText) → length text ≤ at → bad ≡ unclosed reader.brackets
    → IsReadTo text at reader → (reading.drafts.items ≡ reader.ended.items ++ option_to_list reader.begun) × (reading.bad_token ≡ bad)
    → IsRead text reading
read_to_end text at reader bad reading le is_bad was is =
    let nothing : drop at text ≡ [] = drop_of_length-le text le in
    let closed : bad ≡ unclosed (brackets_of was.lexemes) = is_bad ∙ ap unclosed was.holds.brackets in
    let stops : Stops was.lexemes (drop at text) bad =
    subst (λ (rest : List ℕ). Stops was.lexemes rest bad) (sym nothing)
    (subst (λ (line : Option ℕ). Stops was.lexemes [] line) (sym closed) (at_end was.lexemes)) in
    stopped_read text at reader bad reading was stops is
