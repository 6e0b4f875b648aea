-- How far a text has been read, as the reader keeps it.
use Rattle.std.specs.Prelude.{◌≡◌, ◌≤◌, ◌+◌, ◌++◌, ℕ, if◌then◌else◌, List, length, take, Option, Some, None}
use Rattle.std.specs.List.{between}
use Rattle.std.specs.Option.{option_to_list}
use Rattle.pm_syn.specs.Lexemes.{Lexeme}
use Rattle.pm_syn.specs.Positions.{last_line}
use Rattle.pm_syn.specs.Reading.{Reads, Stops, bytes_of, line_of, brackets_of, sort_before, are_closed}
use Rattle.pm_syn.specs.LogicalLines.{begun_line, continued, ended_lines, drafts_of}
use Rattle.pm_syn.specs.Faults.{is_before}
use Rattle.pm_syn.specs.declared.fault.TextFault.{TextFault}
use Rattle.pm_syn.specs.declared.fault.TextFault.TheVariants as fault
use Rattle.pm_syn.specs.declared.draft.Draft.{Draft}
use Rattle.pm_syn.specs.declared.lexing.ReadText.{ReadText}
use Rattle.pm_syn.specs.declared.lexeme.Sort.{Sort}
use Rattle.pm_syn.specs.declared.lexeme.Sort.TheVariants as sort
use Rattle.pm_syn.specs.declared.reader.Reader.{Reader}

-- the reader keeps what these lexemes make, which are the text's first bytes
pub record HasRead (text : List ℕ) (at : ℕ) (before : List Lexeme) (reader : Reader) : Type 0 where
  pub read : bytes_of before ≡ take at text
  pub line : reader.line.number ≡ line_of before
  pub within : reader.line.start ≤ at
  pub start : between reader.line.start at text ≡ last_line (take at text)
  pub last : reader.last ≡ sort_before before
  pub brackets : reader.brackets ≡ brackets_of before
  pub ended : reader.ended.items ≡ ended_lines before
  pub begun : reader.begun ≡ begun_line before

-- the text was read as far as it can be
pub record IsRead (text : List ℕ) (reading : ReadText) : Type 0 where
  pub lexemes : List Lexeme
  pub rest : List ℕ
  pub read : Reads text lexemes rest
  pub stopped : Stops lexemes rest reading.bad_token
  pub drafts : reading.drafts.items ≡ drafts_of lexemes

-- the fault of the bad token, unless the line fault is on an earlier line
abbrev pub named : Option ℕ → Option TextFault → Option TextFault
named None line_fault = line_fault
named (Some line) None = Some (fault.BadToken line)
named (Some line) (Some line_fault) = if is_before line_fault line then Some line_fault else Some (fault.BadToken line)

-- ---- the steps of the reader

-- the logical lines that have ended after a line end
abbrev pub ended_after_line_end : Reader → List Draft
ended_after_line_end reader = if are_closed reader.brackets then reader.ended.items ++ option_to_list reader.begun else reader.ended.items

-- the logical line that has begun and hasn't ended after a line end
abbrev pub begun_after_line_end : Reader → Option Draft
begun_after_line_end reader = if are_closed reader.brackets then None else reader.begun

-- everything but the logical lines is the same
abbrev pub IsElsewhereSame : Reader → Reader → Type 0
IsElsewhereSame old new = (new.line ≡ old.line) × (new.last ≡ old.last) × (new.brackets ≡ old.brackets)

-- the logical lines that have ended after a lexeme
abbrev pub ended_with : Sort → Reader → List Draft
ended_with sort.Gap reader = reader.ended.items
ended_with sort.LineEnd reader = ended_after_line_end reader
ended_with (sort.Token kind) reader = reader.ended.items

-- the logical line that has begun and hasn't ended after a lexeme at this position
abbrev pub begun_with : Sort → ℕ → List ℕ → List ℕ → Reader → Option Draft
begun_with sort.Gap at indent bytes reader = reader.begun
begun_with sort.LineEnd at indent bytes reader = begun_after_line_end reader
begun_with (sort.Token kind) at indent bytes reader =
    Some (continued reader.line.number indent reader.begun (record { kind = kind; text = bytes; start = at; end = at + length bytes }))
