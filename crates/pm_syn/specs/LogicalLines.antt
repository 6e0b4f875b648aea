-- The logical lines that lexemes make. A line end outside all brackets ends a logical line; a line without tokens is none.
use Rattle.std.specs.Prelude.{◌+◌, ◌==◌, ℕ, if◌then◌else◌, List, [], ◌∷◌, ◌++◌, length, Option, Some, None}
use Rattle.std.specs.List.{list_any}
use Rattle.std.specs.Option.{option_to_list}
use Rattle.pm_syn.specs.Lexemes.{Lexeme}
use Rattle.pm_syn.specs.Positions.{last_line}
use Rattle.pm_syn.specs.Reading.{bytes_of, line_of, brackets_of, are_closed}
use Rattle.pm_syn.specs.declared.draft.Draft.{Draft}
use Rattle.pm_syn.specs.declared.draft.Indentation.{Indentation}
use Rattle.pm_syn.specs.declared.draft.Indentation.TheVariants as indentation
use Rattle.pm_syn.specs.declared.lexeme.Sort.{Sort}
use Rattle.pm_syn.specs.declared.lexeme.Sort.TheVariants as sort
use Rattle.pm_syn.specs.declared.token.Line.{Line}
use Rattle.pm_syn.specs.declared.token.Token.{Token}
use Rattle.pm_syn.specs.declared.token.TokenKind.{TokenKind}

-- the indentation, by the bytes before the first token on its line
abbrev pub indentation_of : List ℕ → Indentation
indentation_of bytes = if list_any (λ byte. byte == 9) bytes then indentation.Tabbed else indentation.Blanks (length bytes)

-- the token that these bytes are after the lexemes
abbrev pub token_of : List Lexeme → TokenKind → List ℕ → Token
token_of before kind bytes =
    record { kind = kind; text = bytes; start = length (bytes_of before); end = length (bytes_of before) + length bytes }

-- the logical line that has begun, or one without tokens that begins on this line after these bytes
abbrev pub opened : ℕ → List ℕ → Option Draft → Draft
opened line indent None = record { number = line; indentation = indentation_of indent; tokens = [] }
opened line indent (Some draft) = draft

-- the logical line with one more token; the first gives it the number of its line and its indentation
abbrev pub continued : ℕ → List ℕ → Option Draft → Token → Draft
continued line indent draft token = let begun = opened line indent draft in record begun { tokens = begun.tokens ++ token ∷ [] }

-- the logical line that has begun and hasn't ended, with its tokens so far
abbrev pub begun_after : List Lexeme → List ℕ → Sort → Option Draft → Option Draft
begun_after before bytes sort.Gap draft = draft
begun_after before bytes sort.LineEnd draft = if are_closed (brackets_of before) then None else draft
begun_after before bytes (sort.Token kind) draft = Some (continued (line_of before) (last_line (bytes_of before)) draft (token_of before kind bytes))

abbrev pub begun_line : List Lexeme → Option Draft
begun_line [] = None
begun_line (lexeme ∷ before) = begun_after before lexeme.bytes lexeme.sort (begun_line before)

-- the logical lines that have ended
abbrev pub ended_after : List Lexeme → Sort → List Draft → List Draft
ended_after before sort.Gap drafts = drafts
ended_after before sort.LineEnd drafts = if are_closed (brackets_of before) then drafts ++ option_to_list (begun_line before) else drafts
ended_after before (sort.Token kind) drafts = drafts

abbrev pub ended_lines : List Lexeme → List Draft
ended_lines [] = []
ended_lines (lexeme ∷ before) = ended_after before lexeme.sort (ended_lines before)

-- all logical lines, with the one that has begun
abbrev pub drafts_of : List Lexeme → List Draft
drafts_of before = ended_lines before ++ option_to_list (begun_line before)

-- the column of a line's first token
abbrev pub column_of : Indentation → ℕ
column_of (indentation.Blanks column) = column
column_of indentation.Tabbed = 0

-- the logical line
abbrev pub line_from : Draft → Line
line_from draft = record { number = draft.number; column = column_of draft.indentation; tokens = draft.tokens }
