-- The statement that each line spells.
use Rattle.std.specs.Prelude.{◌≡◌, List, [], ◌∷◌, Option, Some, None}
use Rattle.pm_syn.specs.declared.statement.Stmt.{Stmt}
use Rattle.pm_syn.specs.declared.token.Line.{Line}
use Rattle.pm_syn.specs.declared.token.Token.{Token}
use Rattle.pm_grammar.specs.Statements.{SpellsLine}
use Rattle.pm_parse.specs.declared.entry.Entry.{Entry}

-- the tokens spell this statement, or they spell none
abbrev pub Says : List Token → Option Stmt → Type 0
Says tokens (Some statement) = SpellsLine tokens statement
Says tokens None = (statement : Stmt) → SpellsLine tokens statement → ⊥

-- the number and the column of the line, and the statement that its tokens spell
abbrev pub IsEntry : Line → Entry → Type 0
IsEntry line entry = (entry.number ≡ line.number) × (entry.column ≡ line.column) × Says line.tokens entry.statement

-- one entry for each line, in their order
abbrev pub AreEntries : List Line → List Entry → Type 0
AreEntries [] [] = Unit {0}
AreEntries [] (entry ∷ entries) = ⊥
AreEntries (line ∷ lines) [] = ⊥
AreEntries (line ∷ lines) (entry ∷ entries) = IsEntry line entry × AreEntries lines entries
