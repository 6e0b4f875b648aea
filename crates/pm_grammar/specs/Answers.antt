-- The answer for the tokens of a logical line.
use Rattle.std.specs.Prelude.{◌<◌, ◌≤◌, List, Result, Ok, Err}
use Rattle.pm_syn.specs.declared.statement.Stmt.{Stmt}
use Rattle.pm_syn.specs.declared.token.Token.{Token}
use Rattle.pm_grammar.specs.Depths.{depth_of_statement}
use Rattle.pm_grammar.specs.Statements.{SpellsLine}
use Rattle.pm_grammar.specs.declared.fault.LineFault.{LineFault}
use Rattle.pm_grammar.specs.declared.fault.LineFault.TheVariants as fault

-- the statement that the tokens spell, if no expression in it is more than 64 deep; or why there
-- is none
abbrev pub IsLineAnswer : List Token → Result Stmt LineFault → Type 0
IsLineAnswer tokens (Ok statement) =
    SpellsLine tokens statement × (depth_of_statement statement ≤ 64)
IsLineAnswer tokens (Err fault.TooDeep) =
    (statement : Stmt) × SpellsLine tokens statement × (64 < depth_of_statement statement)
IsLineAnswer tokens (Err fault.Syntax) = (statement : Stmt) → SpellsLine tokens statement → ⊥
IsLineAnswer tokens (Err fault.NoMemory) = ⊥
