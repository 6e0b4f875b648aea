-- The first faulty line of a file, and what is wrong with it.
use Rattle.std.specs.Prelude.{nat_lt, List, [], ◌∷◌, if◌then◌else◌, Option, Some, None}
use Rattle.pm_syn.specs.declared.statement.Stmt.{Stmt}
use Rattle.pm_grammar.specs.Depths.{depth_of_statement}
use Rattle.pm_parse.specs.Forms.{line_of}
use Rattle.pm_parse.specs.Layout.{fits}
use Rattle.pm_parse.specs.declared.entry.Entry.{Entry}
use Rattle.pm_parse.specs.declared.fault.ParseFault.{ParseFault}
use Rattle.pm_parse.specs.declared.fault.ParseFault.TheVariants as fault
use Rattle.pm_parse.specs.declared.form.LineForm.{LineForm}

-- the fault of a line with this statement between these lines; or, if it has none, what the lines after it give
abbrev pub fault_or : List LineForm → Entry → List Entry → Option Stmt → (Stmt → Option ParseFault)
    → Option ParseFault
fault_or before entry after None otherwise = Some (fault.Syntax entry.number)
fault_or before entry after (Some statement) otherwise =
    if nat_lt 64 (depth_of_statement statement) then Some (fault.TooDeep entry.number)
    else if fits before (line_of entry.column statement) after then otherwise statement
    else Some (fault.Layout entry.number)

-- the first fault of lines after others, whose list has the last line first
abbrev pub fault_after : List LineForm → List Entry → Option ParseFault
fault_after before [] = None
fault_after before (entry ∷ after) =
    fault_or before entry after entry.statement
    (λ statement. fault_after (line_of entry.column statement ∷ before) after)

-- the first fault of a file's lines
abbrev pub first_fault : List Entry → Option ParseFault
first_fault entries = fault_after [] entries
