-- The answer to the lines of a file.
use Rattle.std.specs.Prelude.{◌≡◌, List, Some, None, Result, Ok, Err}
use Rattle.pm_syn.specs.declared.statement.File.{File}
use Rattle.pm_syn.specs.declared.token.Line.{Line}
use Rattle.pm_parse.specs.Entries.{AreEntries}
use Rattle.pm_parse.specs.Faults.{first_fault}
use Rattle.pm_parse.specs.Skipped.{kept}
use Rattle.pm_parse.specs.Trees.{AreTrees}
use Rattle.pm_parse.specs.declared.entry.Entry.{Entry}
use Rattle.pm_parse.specs.declared.fault.ParseFault.{ParseFault}

-- the trees of lines without a fault, or the first fault
abbrev pub IsAnswerTo : List Entry → Result File ParseFault → Type 0
IsAnswerTo entries (Ok file) = (first_fault entries ≡ None) × AreTrees entries file.nodes
IsAnswerTo entries (Err fault) = first_fault entries ≡ Some fault

-- the same, for the statements of the lines that aren't skipped
abbrev pub IsFileAnswer : List Line → Result File ParseFault → Type 0
IsFileAnswer lines answer = (entries : List Entry) × AreEntries (kept lines) entries × IsAnswerTo entries answer
