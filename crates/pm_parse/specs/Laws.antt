-- That the lines of a file have exactly one answer.
use Rattle.std.specs.Prelude.{◌≡◌, List, Result}
use Rattle.pm_syn.specs.declared.statement.File.{File}
use Rattle.pm_syn.specs.declared.token.Line.{Line}
use Rattle.pm_parse.specs.Answers.{IsFileAnswer}
use Rattle.pm_parse.specs.declared.fault.ParseFault.{ParseFault}

-- lines have at most one answer
abbrev pub FilesHaveOneAnswer : Type 0
FilesHaveOneAnswer =
    (lines : List Line) (one other : Result File ParseFault)
    → IsFileAnswer lines one
    → IsFileAnswer lines other
    → one ≡ other

-- each list of lines has an answer: a file, or a fault
abbrev pub EveryListOfLinesHasAnAnswer : Type 0
EveryListOfLinesHasAnAnswer =
    (lines : List Line) → (answer : Result File ParseFault) × IsFileAnswer lines answer
