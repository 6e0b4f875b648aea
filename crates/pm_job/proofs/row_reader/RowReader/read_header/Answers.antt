use Rattle.std.proofs.Common.{◌∙◌, sym}
use Rattle.std.proofs.lemmas.Bool.{false≢true}
use Rattle.pm_job.proofs.Runs.{gives_header, gives_no_header, gives_long_header, gives_empty_header, gives_no_line}
use Rattle.pm_job.proofs.row_reader.RowReader.read_header.Goals as goal

pub returns-then-is_header-clause-header : goal.returns-then-is_header-clause-header
returns-then-is_header-clause-header g c =
    gives_header c.args.component.now _ _ c.args.self.now.lines.limit c.next.new.self.line c.requires.limit c.in-Line.ensures.line
    (sym c.line.ensures ∙ c.is_header.ensures.0 c.if-is_header.true)

pub returns-else-is_header-clause-header : goal.returns-else-is_header-clause-header
returns-else-is_header-clause-header g c =
    gives_no_header c.args.component.now _ _ c.args.self.now.lines.limit c.next.new.self.line c.requires.limit c.in-Line.ensures.line
    (λ same. false≢true (sym c.if-is_header.false ∙ c.is_header.ensures.1 (c.line.ensures ∙ same)))

pub returns-then-is_header-2-clause-header : goal.returns-then-is_header-2-clause-header
returns-then-is_header-2-clause-header g c =
    gives_empty_header c.args.component.now _ _ c.args.self.now.lines.limit c.next.new.self.line c.in-End.ensures.line
    (sym c.as_slice.ensures ∙ c.is_header-in-End.ensures.0 c.if-is_header-2.true)

pub returns-else-is_header-2-clause-header : goal.returns-else-is_header-2-clause-header
returns-else-is_header-2-clause-header g c =
    gives_no_line c.args.component.now _ _ c.args.self.now.lines.limit c.next.new.self.line c.in-End.ensures.line
    (λ same. false≢true (sym c.if-is_header-2.false ∙ c.is_header-in-End.ensures.1 (c.as_slice.ensures ∙ same)))

pub returns-in-TooLong-clause-header : goal.returns-in-TooLong-clause-header
returns-in-TooLong-clause-header g c =
    gives_long_header c.args.component.now _ _ c.args.self.now.lines.limit c.next.new.self.line c.requires.limit c.in-TooLong.ensures.line
