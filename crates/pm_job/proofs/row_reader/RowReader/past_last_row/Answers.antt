use Rattle.pm_job.proofs.Runs.{gives_end, gives_no_more, gives_one_more}
use Rattle.pm_job.proofs.row_reader.RowReader.past_last_row.Goals as goal

pub returns-in-End-clause-done : goal.returns-in-End-clause-done
returns-in-End-clause-done g c =
    λ _. gives_end c.args.self.now.lines.buffered c.next.new.self.buffered (g.I.Source.left c.args.input.now) (g.I.Source.left c.next.new.source)
    c.args.self.now.lines.limit c.next.new.self.line c.in-End.ensures.line

pub returns-in-Line-clause-past : goal.returns-in-Line-clause-past
returns-in-Line-clause-past g c = gives_one_more _ _ c.args.self.now.lines.limit c.next.new.self.line c.next.result c.in-Line.is c.next.ensures.line

pub returns-in-End-clause-past : goal.returns-in-End-clause-past
returns-in-End-clause-past g c = gives_no_more _ _ c.args.self.now.lines.limit c.next.new.self.line c.in-End.ensures.line
