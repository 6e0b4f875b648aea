use Rattle.std.proofs.Common.{◌≡◌, ◌≤◌, [], true, drop}
use Rattle.pm_io.specs.Reading.{ahead}
use Rattle.pm_job.specs.declared.row_reader.TheConstants.{LINE_LIMIT}
use Rattle.pm_job.specs.Answers.{with_reset}
use Rattle.pm_job.specs.Progress.{Fits, GoesOn, scheduled}
use Rattle.pm_job.proofs.simulate.Simulation.follow_rows.Given as goal

-- the rows so far were printed, and the rest comes from the lines that are ahead
abbrev pub invariant-loop-count : goal.invariant-loop-count
invariant-loop-count g l = record {
  same : l.self.schedule ≡ l.fn.self.schedule;
  live : l.self.rows.lines.live ≡ true;
  limit : l.self.rows.lines.limit ≡ LINE_LIMIT;
  fits : Fits (scheduled l.fn.self.schedule) l.self.values.items l.self.rows.row.items;
  inputs : l.self.rows.row.items ≡ with_reset 0 (drop 1 l.self.rows.row.items);
  none : l.self.buffer ≡ [];
  goes : GoesOn (scheduled l.fn.self.schedule) l.fn.self.values.items l.self.values.items l.count
      (ahead l.fn.self.rows.lines.buffered (g.I.Source.left l.fn.input)) (ahead l.self.rows.lines.buffered (g.I.Source.left l.input))
      (g.O.Sink.held l.fn.output) (g.O.Sink.held l.output);
  read : g.I.Source.faults l.fn.input ≤ g.I.Source.faults l.input;
  written : g.O.Sink.faults l.fn.output ≤ g.O.Sink.faults l.output;
}
