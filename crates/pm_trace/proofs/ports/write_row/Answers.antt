use Rattle.std.proofs.Common.{rules}
use Rattle.pm_io.proofs.Waiting.{puts_by_flush}
use Rattle.pm_block.specs.Stored.{at_of}
use Rattle.pm_trace.specs.Ports.{row_of}
use Rattle.pm_trace.proofs.ports.write_row.Goals as goal

pub returns-2-clause-text : goal.returns-2-clause-text
returns-2-clause-text g c =
    puts_by_flush (g.K.Sink.held c.args.sink.now) (g.K.Sink.held c.queue_row.new.sink) (g.K.Sink.held c.flush.new.sink)
    c.new-buffer.result c.queue_row.new.buffer c.flush.new.self
    (row_of c.args.plan.now c.args.cycle (at_of c.args.values.now.bits)) c.flush.result (search rules)
    (search rules) c.flush.ensures.bytes
