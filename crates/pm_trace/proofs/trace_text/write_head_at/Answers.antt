use Rattle.std.proofs.Common.{rules}
use Rattle.pm_io.proofs.Waiting.{puts_by_flush}
use Rattle.pm_trace.specs.Trace.{head_text}
use Rattle.pm_trace.proofs.trace_text.write_head_at.Goals as goal

pub returns-2-clause-text : goal.returns-2-clause-text
returns-2-clause-text g c =
    puts_by_flush (g.K.Sink.held c.args.sink.now) (g.K.Sink.held c.queue_head_at.new.sink)
    (g.K.Sink.held c.flush.new.sink) c.args.buffer.now c.queue_head_at.new.buffer c.flush.new.self
    (head_text c.args.names.now) c.flush.result c.requires (search rules) c.flush.ensures.bytes
