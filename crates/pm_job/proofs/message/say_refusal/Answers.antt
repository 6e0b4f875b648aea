use Rattle.std.proofs.Common.{rules}
use Rattle.pm_io.proofs.Waiting.{puts_by_flush}
use Rattle.pm_job.specs.Answers.{refusal_line}
use Rattle.pm_job.proofs.message.say_refusal.Goals as goal

pub returns-2-clause-text : goal.returns-2-clause-text
returns-2-clause-text g c =
    puts_by_flush (g.E.Sink.held c.args.errors.now) (g.E.Sink.held c.queue_refusal.new.errors) (g.E.Sink.held c.flush.new.sink)
    _ c.queue_refusal.new.buffer c.flush.new.self (refusal_line c.args.line) c.flush.result c.new-buffer.ensures (search rules) c.flush.ensures.bytes
