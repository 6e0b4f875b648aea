use Rattle.std.proofs.Common.{rules, ◌-◌, ◌*◌, ◌/◌, ◌%◌, ◌^◌, [], ◌∷◌, arith}
use Rattle.std.specs.Prelude.{codes, slice_index}
use Rattle.pm_trace.specs.Trace.{hex_digits}
use Rattle.pm_trace.proofs.Columns.{queued_more, queued_failed, hex_digits-next}
use Rattle.pm_trace.proofs.trace_text.queue_hex.Goals as goal

pub returns-in-loop-left-clause-text : goal.returns-in-loop-left-clause-text
returns-in-loop-left-clause-text g c =
    let digit = slice_index (codes "0123456789abcdef") (c.args.number / 2 ^ (4 * (c.loop-left.left - 1)) % 16) in
    queued_failed (g.K.Sink.held c.args.sink.now) (g.K.Sink.held c.loop-left.sink) (g.K.Sink.held c.put.new.sink)
    c.args.buffer.now c.loop-left.buffer c.put.new.self (digit ∷ []) (hex_digits c.loop-left.left c.args.number)
    (hex_digits (c.loop-left.left - 1) c.args.number) (hex_digits c.args.count c.args.number)
    c.loop-left.invariant.done (hex_digits-next c.loop-left.left c.args.number c.loop-left-test.true) (search rules)

pub loop-left-preserved : goal.loop-left-preserved
loop-left-preserved g c =
    let digit = slice_index (codes "0123456789abcdef") (c.args.number / 2 ^ (4 * (c.loop-left.left - 1)) % 16) in
    record {
      done = queued_more (g.K.Sink.held c.args.sink.now) (g.K.Sink.held c.loop-left.sink) (g.K.Sink.held c.put.new.sink)
          c.args.buffer.now c.loop-left.buffer c.put.new.self (digit ∷ []) (hex_digits c.loop-left.left c.args.number)
          (hex_digits (c.loop-left.left - 1) c.args.number) (hex_digits c.args.count c.args.number)
          c.loop-left.invariant.done (hex_digits-next c.loop-left.left c.args.number c.loop-left-test.true)
          (search rules);
      few = omega (arith, c.loop-left.invariant.few);
      later = omega (arith, c.put.ensures.cause.later, c.loop-left.invariant.later);
    }
