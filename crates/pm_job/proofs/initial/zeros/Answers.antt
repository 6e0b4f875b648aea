use Rattle.pm_job.proofs.Zeros.{wide_from, zeros_more}
use Rattle.pm_job.proofs.initial.zeros.Goals as goal

pub zero-requires : goal.zero-requires
zero-requires c =
    (wide_from c.args.signals.now c.loop-signal.signal-index c.signal-item.result c.loop-signal-test.true c.signal-item.is c.loop-signal.invariant.wide).0

pub loop-signal-preserved : goal.loop-signal-preserved
loop-signal-preserved c = record {
  done = zeros_more c.args.signals.now c.loop-signal.signal-index c.signal-item.result c.loop-signal.values.items c.push.new.self.items c.zero.result c.loop-signal-test.true
      c.signal-item.is c.zero.ensures c.in_ok-push.ensures.items c.loop-signal.invariant.done;
  wide = (wide_from c.args.signals.now c.loop-signal.signal-index c.signal-item.result c.loop-signal-test.true c.signal-item.is c.loop-signal.invariant.wide).1;
}
