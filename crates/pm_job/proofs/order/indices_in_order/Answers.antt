use Rattle.pm_job.proofs.Arrangements.{indices_of-more}
use Rattle.pm_job.proofs.order.indices_in_order.Goals as goal

pub loop-index-preserved : goal.loop-index-preserved
loop-index-preserved c = indices_of-more c.loop-index.index c.loop-index.indices.items c.push.new.self.items c.loop-index.invariant c.in_ok-push.ensures.items
