use Rattle.pm_io.proofs.Waiting.{flushes_by_put}
use Rattle.pm_io.proofs.write_buffer.WriteBuffer.flush.Goals as goal

pub returns-clause-bytes : goal.returns-clause-bytes
returns-clause-bytes g c =
    rw (← c.self.view_is) (flushes_by_put _ _ _ _ c.put_all-written.ensures.bytes)
