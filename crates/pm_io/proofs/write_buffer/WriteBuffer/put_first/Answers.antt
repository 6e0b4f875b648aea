use Rattle.pm_io.proofs.Waiting.{queues_by_put}
use Rattle.pm_io.proofs.write_buffer.WriteBuffer.put_first.Goals as goal

pub returns-clause-bytes : goal.returns-clause-bytes
returns-clause-bytes g c = queues_by_put _ _ _ _ _ c.requires c.put_all.ensures.bytes
