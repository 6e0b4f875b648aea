use Rattle.pm_io.proofs.KnownBytes.{grows_in_longer}
use Rattle.pm_io.proofs.Waiting.{queues_after}
use Rattle.pm_io.proofs.write_buffer.WriteBuffer.put.Goals as goal

pub returns-in-Failed-clause-bytes : goal.returns-in-Failed-clause-bytes
returns-in-Failed-clause-bytes g c = grows_in_longer _ _ _ _ c.in-Failed.ensures.bytes

pub returns-clause-bytes : goal.returns-clause-bytes
returns-clause-bytes g c =
    queues_after _ _ _ _ _ _ _ _ c.in-All.ensures.bytes.0 c.in-All.ensures.bytes.1 c.put_first.ensures.bytes
