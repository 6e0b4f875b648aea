use Rattle.std.proofs.Common.{◌≤◌, ◌-◌, vec_len}
use Rattle.pm_io.proofs.host_file.read_to_limit.Given as goal

-- no more than the limit was read
abbrev pub invariant-loop-stream : goal.invariant-loop-stream
invariant-loop-stream g l = vec_len l.into ≤ l.limit

abbrev pub decreases-loop-stream : goal.decreases-loop-stream
decreases-loop-stream g l = l.limit - vec_len l.into
