use Rattle.std.proofs.Common.{◌≡◌, ◌+◌, ◌≤◌, ◌^◌, drop}
use Rattle.pm_work.specs.Work.{block_nodes, counted, nothing_inside}
use Rattle.pm_work.proofs.nodes.count_blocks.Given as goal

abbrev pub invariant-loop-block : goal.invariant-loop-block
invariant-loop-block l =
    (l.count ≤ 2 ^ 63)
    × (counted (l.count + block_nodes nothing_inside (drop l.block-index l.blocks))
    ≡ counted (block_nodes nothing_inside l.blocks))
