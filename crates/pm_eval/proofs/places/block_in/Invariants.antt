use Rattle.std.proofs.Common.{◌≡◌, drop}
use Rattle.pm_elab.specs.Expressions.{block_from}
use Rattle.pm_eval.proofs.places.block_in.Given as goal

abbrev pub invariant-loop-block : goal.invariant-loop-block
invariant-loop-block l = block_from l.number (drop l.block-index l.blocks) l.name ≡ block_from 0 l.blocks l.name
