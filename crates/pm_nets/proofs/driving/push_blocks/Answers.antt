use Rattle.std.proofs.Common.{◌≡◌, ◌∙◌, ◌++◌, List, ap, get_or}
use Rattle.pm_design.specs.declared.body.Block.{Block}
use Rattle.pm_design.specs.declared.body.St.{St}
use Rattle.pm_nets.specs.Written.{written_in}
use Rattle.pm_nets.proofs.DrivenParts.{block_writes, blocks_more, within_more}
use Rattle.pm_nets.proofs.driving.push_blocks.Goals as goal

pub loop-block-preserved : goal.loop-block-preserved
loop-block-preserved c =
    let body : c.as_slice.result.now ≡ (get_or c.args.blocks.now c.loop-block.block-index c.block-item.result).body =
    c.as_slice.ensures ∙ ap (λ (b : Block). b.body) c.block-item.is in
    record {
      parts = blocks_more c.args.blocks.now c.loop-block.block-index c.block-item.result c.args.parts.now.items
          c.loop-block.parts.items c.push_body.new.found.items c.loop-block-test.true c.loop-block.invariant.parts
          (c.in_ok-push_body.ensures.parts ∙ ap (λ (l : List St). c.loop-block.parts.items ++ written_in l) body);
      within =
          λ design kind sound. within_more design kind c.args.blocks.now c.loop-block.block-index c.block-item.result
          c.loop-block-test.true (c.loop-block.invariant.within design kind sound)
          (block_writes design kind c.args.blocks.now c.loop-block.block-index c.block-item.result
          c.as_slice.result.now sound
          c.loop-block-test.true body c.in_ok-push_body.ensures.sound);
    }
