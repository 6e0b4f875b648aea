use Rattle.std.proofs.Common.{◌≡◌, ◌∙◌, ◌+◌, ◌++◌, ℕ, List, ap, ap₂, get_or}
use Rattle.pm_design.specs.declared.body.Block.{Block}
use Rattle.pm_design.specs.declared.connection.Part.{Part}
use Rattle.pm_nets.specs.declared.giver.Source.TheVariants as source
use Rattle.pm_nets.specs.Givers.{block_gifts, given_by}
use Rattle.pm_nets.specs.Written.{written_in}
use Rattle.pm_nets.proofs.GiftLists.{block_more, block_within}
use Rattle.pm_nets.proofs.gifts.push_blocks.Goals as goal

pub loop-block-preserved : goal.loop-block-preserved
loop-block-preserved c =
    let body : c.as_slice.result.now ≡ (get_or c.args.blocks.now c.loop-block.block-index c.block-item.result).body =
    c.as_slice.ensures ∙ ap (λ (b : Block). b.body) c.block-item.is in
    record {
      number = ap (λ (n : ℕ). n + 1) c.loop-block.invariant.number;
      gifts = block_more c.args.blocks.now c.loop-block.block-index c.loop-block.gifts.items
          c.push_given.new.gifts.items _
          c.block-item.result c.loop-block-test.true c.block-item.is c.loop-block.invariant.gifts
          (c.in_ok-push_given.ensures
          ∙ ap₂ (λ (n : ℕ) (ps : List Part). c.loop-block.gifts.items ++ given_by (source.Block n) ps)
          c.loop-block.invariant.number
          (c.as_slice-in-loop-block.ensures.value
          ∙ (c.in_ok-parts.ensures.parts ∙ ap written_in c.as_slice.ensures)));
      within =
          λ design kind sound rest. block_within design kind c.args.blocks.now c.loop-block.block-index
          c.block-item.result
          c.as_slice.result.now c.in_ok-parts.parts.items
          (block_gifts 0 c.args.blocks.now) sound c.loop-block-test.true body c.in_ok-parts.ensures.parts
          c.in_ok-parts.ensures.sound (c.loop-block.invariant.within design kind sound) rest;
    }
