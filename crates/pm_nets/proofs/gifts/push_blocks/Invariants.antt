use Rattle.std.proofs.Common.{◌≡◌, ◌++◌, drop}
use Rattle.std.specs.Prelude.{IsTrue}
use Rattle.std.specs.List.{list_all}
use Rattle.pm_design.specs.declared.design.Design.{Design}
use Rattle.pm_design.specs.declared.design.Kind.{Kind}
use Rattle.pm_design.specs.Lookups.{lies_within}
use Rattle.pm_design.specs.Sound.{is_sound_block}
use Rattle.pm_nets.specs.Givers.{block_gifts}
use Rattle.pm_nets.proofs.gifts.push_blocks.Given as goal

abbrev pub invariant-loop-block : goal.invariant-loop-block
invariant-loop-block l = record {
  number : l.number ≡ l.block-index;
  gifts : l.gifts.items ++ block_gifts l.block-index (drop l.block-index l.blocks)
      ≡ l.fn.gifts.items ++ block_gifts 0 l.blocks;
  within : (design : Design) (kind : Kind) → IsTrue (list_all (is_sound_block design kind) l.blocks) →
      IsTrue (list_all (λ g. lies_within design kind g.part)
      (block_gifts l.block-index (drop l.block-index l.blocks))) →
      IsTrue (list_all (λ g. lies_within design kind g.part) (block_gifts 0 l.blocks));
}
