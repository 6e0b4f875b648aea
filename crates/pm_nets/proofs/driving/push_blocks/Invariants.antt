use Rattle.std.proofs.Common.{◌≡◌, ◌++◌, take}
use Rattle.std.specs.Prelude.{IsTrue}
use Rattle.std.specs.List.{list_all}
use Rattle.pm_design.specs.declared.design.Design.{Design}
use Rattle.pm_design.specs.declared.design.Kind.{Kind}
use Rattle.pm_design.specs.Lookups.{lies_within}
use Rattle.pm_design.specs.Sound.{is_sound_block}
use Rattle.pm_nets.specs.Drivers.{written_by}
use Rattle.pm_nets.proofs.driving.push_blocks.Given as goal

abbrev pub invariant-loop-block : goal.invariant-loop-block
invariant-loop-block l = record {
  parts : l.parts.items ≡ l.fn.parts.items ++ written_by (take l.block-index l.blocks);
  within : (design : Design) (kind : Kind) → IsTrue (list_all (is_sound_block design kind) l.blocks) →
      IsTrue (list_all (lies_within design kind) (written_by (take l.block-index l.blocks)));
}
