use Rattle.std.proofs.Common.{◌≡◌, ◌∙◌, ◌<◌, ◌+◌, ℕ, List, true, length, drop, get_or, ap, sym, subst}
use Rattle.std.specs.List.{list_all}
use Rattle.pm_job.specs.declared.component.Assignment.{Assignment}
use Rattle.pm_job.specs.Precedence.{blocks_at}
use Rattle.pm_job.specs.Sound.{assignment_fits}
use Rattle.pm_job.specs.Values.{value_widths}
use Rattle.pm_job.specs.Progress.{after_blocks}
use Rattle.pm_job.proofs.BlocksAt.{blocks_at-drop}
use Rattle.pm_job.proofs.Widths.{both}
use Rattle.pm_job.proofs.settle.settle.Goals as goal

pub run_block-requires : goal.run_block-requires
run_block-requires c =
    let blocks = c.as_slice-blocks.result.now in
    let turn = c.loop-index.index-index in
    let widths = value_widths c.loop-index.values in
    let rest = blocks_at blocks (drop (turn + 1) c.args.order.now) in
    let inside : get_or c.args.order.now turn 0 < length blocks =
    subst (λ (bs : List Assignment). get_or c.args.order.now turn 0 < length bs) (sym c.as_slice-blocks.ensures) (c.requires.indices turn 0 c.loop-index-test.true) in
    let here = blocks_at-drop blocks c.args.order.now turn c.index-blocks-index.result c.loop-index-test.true inside c.index-blocks-index.is in
    (both (assignment_fits widths c.index-blocks-index.result) (list_all (assignment_fits widths) rest)
    (subst (λ (bs : List Assignment). list_all (assignment_fits widths) bs ≡ true) here c.loop-index.invariant.typed)).0

pub loop-index-preserved : goal.loop-index-preserved
loop-index-preserved c =
    let blocks = c.as_slice-blocks.result.now in
    let turn = c.loop-index.index-index in
    let widths = value_widths c.loop-index.values in
    let rest = blocks_at blocks (drop (turn + 1) c.args.order.now) in
    let inside : get_or c.args.order.now turn 0 < length blocks =
    subst (λ (bs : List Assignment). get_or c.args.order.now turn 0 < length bs) (sym c.as_slice-blocks.ensures) (c.requires.indices turn 0 c.loop-index-test.true) in
    let here = blocks_at-drop blocks c.args.order.now turn c.index-blocks-index.result c.loop-index-test.true inside c.index-blocks-index.is in
    let fits = both (assignment_fits widths c.index-blocks-index.result) (list_all (assignment_fits widths) rest)
    (subst (λ (bs : List Assignment). list_all (assignment_fits widths) bs ≡ true) here c.loop-index.invariant.typed) in
    record {
      rest = ap (after_blocks rest) c.run_block.ensures.values
          ∙ (sym (ap (λ (bs : List Assignment). after_blocks bs c.loop-index.values) here) ∙ c.loop-index.invariant.rest);
      typed = subst (λ (ws : List ℕ). list_all (assignment_fits ws) rest ≡ true) (sym c.run_block.ensures.widths) fits.1;
      widths = c.run_block.ensures.widths ∙ c.loop-index.invariant.widths;
    }
