use Rattle.std.proofs.Common.{◌<◌, ℕ, length, slice_index, ap, subst, sym, arith}
use Rattle.pm_sched.proofs.Filling.{list_of, listed_known, more_filled, all_filled}
use Rattle.pm_sched.proofs.predecessors.predecessors_of.Goals as goal

pub set_column-requires-clause-rows : goal.set_column-requires-clause-rows
set_column-requires-clause-rows c = λ i lt.
    subst (λ (n : ℕ). slice_index c.as_slice-in-loop-block.result.now i < n) (sym c.loop-block.invariant.rows)
    (listed_known c.args.edges.now c.requires c.loop-block.block c.as_slice-in-loop-block.result.now
    (list_of c.args.edges.now c.loop-block.block c.as_slice.result.now c.index-as_slice-block.result
    c.as_slice-in-loop-block.result.now (omega (arith, ap length c.as_slice.ensures, c.requires.rows)) c.as_slice.ensures c.index-as_slice-block.is
    c.as_slice-in-loop-block.ensures) i lt)

pub loop-block-preserved : goal.loop-block-preserved
loop-block-preserved c = more_filled c.args.edges.now c.loop-block.table c.set_column.new.table c.loop-block.block c.as_slice-in-loop-block.result.now c.loop-block.invariant
    (list_of c.args.edges.now c.loop-block.block c.as_slice.result.now c.index-as_slice-block.result
    c.as_slice-in-loop-block.result.now (omega (arith, ap length c.as_slice.ensures, c.requires.rows)) c.as_slice.ensures c.index-as_slice-block.is
    c.as_slice-in-loop-block.ensures) c.set_column.ensures

pub returns-clause-bits : goal.returns-clause-bits
returns-clause-bits c = all_filled c.args.edges.now c.loop-block.table c.loop-block.block c.requires c.loop-block-test.false c.loop-block.invariant
