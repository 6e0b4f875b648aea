use Rattle.std.proofs.Common.{arith}
use Rattle.pm_job.proofs.Widths.{assignment_fits_here, after_block-widths}
use Rattle.pm_job.proofs.settle.run_block.Goals as goal

pub expression_value-requires : goal.expression_value-requires
expression_value-requires c = (assignment_fits_here c.args.values.now c.args.block.now c.requires).1

pub offset_bounds-values-block : goal.offset_bounds-values-block
offset_bounds-values-block c = let here = assignment_fits_here c.args.values.now c.args.block.now c.requires in omega (arith, here.0)

pub bounds-values-block : goal.bounds-values-block
bounds-values-block c = (assignment_fits_here c.args.values.now c.args.block.now c.requires).0

pub returns-clause-widths : goal.returns-clause-widths
returns-clause-widths c = rw c.expression_value.ensures (after_block-widths c.args.values.now c.args.block.now c.requires)
