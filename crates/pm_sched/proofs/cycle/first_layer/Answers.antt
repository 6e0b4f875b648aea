use Rattle.std.proofs.Common.{sym, ◌∙◌}
use Rattle.pm_sched.proofs.Layers.{first_layers}
use Rattle.pm_sched.proofs.cycle.first_layer.Goals as goal

pub returns : goal.returns
returns c = first_layers c.args.predecessors.now c.in_ok-layers.layers c.add_row_of.new.self c.args.block
    (record { rows_are = c.in_ok-layers.ensures.rows_are ∙ c.rows-count.ensures; columns_are = c.in_ok-layers.ensures.columns_are ∙ (c.rows-count.ensures ∙ sym c.requires.square); clear = c.in_ok-layers.ensures.clear })
    c.add_row_of.ensures
