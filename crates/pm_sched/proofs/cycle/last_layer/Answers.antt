use Rattle.std.proofs.Common.{◌<◌, sym, ◌∙◌, arith}
use Rattle.pm_sched.specs.Tables.{precedence_in}
use Rattle.pm_sched.proofs.Layers.{next_layers, layer_tells, none_shorter}
use Rattle.pm_sched.proofs.cycle.last_layer.Goals as goal

pub loop-layer-preserved : goal.loop-layer-preserved
loop-layer-preserved c =
    let inside : c.loop-layer.layer < c.args.predecessors.now.rows = omega (arith, c.loop-layer-test.true, c.rows-layer-end.ensures) in
    let layers = c.loop-layer.invariant.layers inside in
    record {
      rows = c.next_layer.ensures.rows ∙ c.loop-layer.invariant.rows;
      columns = c.next_layer.ensures.columns ∙ c.loop-layer.invariant.columns;
      layers = λ more. next_layers c.args.predecessors.now c.loop-layer.layers c.next_layer.new.layers c.args.block c.loop-layer.layer layers
          (c.next_layer.ensures.added (omega (arith, more, c.loop-layer.invariant.rows)));
      shorter = none_shorter (precedence_in c.args.predecessors.now) c.args.block c.loop-layer.layer c.loop-layer.invariant.shorter
          (sym (layer_tells c.args.predecessors.now c.loop-layer.layers c.args.block c.loop-layer.layer layers) ∙ (sym c.has.ensures ∙ c.if-has.false));
    }
