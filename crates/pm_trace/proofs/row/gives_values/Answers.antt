use Rattle.std.proofs.Common.{◌∙◌, sym, ap, [], drop}
use Rattle.std.proofs.lemmas.List.{at_drop_more}
use Rattle.pm_trace.specs.Rows.{give_values}
use Rattle.pm_trace.proofs.row.gives_values.Goals as goal

pub returns-in-None : goal.returns-in-None
returns-in-None c =
    let inputs = c.args.inputs.now in
    let row = c.args.row.now in
    sym (at_drop_more (λ more. give_values row more []) inputs c.inputs.input-index 0 c.inputs-test.true)
    ∙ ap (give_values row (drop c.inputs.input-index inputs)) (sym c.in-None.ensures) ∙ c.inputs.invariant
