use Rattle.std.proofs.Common.{◌∙◌, sym, ap, [], drop, ℕ, List}
use Rattle.std.proofs.lemmas.List.{at_drop_more}
use Rattle.pm_trace.specs.Rows.{filled}
use Rattle.pm_trace.proofs.row.fill.Goals as goal

pub returns-in-None : goal.returns-in-None
returns-in-None c =
    let inputs = c.args.inputs.now in
    sym (at_drop_more (λ more. filled more [] c.inputs.row) inputs c.inputs.input-index 0 c.inputs-test.true)
    ∙ ap (λ (words : List (List ℕ)). filled (drop c.inputs.input-index inputs) words c.inputs.row)
    (sym c.in-None.ensures)
    ∙ c.inputs.invariant
