use Rattle.std.proofs.Common.{◌∙◌, sym, ap, rules}
use Rattle.std.specs.Prelude.{FitsSigned}
use Rattle.std.specs.Int.{w64}
use Rattle.pm_values.specs.Ranges.{is_filled}
use Rattle.pm_values.proofs.Steps.{taken}
use Rattle.pm_values.proofs.range.Range.next.Goals as goal

pub returns : goal.returns
returns c =
    let r = c.self.inside in
    let next : FitsSigned w64 r.next = search rules in
    let stop : FitsSigned w64 r.stop = search rules in
    let step : FitsSigned w64 r.step = search rules in
    sym c.self.view_is
    ∙ taken r.next r.stop r.step c.unwrap_or-self-inside.result c.checked_add.result c.self.invariant next stop step (record { sfits = c.unwrap_or-self-inside.type_inv })
    c.checked_add.ensures c.unwrap_or-self-inside.ensures (c.if-not-goes_on.ensures ∙ ap is_filled (sym c.self.view_is))
