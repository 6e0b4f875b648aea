use Rattle.std.proofs.Common.{◌∙◌, ap, rules}
use Rattle.std.specs.Prelude.{FitsSigned}
use Rattle.std.specs.Int.{w64}
use Rattle.pm_values.specs.Ranges.{is_filled}
use Rattle.pm_values.proofs.Steps.{tested_up, tested_down}
use Rattle.pm_values.proofs.range.Range.goes_on.Goals as goal

pub returns-then-self-gt0 : goal.returns-then-self-gt0
returns-then-self-gt0 c =
    let r = c.self.inside in
    let next : FitsSigned w64 r.next = search rules in
    let stop : FitsSigned w64 r.stop = search rules in
    let step : FitsSigned w64 r.step = search rules in
    tested_up r.next r.stop r.step c.self.invariant next stop step c.if-self-gt0.true ∙ ap is_filled c.self.view_is

pub returns-else-self-gt0 : goal.returns-else-self-gt0
returns-else-self-gt0 c =
    let r = c.self.inside in
    let next : FitsSigned w64 r.next = search rules in
    let stop : FitsSigned w64 r.stop = search rules in
    let step : FitsSigned w64 r.step = search rules in
    tested_down r.next r.stop r.step c.self.invariant next stop step c.if-self-gt0.false ∙ ap is_filled c.self.view_is
