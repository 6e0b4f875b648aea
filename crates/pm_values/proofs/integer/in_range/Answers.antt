use Rattle.std.proofs.Common.{◌∙◌, subst}
use Rattle.std.proofs.lemmas.Int.{to_z-of_z}
use Rattle.std.specs.Prelude.{FitsSigned, OkIff}
use Rattle.std.specs.Int.{w64, w128}
use Rattle.pm_values.proofs.Ranges.{in_range_ok}
use Rattle.pm_values.proofs.integer.in_range.Goals as goal

pub returns : goal.returns
returns c =
    c.ok.ensures.value
    ∙ in_range_ok c.try_from.result c.args.number
    (subst (λ z. OkIff c.try_from.result (FitsSigned w64 z) z) (to_z-of_z w128 c.args.number c.ranges.number) c.try_from.ensures)
