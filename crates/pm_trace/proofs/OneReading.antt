-- Proof that a line is read in one way.
use Rattle.std.proofs.Common.{◌∙◌, List, refl, ap, sym}
use Rattle.pm_bits.specs.Word.{Word}
use Rattle.pm_trace.specs.Laws.{RowsHaveOneReading}
use Rattle.pm_trace.specs.Rows.{with_values}
use Rattle.pm_trace.specs.declared.row.RowGot.TheVariants as got
use Rattle.pm_trace.proofs.Steps.{nothing, same_some}

pub rows_have_one_reading : RowsHaveOneReading
rows_have_one_reading inputs line old new other got.Good got.Good one two = (
  refl,
  one.2
      ∙ ap (λ (values : List Word). with_values inputs values old) (same_some one.0 two.0 (sym one.1 ∙ two.1))
      ∙ sym two.2,
)
rows_have_one_reading inputs line old new other got.Good got.Bad one two = absurd (nothing one.0 (sym two.0 ∙ one.1))
rows_have_one_reading inputs line old new other got.Bad got.Good one two = absurd (nothing two.0 (sym one.0 ∙ two.1))
rows_have_one_reading inputs line old new other got.Bad got.Bad one two = (refl, one.1 ∙ sym two.1)
