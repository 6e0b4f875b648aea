-- Widths of values and expressions agree.
use Rattle.std.proofs.Common.{◌≡◌, ◌∙◌, ◌<◌, ◌&&◌, ℕ, zero, suc, Bool, true, false, List, [], ◌∷◌, length, refl, sym, arith}
use Rattle.std.specs.Prelude.{slice_get}
use Rattle.std.specs.Option.{option_map_or}
use Rattle.std.proofs.lemmas.Bool.{eqb-true}
use Rattle.std.proofs.Math.Seq.{map-set_same}
use Rattle.pm_bits.specs.Word.{Word}
use Rattle.pm_bits.specs.Operator.{result_of}
use Rattle.pm_bits.specs.declared.operator.Op.{Op}
use Rattle.pm_bits.specs.declared.operator.Op.TheVariants as op
use Rattle.pm_job.specs.declared.component.Assignment.{Assignment}
use Rattle.pm_job.specs.declared.component.Expression.{Expression}
use Rattle.pm_job.specs.declared.component.Expression.TheVariants as expression
use Rattle.pm_job.specs.declared.component.Operand.{Operand}
use Rattle.pm_job.specs.declared.component.Operand.TheVariants as operand
use Rattle.pm_job.specs.Sound.{has_width, operand_fits, expression_fits, assignment_fits, keeps_width}
use Rattle.pm_job.specs.Settled.{value_at, operand_value, expression_value}
use Rattle.pm_job.specs.Values.{value_widths, IsWithin, IsComputable}
use Rattle.pm_job.specs.Progress.{after_block}

-- both sides of a conjunction
pub both : (a b : Bool) → (a && b) ≡ true → (a ≡ true) × (b ≡ true)
both true b holds = (refl, holds)
both false b holds = absurd (cc)

-- an index with a width is that of a value with the width
pub has_width_here : (values : List Word) (width index : ℕ) → has_width (value_widths values) width index ≡ true
    → (index < length values) × ((value_at values index).width ≡ width)
has_width_here [] width index has = absurd (cc)
has_width_here (value ∷ values) width zero has = (omega arith, eqb-true value.width width has)
has_width_here (value ∷ values) width (suc index) has = let rest = has_width_here values width index has in (omega (arith, rest.0), rest.1)

-- an operand that fits has a value, of that width
pub operand_fits_here : (values : List Word) (width : ℕ) (a : Operand) → operand_fits (value_widths values) width a ≡ true
    → IsWithin (length values) a × ((operand_value (value_at values) a).width ≡ width)
operand_fits_here values width (operand.Signal index) fits = has_width_here values width index fits
operand_fits_here values width (operand.Constant bits) fits = (tt, eqb-true bits.width width fits)

-- such an operator's result has the left operand's width
pub result_of-width : (o : Op) (a b : Word) → keeps_width o ≡ true → (result_of o a b).width ≡ a.width
result_of-width op.Add a b keeps = refl
result_of-width op.Sub a b keeps = refl
result_of-width op.Mul a b keeps = refl
result_of-width op.And a b keeps = refl
result_of-width op.Or a b keeps = refl
result_of-width op.Xor a b keeps = refl
result_of-width op.Shl a b keeps = refl
result_of-width op.Shr a b keeps = refl
result_of-width op.Eq a b keeps = absurd (cc)
result_of-width op.Ne a b keeps = absurd (cc)
result_of-width op.Lt a b keeps = absurd (cc)
result_of-width op.Le a b keeps = absurd (cc)
result_of-width op.Gt a b keeps = absurd (cc)
result_of-width op.Ge a b keeps = absurd (cc)

-- an expression that fits can be computed, and its value has that width
pub expression_fits_here : (values : List Word) (width : ℕ) (e : Expression) → expression_fits (value_widths values) width e ≡ true
    → IsComputable values e × ((expression_value (value_at values) e).width ≡ width)
expression_fits_here values width (expression.Just a) fits = operand_fits_here values width a fits
expression_fits_here values width (expression.Both o a b) fits =
    let parts = both (keeps_width o) (operand_fits (value_widths values) width a && operand_fits (value_widths values) width b) fits in
    let sides = both (operand_fits (value_widths values) width a) (operand_fits (value_widths values) width b) parts.1 in
    let left = operand_fits_here values width a sides.0 in
    let right = operand_fits_here values width b sides.1 in
    ((left.0, right.0, left.1 ∙ sym right.1), result_of-width o _ _ parts.0 ∙ left.1)

-- what `fits` says of an index that has a width
fits_at : (values : List Word) (index : ℕ) (test : ℕ → Bool) → option_map_or test (slice_get (value_widths values) index) false ≡ true
    → (index < length values) × (test (value_at values index).width ≡ true)
fits_at [] index test fits = absurd (cc)
fits_at (value ∷ values) zero test fits = (omega arith, fits)
fits_at (value ∷ values) (suc index) test fits = let rest = fits_at values index test fits in (omega (arith, rest.0), rest.1)

-- an assignment that fits has a target, and can be computed in its width
pub assignment_fits_here : (values : List Word) (block : Assignment) → assignment_fits (value_widths values) block ≡ true
    → (block.target < length values) × IsComputable values block.value
    × ((expression_value (value_at values) block.value).width ≡ (value_at values block.target).width)
assignment_fits_here values block fits =
    let here = fits_at values block.target (λ (width : ℕ). expression_fits (value_widths values) width block.value) fits in
    let value = expression_fits_here values (value_at values block.target).width block.value here.1 in
    (here.0, value.0, value.1)

-- a block that fits leaves the widths as they were
pub after_block-widths : (values : List Word) (block : Assignment) → assignment_fits (value_widths values) block ≡ true
    → value_widths (after_block block values) ≡ value_widths values
after_block-widths values block fits =
    let here = assignment_fits_here values block fits in
    map-set_same (λ (value : Word). value.width) values block.target (expression_value (value_at values) block.value) _ here.2
