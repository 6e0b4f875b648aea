-- Rows that are checked first and filled then have the values of the line.
use Rattle.std.proofs.Common.{◌≡◌, ◌∙◌, ℕ, zero, suc, Bool, true, false, List, [], ◌∷◌, map, refl, ap, sym, inl, inr}
use Rattle.std.specs.Prelude.{Option, Some, None, ◌&&◌, ◌^◌, is_some, nat_lt, option_map, slice_get, slice_set}
use Rattle.std.proofs.lemmas.Bool.{cases_Bool, false≢true}
use Rattle.pm_trace.proofs.Steps.{mapped, nothing, same_some, stepped}
use Rattle.std.specs.Option.{option_and_then}
use Rattle.pm_bits.specs.Word.{Word}
use Rattle.pm_design.specs.declared.plan.Plan.{Plan}
use Rattle.pm_design.specs.Ports.{IsRowOf}
use Rattle.pm_trace.specs.Rows.{ReadsRow, filled, give_values, row_of, value_at, values_at, with_value, with_values}
use Rattle.pm_trace.specs.Values.{fitted, number_of, value_of}
use Rattle.pm_trace.specs.Words.{words_of}
use Rattle.pm_trace.specs.declared.row.RowGot.{RowGot}
use Rattle.pm_trace.specs.declared.row.RowGot.TheVariants as got

abbrev widths : List Word → List ℕ
widths row = map (λ word. word.width) row

both_some : (value : Option Word) (rest : Option (List Word))
    → is_some (option_and_then (λ v. option_map (λ values. v ∷ values) rest) value) ≡ (is_some value && is_some rest)
both_some None rest = refl
both_some (Some value) None = refl
both_some (Some value) (Some values) = refl

-- the words give values if and only if there are such values
given : (row : List Word) (inputs : List ℕ) (words : List (List ℕ))
    → give_values row inputs words ≡ is_some (values_at row inputs words)
unfolding values_at
given row [] [] = refl
given row [] (word ∷ words) = refl
given row (input ∷ inputs) [] = refl
given row (input ∷ inputs) (word ∷ words) =
    ap (λ (b : Bool). is_some (value_at row input word) && b) (given row inputs words)
    ∙ sym (both_some (value_at row input word) (values_at row inputs words))

-- a value has the width that it is read for
fitted_width : (width number : ℕ) (value : Word) → fitted width number ≡ Some value → value.width ≡ width
fitted_width width number value is = elim (cases_Bool (nat_lt number (2 ^ width))) [
  | inl below ↦
      ap (λ (w : Word). w.width) (sym (same_some (record { width = width; value = number }) value (rw below at is)))
  | inr past ↦ absurd (nothing value (rw past at is))
]

value_width : (width : ℕ) (word : List ℕ) (value : Word) → value_of width word ≡ Some value → value.width ≡ width
unfolding value_of
value_width width word value is =
    let number = stepped (number_of word) (fitted width) value is in fitted_width width number.0 value number.2

-- the width of an input decides what its word gives
by_width : (row : List Word) (input : ℕ) (word : List ℕ)
    → value_at row input word ≡ option_and_then (λ width. value_of width word) (slice_get (widths row) input)
unfolding value_at
by_width [] input word = refl
by_width (first ∷ row) zero word = refl
by_width (first ∷ row) (suc input) word = by_width row input word

-- a value that a word gives leaves the widths as they are
widths_stay : (row : List Word) (input : ℕ) (word : List ℕ) (value : Word) → value_at row input word ≡ Some value
    → widths (slice_set row input value) ≡ widths row
unfolding value_at
widths_stay [] input word value is = absurd (nothing value is)
widths_stay (first ∷ row) zero word value is = ap (λ (n : ℕ). n ∷ widths row) (value_width first.width word value is)
widths_stay (first ∷ row) (suc input) word value is =
    ap (λ (ns : List ℕ). first.width ∷ ns) (widths_stay row input word value is)

same_value : (row now : List Word) (input : ℕ) (word : List ℕ) → widths now ≡ widths row
    → value_at now input word ≡ value_at row input word
same_value row now input word same =
    by_width now input word
    ∙ ap (λ (ns : List ℕ). option_and_then (λ width. value_of width word) (slice_get ns input)) same
    ∙ sym (by_width row input word)

-- the row is filled with the values that the words give
fill_is : (row now : List Word) (inputs : List ℕ) (words : List (List ℕ)) (values : List Word) → widths now ≡ widths row
    → values_at row inputs words ≡ Some values → filled inputs words now ≡ with_values inputs values now
unfolding values_at
fill_is row now [] words values same is = refl
fill_is row now (input ∷ inputs) [] values same is = absurd (nothing values is)
fill_is row now (input ∷ inputs) (word ∷ words) values same is =
    let first =
    stepped (value_at row input word)
    (λ value. option_map (λ more. value ∷ more) (values_at row inputs words)) values is in
    let rest = mapped (values_at row inputs words) (λ more. first.0 ∷ more) values first.2 in
    let here : value_at now input word ≡ Some first.0 = same_value row now input word same ∙ first.1 in
    let stay : widths (slice_set now input first.0) ≡ widths row = widths_stay now input word first.0 here ∙ same in
    ap (λ (v : Option Word). filled inputs words (with_value now input v)) here
    ∙ fill_is row (slice_set now input first.0) inputs words rest.0 stay rest.1
    ∙ ap (λ (vs : List Word). with_values (input ∷ inputs) vs now) rest.2

-- so do the values of a whole line
widths_kept : (row now : List Word) (inputs : List ℕ) (words : List (List ℕ)) (values : List Word)
    → widths now ≡ widths row → values_at row inputs words ≡ Some values
    → widths (with_values inputs values now) ≡ widths row
unfolding values_at
widths_kept row now [] words values same is = same
widths_kept row now (input ∷ inputs) [] values same is = absurd (nothing values is)
widths_kept row now (input ∷ inputs) (word ∷ words) values same is =
    let first =
    stepped (value_at row input word)
    (λ value. option_map (λ more. value ∷ more) (values_at row inputs words)) values is in
    let rest = mapped (values_at row inputs words) (λ more. first.0 ∷ more) values first.2 in
    let here : value_at now input word ≡ Some first.0 = same_value row now input word same ∙ first.1 in
    let stay : widths (slice_set now input first.0) ≡ widths row = widths_stay now input word first.0 here ∙ same in
    ap (λ (vs : List Word). widths (with_values (input ∷ inputs) vs now)) (sym rest.2)
    ∙ widths_kept row (slice_set now input first.0) inputs words rest.0 stay rest.1

-- a row of a plan's inputs is one afterwards, whatever the line is
pub row_still_fits : (plan : Plan) (inputs line : List ℕ) (old new : List Word) (got : RowGot)
    → IsRowOf plan old → ReadsRow inputs line old new got → IsRowOf plan new
unfolding row_of
row_still_fits plan inputs line old new got.Good fits reads =
    ap widths reads.2 ∙ widths_kept old old inputs (words_of line) reads.0 refl reads.1 ∙ fits
row_still_fits plan inputs line old new got.Bad fits reads = ap widths reads.1 ∙ fits

some_values : (values : Option (List Word)) → is_some values ≡ true → (vs : List Word) × (values ≡ Some vs)
some_values (Some vs) is = (vs, refl)
some_values None is = absurd (false≢true is)

no_values : (values : Option (List Word)) → is_some values ≡ false → values ≡ None
no_values (Some vs) is = absurd (false≢true (sym is))
no_values None is = refl

-- a line that gives values fills the row
pub row_read : (inputs line : List ℕ) (old new : List Word) → give_values old inputs (words_of line) ≡ true
    → new ≡ filled inputs (words_of line) old → ReadsRow inputs line old new got.Good
unfolding row_of
row_read inputs line old new gives is =
    let values = some_values (values_at old inputs (words_of line)) (sym (given old inputs (words_of line)) ∙ gives) in
    (values.0, values.1, is ∙ fill_is old old inputs (words_of line) values.0 refl values.1)

-- any other line is no row
pub no_row : (inputs line : List ℕ) (old : List Word) → give_values old inputs (words_of line) ≡ false
    → ReadsRow inputs line old old got.Bad
unfolding row_of
no_row inputs line old gives =
    (no_values (values_at old inputs (words_of line)) (sym (given old inputs (words_of line)) ∙ gives), refl)
