-- The columns to which a line may return represent all earlier ones.
use Rattle.std.proofs.Common.{◌≡◌, ◌∙◌, ◌<◌, ℕ, Bool, true, false, List, [], ◌∷◌, refl, ap, ap₂, sym, inl, inr, arith}
use Rattle.std.specs.Prelude.{◌==◌, ◌&&◌, ◌||◌, nat_lt, if◌then◌else◌}
use Rattle.std.proofs.lemmas.Bool.{cases_Bool}
use Rattle.std.proofs.lemmas.Bool.Decides.{nat_tests}
use Rattle.pm_syn.specs.Indentation.{is_deeper, returns_to, is_column, is_allowed, columns_with}
use Rattle.pm_syn.specs.ColumnStack.{is_nearest, down_to, after_column, after_line}
use Rattle.pm_syn.specs.declared.draft.Indentation.{Indentation}
use Rattle.pm_syn.specs.declared.draft.Indentation.TheVariants as indentation

-- a line is allowed after these columns exactly when it is allowed after those
pub record StandsFor (columns earlier : List ℕ) : Type 0 where
  pub deeper : (column : ℕ) → is_deeper column columns ≡ is_deeper column earlier
  pub returns : (column : ℕ) → returns_to column columns ≡ returns_to column earlier

-- columns represent themselves
pub stands_for_itself : (columns : List ℕ) → StandsFor columns columns
stands_for_itself columns = record { deeper = λ column. refl; returns = λ column. refl }

-- a column is returned to where it is the nearest one after those that are left
pub is_nearest-down_to : (column : ℕ) (columns : List ℕ) → is_nearest column (down_to column columns) ≡ returns_to column columns
is_nearest-down_to column [] = refl
is_nearest-down_to column (nearest ∷ columns) =
    elim (cases_Bool (nat_lt column nearest)) [
      | inl above ↦ rw above (is_nearest-down_to column columns ∙ grind (arith, nat_tests))
      | inr level ↦ rw level (grind (arith, nat_tests))
    ]

below : (x column nearest : ℕ) (rest : Bool) → column < nearest
    → (x == column || (nat_lt x column && rest)) ≡ (x == column || (nat_lt x column && (x == nearest || (nat_lt x nearest && rest))))
below x column nearest rest less =
    elim (cases_Bool (nat_lt x column)) [
      | inl under ↦
          let other : (x == nearest) ≡ false = grind (arith, nat_tests) in
          let farther : nat_lt x nearest ≡ true = grind (arith, nat_tests) in
          rw (under, other, farther) refl
      | inr over ↦ rw over refl
    ]

level_with : (x column nearest : ℕ) (rest : Bool) → column ≡ nearest
    → (x == nearest || (nat_lt x nearest && rest)) ≡ (x == column || (nat_lt x column && (x == nearest || (nat_lt x nearest && rest))))
level_with x column nearest rest same =
    rw same
    (elim (cases_Bool (nat_lt x nearest)) [
      | inl under ↦
          let other : (x == nearest) ≡ false = grind (arith, nat_tests) in
          rw (under, other) refl
      | inr over ↦ rw over refl
    ])

-- a line that returns past this one returns after it
pub returns_farther : (column nearest : ℕ) (rest : Bool) → nat_lt column nearest ≡ true → (column == nearest || (nat_lt column nearest && rest)) ≡ true → rest ≡ true
returns_farther column nearest rest under returns =
    let other : (column == nearest) ≡ false = grind (arith, nat_tests) in
    sym (ap₂ (λ (a b : Bool). a || (b && rest)) other under) ∙ returns

-- a line that returns no farther returns to this one
pub returns_there : (column nearest : ℕ) (rest : Bool) → nat_lt column nearest ≡ false → (column == nearest || (nat_lt column nearest && rest)) ≡ true → column ≡ nearest
returns_there column nearest rest over returns = grind (arith, nat_tests, rw over at returns)

-- a line after those that are left returns to this column, or to one that it may have returned to
returns_to-down_to : (x column : ℕ) (columns : List ℕ) → returns_to column columns ≡ true
    → returns_to x (down_to column columns) ≡ (x == column || (nat_lt x column && returns_to x columns))
returns_to-down_to x column [] returns = cc
returns_to-down_to x column (nearest ∷ columns) returns =
    elim (cases_Bool (nat_lt column nearest)) [
      | inl above ↦
          let less : column < nearest = grind (arith, nat_tests) in
          ap (λ (b : Bool). returns_to x (if b then down_to column columns else nearest ∷ columns)) above
          ∙ (returns_to-down_to x column columns (returns_farther column nearest (returns_to column columns) above returns)
          ∙ below x column nearest (returns_to x columns) less)
      | inr level ↦
          ap (λ (b : Bool). returns_to x (if b then down_to column columns else nearest ∷ columns)) level
          ∙ level_with x column nearest (returns_to x columns) (returns_there column nearest (returns_to column columns) level returns)
    ]

-- a line after those that are left is deeper where it is deeper than this column
is_deeper-down_to : (x column : ℕ) (columns : List ℕ) → returns_to column columns ≡ true → is_deeper x (down_to column columns) ≡ nat_lt column x
is_deeper-down_to x column [] returns = cc
is_deeper-down_to x column (nearest ∷ columns) returns =
    elim (cases_Bool (nat_lt column nearest)) [
      | inl above ↦
          ap (λ (b : Bool). is_deeper x (if b then down_to column columns else nearest ∷ columns)) above
          ∙ is_deeper-down_to x column columns (returns_farther column nearest (returns_to column columns) above returns)
      | inr level ↦
          ap (λ (b : Bool). is_deeper x (if b then down_to column columns else nearest ∷ columns)) level
          ∙ ap (λ (n : ℕ). nat_lt n x) (sym (returns_there column nearest (returns_to column columns) level returns))
    ]

-- a line is allowed at this column after the one or the other
pub is_column-same : {columns earlier : List ℕ} → StandsFor columns earlier → (column : ℕ) → is_column column columns ≡ is_column column earlier
is_column-same stands column = ap₂ (λ (a b : Bool). a || b) (stands.deeper column) (stands.returns column)

-- a line with this indentation is allowed after the one or the other
pub is_allowed-same : {columns earlier : List ℕ} → StandsFor columns earlier → (indent : Indentation) → is_allowed indent columns ≡ is_allowed indent earlier
is_allowed-same stands (indentation.Blanks column) = is_column-same stands column
is_allowed-same stands indentation.Tabbed = refl

-- after a line that is allowed at this column the columns still represent all earlier ones
pub stands_after_column : {columns earlier : List ℕ} → StandsFor columns earlier → (column : ℕ) → is_column column columns ≡ true
    → StandsFor (after_column column columns) (column ∷ earlier)
stands_after_column {columns} {earlier} stands column may =
    elim (cases_Bool (is_deeper column columns)) [
      | inl deep ↦
          rw deep (record {
            deeper = λ x. refl;
            returns = λ x. ap (λ (b : Bool). x == column || (nat_lt x column && b)) (stands.returns x);
          })
      | inr other ↦
          let returns : returns_to column columns ≡ true = sym (ap (λ (b : Bool). b || returns_to column columns) other) ∙ may in
          rw other (record {
            deeper = λ x. is_deeper-down_to x column columns returns;
            returns = λ x. returns_to-down_to x column columns returns ∙ ap (λ (b : Bool). x == column || (nat_lt x column && b)) (stands.returns x);
          })
    ]

-- after a line with this indentation that is allowed there they do too
pub stands_after_line : {columns earlier : List ℕ} → StandsFor columns earlier → (indent : Indentation) → is_allowed indent columns ≡ true
    → StandsFor (after_line indent columns) (columns_with indent earlier)
stands_after_line stands (indentation.Blanks column) may = stands_after_column stands column may
stands_after_line stands indentation.Tabbed may = cc
