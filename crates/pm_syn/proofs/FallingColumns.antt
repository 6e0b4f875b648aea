-- Proof that the columns of a stack fall, so that no more than one stack comes after a line.
use Rattle.std.proofs.Common.{◌≡◌, ◌∙◌, ◌<◌, ℕ, Bool, true, false, List, [], ◌∷◌, ◌++◌, refl, ap, sym, subst, arith, append_assoc}
use Rattle.std.specs.Prelude.{◌||◌, ◌==◌, nat_lt, if◌then◌else◌, reverse}
use Rattle.std.proofs.lemmas.Bool.Decides.{nat_tests}
use Rattle.std.proofs.lemmas.Grind.{reverse_onto}
use Rattle.pm_syn.specs.ColumnStack.{is_nearest, down_to, after_column}
use Rattle.pm_syn.specs.Indentation.{is_column, is_deeper, returns_to}
use Rattle.pm_syn.specs.IndentedLines.{AreStacked, nothing, pushed, popped}
use Rattle.pm_syn.specs.Laws.{ColumnsAreThoseOfAStack}
use Rattle.pm_syn.proofs.IndentedLines.{stacked_after}
use Rattle.pm_syn.proofs.StackedColumns.{StandsFor, is_column-same, is_nearest-down_to, stands_after_column, stands_for_itself}

-- each column is greater than the one after it
abbrev pub AreFalling : List ℕ → Type 0
AreFalling [] = Unit {0}
AreFalling (nearest ∷ columns) = (is_deeper nearest columns ≡ true) × AreFalling columns

-- a column above another is greater
falling_past : (nearest column : ℕ) (above rest : List ℕ) → AreFalling (nearest ∷ (above ++ column ∷ rest)) → column < nearest
falling_past nearest column [] rest falling = let less : nat_lt column nearest ≡ true = falling.0 in grind (arith, nat_tests)
falling_past nearest column (next ∷ above) rest falling =
    let less : nat_lt next nearest ≡ true = falling.0 in
    let farther : column < next = falling_past next column above rest falling.1 in
    grind (arith, nat_tests)

-- a column on the stack is not deeper than its nearest one
is_deeper-falling : (column : ℕ) (above rest : List ℕ) → AreFalling (above ++ column ∷ rest) → is_deeper column (above ++ column ∷ rest) ≡ false
is_deeper-falling column [] rest falling = grind (arith, nat_tests)
is_deeper-falling column (nearest ∷ above) rest falling =
    let past = falling_past nearest column above rest falling in grind (arith, nat_tests)

-- a return to a column on the stack leaves those above it
down_to-falling : (column : ℕ) (above rest : List ℕ) → AreFalling (above ++ column ∷ rest) → down_to column (above ++ column ∷ rest) ≡ column ∷ rest
down_to-falling column [] rest falling = let over : nat_lt column column ≡ false = grind (arith, nat_tests) in rw over refl
down_to-falling column (nearest ∷ above) rest falling =
    let past = falling_past nearest column above rest falling in
    let under : nat_lt column nearest ≡ true = grind (arith, nat_tests) in
    rw under (down_to-falling column above rest falling.1)

-- a line may return to a column on the stack
returns_to-falling : (column : ℕ) (above rest : List ℕ) → AreFalling (above ++ column ∷ rest) → returns_to column (above ++ column ∷ rest) ≡ true
returns_to-falling column above rest falling =
    let same : (column == column) ≡ true = grind (arith, nat_tests) in
    sym (is_nearest-down_to column (above ++ column ∷ rest)) ∙ ap (is_nearest column) (down_to-falling column above rest falling) ∙ same

-- the rest of a stack falls
falling_rest : (above rest : List ℕ) → AreFalling (above ++ rest) → AreFalling rest
falling_rest [] rest falling = falling
falling_rest (nearest ∷ above) rest falling = falling_rest above rest falling.1

-- a line is allowed at this column, and the others at columns of the stack after it, which falls too
pub record StandAfter (stack : List ℕ) (column : ℕ) (columns : List ℕ) : Type 0 where
  pub may : is_column column stack ≡ true
  pub falling : AreFalling (after_column column stack)
  pub later : AreStacked (after_column column stack) columns

-- a stack that falls allows a column in one way
pub stand_after : {stack columns : List ℕ} {column : ℕ} → AreFalling stack → AreStacked stack (column ∷ columns) → StandAfter stack column columns
stand_after falling (pushed column nearest stack columns less later) =
    let deep : nat_lt nearest column ≡ true = grind (arith, nat_tests) in
    record {
      may = rw deep refl;
      falling = rw deep (deep, falling);
      later = rw deep later;
    }
stand_after falling (popped column above stack columns later) =
    let level = is_deeper-falling column above stack falling in
    let left : after_column column (above ++ column ∷ stack) ≡ column ∷ stack =
    ap (λ (deep : Bool). if deep then column ∷ (above ++ column ∷ stack) else down_to column (above ++ column ∷ stack)) level
    ∙ down_to-falling column above stack falling in
    record {
      may = ap (λ (deep : Bool). deep || returns_to column (above ++ column ∷ stack)) level ∙ returns_to-falling column above stack falling;
      falling = subst AreFalling (sym left) (falling_rest above (column ∷ stack) falling);
      later = subst (λ (next : List ℕ). AreStacked next columns) (sym left) later;
    }

-- earlier columns with one more, from the nearest
pub reverse_cons-append : (next : ℕ) (columns earlier : List ℕ) → reverse (next ∷ columns) ++ earlier ≡ reverse columns ++ next ∷ earlier
reverse_cons-append next columns earlier =
    ap (λ (prefix : List ℕ). prefix ++ earlier) (reverse_onto columns next []) ∙ append_assoc (reverse columns) (next ∷ []) earlier

-- the stack allows the column where the nearest earlier lines do
stack_allows : (columns : List ℕ) (column : ℕ) {stack earlier : List ℕ} {former : ℕ} → StandsFor stack (former ∷ earlier) → AreFalling stack
    → AreStacked stack columns → is_column column (reverse columns ++ former ∷ earlier) ≡ true → AreStacked stack (columns ++ column ∷ [])
stack_allows [] column {stack} stands falling are may =
    let may_too = is_column-same stands column ∙ may in
    stacked_after stands column [] may_too (nothing (after_column column stack))
stack_allows (next ∷ columns) column {earlier} {former} stands falling are may =
    let after = stand_after falling are in
    let may_after = ap (is_column column) (sym (reverse_cons-append next columns (former ∷ earlier))) ∙ may in
    stacked_after stands next (columns ++ column ∷ []) after.may (
    stack_allows columns column (stands_after_column stands next after.may) after.falling after.later may_after)

-- the nearest earlier lines allow the column where the stack does
lines_allow : (columns : List ℕ) (column : ℕ) {stack earlier : List ℕ} {former : ℕ} → StandsFor stack (former ∷ earlier) → AreFalling stack
    → AreStacked stack (columns ++ column ∷ []) → is_column column (reverse columns ++ former ∷ earlier) ≡ true
lines_allow [] column stands falling are = sym (is_column-same stands column) ∙ (stand_after falling are).may
lines_allow (next ∷ columns) column {earlier} {former} stands falling are =
    let after = stand_after falling are in
    ap (is_column column) (reverse_cons-append next columns (former ∷ earlier))
    ∙ lines_allow columns column (stands_after_column stands next after.may) after.falling after.later

-- the stack allows the columns that the nearest earlier lines allow, and no others
pub columns_of_stack : ColumnsAreThoseOfAStack
columns_of_stack columns column are =
    let stands = stands_for_itself (0 ∷ []) in
    let falling : AreFalling (0 ∷ []) = (refl, tt) in
    (stack_allows columns column stands falling are, lines_allow columns column stands falling)
