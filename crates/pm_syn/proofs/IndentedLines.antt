-- Proof that the logical lines of a text are at columns of a stack.
use Rattle.std.proofs.Common.{◌≡◌, ◌∙◌, ℕ, Bool, true, List, [], ◌∷◌, ◌++◌, map, ap, sym, subst, inl, inr, arith}
use Rattle.std.specs.Prelude.{◌||◌, ◌≤◌, nat_lt, None}
use Rattle.std.proofs.lemmas.Bool.{cases_Bool}
use Rattle.std.proofs.lemmas.Bool.Decides.{nat_tests}
use Rattle.std.proofs.lemmas.List.Elements.{All-map, All-weaker}
use Rattle.pm_syn.specs.ColumnStack.{down_to, after_column}
use Rattle.pm_syn.specs.Faults.{length_of}
use Rattle.pm_syn.specs.Indentation.{is_column, returns_to}
use Rattle.pm_syn.specs.IndentedLines.{AreIndented, AreStacked, nothing, pushed, popped}
use Rattle.pm_syn.specs.Laws.{LinesAreIndented}
use Rattle.pm_syn.specs.LogicalLines.{column_of, drafts_of, line_from}
use Rattle.pm_syn.specs.declared.draft.Draft.{Draft}
use Rattle.pm_syn.specs.declared.token.Line.{Line}
use Rattle.pm_syn.proofs.LineFaults.{IsFaultless, all_faultless, first_after, first_after-faultless, first_after-none}
use Rattle.pm_syn.proofs.StackedColumns.{StandsFor, returns_farther, returns_there, stands_after_column, stands_for_itself}

-- the column is on the stack, and those from it on are left
record StandsOn (column : ℕ) (stack : List ℕ) : Type 0 where
  above : List ℕ
  rest : List ℕ
  all : stack ≡ above ++ column ∷ rest
  left : down_to column stack ≡ column ∷ rest

-- a column that is returned to is on the stack
stands_on : (column : ℕ) (stack : List ℕ) → returns_to column stack ≡ true → StandsOn column stack
stands_on column [] returns = absurd (cc)
stands_on column (nearest ∷ stack) returns =
    elim (cases_Bool (nat_lt column nearest)) [
      | inl under ↦
          let on = stands_on column stack (returns_farther column nearest (returns_to column stack) under returns) in
          record {
            above = nearest ∷ on.above;
            rest = on.rest;
            all = ap (λ (columns : List ℕ). nearest ∷ columns) on.all;
            left = rw under on.left;
          }
      | inr over ↦
          let same = returns_there column nearest (returns_to column stack) over returns in
          record {
            above = [];
            rest = stack;
            all = ap (λ (first : ℕ). first ∷ stack) (sym same);
            left = rw over (ap (λ (first : ℕ). first ∷ stack) (sym same));
          }
    ]

-- the stack allows a column where a line is allowed after all earlier ones
pub stacked_after : {stack earlier : List ℕ} {former : ℕ} → StandsFor stack (former ∷ earlier) → (column : ℕ) (columns : List ℕ)
    → is_column column stack ≡ true → AreStacked (after_column column stack) columns → AreStacked stack (column ∷ columns)
stacked_after {stack = []} {former} stands column columns may later =
    let deeper : true ≡ nat_lt former 0 = stands.deeper 0 in
    absurd (grind (arith, nat_tests))
stacked_after {stack = nearest ∷ stack} stands column columns may later =
    elim (cases_Bool (nat_lt nearest column)) [
      | inl deep ↦ pushed column nearest stack columns (grind (arith, nat_tests)) (rw deep at later)
      | inr other ↦
          let on = stands_on column (nearest ∷ stack) (sym (ap (λ (b : Bool). b || returns_to column (nearest ∷ stack)) other) ∙ may) in
          let below : AreStacked (column ∷ on.rest) columns = subst (λ (left : List ℕ). AreStacked left columns) on.left (rw other at later) in
          subst (λ (all : List ℕ). AreStacked all (column ∷ columns)) (sym on.all) (popped column on.above on.rest columns below)
    ]

-- the columns of logical lines
abbrev columns_of : List Draft → List ℕ
columns_of drafts = map (λ (line : Line). line.column) (map line_from drafts)

-- lines without faults are at columns of a stack
stacked : (drafts : List Draft) {stack earlier : List ℕ} {former : ℕ} → StandsFor stack (former ∷ earlier) → first_after stack drafts ≡ None
    → AreStacked stack (columns_of drafts)
stacked [] {stack} stands none = nothing stack
stacked (draft ∷ drafts) {stack} stands none =
    let are = first_after-none stack draft drafts none in
    let column = column_of draft.indentation in
    stacked_after stands column (columns_of drafts) are.allowed (stacked drafts (stands_after_column stands column are.allowed) are.later)

-- the tokens of the line, other than strings, are no more than 4,096 bytes
abbrev IsShort : Line → Type 0
IsShort line = length_of line.tokens ≤ 4096

-- the lines of a text are at columns of a stack, and are short
pub lines_indented : LinesAreIndented
lines_indented text lines is =
    let drafts : List Draft = drafts_of is.lexemes in
    let none = first_after-faultless drafts is.faultless in
    let faultless = all_faultless (0 ∷ []) drafts none in
    subst AreIndented (sym is.made) (record {
      columns = stacked drafts (stands_for_itself (0 ∷ [])) none;
      short = All-map IsShort line_from drafts (All-weaker IsFaultless (λ draft. IsShort (line_from draft)) (λ draft is. is.short) drafts faultless);
    })
