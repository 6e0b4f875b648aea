-- The lines inside a header, which are its body.
use Rattle.std.proofs.Common.{◌≡◌, ◌<◌, ◌≤◌, ◌++◌, ℕ, Bool, true, false, List, [], ◌∷◌, All, None, arith, inl, inr, refl, suc}
use Rattle.std.specs.Prelude.{not, nat_lt}
use Rattle.std.proofs.lemmas.Bool.{cases_Bool}
use Rattle.std.proofs.lemmas.Bool.Decides.{nat_tests}
use Rattle.std.proofs.lemmas.List.Elements.{All-cons, All-head, All-nil, All-tail}
use Rattle.pm_syn.specs.declared.statement.Node.{Node}
use Rattle.pm_parse.specs.Faults.{fault_after}
use Rattle.pm_parse.specs.Forms.{line_of}
use Rattle.pm_parse.specs.LaidOutTrees.{is_none}
use Rattle.pm_parse.specs.Layout.{goes_deeper, has_body, is_aligned, is_complete}
use Rattle.pm_parse.specs.Trees.{AreTrees, Returns}
use Rattle.pm_parse.specs.declared.entry.Entry.{Entry}
use Rattle.pm_parse.specs.declared.form.LineForm.{LineForm}
use Rattle.pm_parse.proofs.FittingLines.{IsWithin, first_says, lines_within, none_between_first}
use Rattle.pm_parse.proofs.NodeForms.{IsLeft}
use Rattle.pm_parse.proofs.OneAnswer.{IsDeeper}

-- the column of the first of some lines, or this one where there are none
abbrev pub first_column : ℕ → List Entry → ℕ
first_column other [] = other
first_column other (entry ∷ entries) = entry.column

-- there is none of these lines
abbrev pub is_empty : List Entry → Bool
is_empty [] = true
is_empty (entry ∷ entries) = false

-- the first line of a body returns to its column
first_returns : (other : ℕ) (under : List Entry) → Returns (first_column other under) under
first_returns other [] = tt
first_returns other (entry ∷ under) = let level : entry.column ≤ entry.column = omega arith in level

-- the body is deeper than its header
pub first_deeper : (column : ℕ) (under : List Entry) → All (IsDeeper column) under → column < first_column (suc column) under
first_deeper column [] deeper = omega arith
first_deeper column (entry ∷ under) deeper = All-head (IsDeeper column) entry under deeper

-- the lines inside a header are no less deep than the first of them
body_within : (other : ℕ) (line : LineForm) (before : List LineForm) (under rest : List Entry) → All (IsDeeper line.column) under
    → fault_after (line ∷ before) (under ++ rest) ≡ None → All (IsWithin (first_column other under)) under
body_within other line before [] rest deeper none = All-nil (IsWithin other)
body_within other line before (entry ∷ under) rest deeper none =
    let first = first_says (line ∷ before) entry (under ++ rest) none in
    let level : entry.column ≤ entry.column = omega arith in
    All-cons (IsWithin entry.column) entry under level
    (lines_within line.column entry.column under rest (line_of entry.column first.0 ∷ line ∷ before) (All-tail (IsDeeper line.column) entry under deeper)
    (none_between_first line (line_of entry.column first.0) before) first.2.others)

-- the lines after a body are less deep
pub left_after : (column inner : ℕ) (after rest : List Entry) → column < inner → Returns column after → IsLeft column rest → IsLeft inner (after ++ rest)
left_after column inner [] [] less returns left = tt
left_after column inner [] (entry ∷ rest) less returns left =
    let above : entry.column < inner = omega (arith, left) in
    above
left_after column inner (entry ∷ after) rest less returns left =
    let above : entry.column < inner = omega (arith, returns) in
    above

-- they don't begin it
none_deeper : (column : ℕ) (after rest : List Entry) → Returns column after → IsLeft column rest → goes_deeper column (after ++ rest) ≡ false
none_deeper column [] [] returns left = refl
none_deeper column [] (entry ∷ rest) returns left = let above : entry.column < column = left in grind (arith, nat_tests)
none_deeper column (entry ∷ after) rest returns left = let above : entry.column ≤ column = returns in grind (arith, nat_tests)

-- lines are inside a header that ends its line, and under no other line
pub body_under : (line : LineForm) (before : List LineForm) (under after rest : List Entry) → All (IsDeeper line.column) under → Returns line.column after → IsLeft line.column rest
    → is_complete line (under ++ (after ++ rest)) ≡ true → fault_after (line ∷ before) (under ++ (after ++ rest)) ≡ None → has_body line.after_colon ≡ not (is_empty under)
body_under line before [] after rest deeper returns left complete none =
    elim (cases_Bool (has_body line.after_colon)) [
      | inl header ↦
          let begun : goes_deeper line.column (after ++ rest) ≡ true = rw header at complete in
          let not_begun = none_deeper line.column after rest returns left in
          cc
      | inr other ↦ other
    ]
body_under line before (entry ∷ under) after rest deeper returns left complete none =
    elim (cases_Bool (has_body line.after_colon)) [
      | inl header ↦ header
      | inr other ↦
          let first = first_says (line ∷ before) entry (under ++ (after ++ rest)) none in
          let less : line.column < entry.column = All-head (IsDeeper line.column) entry under deeper in
          let deep : nat_lt line.column entry.column ≡ true = grind (arith, nat_tests) in
          let over : nat_lt entry.column line.column ≡ false = grind (arith, nat_tests) in
          let aligned : is_aligned (line ∷ before) (line_of entry.column first.0) ≡ true = first.2.fit.aligned in
          let apart : is_aligned (line ∷ before) (line_of entry.column first.0) ≡ false = rw (deep, over, other) refl in
          cc
    ]

-- where there are no lines there are no nodes
pub none_of : (entries : List Entry) (nodes : List Node) → AreTrees entries nodes → is_none nodes ≡ is_empty entries
none_of _ _ AreTrees.no_lines = refl
none_of _ _ (AreTrees.line entry statement under after body nodes said deeper returns inner outer) = refl

-- there are none where there isn't one
pub empty_is : (entries : List Entry) → not (is_empty entries) ≡ false → entries ≡ []
empty_is [] none = refl
empty_is (entry ∷ entries) none = cc

-- the lines of a body at this column after lines before them, up to those that are left
pub record AreBody (column : ℕ) (before : List LineForm) (entries rest : List Entry) : Type 0 where
  pub within : All (IsWithin column) entries
  pub back : Returns column entries
  pub left : IsLeft column rest
  pub none : fault_after before (entries ++ rest) ≡ None

-- so are the lines inside a header
pub under_are_body : (line : LineForm) (before : List LineForm) (under after rest : List Entry) → All (IsDeeper line.column) under → Returns line.column after → IsLeft line.column rest
    → fault_after (line ∷ before) (under ++ (after ++ rest)) ≡ None → AreBody (first_column (suc line.column) under) (line ∷ before) under (after ++ rest)
under_are_body line before under after rest deeper returns left none = record {
  within = body_within (suc line.column) line before under (after ++ rest) deeper none;
  back = first_returns (suc line.column) under;
  left = left_after line.column (first_column (suc line.column) under) after rest (first_deeper line.column under deeper) returns left;
  none = none;
}
