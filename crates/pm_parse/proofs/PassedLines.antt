-- The lines before others, once some lines are passed, and what a line is inside and beside then.
use Rattle.std.proofs.Common.{◌≡◌, ◌∙◌, ◌<◌, ◌++◌, ℕ, true, false, List, [], ◌∷◌, All, Some, None, arith, refl}
use Rattle.std.specs.Prelude.{nat_lt, Option}
use Rattle.std.proofs.lemmas.Bool.Decides.{nat_tests}
use Rattle.std.proofs.lemmas.List.Elements.{All-head, All-tail}
use Rattle.pm_syn.specs.declared.statement.Stmt.{Stmt}
use Rattle.pm_parse.specs.Faults.{fault_after}
use Rattle.pm_parse.specs.Forms.{line_of}
use Rattle.pm_parse.specs.declared.entry.Entry.{Entry}
use Rattle.pm_parse.specs.declared.form.LineForm.{LineForm}
use Rattle.pm_parse.proofs.FittingLines.{first_says}
use Rattle.pm_parse.proofs.OneAnswer.{IsDeeper}
use Rattle.pm_parse.proofs.OpenBodies.{lines_above, lines_beside}

-- ---- lines that are passed

-- the lines before others, once one more is passed that says this
abbrev pub said_before : ℕ → Option Stmt → List LineForm → List LineForm
said_before column None before = before
said_before column (Some statement) before = line_of column statement ∷ before

-- and once these are passed
abbrev pub passed_before : List Entry → List LineForm → List LineForm
passed_before [] before = before
passed_before (entry ∷ entries) before = passed_before entries (said_before entry.column entry.statement before)

-- lines are passed one after the other
pub passed_before-append : (entries others : List Entry) (before : List LineForm) → passed_before (entries ++ others) before ≡ passed_before others (passed_before entries before)
passed_before-append [] others before = refl
passed_before-append (entry ∷ entries) others before = passed_before-append entries others (said_before entry.column entry.statement before)

-- after lines without a fault the others have none
pub none_after : (entries rest : List Entry) (before : List LineForm) → fault_after before (entries ++ rest) ≡ None → fault_after (passed_before entries before) rest ≡ None
none_after [] rest before none = none
none_after (entry ∷ entries) rest before none =
    let first = first_says before entry (entries ++ rest) none in
    rw first.1 (none_after entries rest (line_of entry.column first.0 ∷ before) first.2.others)

-- ---- deeper lines that are passed

-- after a deeper line a line is inside the same lines
above_said : (column deeper : ℕ) (said : Option Stmt) (before : List LineForm) → column < deeper → lines_above column (said_before deeper said before) ≡ lines_above column before
above_said column deeper None before less = refl
above_said column deeper (Some statement) before less = let over : nat_lt deeper column ≡ false = grind (arith, nat_tests) in rw over refl

-- and beside the same lines
beside_said : (column deeper : ℕ) (said : Option Stmt) (before : List LineForm) → column < deeper → lines_beside column (said_before deeper said before) ≡ lines_beside column before
beside_said column deeper None before less = refl
beside_said column deeper (Some statement) before less = let deep : nat_lt column deeper ≡ true = grind (arith, nat_tests) in rw deep refl

-- after deeper lines it is inside the same lines
pub above_passed : (column : ℕ) (entries : List Entry) (before : List LineForm) → All (IsDeeper column) entries → lines_above column (passed_before entries before) ≡ lines_above column before
above_passed column [] before deeper = refl
above_passed column (entry ∷ entries) before deeper =
    above_passed column entries (said_before entry.column entry.statement before) (All-tail (IsDeeper column) entry entries deeper)
    ∙ above_said column entry.column entry.statement before (All-head (IsDeeper column) entry entries deeper)

-- and beside the same lines
pub beside_passed : (column : ℕ) (entries : List Entry) (before : List LineForm) → All (IsDeeper column) entries → lines_beside column (passed_before entries before) ≡ lines_beside column before
beside_passed column [] before deeper = refl
beside_passed column (entry ∷ entries) before deeper =
    beside_passed column entries (said_before entry.column entry.statement before) (All-tail (IsDeeper column) entry entries deeper)
    ∙ beside_said column entry.column entry.statement before (All-head (IsDeeper column) entry entries deeper)

-- ---- directly after a line

-- after a line itself a line at its column is inside the same lines
above_itself : (line : LineForm) (before : List LineForm) → lines_above line.column (line ∷ before) ≡ lines_above line.column before
above_itself line before = let level : nat_lt line.column line.column ≡ false = grind (arith, nat_tests) in rw level refl

-- and beside it
beside_itself : (line : LineForm) (before : List LineForm) → lines_beside line.column (line ∷ before) ≡ line ∷ lines_beside line.column before
beside_itself line before = let level : nat_lt line.column line.column ≡ false = grind (arith, nat_tests) in rw level refl

-- the same once the lines inside it are passed
module _ (line : LineForm) (before : List LineForm) (under : List Entry) (deeper : All (IsDeeper line.column) under) where
  -- a line at its column is inside the same lines as it
  pub above_next : lines_above line.column (passed_before under (line ∷ before)) ≡ lines_above line.column before
  above_next = above_passed line.column under (line ∷ before) deeper ∙ above_itself line before

  -- and beside it
  pub beside_next : lines_beside line.column (passed_before under (line ∷ before)) ≡ line ∷ lines_beside line.column before
  beside_next = beside_passed line.column under (line ∷ before) deeper ∙ beside_itself line before

-- a deeper line is inside a line and those above it
pub above_inside : (inner : ℕ) (line : LineForm) (before : List LineForm) → line.column < inner → lines_above inner (line ∷ before) ≡ line ∷ lines_above line.column before
above_inside inner line before below = let inside : nat_lt line.column inner ≡ true = grind (arith, nat_tests) in rw inside refl

-- none is beside it
pub beside_inside : (inner : ℕ) (line : LineForm) (before : List LineForm) → line.column < inner → lines_beside inner (line ∷ before) ≡ []
beside_inside inner line before below =
    let inside : nat_lt line.column inner ≡ true = grind (arith, nat_tests) in
    let over : nat_lt inner line.column ≡ false = grind (arith, nat_tests) in
    rw (over, inside) refl
