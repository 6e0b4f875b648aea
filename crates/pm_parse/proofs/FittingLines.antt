-- Lines without a fault: how each of them fits, and at which columns they are.
use Rattle.std.proofs.Common.{◌≡◌, ◌<◌, ◌≤◌, ◌++◌, ℕ, true, false, List, [], ◌∷◌, All, Some, None, arith, inl, inr, refl}
use Rattle.std.specs.Prelude.{◌||◌, nat_lt}
use Rattle.std.proofs.lemmas.Bool.{and_from, and_parts, cases_Bool, or_from}
use Rattle.std.proofs.lemmas.Bool.Decides.{nat_tests}
use Rattle.std.proofs.lemmas.List.Elements.{All-cons, All-head, All-nil, All-tail}
use Rattle.pm_syn.specs.declared.statement.Stmt.{Stmt}
use Rattle.pm_grammar.specs.Depths.{depth_of_statement}
use Rattle.pm_parse.specs.Faults.{fault_after}
use Rattle.pm_parse.specs.Forms.{line_of}
use Rattle.pm_parse.specs.Layout.{begins_body, beside, fits, is_aligned, is_any, is_complete, is_decorated, is_allowed, may_follow, may_precede, needs_no_decorator, kind_of}
use Rattle.pm_parse.specs.BodyKinds.{body_of, allows, allows_after_colon}
use Rattle.pm_parse.specs.declared.entry.Entry.{Entry}
use Rattle.pm_parse.specs.declared.form.LineForm.{LineForm}
use Rattle.pm_parse.proofs.Answers.{fault_or_none}
use Rattle.pm_parse.proofs.OneAnswer.{IsDeeper}
use Rattle.pm_parse.proofs.OpenBodies.{lines_beside}

-- ---- one line

-- the line fits between those before it and those after it
pub record FitsBetween (before : List LineForm) (line : LineForm) (next : List Entry) : Type 0 where
  pub aligned : is_aligned before line ≡ true
  pub complete : is_complete line next ≡ true
  pub allowed : allows (kind_of before line) line.form ≡ true
  pub filled : allows_after_colon (body_of (kind_of before line) line.form) line.after_colon ≡ true
  pub follows : may_follow line.form (beside before line) ≡ true
  pub decorated : (needs_no_decorator line.form || is_decorated before line) ≡ true
  pub precedes : may_precede line.column line.form next ≡ true

-- each part of what a line that fits passes
fits_between : (before : List LineForm) (line : LineForm) (next : List Entry) → fits before line next ≡ true → FitsBetween before line next
fits_between before line next fit =
    let aligned = and_parts (is_aligned before line) _ fit in
    let complete = and_parts (is_complete line next) _ aligned.1 in
    let allowed = and_parts (is_allowed before line) _ complete.1 in
    let filled = and_parts (allows (kind_of before line) line.form) _ allowed.0 in
    let follows = and_parts (may_follow line.form (beside before line)) _ allowed.1 in
    let decorated = and_parts (needs_no_decorator line.form || is_decorated before line) _ follows.1 in
    record {
      aligned = aligned.0;
      complete = complete.0;
      allowed = filled.0;
      filled = filled.1;
      follows = follows.0;
      decorated = decorated.0;
      precedes = decorated.1;
    }

-- a line that passes each part fits
pub fits_from : (before : List LineForm) (line : LineForm) (next : List Entry) → FitsBetween before line next → fits before line next ≡ true
fits_from before line next fit =
    let allowed = and_from (allows (kind_of before line) line.form) (allows_after_colon (body_of (kind_of before line) line.form) line.after_colon) fit.allowed fit.filled in
    let last = and_from (needs_no_decorator line.form || is_decorated before line) (may_precede line.column line.form next) fit.decorated fit.precedes in
    let neighbours = and_from (may_follow line.form (beside before line)) _ fit.follows last in
    and_from (is_aligned before line) _ fit.aligned (and_from (is_complete line next) _ fit.complete (and_from (is_allowed before line) _ allowed neighbours))

-- the line says this, no deeper than may be, and fits, and those after it have no fault
pub record IsFaultless (before : List LineForm) (entry : Entry) (statement : Stmt) (after : List Entry) : Type 0 where
  pub shallow : depth_of_statement statement ≤ 64
  pub fit : FitsBetween before (line_of entry.column statement) after
  pub others : fault_after (line_of entry.column statement ∷ before) after ≡ None

-- the first of lines without a fault, with what it says
pub first_faultless : (before : List LineForm) (entry : Entry) (statement : Stmt) (after : List Entry) → entry.statement ≡ Some statement
    → fault_after before (entry ∷ after) ≡ None → IsFaultless before entry statement after
first_faultless before entry statement after said none =
    let spoken = rw said at none in
    elim (cases_Bool (nat_lt 64 (depth_of_statement statement))) [
      | inl deep ↦ let faulty = rw deep at spoken in cc
      | inr shallow ↦
          let within : depth_of_statement statement ≤ 64 = grind (arith, nat_tests) in
          let fitting = rw shallow at spoken in
          elim (cases_Bool (fits before (line_of entry.column statement) after)) [
            | inl fit ↦ record { shallow = within; fit = fits_between before (line_of entry.column statement) after fit; others = rw fit at fitting }
            | inr unfit ↦ let faulty = rw unfit at fitting in cc
          ]
    ]

-- it says something
pub first_says : (before : List LineForm) (entry : Entry) (after : List Entry) → fault_after before (entry ∷ after) ≡ None
    → (statement : Stmt) × (entry.statement ≡ Some statement) × IsFaultless before entry statement after
first_says before entry after none =
    let first = fault_or_none before entry after entry.statement (λ (statement : Stmt). fault_after (line_of entry.column statement ∷ before) after) none in
    (first.0, first.1, first_faultless before entry first.0 after first.1 none)

-- ---- the columns of a body

-- the line is no less deep than this column
abbrev pub IsWithin : ℕ → Entry → Type 0
IsWithin column entry = column ≤ entry.column

-- after these lines no line is allowed between the columns of a header and of its body
abbrev pub NoneBetween : ℕ → ℕ → List LineForm → Type 0
NoneBetween outer column before = (between : ℕ) → outer < between → between < column → (begins_body between before ≡ false) × (lines_beside between before ≡ [])

-- so it is after the first line of the body
pub none_between_first : (header first : LineForm) (before : List LineForm) → NoneBetween header.column first.column (first ∷ header ∷ before)
none_between_first header first before = λ between above below.
    let deeper : nat_lt between first.column ≡ true = grind (arith, nat_tests) in
    let over : nat_lt first.column between ≡ false = grind (arith, nat_tests) in
    let level : nat_lt between header.column ≡ false = grind (arith, nat_tests) in
    let less : nat_lt header.column between ≡ true = grind (arith, nat_tests) in
    (rw over refl, rw (deeper, level, less) refl)

-- and after one more line that is no less deep than the body
none_between_next : (outer column : ℕ) (line : LineForm) (before : List LineForm) → column ≤ line.column → NoneBetween outer column before → NoneBetween outer column (line ∷ before)
none_between_next outer column line before within none = λ between above below.
    let deeper : nat_lt between line.column ≡ true = grind (arith, nat_tests) in
    let over : nat_lt line.column between ≡ false = grind (arith, nat_tests) in
    (rw over refl, rw deeper (none between above below).1)

-- a line that is aligned after them is no less deep than the body, if it is deeper than the header
aligned_within : (outer column : ℕ) (line : LineForm) (before : List LineForm) → outer < line.column → NoneBetween outer column before → is_aligned before line ≡ true → column ≤ line.column
aligned_within outer column line before deeper none aligned =
    elim (cases_Bool (nat_lt line.column column)) [
      | inl less ↦
          let below : line.column < column = grind (arith, nat_tests) in
          let apart = none line.column deeper below in
          let alone : is_any (beside before line) ≡ false = rw apart.1 refl in
          let faulty = or_from (begins_body line.column before) (is_any (beside before line)) apart.0 alone in
          cc
      | inr level ↦ grind (arith, nat_tests)
    ]

-- the lines of a body are no less deep than it
pub lines_within : (outer column : ℕ) (entries rest : List Entry) (before : List LineForm) → All (IsDeeper outer) entries → NoneBetween outer column before
    → fault_after before (entries ++ rest) ≡ None → All (IsWithin column) entries
lines_within outer column [] rest before deeper none faultless = All-nil (IsWithin column)
lines_within outer column (entry ∷ entries) rest before deeper none faultless =
    let first = first_says before entry (entries ++ rest) faultless in
    let within : column ≤ entry.column = aligned_within outer column (line_of entry.column first.0) before (All-head (IsDeeper outer) entry entries deeper) none first.2.fit.aligned in
    All-cons (IsWithin column) entry entries within
    (lines_within outer column entries rest (line_of entry.column first.0 ∷ before) (All-tail (IsDeeper outer) entry entries deeper)
    (none_between_next outer column (line_of entry.column first.0) before within none) first.2.others)
