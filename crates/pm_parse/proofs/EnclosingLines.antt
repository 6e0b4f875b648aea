-- The lines that the next line may be inside are the line before it, and those that this one is inside.
use Rattle.std.proofs.Common.{◌≡◌, ◌∙◌, ◌≤◌, ℕ, Bool, true, false, List, [], ◌∷◌, refl, ap, ap₂, inl, inr, arith}
use Rattle.std.specs.Prelude.{◌&&◌, nat_lt, nat_le}
use Rattle.std.proofs.Math.Bool.{or_comm}
use Rattle.std.proofs.lemmas.Bool.{cases_Bool}
use Rattle.std.proofs.lemmas.Bool.Decides.{nat_tests}
use Rattle.pm_syn.specs.declared.token.Line.{Line}
use Rattle.pm_syn.specs.declared.token.Token.{Token}
use Rattle.pm_parse.specs.Enclosing.{enclosing}
use Rattle.pm_parse.specs.EnclosingLines.{above, enclosing_line, enclosing_lines, is_skipped_under, enclosing_after}
use Rattle.pm_parse.specs.Skipped.{begins_class, begins_printer, has_printer, is_skipped}
use Rattle.pm_parse.specs.declared.enclosing.EnclosingLine.{EnclosingLine}

-- the lines that a line at this column is inside
abbrev outer_of : ℕ → List Line → List Line
outer_of column before = enclosing (λ (l : Line). l.column) column before

-- a column that is no less deep
not_below : (column other : ℕ) → column ≤ other → nat_lt other column ≡ false
not_below column other deep = grind (arith, nat_tests)

-- of the lines that a line is inside, those that a less deep line is inside
above-enclosing : (column deeper : ℕ) (before : List Line) → column ≤ deeper
    → above column (enclosing_lines (outer_of deeper before)) ≡ enclosing_lines (outer_of column before)
above-enclosing column deeper [] less = refl
above-enclosing column deeper (line ∷ before) less = elim (cases_Bool (nat_lt line.column deeper)) [
  | inl outer ↦ elim (cases_Bool (nat_le column line.column)) [
    | inl left ↦
        let deep : column ≤ line.column = grind (arith, nat_tests) in
        let no : nat_lt line.column column ≡ false = not_below column line.column deep in
        rw (outer, no, left) (above-enclosing column line.column before deep)
    | inr stays ↦
        let under : nat_lt line.column column ≡ true = grind (arith, nat_tests) in
        rw (outer, under, stays) refl
  ]
  | inr beside ↦
      let deep : column ≤ line.column = grind (arith, nat_tests) in
      let no : nat_lt line.column column ≡ false = not_below column line.column deep in
      rw (beside, no) (above-enclosing column deeper before less)
]

-- what is kept of the lines that a line at this column is inside
pub above-enclosing_after : (column : ℕ) (before : List Line) → above column (enclosing_after before) ≡ enclosing_lines (outer_of column before)
above-enclosing_after column [] = refl
above-enclosing_after column (line ∷ before) = elim (cases_Bool (nat_le column line.column)) [
  | inl left ↦
      let deep : column ≤ line.column = grind (arith, nat_tests) in
      let no : nat_lt line.column column ≡ false = not_below column line.column deep in
      rw (no, left) (above-enclosing column line.column before deep)
  | inr stays ↦
      let under : nat_lt line.column column ≡ true = grind (arith, nat_tests) in
      rw (under, stays) refl
]

-- a line is skipped by what is kept of the lines that it is inside
is_skipped_under-enclosing_lines : (line : Line) (outer : List Line) → is_skipped_under line.tokens (enclosing_lines outer) ≡ has_printer (line ∷ outer)
is_skipped_under-enclosing_lines line [] = refl
is_skipped_under-enclosing_lines line (header ∷ outer) = or_comm (has_printer (header ∷ outer)) (begins_class header.tokens && begins_printer line.tokens)

-- a line of these tokens, at which this is left of what is kept of the lines before it
module _ (line : Line) (before : List Line) (earlier left : List EnclosingLine) (tokens : List Token)
    (was : earlier ≡ enclosing_after before) (leaves : left ≡ above line.column earlier) (same : tokens ≡ line.tokens) where
  -- the lines that it is inside are left
  left_is : left ≡ enclosing_lines (outer_of line.column before)
  left_is = leaves ∙ (ap (above line.column) was ∙ above-enclosing_after line.column before)

  -- whether it is skipped
  pub is_skipped_under-left : is_skipped_under tokens left ≡ is_skipped line before
  is_skipped_under-left = ap₂ is_skipped_under same left_is ∙ is_skipped_under-enclosing_lines line (outer_of line.column before)

  -- what is kept after it
  pub kept_with : (over class : Bool) → over ≡ is_skipped line before → class ≡ begins_class tokens
      → record { column = line.column; begins_class = class; is_skipped = over } ∷ left ≡ enclosing_after (line ∷ before)
  kept_with over class over_is class_is =
      let begins : class ≡ begins_class line.tokens = class_is ∙ ap begins_class same in
      ap (λ (is : Bool). record { column = line.column; begins_class = is; is_skipped = over } ∷ left) begins
      ∙ (ap (λ (is : Bool). record { column = line.column; begins_class = begins_class line.tokens; is_skipped = is } ∷ left) over_is
      ∙ ap (λ (outer : List EnclosingLine). enclosing_line line (outer_of line.column before) ∷ outer) left_is)
