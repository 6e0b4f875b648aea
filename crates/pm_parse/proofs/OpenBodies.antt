-- What the open bodies say of the lines that a line is inside and beside.
use Rattle.std.proofs.Common.{◌≡◌, ◌∙◌, ℕ, Bool, true, false, List, [], ◌∷◌, refl, ap, sym, subst, inl, inr, arith}
use Rattle.std.specs.Prelude.{◌==◌, ◌||◌, nat_lt, if◌then◌else◌, Option, Some, None}
use Rattle.std.specs.List.{list_any}
use Rattle.std.proofs.lemmas.Bool.{cases_Bool}
use Rattle.std.proofs.lemmas.Bool.Decides.{nat_tests}
use Rattle.pm_parse.specs.Enclosing.{enclosing, siblings}
use Rattle.pm_parse.specs.Layout.{beside, is_construct, kind_of}
use Rattle.pm_parse.specs.LinesBefore.{IsBodyOf, lines_of}
use Rattle.pm_parse.specs.OpenBodies.{leave, leave_at, body_at, kind_at, holds_construct, body_with, with_line, bodies_of}
use Rattle.pm_parse.specs.BodyKinds.{body_of, kind_under}
use Rattle.pm_parse.specs.declared.body.Body.{Body}
use Rattle.pm_parse.specs.declared.form.LineForm.{LineForm}
use Rattle.pm_parse.specs.declared.layout.Lines.{Lines}
use Rattle.pm_parse.specs.declared.body_kind.BodyKind.{BodyKind}

-- the lines that a line at this column is inside
abbrev pub lines_above : ℕ → List LineForm → List LineForm
lines_above column before = enclosing (λ (l : LineForm). l.column) column before

-- the lines that it is beside
abbrev pub lines_beside : ℕ → List LineForm → List LineForm
lines_beside column before = siblings (λ (l : LineForm). l.column) column before

-- the bodies that are no deeper than a column are among those that are no deeper than a deeper one
leave-leave : (column deeper : ℕ) (bodies : List Body) → nat_lt column deeper ≡ true → leave column (leave deeper bodies) ≡ leave column bodies
leave-leave column deeper [] less = refl
leave-leave column deeper (body ∷ outer) less =
    elim (cases_Bool (nat_lt deeper body.column)) [
      | inl under ↦
          let farther : nat_lt column body.column ≡ true = grind (arith, nat_tests) in
          rw (under, farther) (leave-leave column deeper outer less)
      | inr over ↦ rw over refl
    ]

-- a body at a deeper column is left
leave-leave_at : (column deeper : ℕ) (bodies : List Body) → nat_lt column deeper ≡ true → leave column (leave_at deeper bodies) ≡ leave column bodies
leave-leave_at column deeper [] less = refl
leave-leave_at column deeper (body ∷ outer) less =
    elim (cases_Bool (body.column == deeper)) [
      | inl there ↦
          let farther : nat_lt column body.column ≡ true = grind (arith, nat_tests) in
          rw (there, farther) refl
      | inr other ↦ rw other refl
    ]

-- the bodies of a column before a line and after it, where the line is deeper
leave-deeper : (column : ℕ) (line : LineForm) (before : List LineForm) → nat_lt column line.column ≡ true
    → leave column (bodies_of (line ∷ before)) ≡ leave column (bodies_of before)
leave-deeper column line before less =
    ap (λ (b : Bool). if b then leave column (leave_at line.column (leave line.column (bodies_of before))) else with_line line (leave line.column (bodies_of before))) less
    ∙ (leave-leave_at column line.column (leave line.column (bodies_of before)) less
    ∙ leave-leave column line.column (bodies_of before) less)

-- after a line that is no deeper its body is the innermost
leave-level : (column : ℕ) (line : LineForm) (before : List LineForm) → nat_lt column line.column ≡ false
    → leave column (bodies_of (line ∷ before)) ≡ with_line line (leave line.column (bodies_of before))
leave-level column line before level =
    ap (λ (b : Bool). if b then leave column (leave_at line.column (leave line.column (bodies_of before))) else with_line line (leave line.column (bodies_of before))) level

-- the open bodies say in which kind of body a line is
pub kind_at-bodies_of : (before : List LineForm) (column : ℕ) → kind_at column (leave column (bodies_of before)) ≡ kind_under (lines_above column before)
kind_at-bodies_of [] column = refl
kind_at-bodies_of (line ∷ before) column =
    elim (cases_Bool (nat_lt column line.column)) [
      | inl deeper ↦
          let other : nat_lt line.column column ≡ false = grind (arith, nat_tests) in
          ap (kind_at column) (leave-deeper column line before deeper)
          ∙ (kind_at-bodies_of before column
          ∙ rw other refl)
      | inr level ↦
          ap (kind_at column) (leave-level column line before level)
          ∙ elim (cases_Bool (line.column == column)) [
            | inl there ↦
                let same : column ≡ line.column = grind (arith, nat_tests) in
                let other : nat_lt line.column column ≡ false = grind (arith, nat_tests) in
                rw (there, other) (kind_at-bodies_of before line.column ∙ ap (λ (c : ℕ). kind_under (lines_above c before)) (sym same))
            | inr apart ↦
                let under : nat_lt line.column column ≡ true = grind (arith, nat_tests) in
                rw (apart, under) (ap (λ (place : BodyKind). body_of place line.form) (kind_at-bodies_of before line.column))
          ]
    ]

-- a body has a `construct` where one of its lines is one
holds_construct-is : (lines : List LineForm) (body : Option Body) → IsBodyOf lines body → holds_construct body ≡ list_any (λ (l : LineForm). is_construct l.form) lines
holds_construct-is [] None is = refl
holds_construct-is [] (Some body) is = absurd is
holds_construct-is (line ∷ lines) None is = absurd is
holds_construct-is (line ∷ lines) (Some body) is = is.1

-- two tests in either order
or-swap : (a b : Bool) → (a || b) ≡ (b || a)
or-swap true true = refl
or-swap true false = refl
or-swap false true = refl
or-swap false false = refl

-- the body with one more line has a `construct` where one of its lines is one
has_construct : (line : LineForm) (before : List LineForm) (column : ℕ) → line.column ≡ column
    → IsBodyOf (lines_beside line.column before) (body_at line.column (leave line.column (bodies_of before)))
    → (body_with line (leave line.column (bodies_of before))).has_construct ≡ list_any (λ (l : LineForm). is_construct l.form) (line ∷ lines_beside column before)
has_construct line before column same is =
    ap (λ (b : Bool). b || is_construct line.form) (holds_construct-is (lines_beside line.column before) (body_at line.column (leave line.column (bodies_of before))) is)
    ∙ (or-swap (list_any (λ (l : LineForm). is_construct l.form) (lines_beside line.column before)) (is_construct line.form)
    ∙ ap (λ (c : ℕ). is_construct line.form || list_any (λ (l : LineForm). is_construct l.form) (lines_beside c before)) same)

-- the innermost body is that of the lines that a line is beside
pub body_at-bodies_of : (before : List LineForm) (column : ℕ) → IsBodyOf (lines_beside column before) (body_at column (leave column (bodies_of before)))
body_at-bodies_of [] column = tt
body_at-bodies_of (line ∷ before) column =
    elim (cases_Bool (nat_lt column line.column)) [
      | inl deeper ↦ rw (leave-deeper column line before deeper, deeper) (body_at-bodies_of before column)
      | inr level ↦
          rw (leave-level column line before level, level)
          (elim (cases_Bool (line.column == column)) [
            | inl there ↦
                let same : line.column ≡ column = grind (arith, nat_tests) in
                let other : nat_lt line.column column ≡ false = grind (arith, nat_tests) in
                rw (there, other) (refl, has_construct line before column same (body_at-bodies_of before line.column))
            | inr apart ↦
                let under : nat_lt line.column column ≡ true = grind (arith, nat_tests) in
                rw (apart, under) tt
          ])
    ]

-- what the bodies say that are left of those kept
module _ (before : List LineForm) (line : LineForm) (lines : Lines) (bodies : List Body) (kept : lines ≡ lines_of before) (left : bodies ≡ leave line.column lines.bodies) where
  -- those that are left of the open bodies
  left_of : bodies ≡ leave line.column (bodies_of before)
  left_of = left ∙ ap (λ (l : Lines). leave line.column l.bodies) kept

  -- the body at the line's column is that of the lines beside it
  pub body_beside : (body : Option Body) → body ≡ body_at line.column bodies → IsBodyOf (beside before line) body
  body_beside body is = subst (IsBodyOf (beside before line)) (sym (is ∙ ap (body_at line.column) left_of)) (body_at-bodies_of before line.column)

  -- a line at that column is in the same kind of body
  pub kind_there : (place : BodyKind) → place ≡ kind_at line.column bodies → place ≡ kind_of before line
  kind_there place is = is ∙ (ap (kind_at line.column) left_of ∙ kind_at-bodies_of before line.column)
