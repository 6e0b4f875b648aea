-- The line ends of a text that is put together.
use Rattle.std.proofs.Common.{◌≡◌, ◌≢◌, ◌+◌, ◌-◌, ◌≤◌, ◌<◌, ◌++◌, ℕ, Bool, true, false, List, [], ◌∷◌, length, take, get_or, refl, ◌∙◌, ap, eq-eqb, arith}
use Rattle.std.specs.Prelude.{◌==◌, ◌||◌, if◌then◌else◌}
use Rattle.std.proofs.lemmas.Bool.Decides.{nat_tests}
use Rattle.std.proofs.lemmas.List.{length-append, length-take-le, take_more}
use Rattle.pm_io.specs.declared.lines.TheConstants.{LF}
use Rattle.pm_syn.specs.Positions.{line_ends, has_line_end, last_line}

pub line_ends-append : (xs ys : List ℕ) → line_ends (xs ++ ys) ≡ line_ends xs + line_ends ys
line_ends-append [] ys = omega arith
line_ends-append (x ∷ xs) ys =
    let ends : ℕ = if x == LF then 1 else 0 in
    let rest = line_ends-append xs ys in
    let shown : ends + line_ends (xs ++ ys) ≡ (ends + line_ends xs) + line_ends ys = omega arith in
    shown

-- after a line end there is one
has_line_end-append_some : (xs ys : List ℕ) → has_line_end ys ≡ true → has_line_end (xs ++ ys) ≡ true
has_line_end-append_some [] ys some = some
has_line_end-append_some (x ∷ xs) ys some =
    elim (x == LF) as (λ test. (test || has_line_end (xs ++ ys)) ≡ true) [
      | true ↦ refl
      | false ↦ has_line_end-append_some xs ys some
    ]

-- a second part without line ends adds none
has_line_end-append_none : (xs ys : List ℕ) → has_line_end ys ≡ false → has_line_end (xs ++ ys) ≡ has_line_end xs
has_line_end-append_none [] ys none = none
has_line_end-append_none (x ∷ xs) ys none = ap (λ (ends : Bool). x == LF || ends) (has_line_end-append_none xs ys none)

-- bytes without line ends are all on the last line
last_line_none : (xs : List ℕ) → has_line_end xs ≡ false → last_line xs ≡ xs
last_line_none [] none = refl
last_line_none (x ∷ xs) none = ap (λ (ends : Bool). if ends then last_line xs else x ∷ xs) none

-- a line that ends in the second part leaves what comes after it there
pub last_line-append_some : (xs ys : List ℕ) → has_line_end ys ≡ true → last_line (xs ++ ys) ≡ last_line ys
last_line-append_some [] ys some = refl
last_line-append_some (x ∷ xs) ys some =
    ap (λ (ends : Bool). if ends then last_line (xs ++ ys) else x ∷ (xs ++ ys)) (has_line_end-append_some (x ∷ xs) ys some)
    ∙ last_line-append_some xs ys some

-- a second part without line ends is all on the last line
pub last_line-append_none : (xs ys : List ℕ) → has_line_end ys ≡ false → last_line (xs ++ ys) ≡ last_line xs ++ ys
last_line-append_none [] ys none = last_line_none ys none
last_line-append_none (x ∷ xs) ys none =
    ap (λ (ends : Bool). if ends then last_line (xs ++ ys) else x ∷ (xs ++ ys)) (has_line_end-append_none (x ∷ xs) ys none)
    ∙ elim (has_line_end (x ∷ xs)) as (λ ends. (if ends then last_line (xs ++ ys) else x ∷ (xs ++ ys)) ≡ (if ends then last_line xs else x ∷ xs) ++ ys) [
      | true ↦ last_line-append_none xs ys none
      | false ↦ refl
    ]

-- no more lines end than there are bytes
pub line_ends_within : (xs : List ℕ) → line_ends xs ≤ length xs
line_ends_within [] = omega arith
line_ends_within (x ∷ xs) =
    let rest = line_ends_within xs in
    elim (x == LF) as (λ test. (if test then 1 else 0) + line_ends xs ≤ length (x ∷ xs)) [
      | true ↦ omega arith
      | false ↦ omega arith
    ]

-- the last line is a part of the bytes
last_line_within : (xs : List ℕ) → length (last_line xs) ≤ length xs
last_line_within [] = omega arith
last_line_within (x ∷ xs) =
    let rest = last_line_within xs in
    elim (has_line_end (x ∷ xs)) as (λ ends. length (if ends then last_line xs else x ∷ xs) ≤ length (x ∷ xs)) [
      | true ↦ omega arith
      | false ↦ omega arith
    ]

-- where the last line starts after bytes that are at a position of the line that starts there
abbrev pub start_after : ℕ → ℕ → List ℕ → ℕ
start_after start at xs = if has_line_end xs then at + (length xs - length (last_line xs)) else start

-- one more byte that ends a line
start_after-end : (start at : ℕ) (xs : List ℕ) (x : ℕ) → x ≡ LF → start_after start at (xs ++ x ∷ []) ≡ at + length xs + 1
start_after-end start at xs x is =
    let ends : has_line_end (x ∷ []) ≡ true = ap (λ (test : Bool). test || false) (eq-eqb x LF is) in
    let none : last_line (x ∷ []) ≡ [] = ap (λ (test : Bool). if test then [] else x ∷ []) ends in
    rw (has_line_end-append_some xs (x ∷ []) ends, last_line-append_some xs (x ∷ []) ends, none) (omega (arith, length-append xs (x ∷ [])))

-- one more byte that ends no line
start_after-other : (start at : ℕ) (xs : List ℕ) (x : ℕ) → x ≢ LF → start_after start at (xs ++ x ∷ []) ≡ start_after start at xs
start_after-other start at xs x other =
    let none : has_line_end (x ∷ []) ≡ false = grind (arith, nat_tests) in
    let within = last_line_within xs in
    rw (has_line_end-append_none xs (x ∷ []) none, last_line-append_none xs (x ∷ []) none)
    (elim (has_line_end xs) as (λ ends. (if ends then at + (length (xs ++ x ∷ []) - length (last_line xs ++ x ∷ [])) else start) ≡ (if ends then at + (length xs - length (last_line xs)) else start)) [
      | true ↦ omega (arith, length-append xs (x ∷ []), length-append (last_line xs) (x ∷ []))
      | false ↦ refl
    ])

line_ends-end : (xs : List ℕ) (x : ℕ) → x ≡ LF → line_ends (xs ++ x ∷ []) ≡ line_ends xs + 1
line_ends-end xs x is =
    let one : line_ends (x ∷ []) ≡ 1 = ap (λ (test : Bool). (if test then 1 else 0) + 0) (eq-eqb x LF is) in
    omega (arith, line_ends-append xs (x ∷ []))

line_ends-other : (xs : List ℕ) (x : ℕ) → x ≢ LF → line_ends (xs ++ x ∷ []) ≡ line_ends xs
line_ends-other xs x other =
    let none : line_ends (x ∷ []) ≡ 0 = grind (arith, nat_tests) in
    omega (arith, line_ends-append xs (x ∷ []))

-- the same for one more byte of the first ones
module _ (xs : List ℕ) (count : ℕ) (within : count < length xs) where
  pub line_ends-take_end : get_or xs count 0 ≡ LF → line_ends (take (count + 1) xs) ≡ line_ends (take count xs) + 1
  line_ends-take_end is = ap line_ends (take_more xs count 0 within) ∙ line_ends-end (take count xs) (get_or xs count 0) is

  pub line_ends-take_other : get_or xs count 0 ≢ LF → line_ends (take (count + 1) xs) ≡ line_ends (take count xs)
  line_ends-take_other other = ap line_ends (take_more xs count 0 within) ∙ line_ends-other (take count xs) (get_or xs count 0) other

  pub start_after-take_end : (start at : ℕ) → get_or xs count 0 ≡ LF → start_after start at (take (count + 1) xs) ≡ at + count + 1
  start_after-take_end start at is =
      let inside : count ≤ length xs = omega arith in
      ap (λ (prefix : List ℕ). start_after start at prefix) (take_more xs count 0 within)
      ∙ (start_after-end start at (take count xs) (get_or xs count 0) is
      ∙ ap (λ (n : ℕ). at + n + 1) (length-take-le count xs inside))

  pub start_after-take_other : (start at : ℕ) → get_or xs count 0 ≢ LF → start_after start at (take (count + 1) xs) ≡ start_after start at (take count xs)
  start_after-take_other start at other =
      ap (λ (prefix : List ℕ). start_after start at prefix) (take_more xs count 0 within)
      ∙ start_after-other start at (take count xs) (get_or xs count 0) other
