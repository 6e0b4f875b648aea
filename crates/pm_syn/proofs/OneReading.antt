-- Proof that a text is read in one way: its lexemes, where the reading stops, and at which bad token.
use Rattle.std.proofs.Common.{◌≡◌, ◌≢◌, ◌<◌, ◌⊎◌, ℕ, List, [], ◌∷◌, ◌++◌, length, arith, refl, inl, inr, sym, ap, subst, ◌∙◌}
use Rattle.std.specs.Prelude.{Option, Some, None}
use Rattle.std.proofs.lemmas.Bool.{cases_order}
use Rattle.pm_syn.specs.Lexemes.{Lexeme, Stands}
use Rattle.pm_syn.specs.Reading.{Reads, Stops, line_of, brackets_of, unclosed, misfit}
use Rattle.pm_syn.specs.declared.lexeme.Sort.{Sort}
use Rattle.pm_syn.proofs.OneLexeme.{lexeme_some, one_lexeme}

-- ---- what was read

-- nothing was read, so the whole text is left
pub read_nothing : (text rest : List ℕ) → Reads text [] rest → rest ≡ text
read_nothing text rest Reads.begin = refl

-- the nearest lexeme was read from what the others left
pub read_one : (text : List ℕ) (lexeme : Lexeme) (before : List Lexeme) (rest : List ℕ) → Reads text (lexeme ∷ before) rest
    → Reads text before (lexeme.bytes ++ rest) × Stands lexeme.sort lexeme.bytes rest × (misfit before lexeme ≡ None)
read_one text lexeme before rest (Reads.next prefix nearest left read stands fits) = (read, stands, fits)

-- a lexeme is its sort and its bytes
same_lexeme : (one other : Lexeme) → one.sort ≡ other.sort → one.bytes ≡ other.bytes → one ≡ other
same_lexeme one other sort bytes =
    ap (λ (kept : Sort). record { sort = kept; bytes = one.bytes }) sort
    ∙ ap (λ (kept : List ℕ). record { sort = other.sort; bytes = kept }) bytes

-- lexemes of one text are the same where there are as many, and so is what they leave
one_reading : (text : List ℕ) (before others : List Lexeme) (rest left : List ℕ) → Reads text before rest → Reads text others left
    → length before ≡ length others → (before ≡ others) × (rest ≡ left)
one_reading text [] [] rest left read too same = (refl, read_nothing text rest read ∙ sym (read_nothing text left too))
one_reading text [] (other ∷ others) rest left read too same = absurd (omega (arith, same))
one_reading text (lexeme ∷ before) [] rest left read too same = absurd (omega (arith, same))
one_reading text (lexeme ∷ before) (other ∷ others) rest left read too same =
    let last = read_one text lexeme before rest read in
    let also = read_one text other others left too in
    let inside = one_reading text before others (lexeme.bytes ++ rest) (other.bytes ++ left) last.0 also.0 (omega (arith, same)) in
    let head = one_lexeme lexeme.sort other.sort lexeme.bytes other.bytes rest left last.1 also.1 inside.1 in
    let lexemes = same_lexeme lexeme other head.0 head.1 in
    (ap (λ (first : Lexeme). first ∷ before) lexemes ∙ ap (λ (after : List Lexeme). other ∷ after) inside.0, head.2)

-- ---- where the reading was before

-- the reading had read the given number of lexemes, and one more was there
record WasAt (text : List ℕ) (count : ℕ) : Type 0 where
  before : List Lexeme
  lexeme : Lexeme
  rest : List ℕ
  read : Reads text before (lexeme.bytes ++ rest)
  stands : Stands lexeme.sort lexeme.bytes rest
  fits : misfit before lexeme ≡ None
  counted : length before ≡ count

-- a reading was at each smaller number of lexemes
was_at : (text : List ℕ) (before : List Lexeme) (rest : List ℕ) (count : ℕ) → Reads text before rest → count < length before → WasAt text count
was_at text [] rest count read less = absurd (omega (arith, less))
was_at text (lexeme ∷ before) rest count read less =
    let last = read_one text lexeme before rest read in
    elim (cases_order count (length before)) [
      | inl all ↦ record { before = before; lexeme = lexeme; rest = rest; read = last.0; stands = last.1; fits = last.2; counted = sym all }
      | inr (inl short) ↦ was_at text before (lexeme.bytes ++ rest) count last.0 short
      | inr (inr long) ↦ absurd (omega (arith, less, long))
    ]

-- ---- where the reading stops

-- it stops before a bad token
pub record IsMisfit (before : List Lexeme) (rest : List ℕ) (bad_token : Option ℕ) : Type 0 where
  pub lexeme : Lexeme
  pub after : List ℕ
  pub line : ℕ
  pub left : rest ≡ lexeme.bytes ++ after
  pub stands : Stands lexeme.sort lexeme.bytes after
  pub unfit : misfit before lexeme ≡ Some line
  pub named : bad_token ≡ Some line

-- it stops where there is no lexeme
pub record HasNoLexeme (before : List Lexeme) (rest : List ℕ) (bad_token : Option ℕ) : Type 0 where
  pub some : rest ≢ []
  pub no_lexeme : (lexeme : Lexeme) (after : List ℕ) → rest ≡ lexeme.bytes ++ after → Stands lexeme.sort lexeme.bytes after → ⊥
  pub named : bad_token ≡ Some (line_of before)

-- how it stops
pub stop_cases : (before : List Lexeme) (rest : List ℕ) (bad_token : Option ℕ) → Stops before rest bad_token
    → ((rest ≡ []) × (bad_token ≡ unclosed (brackets_of before))) ⊎ HasNoLexeme before rest bad_token ⊎ IsMisfit before rest bad_token
stop_cases before rest bad_token (Stops.at_end read) = inl (refl, refl)
stop_cases before rest bad_token (Stops.at_no_lexeme read left some none) = inr (inl (record { some = some; no_lexeme = none; named = refl }))
stop_cases before rest bad_token (Stops.at_misfit read lexeme after line stands unfit) =
    inr (inr (record { lexeme = lexeme; after = after; line = line; left = refl; stands = stands; unfit = unfit; named = refl }))

-- one lexeme comes after the others
misfit_same : (before : List Lexeme) (one other : Lexeme) (after rest : List ℕ) → Stands one.sort one.bytes after → Stands other.sort other.bytes rest
    → one.bytes ++ after ≡ other.bytes ++ rest → misfit before one ≡ misfit before other
misfit_same before one other after rest is too same =
    let head = one_lexeme one.sort other.sort one.bytes other.bytes after rest is too same in
    ap (misfit before) (same_lexeme one other head.0 head.1)

-- no lexeme that fits is where a reading stops
stopped_there : (before : List Lexeme) (rest : List ℕ) (bad_token : Option ℕ) (lexeme : Lexeme) (after : List ℕ) → Stops before rest bad_token
    → rest ≡ lexeme.bytes ++ after → Stands lexeme.sort lexeme.bytes after → misfit before lexeme ≡ None → ⊥
stopped_there before rest bad_token lexeme after stops is stands fits = elim (stop_cases before rest bad_token stops) [
  | inl ended ↦ lexeme_some lexeme.sort lexeme.bytes after stands (sym is ∙ ended.0)
  | inr (inl none) ↦ none.no_lexeme lexeme after is stands
  | inr (inr bad) ↦
      let same = misfit_same before lexeme bad.lexeme after bad.after stands bad.stands (sym is ∙ bad.left) in
      let e : None ≡ Some bad.line = sym fits ∙ same ∙ bad.unfit in
      cc
]

-- a reading stops at one bad token
one_stop : (before : List Lexeme) (rest : List ℕ) (one other : Option ℕ) → Stops before rest one → Stops before rest other → one ≡ other
one_stop before rest one other stops too = elim (stop_cases before rest one stops) [
  | inl ended ↦ elim (stop_cases before rest other too) [
    | inl also ↦ ended.1 ∙ sym also.1
    | inr (inl none) ↦ absurd (none.some ended.0)
    | inr (inr bad) ↦ absurd (lexeme_some bad.lexeme.sort bad.lexeme.bytes bad.after bad.stands (sym bad.left ∙ ended.0))
  ]
  | inr (inl none) ↦ elim (stop_cases before rest other too) [
    | inl ended ↦ absurd (none.some ended.0)
    | inr (inl also) ↦ none.named ∙ sym also.named
    | inr (inr bad) ↦ absurd (none.no_lexeme bad.lexeme bad.after bad.left bad.stands)
  ]
  | inr (inr bad) ↦ elim (stop_cases before rest other too) [
    | inl ended ↦ absurd (lexeme_some bad.lexeme.sort bad.lexeme.bytes bad.after bad.stands (sym bad.left ∙ ended.0))
    | inr (inl none) ↦ absurd (none.no_lexeme bad.lexeme bad.after bad.left bad.stands)
    | inr (inr also) ↦
        bad.named ∙ sym bad.unfit
        ∙ misfit_same before bad.lexeme also.lexeme bad.after also.after bad.stands also.stands (sym bad.left ∙ also.left)
        ∙ also.unfit ∙ sym also.named
  ]
]

-- ---- one reading

-- a reading that has stopped has no fewer lexemes than another
no_fewer : (text : List ℕ) (before others : List Lexeme) (rest left : List ℕ) (bad_token : Option ℕ) → Reads text before rest → Stops before rest bad_token
    → Reads text others left → length before < length others → ⊥
no_fewer text before others rest left bad_token read stops too less =
    let was = was_at text others left (length before) too less in
    let same = one_reading text before was.before rest (was.lexeme.bytes ++ was.rest) read was.read (sym was.counted) in
    stopped_there before rest bad_token was.lexeme was.rest stops same.1 was.stands (ap (λ (lexemes : List Lexeme). misfit lexemes was.lexeme) same.0 ∙ was.fits)

-- a text is read in one way
pub one_way : (text : List ℕ) (before others : List Lexeme) (rest left : List ℕ) (one other : Option ℕ) → Reads text before rest → Stops before rest one
    → Reads text others left → Stops others left other → (before ≡ others) × (rest ≡ left) × (one ≡ other)
one_way text before others rest left one other read stops too also = elim (cases_order (length before) (length others)) [
  | inl same ↦
      let lexemes = one_reading text before others rest left read too same in
      let moved : Stops before rest other =
      subst (λ (prefix : List Lexeme). Stops prefix rest other) (sym lexemes.0) (subst (λ (after : List ℕ). Stops others after other) (sym lexemes.1) also) in
      (lexemes.0, lexemes.1, one_stop before rest one other stops moved)
  | inr (inl less) ↦ absurd (no_fewer text before others rest left one read stops too less)
  | inr (inr more) ↦ absurd (no_fewer text others before left rest other too also read more)
]
