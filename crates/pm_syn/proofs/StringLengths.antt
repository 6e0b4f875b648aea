-- Proof that a string literal at the start of a text has no more bytes than the text.
use Rattle.std.proofs.Common.{◌≡◌, ◌==◌, ◌+◌, ◌<◌, ◌≤◌, ℕ, true, false, List, [], ◌∷◌, length, drop, get_or, Option, Some, None, inl, inr, refl, sym, ◌∙◌, arith}
use Rattle.std.specs.Prelude.{◌&&◌, IfSome, option_map}
use Rattle.std.proofs.lemmas.Bool.{cases_Bool, false≢true}
use Rattle.std.proofs.lemmas.List.{length-drop}
use Rattle.std.proofs.lemmas.Option.{cond_some}
use Rattle.pm_io.specs.declared.lines.TheConstants.{LF}
use Rattle.pm_syn.specs.Strings.{are_two_more, closing_quote, closing_quotes, is_prefix, is_quote, length_from, quoted_length, string_length}

-- what is found counts no more than these bytes
abbrev IsWithin : Option ℕ → ℕ → Type 0
IsWithin found bound = (count : ℕ) → found ≡ Some count → count ≤ bound

none_within : (bound : ℕ) → IsWithin None bound
none_within bound count is = absurd (cc)

some_within : (found bound : ℕ) → found ≤ bound → IsWithin (Some found) bound
some_within found bound le count is = let same : found ≡ count = cc in omega (arith, same, le)

more_within : (found : Option ℕ) (more bound : ℕ) → IsWithin found bound → IsWithin (option_map (λ count. count + more) found) (bound + more)
more_within None more bound within count is = absurd (cc)
more_within (Some found) more bound within count is =
    let sum : found + more ≡ count = cc in
    let le = within found refl in
    omega (arith, sum, le)

closing_quote_within : (quote : ℕ) (text : List ℕ) → IsWithin (closing_quote quote text) (length text)
closing_quote_within quote [] count is = absurd (cc)
closing_quote_within quote (byte ∷ []) count is = let parts = cond_some (byte == quote) 1 count is in let one : 1 ≡ count = parts.1 in omega (arith, one)
closing_quote_within quote (byte ∷ next ∷ text) count is = elim (cases_Bool (byte == quote)) [
  | inl here ↦ some_within 1 (length (byte ∷ next ∷ text)) (omega arith) count (rw here at is)
  | inr other ↦ elim (cases_Bool (byte == LF)) [
    | inl ends ↦ none_within (length (byte ∷ next ∷ text)) count (rw (other, ends) at is)
    | inr inside ↦ elim (cases_Bool (byte == 92)) [
      | inl slash ↦ elim (cases_Bool (next == LF)) [
        | inl ends ↦ none_within (length (byte ∷ next ∷ text)) count (rw (other, inside, slash, ends) at is)
        | inr covered ↦
            let le = more_within (closing_quote quote text) 2 (length text) (λ n found. closing_quote_within quote text n found) count (rw (other, inside, slash, covered) at is) in
            omega (arith, le)
      ]
      | inr plain ↦
          let le = more_within (closing_quote quote (next ∷ text)) 1 (length (next ∷ text)) (λ n found. closing_quote_within quote (next ∷ text) n found) count (rw (other, inside, plain) at is) in
          omega (arith, le)
    ]
  ]
]

closing_quotes_within : (quote : ℕ) (text : List ℕ) → IsWithin (closing_quotes quote text) (length text)
closing_quotes_within quote [] count is = absurd (cc)
closing_quotes_within quote (byte ∷ []) count is = absurd (cc)
closing_quotes_within quote (byte ∷ next ∷ []) count is = absurd (cc)
closing_quotes_within quote (byte ∷ next ∷ third ∷ text) count is = elim (cases_Bool ((byte == quote && next == quote) && third == quote)) [
  | inl here ↦ some_within 3 (length (byte ∷ next ∷ third ∷ text)) (omega arith) count (rw here at is)
  | inr other ↦ elim (cases_Bool (byte == 92)) [
    | inl slash ↦
        let le = more_within (closing_quotes quote (third ∷ text)) 2 (length (third ∷ text)) (λ n found. closing_quotes_within quote (third ∷ text) n found) count (rw (other, slash) at is) in
        omega (arith, le)
    | inr plain ↦
        let le = more_within (closing_quotes quote (next ∷ third ∷ text)) 1 (length (next ∷ third ∷ text)) (λ n found. closing_quotes_within quote (next ∷ third ∷ text) n found) count (rw (other, plain) at is) in
        omega (arith, le)
  ]
]

length_from_within : (quote : ℕ) (text : List ℕ) → IsWithin (length_from quote text) (length text + 1)
length_from_within quote text count is = elim (cases_Bool (are_two_more quote text)) [
  | inl three ↦
      let le = more_within (closing_quotes quote (drop 2 text)) 3 (length (drop 2 text)) (closing_quotes_within quote (drop 2 text)) count (rw three at is) in
      let long = two_bytes quote text three in
      omega (arith, le, long, length-drop 2 text)
  | inr one ↦ more_within (closing_quote quote text) 1 (length text) (closing_quote_within quote text) count (rw one at is)
] where
  two_bytes : (quote : ℕ) (text : List ℕ) → are_two_more quote text ≡ true → 2 ≤ length text
  two_bytes quote [] is = absurd (false≢true is)
  two_bytes quote (second ∷ []) is = absurd (false≢true is)
  two_bytes quote (second ∷ third ∷ text) is = omega arith

quoted_length_within : (text : List ℕ) → IsWithin (quoted_length text) (length text)
quoted_length_within [] count is = absurd (cc)
quoted_length_within (quote ∷ text) count is = elim (cases_Bool (is_quote quote)) [
  | inl quoted ↦ let le = length_from_within quote text count (rw quoted at is) in omega (arith, le)
  | inr other ↦ none_within (length (quote ∷ text)) count (rw other at is)
]

pub string_length_within : (text : List ℕ) (count : ℕ) → string_length text ≡ Some count → count ≤ length text
string_length_within [] count is = absurd (cc)
string_length_within (byte ∷ text) count is = elim (cases_Bool (is_prefix byte)) [
  | inl prefixed ↦
      let le = more_within (quoted_length text) 1 (length text) (quoted_length_within text) count (rw prefixed at is) in
      omega (arith, le)
  | inr other ↦ quoted_length_within (byte ∷ text) count (rw other at is)
]

-- ---- what the functions return

if_within : (found : Option ℕ) (bound : ℕ) → IsWithin found bound → IfSome found (λ count. count ≤ bound)
if_within None bound within = tt
if_within (Some count) bound within = within count refl

pub quoted_if : (text : List ℕ) (found : Option ℕ) → found ≡ quoted_length text → IfSome found (λ count. count ≤ length text)
quoted_if text found is = if_within found (length text) (λ count same. quoted_length_within text count (sym is ∙ same))

pub string_if : (text : List ℕ) (found : Option ℕ) → found ≡ string_length text → IfSome found (λ count. count ≤ length text)
string_if text found is = if_within found (length text) (λ count same. string_length_within text count (sym is ∙ same))

pub quoted_length-none : (text : List ℕ) → length text < 1 → None ≡ quoted_length text
quoted_length-none [] short = refl
quoted_length-none (quote ∷ text) short = absurd (omega (arith, short))

pub quoted_length-quote : (text : List ℕ) → 1 ≤ length text → true ≡ is_quote (get_or text 0 0) → length_from (get_or text 0 0) (drop 1 text) ≡ quoted_length text
quoted_length-quote [] some quoted = absurd (omega (arith, some))
quoted_length-quote (quote ∷ text) some quoted = rw (sym quoted) refl

pub quoted_length-other : (text : List ℕ) → 1 ≤ length text → false ≡ is_quote (get_or text 0 0) → None ≡ quoted_length text
quoted_length-other [] some other = absurd (omega (arith, some))
quoted_length-other (quote ∷ text) some other = rw (sym other) refl

pub string_length-prefixed : (text : List ℕ) → 1 ≤ length text → true ≡ is_prefix (get_or text 0 0)
    → option_map (λ count. count + 1) (quoted_length (drop 1 text)) ≡ string_length text
string_length-prefixed [] some prefixed = absurd (omega (arith, some))
string_length-prefixed (first ∷ text) some prefixed = rw (sym prefixed) refl

pub string_length-other : (text : List ℕ) → 1 ≤ length text → false ≡ is_prefix (get_or text 0 0) → quoted_length text ≡ string_length text
string_length-other [] some other = refl
string_length-other (first ∷ text) some other = rw (sym other) refl

pub string_length-none : (text : List ℕ) → length text < 1 → None ≡ string_length text
string_length-none [] short = refl
string_length-none (first ∷ text) short = absurd (omega (arith, short))
