-- Where a string closes.
use Rattle.std.proofs.Common.{◌≡◌, ◌≢◌, ◌==◌, ◌&&◌, ◌∙◌, ℕ, ◌+◌, ◌<◌, ◌≤◌, false, List, [], ◌∷◌, length, drop, get_or, Option, Some, None, refl, ap, sym, arith, length-drop}
use Rattle.std.proofs.lemmas.List.{drop_more, drop-drop, get_or-drop}
use Rattle.std.proofs.Math.Nat.{add_assoc, add-zero}
use Rattle.std.specs.Prelude.{option_map}
use Rattle.std.proofs.lemmas.Bool.{cond-false, cond-true, ne_eqb, eq-eqb, eqb-true, and_parts, false_from_ne_true}
use Rattle.pm_syn.specs.Strings.{closing_quote, closing_quotes}
use Rattle.pm_io.specs.declared.lines.TheConstants.{LF}

-- one count more, then `at` more
counts_added : (at more : ℕ) (found : Option ℕ)
    → option_map (λ count. count + at) (option_map (λ count. count + more) found) ≡ option_map (λ count. count + (at + more)) found
counts_added at more None = refl
counts_added at more (Some count) = ap Some (omega arith)

no_count : (found : Option ℕ) → option_map (λ count. count + 0) found ≡ found
no_count None = refl
no_count (Some count) = ap Some (omega arith)

closing_quote-here : (quote : ℕ) (rest : List ℕ) → closing_quote quote (quote ∷ rest) ≡ Some 1
closing_quote-here quote [] = cond-true (quote == quote) _ _ (eq-eqb quote quote refl)
closing_quote-here quote (next ∷ rest) = cond-true (quote == quote) _ _ (eq-eqb quote quote refl)

closing_quote-line_end : (quote : ℕ) (rest : List ℕ) → LF ≢ quote → closing_quote quote (LF ∷ rest) ≡ None
closing_quote-line_end quote [] other = cond-false (LF == quote) _ _ (ne_eqb LF quote other)
closing_quote-line_end quote (next ∷ rest) other = cond-false (LF == quote) _ _ (ne_eqb LF quote other)

closing_quote-other : (quote byte : ℕ) (rest : List ℕ) → byte ≢ quote → byte ≢ LF → byte ≢ 92
    → closing_quote quote (byte ∷ rest) ≡ option_map (λ count. count + 1) (closing_quote quote rest)
closing_quote-other quote byte [] other inside plain = cond-false (byte == quote) _ _ (ne_eqb byte quote other)
closing_quote-other quote byte (next ∷ rest) other inside plain =
    cond-false (byte == quote) _ _ (ne_eqb byte quote other)
    ∙ cond-false (byte == LF) _ _ (ne_eqb byte LF inside)
    ∙ cond-false (byte == 92) _ _ (ne_eqb byte 92 plain)

-- a backslash covers the byte after it, and nothing is found from after the end
closing_quote-covered : (quote : ℕ) (rest : List ℕ) → 92 ≢ quote → (0 < length rest → get_or rest 0 0 ≢ LF)
    → closing_quote quote (92 ∷ rest) ≡ option_map (λ count. count + 2) (closing_quote quote (drop 1 rest))
closing_quote-covered quote [] other covered = cond-false (92 == quote) _ _ (ne_eqb 92 quote other)
closing_quote-covered quote (next ∷ rest) other covered =
    cond-false (92 == quote) _ _ (ne_eqb 92 quote other)
    ∙ cond-false (next == LF) _ _ (ne_eqb next LF (covered (omega arith)))

-- where the search is after `at` bytes of the text: what it finds from there, counted from the start
abbrev pub quote_from : ℕ → ℕ → List ℕ → Option ℕ
quote_from quote at text = option_map (λ count. count + at) (closing_quote quote (drop at text))

pub quote_from-zero : (quote : ℕ) (text : List ℕ) → quote_from quote 0 text ≡ closing_quote quote text
quote_from-zero quote text = no_count (closing_quote quote text)

pub quote_from-here : (quote at : ℕ) (text : List ℕ) → at < length text → get_or text at 0 ≡ quote → quote_from quote at text ≡ Some (at + 1)
quote_from-here quote at text inside is =
    rw (drop_more text at 0 inside, is, closing_quote-here quote (drop (at + 1) text)) (ap Some (omega arith))

pub quote_from-line_end : (quote at : ℕ) (text : List ℕ) → at < length text → get_or text at 0 ≢ quote → get_or text at 0 ≡ LF → quote_from quote at text ≡ None
quote_from-line_end quote at text inside other is =
    let apart : LF ≢ quote = rw is at other in
    rw (drop_more text at 0 inside, is, closing_quote-line_end quote (drop (at + 1) text) apart) refl

pub quote_from-other : (quote at : ℕ) (text : List ℕ) → at < length text → get_or text at 0 ≢ quote → get_or text at 0 ≢ LF → get_or text at 0 ≢ 92
    → quote_from quote (at + 1) text ≡ quote_from quote at text
quote_from-other quote at text inside other clean plain =
    rw (drop_more text at 0 inside, closing_quote-other quote (get_or text at 0) (drop (at + 1) text) other clean plain)
    (sym (counts_added at 1 (closing_quote quote (drop (at + 1) text))))

pub quote_from-covered : (quote at : ℕ) (text : List ℕ) → at < length text → get_or text at 0 ≢ quote → get_or text at 0 ≡ 92
    → (at + 1 < length text → get_or text (at + 1) 0 ≢ LF) → quote_from quote (at + 1 + 1) text ≡ quote_from quote at text
quote_from-covered quote at text inside other is covered =
    let apart : 92 ≢ quote = rw is at other in
    let next : 0 < length (drop (at + 1) text) → get_or (drop (at + 1) text) 0 0 ≢ LF =
    λ some. rw (get_or-drop, add-zero) (covered (omega (arith, length-drop (at + 1) text))) in
    rw (drop_more text at 0 inside, is, closing_quote-covered quote (drop (at + 1) text) apart next, drop-drop)
    (rw add_assoc (sym (counts_added at 2 (closing_quote quote (drop (at + 2) text)))))

-- ---- three quotes

-- they aren't all quotes
not_three : (quote a b c : ℕ) → (a ≡ quote → b ≡ quote → c ≡ quote → ⊥) → ((a == quote && b == quote) && c == quote) ≡ false
not_three quote a b c other =
    false_from_ne_true _ (λ all.
    let parts = and_parts (a == quote && b == quote) (c == quote) all in
    let first = and_parts (a == quote) (b == quote) parts.0 in
    other (eqb-true _ _ first.0) (eqb-true _ _ first.1) (eqb-true _ _ parts.1))

closing_quotes-covered : (quote b c : ℕ) (rest : List ℕ) → (92 ≡ quote → b ≡ quote → c ≡ quote → ⊥)
    → closing_quotes quote (92 ∷ b ∷ c ∷ rest) ≡ option_map (λ count. count + 2) (closing_quotes quote (c ∷ rest))
closing_quotes-covered quote b c rest other = cond-false ((92 == quote && b == quote) && c == quote) _ _ (not_three quote 92 b c other)

closing_quotes-other : (quote a b c : ℕ) (rest : List ℕ) → (a ≡ quote → b ≡ quote → c ≡ quote → ⊥) → a ≢ 92
    → closing_quotes quote (a ∷ b ∷ c ∷ rest) ≡ option_map (λ count. count + 1) (closing_quotes quote (b ∷ c ∷ rest))
closing_quotes-other quote a b c rest other plain =
    cond-false ((a == quote && b == quote) && c == quote) _ _ (not_three quote a b c other) ∙ cond-false (a == 92) _ _ (ne_eqb a 92 plain)

closing_quotes-short : (quote : ℕ) (text : List ℕ) → length text ≤ 2 → closing_quotes quote text ≡ None
closing_quotes-short quote [] short = refl
closing_quotes-short quote (a ∷ []) short = refl
closing_quotes-short quote (a ∷ b ∷ []) short = refl
closing_quotes-short quote (a ∷ b ∷ c ∷ text) short = absurd (omega arith)

-- where the search for three quotes is after `at` bytes of the text: what it finds from there, counted from the start
abbrev pub quotes_from : ℕ → ℕ → List ℕ → Option ℕ
quotes_from quote at text = option_map (λ count. count + at) (closing_quotes quote (drop at text))

-- three bytes are there
drop_three : (at : ℕ) (text : List ℕ) → at + 2 < length text
    → drop at text ≡ get_or text at 0 ∷ get_or text (at + 1) 0 ∷ get_or text (at + 2) 0 ∷ drop (at + 3) text
drop_three at text inside =
    let one : at < length text = omega arith in
    let two : at + 1 < length text = omega arith in
    drop_more text at 0 one
    ∙ ap (λ (rest : List ℕ). get_or text at 0 ∷ rest) (
    drop_more text (at + 1) 0 two
    ∙ ap (λ (rest : List ℕ). get_or text (at + 1) 0 ∷ rest) (rw (add_assoc) (drop_more text (at + 2) 0 inside ∙ rw (add_assoc) refl)))

pub quotes_from-other : (quote at : ℕ) (text : List ℕ) → at + 2 < length text
    → (get_or text at 0 ≡ quote → get_or text (at + 1) 0 ≡ quote → get_or text (at + 2) 0 ≡ quote → ⊥) → get_or text at 0 ≢ 92
    → quotes_from quote (at + 1) text ≡ quotes_from quote at text
quotes_from-other quote at text inside other plain =
    let two : at + 1 < length text = omega arith in
    let next : drop (at + 1) text ≡ get_or text (at + 1) 0 ∷ get_or text (at + 2) 0 ∷ drop (at + 3) text =
    drop_more text (at + 1) 0 two ∙ ap (λ (rest : List ℕ). get_or text (at + 1) 0 ∷ rest) (rw (add_assoc) (drop_more text (at + 2) 0 inside ∙ rw (add_assoc) refl)) in
    rw (
      drop_three at text inside,
      next,
      closing_quotes-other quote (get_or text at 0) (get_or text (at + 1) 0) (get_or text (at + 2) 0) (drop (at + 3) text) other plain,
    )
    (sym (counts_added at 1 (closing_quotes quote (get_or text (at + 1) 0 ∷ get_or text (at + 2) 0 ∷ drop (at + 3) text))))

pub quotes_from-covered : (quote at : ℕ) (text : List ℕ) → at + 2 < length text
    → (get_or text at 0 ≡ quote → get_or text (at + 1) 0 ≡ quote → get_or text (at + 2) 0 ≡ quote → ⊥) → get_or text at 0 ≡ 92
    → quotes_from quote (at + 2) text ≡ quotes_from quote at text
quotes_from-covered quote at text inside other is =
    let covered : 92 ≡ quote → get_or text (at + 1) 0 ≡ quote → get_or text (at + 2) 0 ≡ quote → ⊥ = λ first. other (is ∙ first) in
    let next : drop (at + 2) text ≡ get_or text (at + 2) 0 ∷ drop (at + 3) text = drop_more text (at + 2) 0 inside ∙ rw (add_assoc) refl in
    rw (drop_three at text inside, is, next, closing_quotes-covered quote (get_or text (at + 1) 0) (get_or text (at + 2) 0) (drop (at + 3) text) covered)
    (sym (counts_added at 2 (closing_quotes quote (get_or text (at + 2) 0 ∷ drop (at + 3) text))))

pub quotes_from-short : (quote at : ℕ) (text : List ℕ) → length text ≤ at + 2 → quotes_from quote at text ≡ None
quotes_from-short quote at text short =
    rw (closing_quotes-short quote (drop at text) (omega (arith, length-drop at text))) refl
