-- What is read of the parts of a line: prefixes, endings, cuts, names and decimal numbers.
use Rattle.std.proofs.Common.{◌≡◌, ◌<◌, ◌≤◌, ◌-◌, ◌^◌, ◌++◌, ◌&&◌, ◌==◌, ℕ, zero, suc, Bool, true, false, List, [], ◌∷◌, length, take, drop, get_or, refl, ap, sym, subst, ◌∙◌, arith, inl, inr}
use Rattle.std.specs.Prelude.{Option, None, Some, option_map, nat_lt, if◌then◌else◌, decimal}
use Rattle.std.specs.List.{list_all, AllByRecursion}
use Rattle.std.specs.Char.{is_digit, digit_value}
use Rattle.std.specs.Str.{bytes_eq}
use Rattle.std.specs.Str.Parse.{AllDigits, digits_value}
use Rattle.std.proofs.lemmas.Bool.{and_parts, and_from, and_cases, and_left, false≢true, false_from_ne_true, eqb-true, eqb-false, ne_eqb, ltb-true, ltb-false, lt-ltb}
use Rattle.std.proofs.lemmas.Fmt.{decimal_is_IsNumeral, decimal-digits_value, decimal_digit, first_decimal}
use Rattle.std.proofs.lemmas.List.{length-append, take-append-drop, take_at, drop_at}
use Rattle.std.proofs.lemmas.Slice.Eq.{bytes_eq-Decides}
use Rattle.std.proofs.lemmas.Str.Parse.{IsNumeralModel}
use Rattle.pm_job.specs.Words.{blank, is_blank, without_prefix, without_ending, is_decimal, number_below}
use Rattle.pm_syn.specs.Bytes.{begins_name, continues_name}
use Rattle.pm_syn.specs.Names.{is_proper_name, is_spelled_as_name}
use Rattle.pm_job.specs.Spelling.{cut, is_name, is_new_name, numeral_below}
use Rattle.pm_job.proofs.Headers.{without_prefix_some}

-- ---- steps

-- what is made of a value
pub option_map_some : {A B P : Type 0} (f : A → B) (o : Option A) (y : B) → option_map f o ≡ Some y → ((x : A) → o ≡ Some x → f x ≡ y → P) → P
option_map_some f None y is next = absurd (cc)
option_map_some f (Some x) y is next = next x refl (cc)

-- what a test lets through
pub where_true : {A : Type 0} (test : Bool) (o : Option A) (y : A) → (if test then o else None) ≡ Some y → (test ≡ true) × (o ≡ Some y)
where_true true o y is = (refl, is)
where_true false o y is = absurd (cc)

-- what a test does not hold back
pub where_false : {A : Type 0} (test : Bool) (o : Option A) (y : A) → (if test then None else o) ≡ Some y → (test ≡ false) × (o ≡ Some y)
where_false true o y is = absurd (cc)
where_false false o y is = (refl, is)

-- a word is a key, or something else is chosen
pub where_same : {A P : Type 0} (word key : List ℕ) (x y : A) (o : Option A) → (if bytes_eq word key then Some x else o) ≡ Some y
    → (word ≡ key → x ≡ y → P) → (o ≡ Some y → P) → P
where_same {A = A} {P = P} word key x y o is here there = go (bytes_eq word key) refl is
  where
    go : (same : Bool) → bytes_eq word key ≡ same → (if same then Some x else o) ≡ Some y → P
    go true same is = here ((bytes_eq-Decides word key).0 same) (cc)
    go false same is = there is

-- nothing can be there
none_there : {A : Type 0} (o : Option A) → ((x : A) → o ≡ Some x → ⊥) → o ≡ None
none_there None never = refl
none_there (Some x) never = absurd (never x refl)

-- ---- endings

without_cases : (same : Bool) (back ending start text : List ℕ) → (same ≡ true → back ≡ ending) → start ++ back ≡ text
    → (found : List ℕ) → (if same then Some start else None) ≡ Some found → text ≡ found ++ ending
without_cases true back ending start text says whole found is =
    let found_is : start ≡ found = cc in
    sym whole ∙ ap (λ t. start ++ t) (says refl) ∙ ap (λ t. t ++ ending) found_is
without_cases false back ending start text says whole found is = absurd (cc)

-- a text with an ending is what stands before it and the ending
pub without_ending_some : (ending text found : List ℕ) → without_ending ending text ≡ Some found → text ≡ found ++ ending
without_ending_some ending text found is =
    let at = length text - length ending in
    without_cases _ (drop at text) ending (take at text) text (bytes_eq-Decides (drop at text) ending).0 (take-append-drop at text) found is

-- a text that ends with an ending has it
pub without_ending-append : (start ending : List ℕ) → without_ending ending (start ++ ending) ≡ Some start
without_ending-append start ending =
    let at : length (start ++ ending) - length ending ≡ length start = omega (arith, length-append start ending) in
    rw (at, drop_at start ending (length start) refl, take_at start ending (length start) refl, (bytes_eq-Decides ending ending).1 refl) refl

-- ---- cuts

-- no blank stands in a text
abbrev pub HasNoBlank : List ℕ → Type 0
HasNoBlank = AllByRecursion (λ byte. is_blank byte ≡ false)

cut_cases : (here : Bool) (byte : ℕ) (text : List ℕ) (more : Option (List ℕ × List ℕ)) (parts : List ℕ × List ℕ) → (here ≡ true → byte ≡ blank)
    → ((rest : List ℕ × List ℕ) → more ≡ Some rest → text ≡ rest.0 ++ blank ∷ rest.1)
    → (if here then Some ([], text) else option_map (λ parts. (byte ∷ parts.0, parts.1)) more) ≡ Some parts → byte ∷ text ≡ parts.0 ++ blank ∷ parts.1
cut_cases true byte text more parts says rest is =
    let same : ([], text) ≡ parts = cc in
    subst (λ (p : List ℕ × List ℕ). byte ∷ text ≡ p.0 ++ blank ∷ p.1) same (ap (λ (b : ℕ). b ∷ text) (says refl))
cut_cases false byte text None parts says rest is = absurd (cc)
cut_cases false byte text (Some more) parts says rest is =
    let same : (byte ∷ more.0, more.1) ≡ parts = cc in
    subst (λ (p : List ℕ × List ℕ). byte ∷ text ≡ p.0 ++ blank ∷ p.1) same (ap (λ (t : List ℕ). byte ∷ t) (rest more refl))

-- a text that is cut is what stands before a blank, the blank, and what stands after it
pub cut_some : (text : List ℕ) (parts : List ℕ × List ℕ) → cut text ≡ Some parts → text ≡ parts.0 ++ blank ∷ parts.1
unfolding cut
cut_some [] parts is = absurd (cc)
cut_some (byte ∷ text) parts is = cut_cases (is_blank byte) byte text (cut text) parts (eqb-true byte blank) (cut_some text) is

-- a text is cut at its first blank
pub cut-append : (start rest : List ℕ) → HasNoBlank start → cut (start ++ blank ∷ rest) ≡ Some (start, rest)
unfolding cut
cut-append [] rest none = refl
cut-append (byte ∷ start) rest none = rw (none.0, cut-append start rest none.1) refl

-- a text without a blank is not cut
pub cut-word : (word : List ℕ) → HasNoBlank word → cut word ≡ None
unfolding cut
cut-word [] none = refl
cut-word (byte ∷ word) none = rw (none.0, cut-word word none.1) refl

-- ---- names

no_blank : (byte : ℕ) (test : ℕ → Bool) → test blank ≡ false → test byte ≡ true → is_blank byte ≡ false
no_blank byte test fails passes =
    false_from_ne_true (is_blank byte) (λ is.
    let here : byte ≡ blank = eqb-true byte blank is in false≢true (sym fails ∙ ap test (sym here) ∙ passes))

-- no blank stands in a word whose bytes pass a test that the blank fails
pub no_blanks : (test : ℕ → Bool) → test blank ≡ false → (word : List ℕ) → list_all test word ≡ true → HasNoBlank word
no_blanks test fails [] all = tt
no_blanks test fails (byte ∷ word) all =
    let parts = and_parts (test byte) (list_all test word) all in
    (no_blank byte test fails parts.0, no_blanks test fails word parts.1)

-- no blank stands in a name
spelled_has_no_blank : (word : List ℕ) → is_spelled_as_name word ≡ true → HasNoBlank word
spelled_has_no_blank [] is = tt
spelled_has_no_blank (first ∷ others) is =
    let parts = and_parts (begins_name first) (list_all continues_name others) is in
    (no_blank first begins_name refl parts.0, no_blanks continues_name refl others parts.1)

name_has_no_blank : (word : List ℕ) → is_name word ≡ true → HasNoBlank word
unfolding is_name
name_has_no_blank word is =
    let proper = and_parts (is_proper_name word) _ is in
    let spelled = and_parts (is_spelled_as_name word) _ proper.0 in
    spelled_has_no_blank word spelled.0

-- no blank stands in a new name
pub new_name_has_no_blank : (word : List ℕ) → is_new_name word ≡ true → HasNoBlank word
unfolding is_new_name
new_name_has_no_blank word is =
    let other = and_parts _ _ is in
    let name = and_parts (is_name word) _ other.0 in
    name_has_no_blank word name.0

-- ---- numbers

own : IsNumeralModel (AllDigits 10) (digits_value 10)
own = record { to = λ word all. all; from = λ word all. all; same = λ word all. refl }

digits_are : (word : List ℕ) → list_all (λ byte. is_digit byte 10) word ≡ true → AllDigits 10 word
digits_are [] all = tt
digits_are (byte ∷ word) all =
    let parts = and_parts (is_digit byte 10) (list_all (λ byte. is_digit byte 10) word) all in
    (ltb-true (digit_value byte) 10 parts.0, digits_are word parts.1)

digits_pass : (word : List ℕ) → AllDigits 10 word → list_all (λ byte. is_digit byte 10) word ≡ true
digits_pass [] all = refl
digits_pass (byte ∷ word) all = and_from _ _ (lt-ltb (digit_value byte) 10 all.0) (digits_pass word all.1)

one_zero : (word : List ℕ) → (get_or word 0 0 == 48 && nat_lt 1 (length word)) ≡ false → 0 < length word → get_or word 0 0 ≡ 48 → length word ≡ 1
one_zero word plain some begins =
    elim (and_cases (get_or word 0 0 == 48) (nat_lt 1 (length word)) plain) [
      | inl other ↦ absurd (eqb-false (get_or word 0 0) 48 other begins)
      | inr short ↦ let short : length word ≤ 1 = ltb-false 1 (length word) short in omega arith
    ]

-- a numeral that is read writes the number that it is read as, and that is below the bound
pub numeral_below_some : (bound : ℕ) (word : List ℕ) (number : ℕ) → bound ≤ 2 ^ 64 → numeral_below bound word ≡ Some number
    → (word ≡ decimal number) × (number < bound)
unfolding numeral_below
numeral_below_some bound word number low is =
    let plain = where_false (get_or word 0 0 == 48 && nat_lt 1 (length word)) (number_below bound word) number is in
    let read = where_true (is_decimal word && nat_lt (digits_value 10 word) bound) (Some (digits_value 10 word)) number plain.1 in
    let tests = and_parts (is_decimal word) (nat_lt (digits_value 10 word) bound) read.0 in
    let digits = and_parts (nat_lt 0 (length word)) (list_all (λ byte. is_digit byte 10) word) tests.0 in
    let some : 0 < length word = ltb-true 0 (length word) digits.0 in
    let below : digits_value 10 word < bound = ltb-true (digits_value 10 word) bound tests.1 in
    let same : digits_value 10 word ≡ number = cc in
    let written : decimal (digits_value 10 word) ≡ word =
    decimal-digits_value own word (digits_are word digits.1) some (one_zero word plain.0 some) (omega arith) in
    (sym written ∙ ap decimal same, subst (λ (n : ℕ). n < bound) same below)

no_needless_zero : (number : ℕ) → number < 2 ^ 64 → (get_or (decimal number) 0 0 == 48 && nat_lt 1 (length (decimal number))) ≡ false
no_needless_zero zero low = rw (decimal_digit 0 (omega arith)) refl
no_needless_zero (suc number) low =
    let first : 48 < get_or (decimal (suc number)) 0 0 = first_decimal (suc number) (omega arith) low in
    and_left _ _ (ne_eqb (get_or (decimal (suc number)) 0 0) 48 (λ same. omega arith))

-- a number below the bound is read from what is written for it
pub numeral_below-decimal : (bound number : ℕ) → bound ≤ 2 ^ 64 → number < bound → numeral_below bound (decimal number) ≡ Some number
unfolding numeral_below
numeral_below-decimal bound number low below =
    let numeral = decimal_is_IsNumeral number (omega arith) in
    let digits : is_decimal (decimal number) ≡ true =
    and_from _ _ (lt-ltb 0 (length (decimal number)) numeral.0.0) (digits_pass (decimal number) numeral.0.1) in
    rw (no_needless_zero number (omega arith), digits, numeral.1, lt-ltb number bound below) refl

-- no blank stands in what is written for a number
pub decimal_has_no_blank : (number : ℕ) → number < 2 ^ 64 → HasNoBlank (decimal number)
decimal_has_no_blank number low =
    no_blanks (λ byte. is_digit byte 10) refl (decimal number) (digits_pass (decimal number) (decimal_is_IsNumeral number low).0.1)

-- what is written for a number begins with no `s.`
pub without_prefix_dot-decimal : (number : ℕ) → number < 2 ^ 64 → without_prefix (115 ∷ 46 ∷ []) (decimal number) ≡ None
without_prefix_dot-decimal number low =
    none_there (without_prefix (115 ∷ 46 ∷ []) (decimal number)) (λ rest is.
    let same : decimal number ≡ 115 ∷ 46 ∷ rest = without_prefix_some (115 ∷ 46 ∷ []) (decimal number) rest is in
    let digits : AllDigits 10 (115 ∷ 46 ∷ rest) = subst (AllDigits 10) same (decimal_is_IsNumeral number low).0.1 in
    let first : digit_value 115 < 10 = digits.0 in
    omega arith)
