-- Digits with underscores between them: their number, their first and last byte, and where the longest of a text end.
use Rattle.std.proofs.Common.{◌≡◌, ◌⊎◌, ◌++◌, ◌+◌, ◌*◌, ◌<◌, ◌≤◌, ℕ, true, false, cond, eqb, List, [], ◌∷◌, length, get_or, take, refl, ap, sym, inl, inr, ◌∙◌, append_assoc, length-append, arith}
use Rattle.std.proofs.lemmas.Bool.{false≢true}
use Rattle.std.proofs.lemmas.Bool.Decides.{nat_tests}
use Rattle.std.proofs.lemmas.List.{get_or_at, get_or_append_left, get_or-append-add, take_more, length-take-le, get_or-take}
use Rattle.std.specs.Char.{digit_value, is_digit}
use Rattle.pm_syn.specs.LiteralParts.{IsNextDigit, HasNoNextDigit}
use Rattle.pm_syn.specs.Numbers.{AreDigits, one, more, spaced, value_after, value_of}

-- an underscore is no digit
digit-no_underscore : (base byte : ℕ) → base ≤ 16 → is_digit byte base ≡ true → eqb byte 95 ≡ false
digit-no_underscore base byte small digit = grind (arith, nat_tests)

-- 95 is the underscore
underscore-no_digit : (base : ℕ) → base ≤ 16 → is_digit 95 base ≡ false
underscore-no_digit base small = grind (arith, nat_tests)

-- the number of digits after those of a number, and more after them
value_after-append : (base number : ℕ) (prefix rest : List ℕ) → value_after base number (prefix ++ rest) ≡ value_after base (value_after base number prefix) rest
value_after-append base number [] rest = refl
value_after-append base number (byte ∷ prefix) rest = value_after-append base (cond (eqb byte 95) number (number * base + digit_value byte)) prefix rest

-- the number with one more digit
value_of-push : (base : ℕ) (digits : List ℕ) (digit : ℕ) → eqb digit 95 ≡ false → value_of base (digits ++ digit ∷ []) ≡ value_of base digits * base + digit_value digit
value_of-push base digits digit other = rw (value_after-append base 0 digits (digit ∷ []), other) refl

-- the number with one more digit after an underscore
value_of-spaced : (base : ℕ) (digits : List ℕ) (digit : ℕ) → eqb digit 95 ≡ false
    → value_of base (digits ++ 95 ∷ digit ∷ []) ≡ value_of base digits * base + digit_value digit
value_of-spaced base digits digit other = rw (value_after-append base 0 digits (95 ∷ digit ∷ []), other) refl

-- digits are not empty
pub some_digit : {base : ℕ} {digits : List ℕ} → AreDigits base digits → 0 < length digits
some_digit (one digit is) = omega arith
some_digit (more digits digit prefix is) = omega (arith, length-append digits (digit ∷ []))
some_digit (spaced digits digit prefix is) = omega (arith, length-append digits (95 ∷ digit ∷ []))

-- the first byte of digits is a digit
pub first_is_digit : {base : ℕ} {digits : List ℕ} → AreDigits base digits → is_digit (get_or digits 0 0) base ≡ true
first_is_digit (one digit is) = is
first_is_digit (more digits digit prefix is) = rw (get_or_append_left digits (digit ∷ []) 0 0 (some_digit prefix)) (first_is_digit prefix)
first_is_digit (spaced digits digit prefix is) = rw (get_or_append_left digits (95 ∷ digit ∷ []) 0 0 (some_digit prefix)) (first_is_digit prefix)

-- the last byte of digits is a digit
last_is_digit : {base : ℕ} {digits : List ℕ} → AreDigits base digits → (last : ℕ) → length digits ≡ last + 1 → is_digit (get_or digits last 0) base ≡ true
last_is_digit (one digit is) last count = let at : last ≡ 0 = omega arith in rw at is
last_is_digit (more digits digit prefix is) last count =
    let at : length digits ≡ last = omega (arith, length-append digits (digit ∷ [])) in
    rw (get_or_at digits digit [] 0 last at) is
last_is_digit (spaced digits digit prefix is) last count =
    let at : last ≡ length digits + 1 = omega (arith, length-append digits (95 ∷ digit ∷ [])) in
    rw (at, get_or-append-add digits (95 ∷ digit ∷ []) 1 0) is

-- the byte of a text after a prefix of it
byte_after : (prefix rest text : List ℕ) (byte : ℕ) → prefix ++ byte ∷ rest ≡ text → (position : ℕ) → length prefix ≡ position → get_or text position 0 ≡ byte
byte_after prefix rest text byte same position at = ap (λ (xs : List ℕ). get_or xs position 0) (sym same) ∙ get_or_at prefix byte rest 0 position at

-- digits at the start of a text end no later than those after which there is no digit
pub longest_digits : {base : ℕ} {prefix : List ℕ} (text : List ℕ) (end : ℕ) → base ≤ 16 → 0 < end → end ≤ length text → AreDigits base (take end text)
    → HasNoNextDigit base text end → AreDigits base prefix → (rest : List ℕ) → prefix ++ rest ≡ text → length prefix ≤ end
longest_digits text end small some within scanned none (one digit is) rest same = omega arith
longest_digits {base} text end small some within scanned none (more digits digit prefix is) rest same =
    let whole : digits ++ digit ∷ rest ≡ text = sym (append_assoc digits (digit ∷ []) rest) ∙ same in
    let fits : length digits ≤ end = longest_digits text end small some within scanned none prefix (digit ∷ rest) whole in
    let apart : length digits ≡ end → ⊥ = λ at. false≢true (sym none.no_digit ∙ ap (λ byte. is_digit byte base) (byte_after digits rest text digit whole end at) ∙ is) in
    omega (arith, length-append digits (digit ∷ []))
longest_digits {base} text end small some within scanned none (spaced digits digit prefix is) rest same =
    let whole : digits ++ 95 ∷ digit ∷ rest ≡ text = sym (append_assoc digits (95 ∷ digit ∷ []) rest) ∙ same in
    let pushed : (digits ++ 95 ∷ []) ++ digit ∷ rest ≡ text = append_assoc digits (95 ∷ []) (digit ∷ rest) ∙ whole in
    let fits : length digits ≤ end = longest_digits text end small some within scanned none prefix (95 ∷ digit ∷ rest) whole in
    let before : length digits ≡ end → ⊥ =
    λ at. false≢true
    (sym (none.no_spaced some (byte_after digits (digit ∷ rest) text 95 whole end at))
    ∙ ap (λ byte. is_digit byte base) (byte_after (digits ++ 95 ∷ []) rest text digit pushed (end + 1) (omega (arith, length-append digits (95 ∷ []))))
    ∙ is) in
    let after : length digits + 1 ≡ end → ⊥ =
    λ at. false≢true
    (sym (underscore-no_digit base small)
    ∙ ap (λ byte. is_digit byte base) (sym (get_or-take end text (length digits) 0 (omega arith) ∙ byte_after digits (digit ∷ rest) text 95 whole (length digits) refl))
    ∙ last_is_digit scanned (length digits) (omega (arith, length-take-le end text within))) in
    omega (arith, length-append digits (95 ∷ digit ∷ []))

-- the text up to the next digit, that digit included
take_next : (base : ℕ) (text : List ℕ) (end position : ℕ) → IsNextDigit base text end position
    → (take (position + 1) text ≡ take end text ++ get_or text position 0 ∷ []) ⊎ ((0 < end) × (take (position + 1) text ≡ take end text ++ 95 ∷ get_or text position 0 ∷ []))
take_next base text end position next =
    elim next.near as (λ _. (take (position + 1) text ≡ take end text ++ get_or text position 0 ∷ []) ⊎ ((0 < end) × (take (position + 1) text ≡ take end text ++ 95 ∷ get_or text position 0 ∷ []))) [
      | inl at ↦ inl (rw (take_more text position 0 next.within) (ap (λ count. take count text ++ get_or text position 0 ∷ []) at))
      | inr after ↦
          let there : end < length text = omega (arith, next.within, after.1) in
          let underscore : take (end + 1) text ≡ take end text ++ 95 ∷ [] = take_more text end 0 there ∙ ap (λ byte. take end text ++ byte ∷ []) after.2 in
          inr (
            after.0,
            take_more text position 0 next.within
                ∙ ap (λ count. take count text ++ get_or text position 0 ∷ []) after.1
                ∙ ap (λ prefix. prefix ++ get_or text position 0 ∷ []) underscore
                ∙ append_assoc (take end text) (95 ∷ []) (get_or text position 0 ∷ []),
          )
    ]

-- the digits so far, none at first, and the next digit
pub digits_with_next : (base : ℕ) (text : List ℕ) (end position : ℕ) → (end ≡ 0) ⊎ AreDigits base (take end text) → IsNextDigit base text end position
    → AreDigits base (take (position + 1) text)
digits_with_next base text end position (inl none) next =
    elim (take_next base text end position next) as (λ _. AreDigits base (take (position + 1) text)) [
      | inl near ↦ rw (near, none) (one (get_or text position 0) next.is_digit)
      | inr after ↦ absurd (omega (arith, none, after.0))
    ]
digits_with_next base text end position (inr digits) next =
    elim (take_next base text end position next) as (λ _. AreDigits base (take (position + 1) text)) [
      | inl near ↦ rw near (more (take end text) (get_or text position 0) digits next.is_digit)
      | inr after ↦ rw after.1 (spaced (take end text) (get_or text position 0) digits next.is_digit)
    ]

-- the number of the digits so far and the next digit
pub value_with_next : (base : ℕ) (text : List ℕ) (end position : ℕ) → base ≤ 16 → IsNextDigit base text end position
    → value_of base (take (position + 1) text) ≡ value_of base (take end text) * base + digit_value (get_or text position 0)
value_with_next base text end position small next =
    let other : eqb (get_or text position 0) 95 ≡ false = digit-no_underscore base (get_or text position 0) small next.is_digit in
    elim (take_next base text end position next) as (λ _. value_of base (take (position + 1) text) ≡ value_of base (take end text) * base + digit_value (get_or text position 0)) [
      | inl near ↦ ap (value_of base) near ∙ value_of-push base (take end text) (get_or text position 0) other
      | inr after ↦ ap (value_of base) after.1 ∙ value_of-spaced base (take end text) (get_or text position 0) other
    ]
