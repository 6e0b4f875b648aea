-- Literals at the start of a text: which bytes a literal with a base begins with, and which literals are the longest.
use Rattle.std.proofs.Common.{◌≡◌, ◌++◌, ◌+◌, ◌-◌, ◌<◌, ◌≤◌, ℕ, suc, true, false, List, [], ◌∷◌, length, get_or, take, drop, refl, ap, sym, subst, inl, inr, ◌∙◌, length-append, length-drop, arith, rules}
use Rattle.std.specs.Prelude.{None, Some}
use Rattle.std.proofs.lemmas.Bool.{false≢true}
use Rattle.std.proofs.lemmas.Option.{same_Some}
use Rattle.std.proofs.lemmas.List.{get_or_append_left}
use Rattle.std.specs.Char.{is_digit}
use Rattle.pm_syn.specs.Heads.{IsLongestLiteral, AreLongestDigits}
use Rattle.pm_syn.specs.LiteralParts.{HasNoBased}
use Rattle.pm_syn.specs.Numbers.{AreDigits, IsLiteral, IsBased, IsDecimal, base_of, value_of}
use Rattle.pm_syn.specs.declared.number.Literal.{Literal}
use Rattle.pm_syn.proofs.Digits.{some_digit, first_is_digit}

-- a literal with a base at the start of a text: its letter, its first digit, and its digits
record BeginsBased (text rest : List ℕ) (letter base : ℕ) (digits : List ℕ) : Type 0 where
  pub second : get_or text 1 0 ≡ letter
  pub within : 2 < length text
  pub third : is_digit (get_or (drop 2 text) 0 0) base ≡ true
  pub after : digits ++ rest ≡ drop 2 text

-- a literal with a base at the start of a text spells the text's first bytes
based_at_head : {number : ℕ} {prefix : List ℕ} (text rest : List ℕ) → prefix ++ rest ≡ text → (based : IsBased number prefix)
    → BeginsBased text rest based.letter based.base based.digits
based_at_head text rest same based =
    let whole : 48 ∷ based.letter ∷ based.digits ++ rest ≡ text = ap (λ (xs : List ℕ). xs ++ rest) (sym based.spelled) ∙ same in
    let first : get_or (based.digits ++ rest) 0 0 ≡ get_or (drop 2 text) 0 0 = ap (λ (xs : List ℕ). get_or (drop 2 xs) 0 0) whole in
    record {
      second = ap (λ (xs : List ℕ). get_or xs 1 0) (sym whole);
      within = omega (arith, ap length whole, length-append based.digits rest, some_digit based.are_digits);
      third = ap (λ byte. is_digit byte based.base) (sym first ∙ get_or_append_left based.digits rest 0 0 (some_digit based.are_digits)) ∙ first_is_digit based.are_digits;
      after = ap (drop 2) whole;
    }

-- the base of a literal at the start is the one that the second byte names
base_at_head : {number : ℕ} {prefix : List ℕ} (text rest : List ℕ) (base : ℕ) → base_of (get_or text 1 0) ≡ Some base → prefix ++ rest ≡ text
    → (based : IsBased number prefix) → based.base ≡ base
base_at_head text rest base names same based =
    let head = based_at_head text rest same based in
    same_Some based.base base (sym based.based ∙ ap base_of (sym head.second) ∙ names)

-- no literal has a base where the third byte is no digit of the base that the second names
pub no_based-no_digit : (text : List ℕ) (base : ℕ) → base_of (get_or text 1 0) ≡ Some base → is_digit (get_or (drop 2 text) 0 0) base ≡ false → HasNoBased text
no_based-no_digit text base names no_digit number prefix rest same based =
    let head = based_at_head text rest same based in
    false≢true (sym no_digit ∙ ap (λ radix. is_digit (get_or (drop 2 text) 0 0) radix) (sym (base_at_head text rest base names same based)) ∙ head.third)

-- the second byte of a literal with a base names one
pub no_based-no_base : (text : List ℕ) → base_of (get_or text 1 0) ≡ None → HasNoBased text
no_based-no_base text none number start rest same based =
    let head = based_at_head text rest same based in
    let wrong : None ≡ Some based.base = sym none ∙ ap base_of head.second ∙ based.based in
    cc

-- a literal with a base has three bytes or more
pub no_based-short : (text : List ℕ) → length text ≤ 2 → HasNoBased text
no_based-short text short number start rest same based = let head = based_at_head text rest same based in omega (arith, head.within, short)

-- a decimal literal at the start of a text doesn't begin with `0`
no_decimal-zero : {number : ℕ} {prefix : List ℕ} (text rest : List ℕ) → get_or text 0 0 ≡ 48 → prefix ++ rest ≡ text → IsDecimal number prefix → ⊥
no_decimal-zero text rest zero same decimal =
    decimal.no_zero (ap (λ (xs : List ℕ). get_or (xs ++ rest) 0 0) (sym decimal.spelled) ∙ ap (λ (xs : List ℕ). get_or xs 0 0) same ∙ zero)

-- a text of two or more bytes up to a position after them
take_two : (text : List ℕ) (count : ℕ) → 2 ≤ length text → take (count + 2) text ≡ get_or text 0 0 ∷ get_or text 1 0 ∷ take count (drop 2 text)
take_two [] count long = absurd (omega arith)
take_two (first ∷ []) count long = absurd (omega arith)
take_two (first ∷ second ∷ text) count long = let two : count + 2 ≡ suc (suc count) = omega arith in rw two refl

-- any literal at the start of a text that begins with `0` ends where the digits of its base do
longest_of-based : (text : List ℕ) (base end : ℕ) → get_or text 0 0 ≡ 48 → base_of (get_or text 1 0) ≡ Some base
    → ((prefix rest : List ℕ) → prefix ++ rest ≡ drop 2 text → AreDigits base prefix → length prefix ≤ end)
    → (other : ℕ) (prefix rest : List ℕ) → prefix ++ rest ≡ text → IsLiteral other prefix → length prefix ≤ end + 2
longest_of-based text base end zero names longest other prefix rest same (inl alone) = omega (arith, ap length alone.0)
longest_of-based text base end zero names longest other prefix rest same (inr (inl decimal)) = absurd (no_decimal-zero text rest zero same decimal)
longest_of-based text base end zero names longest other prefix rest same (inr (inr based)) =
    let head = based_at_head text rest same based in
    let are_digits : AreDigits base based.digits = subst (λ radix. AreDigits radix based.digits) (base_at_head text rest base names same based) based.are_digits in
    omega (arith, ap length based.spelled, longest based.digits rest head.after are_digits)

-- the longest digits after `0` and the letter of their base make the longest literal
pub longest-based : (text : List ℕ) (base : ℕ) (digits : Literal) → get_or text 0 0 ≡ 48 → base_of (get_or text 1 0) ≡ Some base → 2 ≤ length text
    → AreLongestDigits base (drop 2 text) digits → IsLongestLiteral text (record { length = digits.length + 2; number = digits.number })
longest-based text base digits zero names long longest =
    let prefix = take digits.length (drop 2 text) in
    let spelled : take (digits.length + 2) text ≡ 48 ∷ get_or text 1 0 ∷ prefix = take_two text digits.length long ∙ ap (λ byte. byte ∷ get_or text 1 0 ∷ prefix) zero in
    let based : IsBased (value_of base prefix) (take (digits.length + 2) text) = record {
      letter = get_or text 1 0;
      base = base;
      digits = prefix;
      spelled = spelled;
      based = names;
      are_digits = longest.spelled;
      written = refl;
    } in
    record {
      some = omega arith;
      within = omega (arith, longest.within, length-drop 2 text);
      number = value_of base prefix;
      read = longest.read;
      spelled = inr (inr based);
      longest = longest_of-based text base digits.length zero names longest.longest;
    }

-- any literal at the start of a text that doesn't begin with `0` ends where the decimal digits do
longest_of-decimal : (text : List ℕ) (end : ℕ) → (get_or text 0 0 ≡ 48 → ⊥) → ((prefix rest : List ℕ) → prefix ++ rest ≡ text → AreDigits 10 prefix → length prefix ≤ end)
    → (other : ℕ) (prefix rest : List ℕ) → prefix ++ rest ≡ text → IsLiteral other prefix → length prefix ≤ end
longest_of-decimal text end no_zero longest other prefix rest same (inl alone) =
    absurd (no_zero (ap (λ (xs : List ℕ). get_or xs 0 0) (sym same) ∙ ap (λ (xs : List ℕ). get_or (xs ++ rest) 0 0) alone.0))
longest_of-decimal text end no_zero longest other prefix rest same (inr (inl decimal)) = longest prefix rest same decimal.are_digits
longest_of-decimal text end no_zero longest other prefix rest same (inr (inr based)) =
    absurd (no_zero (ap (λ (xs : List ℕ). get_or xs 0 0) (sym same) ∙ ap (λ (xs : List ℕ). get_or (xs ++ rest) 0 0) based.spelled))

-- the first byte of a text and those after it, up to a position
take_first : (text : List ℕ) (count : ℕ) → 0 < count → count ≤ length text → take count text ≡ get_or text 0 0 ∷ take (count - 1) (drop 1 text)
take_first [] count some within = absurd (omega arith)
take_first (first ∷ text) count some within = let next : count ≡ suc (count - 1) = omega arith in ap (λ position. take position (first ∷ text)) next

-- the longest decimal digits at the start of a text that doesn't begin with `0` are the longest literal
pub longest-decimal : (text : List ℕ) (digits : Literal) → (get_or text 0 0 ≡ 48 → ⊥) → AreLongestDigits 10 text digits → IsLongestLiteral text digits
longest-decimal text digits no_zero longest =
    let decimal : IsDecimal (value_of 10 (take digits.length text)) (take digits.length text) = record {
      first = get_or text 0 0;
      others = take (digits.length - 1) (drop 1 text);
      spelled = take_first text digits.length longest.some longest.within;
      no_zero = no_zero;
      are_digits = longest.spelled;
      written = refl;
    } in
    record {
      some = longest.some;
      within = longest.within;
      number = value_of 10 (take digits.length text);
      read = longest.read;
      spelled = inr (inl decimal);
      longest = longest_of-decimal text digits.length no_zero longest.longest;
    }

-- any literal at the start of a text that begins with `0` is `0` if there is none with a base
longest_of-zero : (text : List ℕ) → get_or text 0 0 ≡ 48 → HasNoBased text → (other : ℕ) (prefix rest : List ℕ) → prefix ++ rest ≡ text
    → IsLiteral other prefix → length prefix ≤ 1
longest_of-zero text zero none other prefix rest same (inl alone) = omega (arith, ap length alone.0)
longest_of-zero text zero none other prefix rest same (inr (inl decimal)) = absurd (no_decimal-zero text rest zero same decimal)
longest_of-zero text zero none other prefix rest same (inr (inr based)) = absurd (none other prefix rest same based)

-- `0` alone is the longest literal if there is none with a base
pub longest-zero : (text : List ℕ) → 0 < length text → get_or text 0 0 ≡ 48 → HasNoBased text → IsLongestLiteral text (record { length = 1; number = Some 0 })
longest-zero text some zero none =
    record {
      some = omega arith;
      within = omega arith;
      number = 0;
      read = (search rules, refl);
      spelled = inl (take_first text 1 (omega arith) some ∙ ap (λ byte. byte ∷ []) zero, refl);
      longest = longest_of-zero text zero none;
    }
