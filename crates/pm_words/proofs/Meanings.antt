-- What is read of words is what they mean, and all that they mean is read.
use Rattle.std.proofs.Common.{◌≡◌, ◌≢◌, ◌+◌, ◌<◌, ◌≤◌, ◌^◌, ◌++◌, ◌∙◌, ◌⊎◌, ◌==◌, ℕ, zero, suc, ℤ, pos, neg_ℤ, Bool, true, false, List, [], ◌∷◌, length, refl, inl, inr, ap, sym, subst, arith}
use Rattle.std.specs.Prelude.{Option, Some, None, ◌&&◌, not, option_map, nat_lt, nat_le, codes, decimal, find}
use Rattle.std.specs.Option.{option_and_then}
use Rattle.std.specs.Char.{is_ascii_digit, is_digit}
use Rattle.pm_syn.proofs.FirstBytes.{literal_begins}
use Rattle.std.specs.List.{list_all, range_with_len}
use Rattle.std.specs.Str.{bytes_eq}
use Rattle.std.specs.Str.Parse.{digits_value}
use Rattle.std.proofs.lemmas.Bool.{and_parts, cases_Bool, eqb-true, false≢true}
use Rattle.std.proofs.lemmas.Bool.Decides.{nat_tests}
use Rattle.std.proofs.lemmas.Fmt.{decimal_injective}
use Rattle.std.proofs.lemmas.List.{append_cancel_left}
use Rattle.pm_syn.specs.Bytes.{begins_name, continues_name}
use Rattle.pm_syn.specs.Names.{is_spelled_as_name}
use Rattle.pm_syn.specs.Numbers.{IsLiteral}
use Rattle.pm_elab.specs.declared.parameter.Param.{Param}
use Rattle.pm_elab.specs.declared.parameter.ParamValue.{ParamValue}
use Rattle.pm_elab.specs.declared.parameter.ParamValue.TheVariants as given
use Rattle.pm_words.specs.Readings.{cut, decimal_of, digits_of, integer_of, is_operand, is_width, literal_of, name_in, negated, number_of, operand_in, or_else, param_of, params_of, plain, value_of_word, width_of}
use Rattle.pm_words.specs.Words.{AreParams, IsNegated, IsNumber, IsOperand, IsParam, IsPlain, IsValue, IsWidth}
use Rattle.pm_words.proofs.Literals.{literal_read, to_literal}
use Rattle.pm_words.proofs.Steps.{bytes_eq_to, mapped, nothing, same_some, step_to, stepped, test_to, tested, to_bytes_eq}

-- ---- names of files and classes

some_length : (word : List ℕ) → word ≢ [] → nat_lt 0 (length word) ≡ true
some_length [] some = absurd (some refl)
some_length (byte ∷ word) some = grind (arith, nat_tests)

not_true : (b : Bool) → ¬ (b ≡ true) → not b ≡ true
not_true true never = absurd (never refl)
not_true false never = refl

no_true : (b : Bool) → not b ≡ true → b ≡ true → ⊥
no_true true other is = false≢true other
no_true false other is = false≢true is

pub operand_read : (word name : List ℕ) → operand_in word ≡ Some name → IsOperand name × (name ≡ word)
unfolding operand_in is_operand
operand_read word name is =
    let test = tested (is_operand word) word name is in
    let parts = and_parts (nat_lt 0 (length word)) (not (bytes_eq word (codes "-"))) test.0 in
    let some : word ≢ [] = λ none. false≢true (ap (λ (w : List ℕ). nat_lt 0 (length w)) (sym none) ∙ parts.0) in
    let other : word ≢ codes "-" = λ minus. no_true _ parts.1 (to_bytes_eq word (codes "-") minus) in
    let both : IsOperand word = (some, other) in
    (subst IsOperand test.1 both, sym test.1)

pub to_operand : (word : List ℕ) → IsOperand word → operand_in word ≡ Some word
unfolding operand_in is_operand
to_operand word is =
    let some : nat_lt 0 (length word) ≡ true = some_length word is.0 in
    let other : not (bytes_eq word (codes "-")) ≡ true =
    not_true _ (λ same. is.1 (bytes_eq_to word (codes "-") same)) in
    rw (some, other) refl

-- ---- numbers

pub number_read : (word : List ℕ) (number : ℕ) → number_of word ≡ Some number → IsNumber number word
unfolding number_of decimal_of
number_read word number is = elim (cases_Bool (nat_lt 0 (length word) && nat_le (length word) 10)) [
  | inl size ↦
      let sizes = and_parts (nat_lt 0 (length word)) (nat_le (length word) 10) size in
      let test =
      tested (list_all (λ byte. is_digit byte 10) word && nat_lt (digits_value 10 word) (2 ^ 64))
      (digits_value 10 word) number (rw size at is) in
      let parts =
      and_parts (list_all (λ byte. is_digit byte 10) word) (nat_lt (digits_value 10 word) (2 ^ 64)) test.0 in
      record {
        some = grind (arith, nat_tests, sizes.0);
        short = grind (arith, nat_tests, sizes.1);
        digits = parts.0;
        written = sym test.1;
      }
  | inr other ↦ absurd (nothing number (rw other at is))
]

pub to_number : (word : List ℕ) (number : ℕ) → IsNumber number word → number < 2 ^ 64 → number_of word ≡ Some number
unfolding number_of decimal_of
to_number word number is fits =
    let some : nat_lt 0 (length word) ≡ true = grind (arith, nat_tests, is.some) in
    let short : nat_le (length word) 10 ≡ true = grind (arith, nat_tests, is.short) in
    let digits : list_all (λ byte. is_digit byte 10) word ≡ true = is.digits in
    let below : nat_lt (digits_value 10 word) (2 ^ 64) ≡ true = grind (arith, nat_tests, is.written, fits) in
    rw (some, short, digits, below) (ap (λ (n : ℕ). Some n) (sym is.written))

-- ---- integers

plain_read : (size : ℕ) (integer : ℤ) → plain size ≡ Some integer → (size < 2 ^ 63) × (integer ≡ pos size)
unfolding plain
plain_read size integer is = let test = tested (nat_lt size (2 ^ 63)) (pos size) integer is in
    (grind (arith, nat_tests, test.0), sym test.1)

negated_read : (size : ℕ) (integer : ℤ) → negated size ≡ Some integer → (size ≤ 2 ^ 63) × (integer ≡ neg_ℤ (pos size))
unfolding negated
negated_read size integer is = let test = tested (nat_le size (2 ^ 63)) (neg_ℤ (pos size)) integer is in
    (grind (arith, nat_tests, test.0), sym test.1)

to_plain : (size : ℕ) → size < 2 ^ 63 → plain size ≡ Some (pos size)
unfolding plain
to_plain size fits = test_to _ _ (grind (arith, nat_tests, fits))

to_negated : (size : ℕ) → size ≤ 2 ^ 63 → negated size ≡ Some (neg_ℤ (pos size))
unfolding negated
to_negated size fits = test_to _ _ (grind (arith, nat_tests, fits))

plain_of : (word : List ℕ) (integer : ℤ) → option_and_then plain (literal_of word) ≡ Some integer → IsPlain integer word
plain_of word integer is =
    let size = stepped (literal_of word) plain integer is in
    let read = plain_read size.0 integer size.2 in
    record { size = size.0; literal = literal_read word size.0 size.1; fits = read.0; written = read.1 }

of_plain : (word : List ℕ) (integer : ℤ) → IsPlain integer word → option_and_then plain (literal_of word) ≡ Some integer
of_plain word integer is =
    step_to (literal_of word) plain is.size integer (to_literal word is.size is.literal (omega (arith, is.fits)))
    (to_plain is.size is.fits ∙ ap (λ (n : ℤ). Some n) (sym is.written))

-- a literal doesn't begin with a minus
no_minus : (number : ℕ) (first : ℕ) (others : List ℕ) → IsLiteral number (first ∷ others) → (first == 45) ≡ false
no_minus number first others is = elim (cases_Bool (first == 45)) [
  | inl minus ↦
      let digit : is_ascii_digit first ≡ true = literal_begins number first others is in
      let same : first ≡ 45 = eqb-true first 45 minus in
      absurd (false≢true (ap is_ascii_digit (sym same) ∙ digit))
  | inr other ↦ other
]

pub integer_read : (word : List ℕ) (integer : ℤ) → integer_of word ≡ Some integer
    → IsPlain integer word ⊎ IsNegated integer word
unfolding integer_of
integer_read [] integer is = inl (plain_of [] integer is)
integer_read (first ∷ others) integer is = elim (cases_Bool (first == 45)) [
  | inl minus ↦
      let size = stepped (literal_of others) negated integer (rw minus at is) in
      let read = negated_read size.0 integer size.2 in
      inr (record {
        size = size.0;
        spelling = others;
        spelled = ap (λ (b : ℕ). b ∷ others) (eqb-true first 45 minus);
        literal = literal_read others size.0 size.1;
        fits = read.0;
        written = read.1;
      })
  | inr other ↦ inl (plain_of (first ∷ others) integer (rw other at is))
]

pub to_integer : (word : List ℕ) (integer : ℤ) → IsPlain integer word ⊎ IsNegated integer word
    → integer_of word ≡ Some integer
unfolding integer_of
to_integer [] integer (inl is) = of_plain [] integer is
to_integer (first ∷ others) integer (inl is) =
    rw (no_minus is.size first others is.literal) (of_plain (first ∷ others) integer is)
to_integer word integer (inr is) =
    rw is.spelled
    (step_to (literal_of is.spelling) negated is.size integer
    (to_literal is.spelling is.size is.literal (omega (arith, is.fits)))
    (to_negated is.size is.fits ∙ ap (λ (n : ℤ). Some n) (sym is.written)))

-- ---- widths

found : (test : ℕ → Bool) (start count width : ℕ) → find test (range_with_len start count) ≡ Some width
    → (start ≤ width) × (width < start + count) × (test width ≡ true)
found test start zero width is = absurd (nothing width is)
found test start (suc count) width is = elim (cases_Bool (test start)) [
  | inl here ↦
      let same : start ≡ width = same_some start width (rw here at is) in
      (omega (arith, same), omega (arith, same), ap test (sym same) ∙ here)
  | inr other ↦
      let rest = found test (start + 1) count width (rw other at is) in
      (omega (arith, rest.0), omega (arith, rest.1), rest.2)
]

-- the test is passed by one number alone
to_found : (test : ℕ → Bool) (start count width : ℕ) → start ≤ width → width < start + count → test width ≡ true
    → ((other : ℕ) → other < start + count → test other ≡ true → other ≡ width)
    → find test (range_with_len start count) ≡ Some width
to_found test start zero width low high passed only = absurd (omega (arith, low, high))
to_found test start (suc count) width low high passed only = elim (cases_Bool (test start)) [
  | inl here ↦ rw here (ap (λ (n : ℕ). Some n) (only start (omega arith) here))
  | inr fails ↦
      let later : start ≢ width = λ same. false≢true (sym fails ∙ ap test same ∙ passed) in
      rw fails (to_found test (start + 1) count width (omega (arith, low, later)) (omega (arith, high)) passed
      (λ other below. only other (omega (arith, below))))
]

pub width_read : (word : List ℕ) (width : ℕ) → width_of word ≡ Some width → IsWidth width word
unfolding width_of is_width
width_read word width is =
    let here = found (is_width word) 1 128 width is in
    record {
      low = here.0;
      high = omega (arith, here.1);
      spelled =
          bytes_eq_to word (codes "Bits" ++ decimal width) here.2;
    }

pub to_width : (word : List ℕ) (width : ℕ) → IsWidth width word → width_of word ≡ Some width
unfolding width_of is_width
to_width word width is =
    to_found (is_width word) 1 128 width is.low (omega (arith, is.high))
    (to_bytes_eq word (codes "Bits" ++ decimal width) is.spelled)
    (λ other below passed. decimal_injective other width (omega (arith, below)) (omega (arith, is.high)) (
    append_cancel_left (codes "Bits") (decimal other) (decimal width)
    (sym (bytes_eq_to word (codes "Bits" ++ decimal other) passed) ∙ is.spelled)))

-- ---- parameters

-- `BitsN` is no integer
width_no_integer : (word : List ℕ) (width : ℕ) (integer : ℤ) → IsWidth width word → integer_of word ≡ Some integer → ⊥
unfolding integer_of literal_of digits_of
width_no_integer word width integer is read = nothing integer (rw is.spelled at read)

-- the value of a word that is tried as a width and then as an integer
value_by : (word : List ℕ) (value : ParamValue) (width : Option ℕ) → width_of word ≡ width
    → or_else (option_map given.Width width) (option_map given.Int (integer_of word)) ≡ Some value → IsValue value word
value_by word value (Some width) found is =
    subst (λ (v : ParamValue). IsValue v word) (same_some (given.Width width) value is) (width_read word width found)
value_by word value None found is =
    let integer = mapped (integer_of word) given.Int value is in
    subst (λ (v : ParamValue). IsValue v word) integer.2 (integer_read word integer.0 integer.1)

pub value_read : (word : List ℕ) (value : ParamValue) → value_of_word word ≡ Some value → IsValue value word
unfolding value_of_word
value_read word value is = value_by word value (width_of word) refl is

integer_by : (word : List ℕ) (integer : ℤ) (width : Option ℕ) → width_of word ≡ width → integer_of word ≡ Some integer
    → or_else (option_map given.Width width) (option_map given.Int (integer_of word)) ≡ Some (given.Int integer)
integer_by word integer (Some width) found is =
    absurd (width_no_integer word width integer (width_read word width found) is)
integer_by word integer None found is = ap (option_map given.Int) is

pub to_value : (word : List ℕ) (value : ParamValue) → IsValue value word → value_of_word word ≡ Some value
unfolding value_of_word
to_value word (given.Int integer) is = integer_by word integer (width_of word) refl (to_integer word integer is)
to_value word (given.Width width) is = rw (to_width word width is) refl

cut_read : (word : List ℕ) (parts : List ℕ × List ℕ) → cut word ≡ Some parts → word ≡ parts.0 ++ 61 ∷ parts.1
unfolding cut
cut_read [] parts is = absurd (nothing parts is)
cut_read (byte ∷ word) parts is = elim (cases_Bool (byte == 61)) [
  | inl here ↦
      let same : ([], word) ≡ parts = same_some ([], word) parts (rw here at is) in
      ap (λ (b : ℕ). b ∷ word) (eqb-true byte 61 here) ∙ ap (λ (p : List ℕ × List ℕ). p.0 ++ 61 ∷ p.1) same
  | inr other ↦
      let rest = mapped (cut word) (λ (p : List ℕ × List ℕ). (byte ∷ p.0, p.1)) parts (rw other at is) in
      ap (λ (w : List ℕ). byte ∷ w) (cut_read word rest.0 rest.1) ∙ ap (λ (p : List ℕ × List ℕ). p.0 ++ 61 ∷ p.1) rest.2
]

not_other : (b : Bool) → not b ≡ true → b ≡ false
not_other true is = sym is
not_other false is = refl

-- a text without an `=` before the first
to_cut : (name value : List ℕ) → list_all (λ byte. not (byte == 61)) name ≡ true
    → cut (name ++ 61 ∷ value) ≡ Some (name, value)
unfolding cut
to_cut [] value all = refl
to_cut (byte ∷ name) value all =
    let parts = and_parts (not (byte == 61)) (list_all (λ byte. not (byte == 61)) name) all in
    let other : (byte == 61) ≡ false = not_other (byte == 61) parts.0 in
    rw (other, to_cut name value parts.1) refl

-- `=` is no byte of a name
equals_no_name : (byte : ℕ) → continues_name byte ≡ true → (byte == 61) ≡ false
equals_no_name byte is = elim (cases_Bool (byte == 61)) [
  | inl same ↦ absurd (false≢true (ap continues_name (sym (eqb-true byte 61 same)) ∙ is))
  | inr other ↦ other
]

equals_begins_none : (byte : ℕ) → begins_name byte ≡ true → (byte == 61) ≡ false
equals_begins_none byte is = elim (cases_Bool (byte == 61)) [
  | inl same ↦ absurd (false≢true (ap begins_name (sym (eqb-true byte 61 same)) ∙ is))
  | inr other ↦ other
]

no_equals : (name : List ℕ) → list_all continues_name name ≡ true → list_all (λ byte. not (byte == 61)) name ≡ true
no_equals [] all = refl
no_equals (byte ∷ name) all =
    let parts = and_parts (continues_name byte) (list_all continues_name name) all in
    rw (equals_no_name byte parts.0) (no_equals name parts.1)

name_no_equals : (name : List ℕ) → is_spelled_as_name name ≡ true → list_all (λ byte. not (byte == 61)) name ≡ true
name_no_equals [] named = refl
name_no_equals (byte ∷ name) named =
    let parts = and_parts (begins_name byte) (list_all continues_name name) named in
    rw (equals_begins_none byte parts.0) (no_equals name parts.1)

pub param_read : (word : List ℕ) (param : Param) → param_of word ≡ Some param → IsParam param word
unfolding param_of name_in
param_read word param is =
    let parts = stepped (cut word) _ param is in
    let value = stepped (value_of_word parts.0.1) _ param parts.2 in
    let name = stepped (name_in parts.0.0) _ param value.2 in
    let named = tested (is_spelled_as_name parts.0.0) parts.0.0 name.0 name.1 in
    let made : record { name = name.0; value = value.0 } ≡ param = same_some _ param name.2 in
    subst (λ (p : Param). IsParam p word) made (record {
      value = parts.0.1;
      spelled = cut_read word parts.0 parts.1 ∙ ap (λ (n : List ℕ). n ++ 61 ∷ parts.0.1) named.1;
      named = subst (λ (n : List ℕ). is_spelled_as_name n ≡ true) named.1 named.0;
      valued = value_read parts.0.1 value.0 value.1;
    })

pub to_param : (word : List ℕ) (param : Param) → IsParam param word → param_of word ≡ Some param
unfolding param_of name_in
to_param word param is =
    let named : is_spelled_as_name param.name ≡ true = is.named in
    rw (
      is.spelled,
      to_cut param.name is.value
          (name_no_equals param.name named),
      to_value is.value param.value is.valued,
      named,
    ) refl

pub params_read : (words : List (List ℕ)) (params : List Param) → params_of words ≡ Some params → AreParams params words
unfolding params_of
params_read [] params is = subst (λ (ps : List Param). AreParams ps []) (same_some [] params is) tt
params_read (word ∷ words) params is =
    let first = stepped (param_of word) _ params is in
    let others = stepped (params_of words) _ params first.2 in
    subst (λ (ps : List Param). AreParams ps (word ∷ words)) (same_some (first.0 ∷ others.0) params others.2)
    (param_read word first.0 first.1, params_read words others.0 others.1)

pub to_params : (words : List (List ℕ)) (params : List Param) → AreParams params words → params_of words ≡ Some params
unfolding params_of
to_params [] [] is = refl
to_params [] (param ∷ params) is = absurd is
to_params (word ∷ words) [] is = absurd is
to_params (word ∷ words) (param ∷ params) is = rw (to_param word param is.0, to_params words params is.1) refl
