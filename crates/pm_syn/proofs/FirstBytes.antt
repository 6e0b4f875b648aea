-- With which bytes gaps, line ends and tokens begin.
use Rattle.std.proofs.Common.{◌≡◌, ◌==◌, ◌&&◌, ◌||◌, ◌∙◌, ◌⊎◌, ℕ, suc, ◌+◌, ◌<◌, Bool, true, false, not, List, [], ◌∷◌, ◌++◌, length, drop, if◌then◌else◌, Option, Some, None, inl, inr, refl, ap, sym, subst, arith}
use Rattle.std.specs.Prelude.{option_map, All}
use Rattle.std.specs.Char.{is_ascii_digit, is_digit}
use Rattle.std.specs.List.{list_any, list_all}
use Rattle.std.specs.Str.{bytes_eq}
use Rattle.std.proofs.lemmas.Bool.{eqb-true, and_parts, or_cases, or_parts, not-true, false≢true, false_from_ne_true, cond-false}
use Rattle.std.proofs.lemmas.Bool.Decides.{nat_tests}
use Rattle.std.proofs.lemmas.List.Elements.{All-head}
use Rattle.pm_io.specs.declared.lines.TheConstants.{LF, CR}
use Rattle.pm_syn.specs.Bytes.{begins_name, continues_name}
use Rattle.pm_syn.specs.Numbers.{IsLiteral}
use Rattle.pm_syn.specs.Operators.{is_operator, one_byte, two_bytes, three_bytes}
use Rattle.pm_syn.specs.Strings.{are_two_more, length_from, string_length, quoted_length, is_prefix, is_quote, closing_quote, closing_quotes}
use Rattle.pm_syn.specs.Names.{is_spelled_as_name}
use Rattle.pm_syn.specs.Tokens.{IsToken}
use Rattle.pm_syn.specs.Lexemes.{Stands}
use Rattle.pm_syn.specs.declared.lexeme.Sort.{Sort}
use Rattle.pm_syn.specs.declared.lexeme.Sort.TheVariants as sort
use Rattle.pm_syn.specs.declared.token.TokenKind.{TokenKind}
use Rattle.pm_syn.specs.declared.token.TokenKind.TheVariants as kind
use Rattle.pm_syn.proofs.Digits.{first_is_digit}
use Rattle.pm_syn.proofs.NameBytes.{name_parts}

-- a byte with which a gap begins
abbrev begins_gap : ℕ → Bool
begins_gap byte = (byte == 32 || byte == 9) || (byte == 35 || byte == 92)

-- a byte with which a line end begins
abbrev begins_line_end : ℕ → Bool
begins_line_end byte = byte == LF || byte == CR

-- a byte with which a gap or a line end begins
abbrev pub is_layout : ℕ → Bool
is_layout byte = begins_gap byte || begins_line_end byte

-- a byte with which no gap, no line end and no token but an operator begins
abbrev is_mark : ℕ → Bool
is_mark byte = not ((begins_name byte || is_ascii_digit byte) || (is_quote byte || is_layout byte))

-- ---- operators

-- the test holds of the first of the bytes
abbrev passes_first : (ℕ → Bool) → List ℕ → Bool
passes_first test [] = true
passes_first test (byte ∷ bytes) = test byte

first_known : (test : ℕ → Bool) (a : ℕ) (bytes : List ℕ) (table : List (List ℕ)) → list_any (bytes_eq (a ∷ bytes)) table ≡ true
    → list_all (passes_first test) table ≡ true → test a ≡ true
first_known test a bytes [] known all = absurd (false≢true known)
first_known test a bytes ([] ∷ table) known all = first_known test a bytes table known all
first_known test a bytes ((b ∷ others) ∷ table) known all =
    let parts = and_parts (test b) (list_all (passes_first test) table) all in
    elim (or_cases (a == b && bytes_eq bytes others) (list_any (bytes_eq (a ∷ bytes)) table) known) [
      | inl here ↦ subst (λ byte. test byte ≡ true) (sym (eqb-true a b (and_parts (a == b) (bytes_eq bytes others) here).0)) parts.0
      | inr later ↦ first_known test a bytes table later parts.1
    ]

byte_known : (test : ℕ → Bool) (a : ℕ) (table : List ℕ) → list_any (λ known. known == a) table ≡ true → list_all test table ≡ true → test a ≡ true
byte_known test a [] known all = absurd (false≢true known)
byte_known test a (b ∷ table) known all =
    let parts = and_parts (test b) (list_all test table) all in
    elim (or_cases (b == a) (list_any (λ byte. byte == a) table) known) [
      | inl here ↦ subst (λ byte. test byte ≡ true) (eqb-true b a here) parts.0
      | inr later ↦ byte_known test a table later parts.1
    ]

-- an operator begins with a mark
pub operator_begins : (a : ℕ) (bytes : List ℕ) → is_operator (a ∷ bytes) ≡ true → is_mark a ≡ true
operator_begins a [] known = byte_known is_mark a one_byte known refl
operator_begins a (b ∷ []) known = first_known is_mark a (b ∷ []) two_bytes known refl
operator_begins a (b ∷ c ∷ bytes) known = first_known is_mark a (b ∷ c ∷ bytes) three_bytes known refl

-- ---- numbers

decimal_digit : (a : ℕ) → is_digit a 10 ≡ true → is_ascii_digit a ≡ true
decimal_digit a passes = grind (arith, nat_tests)

-- a literal begins with a decimal digit
pub literal_begins : (n a : ℕ) (bytes : List ℕ) → IsLiteral n (a ∷ bytes) → is_ascii_digit a ≡ true
literal_begins n a bytes (inl nought) = let spelled = nought.0 in let is : a ≡ 48 = cc in rw is refl
literal_begins n a bytes (inr (inl decimal)) = decimal_digit a (first_is_digit decimal.are_digits)
literal_begins n a bytes (inr (inr based)) = let spelled = based.spelled in let is : a ≡ 48 = cc in rw is refl

-- ---- the sorts of bytes are apart

pub mark_no_name : (a : ℕ) → is_mark a ≡ true → begins_name a ≡ true → ⊥
mark_no_name a mark name = false≢true (sym (or_parts _ _ (or_parts _ _ (not-true _ mark)).0).0 ∙ name)

pub mark_no_digit : (a : ℕ) → is_mark a ≡ true → is_ascii_digit a ≡ true → ⊥
mark_no_digit a mark digit = false≢true (sym (or_parts _ _ (or_parts _ _ (not-true _ mark)).0).1 ∙ digit)

mark_no_quote : (a : ℕ) → is_mark a ≡ true → is_quote a ≡ true → ⊥
mark_no_quote a mark quote = false≢true (sym (or_parts _ _ (or_parts _ _ (not-true _ mark)).1).0 ∙ quote)

mark_no_layout : (a : ℕ) → is_mark a ≡ true → is_layout a ≡ true → ⊥
mark_no_layout a mark layout = false≢true (sym (or_parts _ _ (or_parts _ _ (not-true _ mark)).1).1 ∙ layout)

pub name_no_digit : (a : ℕ) → begins_name a ≡ true → is_ascii_digit a ≡ true → ⊥
name_no_digit a name digit = grind (arith, nat_tests)

name_no_quote : (a : ℕ) → continues_name a ≡ true → is_quote a ≡ true → ⊥
name_no_quote a name quote = grind (arith, nat_tests)

pub name_continues : (a : ℕ) → begins_name a ≡ true → continues_name a ≡ true
name_continues a name = grind (arith, nat_tests)

prefix_begins_name : (a : ℕ) → is_prefix a ≡ true → begins_name a ≡ true
prefix_begins_name a prefix = grind (arith, nat_tests)

quote_no_digit : (a : ℕ) → is_quote a ≡ true → is_ascii_digit a ≡ true → ⊥
quote_no_digit a quote digit = grind (arith, nat_tests)

layout_no_name : (a : ℕ) → is_layout a ≡ true → begins_name a ≡ true → ⊥
layout_no_name a layout name = grind (arith, nat_tests)

layout_no_digit : (a : ℕ) → is_layout a ≡ true → is_ascii_digit a ≡ true → ⊥
layout_no_digit a layout digit = grind (arith, nat_tests)

layout_no_quote : (a : ℕ) → is_layout a ≡ true → is_quote a ≡ true → ⊥
layout_no_quote a layout quote = grind (arith, nat_tests)

-- ---- strings

-- more bytes than none
some_more : (count : ℕ) (found : Option ℕ) (n : ℕ) → option_map (λ k. k + suc count) found ≡ Some n → 0 < n
some_more count None n same = cc
some_more count (Some k) n same = let sum : k + suc count ≡ n = cc in omega (arith, sum)

-- a string from its first quote on isn't empty
length_from_some : (quote : ℕ) (text : List ℕ) (n : ℕ) → length_from quote text ≡ Some n → 0 < n
length_from_some quote text n is = go (are_two_more quote text) is where
  go : (three : Bool)
      → (if three then option_map (λ k. k + 3) (closing_quotes quote (drop 2 text)) else option_map (λ k. k + 1) (closing_quote quote text)) ≡ Some n → 0 < n
  go true same = some_more 2 (closing_quotes quote (drop 2 text)) n same
  go false same = some_more 0 (closing_quote quote text) n same

-- a quoted string begins with a quote, and isn't empty
quoted_begins : (a : ℕ) (bytes : List ℕ) (n : ℕ) → quoted_length (a ∷ bytes) ≡ Some n → (is_quote a ≡ true) × (0 < n)
quoted_begins a bytes n is = go (is_quote a) refl is where
  go : (quote : Bool) → is_quote a ≡ quote → (if quote then length_from a bytes else None) ≡ Some n → (is_quote a ≡ true) × (0 < n)
  go true quoted same = (quoted, length_from_some a bytes n same)
  go false quoted same = cc

-- what begins with a prefix and is a string continues with a quote
prefixed_goes_on : (a : ℕ) (bytes : List ℕ) (n : ℕ) → is_prefix a ≡ true → string_length (a ∷ bytes) ≡ Some n
    → (b : ℕ) × (others : List ℕ) × (bytes ≡ b ∷ others) × (is_quote b ≡ true) × (1 < n)
prefixed_goes_on a [] n prefixed is = let none : ◌≡◌ {A = Option ℕ} None (Some n) = rw prefixed at is in cc
prefixed_goes_on a (b ∷ others) n prefixed is = go (quoted_length (b ∷ others)) refl (rw prefixed at is) where
  go : (found : Option ℕ) → quoted_length (b ∷ others) ≡ found → option_map (λ k. k + 1) found ≡ Some n
      → (b' : ℕ) × (others' : List ℕ) × (b ∷ others ≡ b' ∷ others') × (is_quote b' ≡ true) × (1 < n)
  go None found same = cc
  go (Some k) found same = let sum : k + 1 ≡ n = cc in let quoted = quoted_begins b others k found in (b, others, refl, quoted.0, omega (arith, sum, quoted.1))

-- a string with no prefix begins with a quote
unprefixed_begins : (a : ℕ) (bytes : List ℕ) (n : ℕ) → is_prefix a ≡ false → string_length (a ∷ bytes) ≡ Some n → (is_quote a ≡ true) × (0 < n)
unprefixed_begins a bytes n unprefixed is = quoted_begins a bytes n (rw unprefixed at is)

-- a string begins as a name or with a quote
string_begins : (a : ℕ) (bytes : List ℕ) (n : ℕ) → string_length (a ∷ bytes) ≡ Some n → (begins_name a ≡ true) ⊎ (is_quote a ≡ true)
string_begins a bytes n is = go (is_prefix a) refl where
  go : (prefixed : Bool) → is_prefix a ≡ prefixed → (begins_name a ≡ true) ⊎ (is_quote a ≡ true)
  go true prefixed = inl (prefix_begins_name a prefixed)
  go false prefixed = inr (unprefixed_begins a bytes n prefixed is).0

-- a string isn't empty
pub string_some : (text : List ℕ) (n : ℕ) → string_length text ≡ Some n → 0 < n
string_some [] n is = cc
string_some (a ∷ bytes) n is = go (is_prefix a) refl where
  go : (prefixed : Bool) → is_prefix a ≡ prefixed → 0 < n
  go true prefixed = let two = (prefixed_goes_on a bytes n prefixed is).4 in omega (arith, two)
  go false prefixed = (unprefixed_begins a bytes n prefixed is).1

-- no string begins with a digit, a mark or a byte of layout
pub digit_no_string : (a : ℕ) (bytes : List ℕ) (n : ℕ) → is_ascii_digit a ≡ true → string_length (a ∷ bytes) ≡ Some n → ⊥
digit_no_string a bytes n digit is = elim (string_begins a bytes n is) [ inl name ↦ name_no_digit a name digit | inr quote ↦ quote_no_digit a quote digit ]

pub mark_no_string : (a : ℕ) (bytes : List ℕ) (n : ℕ) → is_mark a ≡ true → string_length (a ∷ bytes) ≡ Some n → ⊥
mark_no_string a bytes n mark is = elim (string_begins a bytes n is) [ inl name ↦ mark_no_name a mark name | inr quote ↦ mark_no_quote a mark quote ]

layout_no_string : (a : ℕ) (bytes : List ℕ) (n : ℕ) → is_layout a ≡ true → string_length (a ∷ bytes) ≡ Some n → ⊥
layout_no_string a bytes n layout is = elim (string_begins a bytes n is) [ inl name ↦ layout_no_name a layout name | inr quote ↦ layout_no_quote a layout quote ]

-- a name at the start of a string is its prefix
pub name_of_string : (name rest text : List ℕ) (n : ℕ) → name ++ rest ≡ text → is_spelled_as_name name ≡ true → string_length text ≡ Some n → (length name ≡ 1) × (1 < n)
name_of_string [] rest text n is name string = absurd (false≢true name)
name_of_string (a ∷ others) rest text n is name string = go (is_prefix a) refl (subst (λ bytes. string_length bytes ≡ Some n) (sym is) string) where
  one : (others : List ℕ) → All (λ byte. continues_name byte ≡ true) others → (b : ℕ) (after : List ℕ) → others ++ rest ≡ b ∷ after → is_quote b ≡ true
      → length (a ∷ others) ≡ 1
  one [] all b after same quote = refl
  one (next ∷ others) all b after same quote =
      let first : next ≡ b = cc in absurd (name_no_quote next (All-head (λ byte. continues_name byte ≡ true) next others all) (rw first quote))

  go : (prefixed : Bool) → is_prefix a ≡ prefixed → string_length (a ∷ (others ++ rest)) ≡ Some n → (length (a ∷ others) ≡ 1) × (1 < n)
  go true prefixed same =
      let next = prefixed_goes_on a (others ++ rest) n prefixed same in
      (one others (name_parts a others name).1 next.0 next.1 next.2 next.3, next.4)
  go false prefixed same =
      absurd (name_no_quote a (name_continues a (name_parts a others name).0) (unprefixed_begins a (others ++ rest) n prefixed same).0)

-- ---- the first byte of a text at whose start a token is spelled

pub name_first : (a : ℕ) (others prefix rest : List ℕ) → prefix ++ rest ≡ a ∷ others → is_spelled_as_name prefix ≡ true → begins_name a ≡ true
name_first a others [] rest is name = absurd (false≢true name)
name_first a others (b ∷ prefix) rest is name = let same : b ≡ a = cc in subst (λ byte. begins_name byte ≡ true) same (name_parts b prefix name).0

literal_some : (n : ℕ) → IsLiteral n [] → ⊥
literal_some n (inl nought) = let spelled = nought.0 in cc
literal_some n (inr (inl decimal)) = let spelled = decimal.spelled in cc
literal_some n (inr (inr based)) = let spelled = based.spelled in cc

pub literal_first : (n a : ℕ) (others prefix rest : List ℕ) → prefix ++ rest ≡ a ∷ others → IsLiteral n prefix → is_ascii_digit a ≡ true
literal_first n a others [] rest is literal = absurd (literal_some n literal)
literal_first n a others (b ∷ prefix) rest is literal =
    let same : b ≡ a = cc in subst (λ byte. is_ascii_digit byte ≡ true) same (literal_begins n b prefix literal)

pub operator_first : (a : ℕ) (others prefix rest : List ℕ) → prefix ++ rest ≡ a ∷ others → is_operator prefix ≡ true → is_mark a ≡ true
operator_first a others [] rest is operator = absurd (false≢true operator)
operator_first a others (b ∷ prefix) rest is operator =
    let same : b ≡ a = cc in subst (λ byte. is_mark byte ≡ true) same (operator_begins b prefix operator)

-- no token begins as a gap or a line end does
pub no_token_at_layout : (a : ℕ) (others : List ℕ) → is_layout a ≡ true → (kind : TokenKind) (prefix rest : List ℕ) → prefix ++ rest ≡ a ∷ others → IsToken kind prefix rest → ⊥
no_token_at_layout a others layout kind.Name prefix rest is token = layout_no_name a layout (name_first a others prefix rest is token)
no_token_at_layout a others layout (kind.Int n) prefix rest is token = layout_no_digit a layout (literal_first n a others prefix rest is token)
no_token_at_layout a others layout kind.Str prefix rest is token = layout_no_string a others (length prefix) layout (rw is at token)
no_token_at_layout a others layout kind.Op prefix rest is token = mark_no_layout a (operator_first a others prefix rest is token) layout

-- a token has a byte
pub token_some : (kind : TokenKind) (bytes after : List ℕ) → IsToken kind bytes after → 0 < length bytes
token_some kind (a ∷ bytes) after is = omega arith
token_some kind.Name [] after is = absurd (false≢true is)
token_some (kind.Int n) [] after is = absurd (literal_some n is)
token_some kind.Str [] after is = string_some after 0 is
token_some kind.Op [] after is = absurd (false≢true is)

-- ---- the first byte of a lexeme

-- what begins with the byte: a gap, a line end, or another lexeme
abbrev pub class_of : ℕ → ℕ
class_of byte = if begins_gap byte then 0 else if begins_line_end byte then 1 else 2

-- the same of a sort
abbrev pub class_of_sort : Sort → ℕ
class_of_sort sort.Gap = 0
class_of_sort sort.LineEnd = 1
class_of_sort (sort.Token kind) = 2

-- a byte that begins no gap and no line end
pub other_class : (byte : ℕ) → is_layout byte ≡ false → class_of byte ≡ 2
other_class byte is =
    let neither = or_parts (begins_gap byte) (begins_line_end byte) is in cond-false (begins_gap byte) _ _ neither.0 ∙ cond-false (begins_line_end byte) _ _ neither.1

-- what a token begins with
pub token_begins : (kind : TokenKind) (bytes after : List ℕ) → IsToken kind bytes after
    → (first : ℕ) × (others : List ℕ) × (bytes ≡ first ∷ others) × (class_of first ≡ 2)
token_begins kind [] after is = absurd (let some = token_some kind [] after is in omega (arith, some))
token_begins kind (first ∷ others) after is =
    let other : is_layout first ≡ false =
    false_from_ne_true (is_layout first) (λ layout. no_token_at_layout first (others ++ after) layout kind (first ∷ others) after refl is) in
    (first, others, refl, other_class first other)

-- what a lexeme begins with
pub lexeme_begins : (sort : Sort) (bytes after : List ℕ) → Stands sort bytes after
    → (first : ℕ) × (others : List ℕ) × (bytes ≡ first ∷ others) × (class_of first ≡ class_of_sort sort)
lexeme_begins sort.Gap bytes after (inl blank) = (32, [], blank, refl)
lexeme_begins sort.Gap bytes after (inr (inl tab)) = (9, [], tab, refl)
lexeme_begins sort.Gap bytes after (inr (inr (inl comment))) = (35, comment.text, comment.spelled, refl)
lexeme_begins sort.Gap bytes after (inr (inr (inr joining))) = (92, joining.line_end, joining.spelled, refl)
lexeme_begins sort.LineEnd bytes after (inl short) = (LF, [], short, refl)
lexeme_begins sort.LineEnd bytes after (inr long) = (CR, LF ∷ [], long, refl)
lexeme_begins (sort.Token kind) bytes after is = token_begins kind bytes after is.0.spelled

-- the first byte of a text, and those after it
pub first_byte : (a b : ℕ) (others bytes more after : List ℕ) → a ∷ others ≡ bytes ++ after → bytes ≡ b ∷ more → (a ≡ b) × (others ≡ more ++ after)
first_byte a b others bytes more after is spelled =
    let same : a ∷ others ≡ b ∷ more ++ after = is ∙ ap (λ (prefix : List ℕ). prefix ++ after) spelled in (cc, cc)

-- what a text begins with at whose start there is a lexeme
pub lexeme_first : (a : ℕ) (others : List ℕ) (sort : Sort) (bytes after : List ℕ) → a ∷ others ≡ bytes ++ after → Stands sort bytes after
    → class_of a ≡ class_of_sort sort
lexeme_first a others sort bytes after is stands =
    let begun = lexeme_begins sort bytes after stands in
    ap (λ (byte : ℕ). class_of byte) (first_byte a begun.0 others bytes begun.1 after is begun.2).0 ∙ begun.3
