-- The longest token at the start of a text, by the first byte of the text.
use Rattle.std.proofs.Common.{◌≡◌, ◌∙◌, ◌⊎◌, ℕ, suc, ◌<◌, ◌≤◌, ◌^◌, true, false, List, [], ◌∷◌, ◌++◌, length, take, drop, get_or, Some, None, inl, inr, refl, ap, sym, subst, arith, take-append-drop}
use Rattle.std.specs.Prelude.{take_while, All}
use Rattle.std.specs.Char.{is_ascii_digit}
use Rattle.std.specs.List.{prefix_len}
use Rattle.std.proofs.lemmas.Bool.{false≢true}
use Rattle.std.proofs.lemmas.List.{length-take-le, take_at, get_or-take}
use Rattle.std.proofs.lemmas.List.Elements.{All-head, All-tail, All-cons}
use Rattle.std.proofs.lemmas.List.Folds.{length-prefix_len}
use Rattle.std.proofs.lemmas.List.Sums.{prefix_len-le-length, prefix_len_passes}
use Rattle.pm_io.specs.declared.lines.TheConstants.{LF, CR}
use Rattle.pm_syn.specs.Bytes.{begins_name, continues_name, IsLineEnd}
use Rattle.pm_syn.specs.Heads.{IsHead, HasNoHead, HasNoToken, HasNoOperator, IsLongestLiteral, IsLongestOperator, IsNumberRead}
use Rattle.pm_syn.specs.Lexemes.{HasWidth, Stands}
use Rattle.pm_syn.specs.Numbers.{IsLiteral}
use Rattle.pm_syn.specs.Strings.{string_length}
use Rattle.pm_syn.specs.Tokens.{IsToken}
use Rattle.pm_syn.specs.declared.lexeme.Sort.{Sort}
use Rattle.pm_syn.specs.declared.lexeme.Sort.TheVariants as sort
use Rattle.pm_syn.specs.declared.number.Literal.{Literal}
use Rattle.pm_syn.specs.declared.token.TokenKind.{TokenKind}
use Rattle.pm_syn.specs.declared.token.TokenKind.TheVariants as kind
use Rattle.pm_syn.proofs.FirstBytes.{class_of, class_of_sort, first_byte, lexeme_first, name_first, literal_first, operator_first, string_some, name_of_string, digit_no_string, mark_no_string, mark_no_name, mark_no_digit, name_no_digit, name_continues}
use Rattle.pm_syn.proofs.LiteralNumbers.{literal_writes_one}
use Rattle.pm_syn.proofs.NameBytes.{name_of_parts, name_parts}

-- ---- a token of each kind

-- no token at the start of the text is longer
abbrev pub IsLongest : List ℕ → ℕ → Type 0
IsLongest text count = (other : TokenKind) (prefix rest : List ℕ) → prefix ++ rest ≡ text → IsToken other prefix rest → length prefix ≤ count

-- the longest token is the start of the text
token_head : (kind : TokenKind) (count : ℕ) (text : List ℕ) → 0 < count → count ≤ length text → IsToken kind (take count text) (drop count text)
    → IsLongest text count → HasWidth kind → IsHead text (record { sort = sort.Token kind; length = count })
token_head kind count text some within spelled longest width = record {
  some = some;
  within = within;
  stands = (
    record {
      spelled = spelled;
      longest = λ other prefix rest is token.
          rw (length-take-le count text within) (longest other prefix rest (is ∙ take-append-drop count text) token);
    },
    width,
  );
}

longest_string : (a : ℕ) (others : List ℕ) (count : ℕ) → string_length (a ∷ others) ≡ Some count → IsLongest (a ∷ others) count
longest_string a others count string kind.Name prefix rest is token =
    let prefix = name_of_string prefix rest (a ∷ others) count is token string in omega (arith, prefix.0, prefix.1)
longest_string a others count string (kind.Int n) prefix rest is token = absurd (digit_no_string a others count (literal_first n a others prefix rest is token) string)
longest_string a others count string kind.Str prefix rest is token =
    let other : string_length (a ∷ others) ≡ Some (length prefix) = rw is at token in
    let same : length prefix ≡ count = cc in
    omega (arith, same)
longest_string a others count string kind.Op prefix rest is token = absurd (mark_no_string a others count (operator_first a others prefix rest is token) string)

-- the start of a text that begins with a string
pub string_head : (text : List ℕ) (count : ℕ) → string_length text ≡ Some count → count ≤ length text
    → IsHead text (record { sort = sort.Token kind.Str; length = count })
string_head [] count string within = cc
string_head (a ∷ others) count string within =
    let spelled : string_length (take count (a ∷ others) ++ drop count (a ∷ others)) ≡ Some (length (take count (a ∷ others))) =
    rw (take-append-drop count (a ∷ others), length-take-le count (a ∷ others) within) string in
    token_head kind.Str count (a ∷ others) (string_some (a ∷ others) count string) within spelled (longest_string a others count string) tt

-- the bytes of a name at the start of a text all continue it
name_in_prefix : (prefix rest : List ℕ) → All (λ byte. continues_name byte ≡ true) prefix → length prefix ≤ prefix_len continues_name (prefix ++ rest)
name_in_prefix [] rest all = omega arith
name_in_prefix (b ∷ prefix) rest all =
    let here = All-head (λ byte. continues_name byte ≡ true) b prefix all in
    let later = name_in_prefix prefix rest (All-tail (λ byte. continues_name byte ≡ true) b prefix all) in
    rw here (omega (arith, later))

all_in_prefix : (text : List ℕ) → All (λ byte. continues_name byte ≡ true) (take (prefix_len continues_name text) text)
all_in_prefix text = λ k d inside.
    let below : k < prefix_len continues_name text = rw length-prefix_len at inside in
    rw get_or-take (prefix_len_passes continues_name text k d below)

longest_name : (a : ℕ) (others : List ℕ) → string_length (a ∷ others) ≡ None → begins_name a ≡ true → IsLongest (a ∷ others) (prefix_len continues_name (a ∷ others))
longest_name a others no_string name kind.Name [] rest is token = absurd (false≢true token)
longest_name a others no_string name kind.Name (b ∷ prefix) rest is token =
    let parts = name_parts b prefix token in
    subst (λ text. length (b ∷ prefix) ≤ prefix_len continues_name text) is (
    name_in_prefix (b ∷ prefix) rest (All-cons (λ byte. continues_name byte ≡ true) b prefix (name_continues b parts.0) parts.1))
longest_name a others no_string name (kind.Int n) prefix rest is token = absurd (name_no_digit a name (literal_first n a others prefix rest is token))
longest_name a others no_string name kind.Str prefix rest is token =
    let other : string_length (a ∷ others) ≡ Some (length prefix) = rw is at token in cc
longest_name a others no_string name kind.Op prefix rest is token = absurd (mark_no_name a (operator_first a others prefix rest is token) name)

-- the start of a text that begins with a name, and not with a string
pub name_head : (text : List ℕ) (count : ℕ) → 0 < length text → string_length text ≡ None → begins_name (get_or text 0 0) ≡ true
    → count ≡ length (take_while continues_name text) → IsHead text (record { sort = sort.Token kind.Name; length = count })
name_head [] count some no_string name is = absurd (omega arith)
name_head (a ∷ others) count some no_string name is =
    let whole : count ≡ prefix_len continues_name (a ∷ others) = is ∙ length-prefix_len continues_name (a ∷ others) in
    let one_more : prefix_len continues_name (a ∷ others) ≡ suc (prefix_len continues_name others) = rw (name_continues a name) (omega arith) in
    let within : prefix_len continues_name others ≤ length others = prefix_len-le-length continues_name others in
    subst (λ n. IsHead (a ∷ others) (record { sort = sort.Token kind.Name; length = n })) (sym (whole ∙ one_more)) (
    token_head kind.Name (suc (prefix_len continues_name others)) (a ∷ others) (omega arith) (omega (arith, within)) (name_of_parts a (take (prefix_len continues_name others) others) name (all_in_prefix others)) (
    subst (IsLongest (a ∷ others)) one_more (longest_name a others no_string name)) tt)

pub longest_literal : (a : ℕ) (others : List ℕ) (literal : Literal) → string_length (a ∷ others) ≡ None → is_ascii_digit a ≡ true
    → IsLongestLiteral (a ∷ others) literal → IsLongest (a ∷ others) literal.length
longest_literal a others literal no_string digit longest kind.Name prefix rest is token = absurd (name_no_digit a (name_first a others prefix rest is token) digit)
longest_literal a others literal no_string digit longest (kind.Int n) prefix rest is token = longest.longest n prefix rest is token
longest_literal a others literal no_string digit longest kind.Str prefix rest is token =
    let other : string_length (a ∷ others) ≡ Some (length prefix) = rw is at token in cc
longest_literal a others literal no_string digit longest kind.Op prefix rest is token = absurd (mark_no_digit a (operator_first a others prefix rest is token) digit)

-- the start of a text that begins with a literal whose number has at most 128 bits
pub literal_head : (text : List ℕ) (literal : Literal) (number : ℕ) → 0 < length text → string_length text ≡ None → is_ascii_digit (get_or text 0 0) ≡ true
    → IsLongestLiteral text literal → literal.number ≡ Some number → IsHead text (record { sort = sort.Token (kind.Int number); length = literal.length })
literal_head [] literal number some no_string digit longest is = absurd (omega arith)
literal_head (a ∷ others) literal number some no_string digit longest is =
    let read : IsNumberRead longest.number (Some number) = rw is at longest.read in
    token_head (kind.Int number) literal.length (a ∷ others) longest.some longest.within (
    rw read.1 longest.spelled) (longest_literal a others literal no_string digit longest) (omega (arith, read.0, read.1))

-- there is no token where the number of the longest literal has more bits
pub no_token_at_wide : (text : List ℕ) (literal : Literal) → 0 < length text → string_length text ≡ None → is_ascii_digit (get_or text 0 0) ≡ true
    → IsLongestLiteral text literal → literal.number ≡ None → HasNoToken text
no_token_at_wide [] literal some no_string digit longest is kind bytes after text token width = absurd (omega arith)
no_token_at_wide (a ∷ others) literal some no_string digit longest is kind.Name bytes after text token width =
    name_no_digit a (name_first a others bytes after (sym text) token.spelled) digit
no_token_at_wide (a ∷ others) literal some no_string digit longest is (kind.Int m) bytes after text token width =
    let wide : 2 ^ 128 ≤ longest.number = (rw is at longest.read) in
    let count = literal.length in
    let cut = take-append-drop count (a ∷ others) in
    let up : length bytes ≤ count = longest.longest m bytes after (sym text) token.spelled in
    let down = token.longest (kind.Int longest.number) (take count (a ∷ others)) (drop count (a ∷ others)) (cut ∙ text) longest.spelled in
    let taken = length-take-le count (a ∷ others) longest.within in
    let as_long : length bytes ≡ count = omega (arith, up, down, taken) in
    let same : take count (a ∷ others) ≡ bytes = ap (take count) text ∙ take_at bytes after count as_long in
    let one : m ≡ longest.number = literal_writes_one m longest.number bytes token.spelled (subst (IsLiteral longest.number) same longest.spelled) in
    omega (arith, wide, one, width)
no_token_at_wide (a ∷ others) literal some no_string digit longest is kind.Str bytes after text token width =
    let other : string_length (a ∷ others) ≡ Some (length bytes) = subst (λ all. string_length all ≡ Some (length bytes)) (sym text) token.spelled in cc
no_token_at_wide (a ∷ others) literal some no_string digit longest is kind.Op bytes after text token width =
    mark_no_digit a (operator_first a others bytes after (sym text) token.spelled) digit

-- the start of a text that begins with an operator
pub operator_head : (text : List ℕ) (count : ℕ) → 0 < length text → string_length text ≡ None → begins_name (get_or text 0 0) ≡ false
    → is_ascii_digit (get_or text 0 0) ≡ false → IsLongestOperator text count → IsHead text (record { sort = sort.Token kind.Op; length = count })
operator_head [] count some no_string no_name no_digit longest = absurd (omega arith)
operator_head (a ∷ others) count some no_string no_name no_digit longest =
    token_head kind.Op count (a ∷ others) longest.some longest.within longest.spelled go tt where
      go : IsLongest (a ∷ others) count
      go kind.Name prefix rest is token = absurd (false≢true (sym no_name ∙ name_first a others prefix rest is token))
      go (kind.Int n) prefix rest is token = absurd (false≢true (sym no_digit ∙ literal_first n a others prefix rest is token))
      go kind.Str prefix rest is token = let other : string_length (a ∷ others) ≡ Some (length prefix) = rw is at token in cc
      go kind.Op prefix rest is token = longest.longest prefix rest is token

-- there is no token where there is no string, name, number or operator
pub no_token_at_none : (text : List ℕ) → 0 < length text → string_length text ≡ None → begins_name (get_or text 0 0) ≡ false
    → is_ascii_digit (get_or text 0 0) ≡ false → HasNoOperator text → HasNoToken text
no_token_at_none [] some no_string no_name no_digit none kind bytes after text token width = absurd (omega arith)
no_token_at_none (a ∷ others) some no_string no_name no_digit none kind.Name bytes after text token width =
    false≢true (sym no_name ∙ name_first a others bytes after (sym text) token.spelled)
no_token_at_none (a ∷ others) some no_string no_name no_digit none (kind.Int n) bytes after text token width =
    false≢true (sym no_digit ∙ literal_first n a others bytes after (sym text) token.spelled)
no_token_at_none (a ∷ others) some no_string no_name no_digit none kind.Str bytes after text token width =
    let other : string_length (a ∷ others) ≡ Some (length bytes) = subst (λ all. string_length all ≡ Some (length bytes)) (sym text) token.spelled in cc
no_token_at_none (a ∷ others) some no_string no_name no_digit none kind.Op bytes after text token width = none bytes after (sym text) token.spelled

-- ---- where there is no lexeme

-- there is no lexeme at a backslash without a line end after it
pub no_head_at_backslash : (text : List ℕ) → 0 < length text → get_or text 0 0 ≡ 92
    → ((bytes after : List ℕ) → drop 1 text ≡ bytes ++ after → IsLineEnd bytes → ⊥) → HasNoHead text
no_head_at_backslash [] some first none lexeme after is stands = absurd (omega arith)
no_head_at_backslash (a ∷ others) some first none lexeme after is stands =
    go lexeme.sort lexeme.bytes is stands (sym (ap (λ (byte : ℕ). class_of byte) first) ∙ lexeme_first a others lexeme.sort lexeme.bytes after is stands) where
      go : (kind : Sort) (bytes : List ℕ) → a ∷ others ≡ bytes ++ after → Stands kind bytes after → 0 ≡ class_of_sort kind → ⊥
      go sort.Gap bytes is (inl blank) class = omega (arith, first, (first_byte a 32 others bytes [] after is blank).0)
      go sort.Gap bytes is (inr (inl tab)) class = omega (arith, first, (first_byte a 9 others bytes [] after is tab).0)
      go sort.Gap bytes is (inr (inr (inl comment))) class = omega (arith, first, (first_byte a 35 others bytes comment.text after is comment.spelled).0)
      go sort.Gap bytes is (inr (inr (inr joining))) class =
          none joining.line_end after (first_byte a 92 others bytes joining.line_end after is joining.spelled).1 joining.ends
      go sort.LineEnd bytes is line_end class = omega (arith, class)
      go (sort.Token kind) bytes is token class = omega (arith, class)

-- there is no lexeme where a text begins as a line end does and has none there
pub no_head_at_line_end : (text : List ℕ) → 0 < length text → (get_or text 0 0 ≡ LF) ⊎ (get_or text 0 0 ≡ CR)
    → ((bytes after : List ℕ) → text ≡ bytes ++ after → IsLineEnd bytes → ⊥) → HasNoHead text
no_head_at_line_end [] some first none lexeme after is stands = absurd (omega arith)
no_head_at_line_end (a ∷ others) some first none lexeme after is stands =
    go lexeme.sort stands (sym ends ∙ lexeme_first a others lexeme.sort lexeme.bytes after is stands) where
      ends : class_of a ≡ 1
      ends = elim first [ inl lf ↦ rw lf refl | inr cr ↦ rw cr refl ]

      go : (kind : Sort) → Stands kind lexeme.bytes after → 1 ≡ class_of_sort kind → ⊥
      go sort.Gap gap class = omega (arith, class)
      go sort.LineEnd line_end class = none lexeme.bytes after is line_end
      go (sort.Token kind) token class = omega (arith, class)
