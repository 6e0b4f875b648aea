-- Proof that one token is at a position: its bytes and its kind are determined by the text.
use Rattle.std.proofs.Common.{◌≡◌, ℕ, List, [], ◌∷◌, ◌++◌, length, arith, refl, sym, ap, subst, true}
use Rattle.std.specs.Prelude.{Some}
use Rattle.pm_syn.specs.Strings.{string_length}
use Rattle.pm_syn.specs.Names.{is_spelled_as_name}
use Rattle.pm_syn.specs.Tokens.{IsToken, IsLongestToken}
use Rattle.pm_syn.specs.declared.token.TokenKind.{TokenKind}
use Rattle.pm_syn.specs.declared.token.TokenKind.TheVariants as kind
use Rattle.pm_syn.proofs.FirstBytes.{literal_begins, operator_begins, token_some, name_of_string, digit_no_string, mark_no_string, mark_no_name, mark_no_digit, name_no_digit}
use Rattle.pm_syn.proofs.LiteralNumbers.{literal_writes_one}
use Rattle.pm_syn.proofs.NameBytes.{name_parts}

-- prefixes of one length of a text are one prefix, and the same text is left after them
pub same_split : (prefix other rest after : List ℕ) → length prefix ≡ length other → prefix ++ rest ≡ other ++ after
    → (prefix ≡ other) × (rest ≡ after)
same_split [] [] rest after same is = (refl, is)
same_split [] (byte ∷ other) rest after same is = absurd (omega (arith, same))
same_split (byte ∷ prefix) [] rest after same is = absurd (omega (arith, same))
same_split (byte ∷ prefix) (first ∷ other) rest after same is =
    let head : byte ≡ first = cc in
    let tails : prefix ++ rest ≡ other ++ after = cc in
    let inside = same_split prefix other rest after (omega (arith, same)) tails in
    (let e = inside.0 in cc, inside.1)

-- no name is a string, whatever comes after it
name_no_string : (bytes after : List ℕ) → is_spelled_as_name bytes ≡ true → string_length (bytes ++ after) ≡ Some (length bytes) → ⊥
name_no_string bytes after name string = let prefix = name_of_string bytes after (bytes ++ after) (length bytes) refl name string in omega (arith, prefix.0, prefix.1)

-- the bytes and the text after them determine the kind of the token
pub one_kind : (one other : TokenKind) (bytes after : List ℕ) → IsToken one bytes after → IsToken other bytes after → one ≡ other
one_kind one other [] after is too = absurd (let some = token_some one [] after is in omega (arith, some))
one_kind kind.Name kind.Name (a ∷ bytes) after is too = refl
one_kind (kind.Int n) (kind.Int m) (a ∷ bytes) after is too = ap kind.Int (literal_writes_one n m (a ∷ bytes) is too)
one_kind kind.Str kind.Str (a ∷ bytes) after is too = refl
one_kind kind.Op kind.Op (a ∷ bytes) after is too = refl
one_kind kind.Name (kind.Int n) (a ∷ bytes) after is too = absurd (name_no_digit a (name_parts a bytes is).0 (literal_begins n a bytes too))
one_kind (kind.Int n) kind.Name (a ∷ bytes) after is too = absurd (name_no_digit a (name_parts a bytes too).0 (literal_begins n a bytes is))
one_kind kind.Name kind.Str (a ∷ bytes) after is too = absurd (name_no_string (a ∷ bytes) after is too)
one_kind kind.Str kind.Name (a ∷ bytes) after is too = absurd (name_no_string (a ∷ bytes) after too is)
one_kind kind.Name kind.Op (a ∷ bytes) after is too = absurd (mark_no_name a (operator_begins a bytes too) (name_parts a bytes is).0)
one_kind kind.Op kind.Name (a ∷ bytes) after is too = absurd (mark_no_name a (operator_begins a bytes is) (name_parts a bytes too).0)
one_kind (kind.Int n) kind.Str (a ∷ bytes) after is too = absurd (digit_no_string a (bytes ++ after) (length (a ∷ bytes)) (literal_begins n a bytes is) too)
one_kind kind.Str (kind.Int n) (a ∷ bytes) after is too = absurd (digit_no_string a (bytes ++ after) (length (a ∷ bytes)) (literal_begins n a bytes too) is)
one_kind (kind.Int n) kind.Op (a ∷ bytes) after is too = absurd (mark_no_digit a (operator_begins a bytes too) (literal_begins n a bytes is))
one_kind kind.Op (kind.Int n) (a ∷ bytes) after is too = absurd (mark_no_digit a (operator_begins a bytes is) (literal_begins n a bytes too))
one_kind kind.Str kind.Op (a ∷ bytes) after is too = absurd (mark_no_string a (bytes ++ after) (length (a ∷ bytes)) (operator_begins a bytes too) is)
one_kind kind.Op kind.Str (a ∷ bytes) after is too = absurd (mark_no_string a (bytes ++ after) (length (a ∷ bytes)) (operator_begins a bytes is) too)

-- one token is at a position
pub one_token : (one other : TokenKind) (bytes prefix after rest : List ℕ) → IsLongestToken one bytes after → IsLongestToken other prefix rest
    → bytes ++ after ≡ prefix ++ rest → (one ≡ other) × (bytes ≡ prefix) × (after ≡ rest)
one_token one other bytes prefix after rest is too same =
    let short = is.longest other prefix rest (sym same) too.spelled in
    let long = too.longest one bytes after same is.spelled in
    let split = same_split bytes prefix after rest (omega arith) same in
    let moved : IsToken other bytes after =
    subst (λ rest. IsToken other bytes rest) (sym split.1) (subst (λ prefix. IsToken other prefix rest) (sym split.0) too.spelled) in
    (one_kind one other bytes after is.spelled moved, split.0, split.1)
