-- Symbols and words with their texts: what holds of the token with the text holds of the symbol or the word.
use Rattle.std.proofs.Common.{◌≡◌, ℕ, true, IsTrue, List, bytes_eq, refl, sym, subst}
use Rattle.std.proofs.Math.Path.{subst₂}
use Rattle.std.proofs.lemmas.Bool.{and_parts, false≢true}
use Rattle.std.proofs.lemmas.Slice.Eq.{bytes_eq-Decides}
use Rattle.pm_syn.specs.declared.token.Token.{Token}
use Rattle.pm_syn.specs.declared.token.TokenKind.{TokenKind}
use Rattle.pm_syn.specs.declared.token.TokenKind.TheVariants as kind
use Rattle.pm_grammar.specs.Tokens.{is_symbol, is_name_kind, is_op, is_word}

-- the token with another kind and other bytes
abbrev pub like : TokenKind → List ℕ → Token → Token
like k text token = record token { kind = k; text = text }

op_is : (k : TokenKind) → is_op k ≡ true → k ≡ kind.Op
op_is kind.Op is = refl
op_is kind.Name is = absurd (false≢true is)
op_is (kind.Int number) is = absurd (false≢true is)
op_is kind.Str is = absurd (false≢true is)

-- the kind of a name
pub name_kind_is : (k : TokenKind) → is_name_kind k ≡ true → k ≡ kind.Name
name_kind_is kind.Name is = refl
name_kind_is kind.Op is = absurd (false≢true is)
name_kind_is (kind.Int number) is = absurd (false≢true is)
name_kind_is kind.Str is = absurd (false≢true is)

pub by_mark : (bytes : List ℕ) (t : Token) (P : Token → Type 0) → IsTrue (is_symbol bytes t) → P (like kind.Op bytes t) → P t
by_mark bytes t P is holds =
    let parts = and_parts (is_op t.kind) (bytes_eq t.text bytes) is in
    subst₂ (λ (k : TokenKind) (text : List ℕ). P (like k text t)) (sym (op_is t.kind parts.0)) (sym ((bytes_eq-Decides t.text bytes).0 parts.1)) holds

pub by_word : (bytes : List ℕ) (t : Token) (P : Token → Type 0) → IsTrue (is_word bytes t) → P (like kind.Name bytes t) → P t
by_word bytes t P is holds =
    let parts = and_parts (is_name_kind t.kind) (bytes_eq t.text bytes) is in
    subst₂ (λ (k : TokenKind) (text : List ℕ). P (like k text t)) (sym (name_kind_is t.kind parts.0)) (sym ((bytes_eq-Decides t.text bytes).0 parts.1)) holds

-- what holds of the string holds of the token
pub by_string : (P : Token → Type 0) (t : Token) → t.kind ≡ kind.Str → P (like kind.Str t.text t) → P t
by_string P t is holds = subst (λ (k : TokenKind). P (like k t.text t)) (sym is) holds

-- what a symbol is
pub of_mark : {A : Type 0} (bytes : List ℕ) (t : Token) (word : Token → A) (value : A) → IsTrue (is_symbol bytes t) → word (like kind.Op bytes t) ≡ value → word t ≡ value
of_mark bytes t word value is same = by_mark bytes t (λ (t : Token). word t ≡ value) is same

-- what a word is
pub of_word : {A : Type 0} (bytes : List ℕ) (t : Token) (word : Token → A) (value : A) → IsTrue (is_word bytes t) → word (like kind.Name bytes t) ≡ value → word t ≡ value
of_word bytes t word value is same = by_word bytes t (λ (t : Token). word t ≡ value) is same
