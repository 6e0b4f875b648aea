-- That a token is one symbol or one word, so that it isn't another one.
use Rattle.std.proofs.Common.{◌≡◌, ℕ, Bool, true, false, not, IsTrue, List, ◌∷◌, codes, bytes_eq, refl, ap, inl, inr}
use Rattle.std.specs.Prelude.{Some, None, if◌then◌else◌}
use Rattle.std.proofs.lemmas.Bool.{and_parts, or_cases}
use Rattle.pm_syn.specs.declared.expression.BinaryOp.{BinaryOp}
use Rattle.pm_syn.specs.declared.expression.BinaryOp.TheVariants as binary
use Rattle.pm_syn.specs.declared.token.Token.{Token}
use Rattle.pm_syn.specs.declared.token.TokenKind.TheVariants as kind
use Rattle.pm_grammar.specs.Brackets.{ends_argument}
use Rattle.pm_grammar.specs.Levels.{operator_at}
use Rattle.pm_syn.specs.Names.{is_keyword}
use Rattle.pm_grammar.specs.Tokens.{is_symbol, is_name, is_name_kind, is_word}
use Rattle.pm_grammar.specs.Reading.{Ends, continues}
use Rattle.pm_grammar.specs.declared.level.Level.{Level}
use Rattle.pm_grammar.specs.declared.level.Level.TheVariants as level
use Rattle.pm_grammar.proofs.TokenTexts.{by_mark, by_word, like, name_kind_is, of_mark, of_word}

-- a name is of a name's kind
pub name_is : (token : Token) → IsTrue (is_name token) → token.kind ≡ kind.Name
name_is token is = name_kind_is token.kind (and_parts (is_name_kind token.kind) (not (is_keyword token.text)) is).0

-- ---- where an expression ends

pub ends_parenthesis : (token : Token) → IsTrue (is_symbol (codes ")") token) → continues level.Conditional token ≡ false
ends_parenthesis token is = of_mark (codes ")") token (continues level.Conditional) false is refl

pub ends_bracket : (token : Token) → IsTrue (is_symbol (codes "]") token) → continues level.Conditional token ≡ false
ends_bracket token is = of_mark (codes "]") token (continues level.Conditional) false is refl

pub ends_comma : (token : Token) → IsTrue (is_symbol (codes ",") token) → continues level.Conditional token ≡ false
ends_comma token is = of_mark (codes ",") token (continues level.Conditional) false is refl

pub ends_colon : (token : Token) → IsTrue (is_symbol (codes ":") token) → continues level.Conditional token ≡ false
ends_colon token is = of_mark (codes ":") token (continues level.Conditional) false is refl

pub ends_for : (token : Token) → IsTrue (is_word (codes "for") token) → continues level.Conditional token ≡ false
ends_for token is = of_word (codes "for") token (continues level.Conditional) false is refl

pub ends_equals : (token : Token) → IsTrue (is_symbol (codes "=") token) → continues level.Conditional token ≡ false
ends_equals token is = of_mark (codes "=") token (continues level.Conditional) false is refl

pub ends_if : (word : Token) (rest : List Token) → IsTrue (is_word (codes "if") word) → Ends level.Disjunction (word ∷ rest)
ends_if word rest is = of_word (codes "if") word (continues level.Disjunction) false is refl

pub ends_else : (word : Token) (rest : List Token) → IsTrue (is_word (codes "else") word) → Ends level.Disjunction (word ∷ rest)
ends_else word rest is = of_word (codes "else") word (continues level.Disjunction) false is refl

-- an expression ends before the symbol of these bytes
pub ends-mark : (bytes : List ℕ) (l : Level) (t : Token) (ts : List Token) → continues l (like kind.Op bytes t) ≡ false → IsTrue (is_symbol bytes t) → Ends l (t ∷ ts)
ends-mark bytes l t ts other is = of_mark bytes t (continues l) false is other

pub power_ends_base : (token : Token) (op : BinaryOp) → operator_at level.Power token ≡ Some op → continues level.Postfix token ≡ false
power_ends_base token op is = go (is_symbol (codes "**") token) refl is where
  go : (same : Bool) → is_symbol (codes "**") token ≡ same → (if same then Some binary.Pow else None) ≡ Some op → continues level.Postfix token ≡ false
  go true mark one = of_mark (codes "**") token (continues level.Postfix) false mark refl
  go false mark one = cc

pub parenthesis_no_comma : (token : Token) → IsTrue (is_symbol (codes ")") token) → is_symbol (codes ",") token ≡ false
parenthesis_no_comma token is = of_mark (codes ")") token (is_symbol (codes ",")) false is refl

pub bracket_no_comma : (token : Token) → IsTrue (is_symbol (codes "]") token) → is_symbol (codes ",") token ≡ false
bracket_no_comma token is = of_mark (codes "]") token (is_symbol (codes ",")) false is refl

-- ---- what isn't a keyword

pub no_name_of_word : (bytes : List ℕ) (token : Token) → is_keyword bytes ≡ true → IsTrue (is_word bytes token) → is_name token ≡ false
no_name_of_word bytes token keyword is = of_word bytes token is_name false is (ap not keyword)

pub not_is_keyword : is_keyword (codes "not") ≡ true
unfolding is_keyword
not_is_keyword = refl

pub true_is_keyword : is_keyword (codes "True") ≡ true
unfolding is_keyword
true_is_keyword = refl

pub false_is_keyword : is_keyword (codes "False") ≡ true
unfolding is_keyword
false_is_keyword = refl

-- ---- tokens that are not one another

-- a symbol is no other symbol
pub other_mark : (bytes other : List ℕ) (token : Token) → bytes_eq bytes other ≡ false → IsTrue (is_symbol bytes token) → is_symbol other token ≡ false
other_mark bytes other token differs is = by_mark bytes token (λ t. is_symbol other t ≡ false) is differs

-- a word is no other word
pub other_word : (bytes other : List ℕ) (token : Token) → bytes_eq bytes other ≡ false → IsTrue (is_word bytes token) → is_word other token ≡ false
other_word bytes other token differs is = by_word bytes token (λ t. is_word other t ≡ false) is differs

-- a symbol is no word
pub mark_no_word : (bytes other : List ℕ) (token : Token) → IsTrue (is_symbol bytes token) → is_word other token ≡ false
mark_no_word bytes other token is = by_mark bytes token (λ t. is_word other t ≡ false) is refl

-- a word is no symbol
pub word_no_mark : (bytes other : List ℕ) (token : Token) → IsTrue (is_word bytes token) → is_symbol other token ≡ false
word_no_mark bytes other token is = by_word bytes token (λ t. is_symbol other t ≡ false) is refl

-- a symbol is no name
pub mark_no_name : (bytes : List ℕ) (token : Token) → IsTrue (is_symbol bytes token) → is_name token ≡ false
mark_no_name bytes token is = by_mark bytes token (λ t. is_name t ≡ false) is refl

-- no operator between operands is `=`
pub no_operator : (l : Level) (token : Token) → IsTrue (is_symbol (codes "=") token) → operator_at l token ≡ None
no_operator l token is = of_mark (codes "=") token (operator_at l) None is (at l) where
  at : (one : Level) → operator_at one (like kind.Op (codes "=") token) ≡ None
  at level.Conditional = refl
  at level.Disjunction = refl
  at level.Conjunction = refl
  at level.Negation = refl
  at level.Comparison = refl
  at level.BitOr = refl
  at level.BitXor = refl
  at level.BitAnd = refl
  at level.Shift = refl
  at level.Sum = refl
  at level.Product = refl
  at level.Unary = refl
  at level.Power = refl
  at level.Postfix = refl
  at level.Atom = refl

-- ---- where an argument or a parameter ends

-- no expression continues there
pub argument_ends : (token : Token) → IsTrue (ends_argument token) → continues level.Conditional token ≡ false
argument_ends token is = elim (or_cases _ _ is) [ inl comma ↦ ends_comma token comma | inr closing ↦ ends_parenthesis token closing ]

-- another symbol doesn't end it
pub no_argument_end : (bytes : List ℕ) (token : Token) → bytes_eq (codes ",") bytes ≡ false → bytes_eq (codes ")") bytes ≡ false → IsTrue (ends_argument token)
    → is_symbol bytes token ≡ false
no_argument_end bytes token no_comma no_closing is =
    elim (or_cases _ _ is) [ inl comma ↦ other_mark (codes ",") bytes token no_comma comma | inr closing ↦ other_mark (codes ")") bytes token no_closing closing ]
