-- With which tokens a simple statement begins, and that no header begins so.
use Rattle.std.proofs.Common.{◌≡◌, ◌∷◌, ◌++◌, ◌||◌, Bool, true, false, IsTrue, List, [], codes, refl, ap}
use Rattle.std.proofs.lemmas.Bool.{false≢true, or_left, or_right}
use Rattle.pm_syn.specs.declared.expression.Expr.{Expr}
use Rattle.pm_syn.specs.declared.statement.Stmt.{Stmt}
use Rattle.pm_syn.specs.declared.token.Token.{Token}
use Rattle.pm_syn.specs.declared.token.TokenKind.{TokenKind}
use Rattle.pm_syn.specs.declared.token.TokenKind.TheVariants as kind
use Rattle.pm_grammar.specs.Expressions.{Spells}
use Rattle.pm_grammar.specs.Prefixes.{begins_with}
use Rattle.pm_syn.specs.Names.{is_keyword}
use Rattle.pm_grammar.specs.Tokens.{is_symbol, is_word}
use Rattle.pm_grammar.specs.Statements.{AreStrings, SpellsSimple, passed, returned, asserted, asserted_saying, doc, assigned, joined, noted, noted_value, done}
use Rattle.pm_grammar.specs.declared.level.Level.TheVariants as level
use Rattle.pm_grammar.proofs.ExpressionStarts.{begins_more, opens, opens_expression}
use Rattle.pm_grammar.proofs.TokenTexts.{by_mark, by_word}

-- the kind of a string
abbrev is_str : TokenKind → Bool
is_str kind.Str = true
is_str kind.Name = false
is_str kind.Op = false
is_str (kind.Int literal) = false

-- a simple statement may begin with the token
abbrev pub opens_simple : Token → Bool
opens_simple token = ((is_word (codes "pass") token || is_word (codes "return") token) || (is_word (codes "assert") token || is_str token.kind)) || opens token

opens_strings : (ts : List Token) → AreStrings ts → IsTrue (begins_with opens_simple ts)
opens_strings [] are = absurd are
opens_strings (t ∷ ts) are = or_left _ _ (or_right _ _ (or_right _ _ (ap is_str are.0)))

by_opens : (ts : List Token) → IsTrue (begins_with opens ts) → IsTrue (begins_with opens_simple ts)
by_opens [] begun = absurd (false≢true begun)
by_opens (t ∷ ts) begun = or_right _ _ begun

-- a simple statement that begins with an expression
by_target : (ts us : List Token) (e : Expr) → Spells level.Conditional ts e → IsTrue (begins_with opens_simple (ts ++ us))
by_target ts us e first = by_opens (ts ++ us) (begins_more opens ts us (opens_expression first))

pub opens_statement : {ts : List Token} {s : Stmt} → SpellsSimple ts s → IsTrue (begins_with opens_simple ts)
opens_statement (passed word is) = or_left _ _ (or_left _ _ (or_left _ _ is))
opens_statement (returned word ts e is inner) = or_left _ _ (or_left _ _ (or_right _ _ is))
opens_statement (asserted word ts e is inner) = or_left _ _ (or_right _ _ (or_left _ _ is))
opens_statement (asserted_saying word comma ts strings e is inner comma_is saying) = or_left _ _ (or_right _ _ (or_left _ _ is))
opens_statement (doc strings are) = opens_strings strings are
opens_statement (assigned sign ts us op target value first sign_is second) = by_target ts _ target first
opens_statement (joined sign word colon ts us target value first sign_is word_is colon_is second) = by_target ts _ target first
opens_statement (noted colon ts us target note first colon_is second) = by_target ts _ target first
opens_statement (noted_value colon sign ts us vs target note value first colon_is second sign_is third) = by_target ts _ target first
opens_statement (done ts e first) = by_opens ts (opens_expression first)

-- nothing is no simple statement
pub no_simple_in : (s : Stmt) → SpellsSimple [] s → ⊥
no_simple_in s is = false≢true (opens_statement is)

-- ---- tokens that are not one another

-- no header's sign or word begins a simple statement
pub no_simple_at : (token : Token) → IsTrue (is_symbol (codes "@") token) → opens_simple token ≡ false
no_simple_at token is = by_mark (codes "@") token (λ t. opens_simple t ≡ false) is refl

pub no_simple_from : (token : Token) → IsTrue (is_word (codes "from") token) → opens_simple token ≡ false
unfolding is_keyword
no_simple_from token is = by_word (codes "from") token (λ t. opens_simple t ≡ false) is refl

pub no_simple_class : (token : Token) → IsTrue (is_word (codes "class") token) → opens_simple token ≡ false
unfolding is_keyword
no_simple_class token is = by_word (codes "class") token (λ t. opens_simple t ≡ false) is refl

pub no_simple_def : (token : Token) → IsTrue (is_word (codes "def") token) → opens_simple token ≡ false
unfolding is_keyword
no_simple_def token is = by_word (codes "def") token (λ t. opens_simple t ≡ false) is refl

pub no_simple_for : (token : Token) → IsTrue (is_word (codes "for") token) → opens_simple token ≡ false
unfolding is_keyword
no_simple_for token is = by_word (codes "for") token (λ t. opens_simple t ≡ false) is refl

pub no_simple_if : (token : Token) → IsTrue (is_word (codes "if") token) → opens_simple token ≡ false
unfolding is_keyword
no_simple_if token is = by_word (codes "if") token (λ t. opens_simple t ≡ false) is refl

pub no_simple_elif : (token : Token) → IsTrue (is_word (codes "elif") token) → opens_simple token ≡ false
unfolding is_keyword
no_simple_elif token is = by_word (codes "elif") token (λ t. opens_simple t ≡ false) is refl

pub no_simple_else : (token : Token) → IsTrue (is_word (codes "else") token) → opens_simple token ≡ false
unfolding is_keyword
no_simple_else token is = by_word (codes "else") token (λ t. opens_simple t ≡ false) is refl
