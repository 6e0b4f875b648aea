-- With which tokens an expression begins.
use Rattle.std.proofs.Common.{◌≡◌, ◌||◌, ◌++◌, Bool, true, false, ℕ, IsTrue, List, [], ◌∷◌, codes, is_some, refl, sym, ap, ◌∙◌}
use Rattle.std.proofs.lemmas.Bool.{false≢true, or_left, or_right}
use Rattle.pm_syn.specs.declared.expression.Expr.{Expr}
use Rattle.pm_syn.specs.declared.token.Token.{Token}
use Rattle.pm_syn.specs.declared.token.TokenKind.{TokenKind}
use Rattle.pm_syn.specs.declared.token.TokenKind.TheVariants as kind
use Rattle.pm_grammar.specs.Expressions.{Spells, as_tight, conditional, grouped_left, negation, comparison, signed, power, attribute, call, index, slice, named, number, true_word, false_word, group, items, each}
use Rattle.pm_grammar.specs.Prefixes.{begins_with}
use Rattle.pm_grammar.specs.Levels.{sign_of}
use Rattle.pm_syn.specs.Names.{is_keyword}
use Rattle.pm_grammar.specs.Tokens.{is_symbol, is_name, is_word}
use Rattle.pm_grammar.specs.declared.level.Level.{Level}
use Rattle.pm_grammar.proofs.TokenTexts.{by_word, like, of_mark, of_word}

-- the kind of a number
abbrev is_int : TokenKind → Bool
is_int (kind.Int literal) = true
is_int kind.Name = false
is_int kind.Op = false
is_int kind.Str = false

-- an atom may begin with the token
abbrev pub starts : Token → Bool
starts t = (is_int t.kind || is_name t) || ((is_word (codes "True") t || is_word (codes "False") t) || (is_symbol (codes "(") t || is_symbol (codes "[") t))

-- an expression may begin with the token
abbrev pub opens : Token → Bool
opens t = starts t || (is_word (codes "not") t || is_some (sign_of t))

pub starts_name : (t : Token) → IsTrue (is_name t) → IsTrue (starts t)
starts_name t is = or_left _ _ (or_right _ _ is)

pub starts_number : (t : Token) (value : ℕ) → t.kind ≡ kind.Int value → IsTrue (starts t)
starts_number t value is = or_left _ _ (or_left _ _ (ap is_int is))

pub starts_true : (t : Token) → IsTrue (is_word (codes "True") t) → IsTrue (starts t)
starts_true t is = or_right _ _ (or_left _ _ (or_left _ _ is))

pub starts_false : (t : Token) → IsTrue (is_word (codes "False") t) → IsTrue (starts t)
starts_false t is = or_right _ _ (or_left _ _ (or_right _ _ is))

pub starts_parenthesis : (t : Token) → IsTrue (is_symbol (codes "(") t) → IsTrue (starts t)
starts_parenthesis t is = or_right _ _ (or_right _ _ (or_left _ _ is))

pub starts_bracket : (t : Token) → IsTrue (is_symbol (codes "[") t) → IsTrue (starts t)
starts_bracket t is = of_mark (codes "[") t starts true is refl

opens_start : (t : Token) → IsTrue (starts t) → IsTrue (opens t)
opens_start t is = or_left _ _ is

pub opens_name : (t : Token) → IsTrue (is_name t) → IsTrue (opens t)
opens_name t is = opens_start t (starts_name t is)

pub begins_more : (test : Token → Bool) (ts us : List Token) → IsTrue (begins_with test ts) → IsTrue (begins_with test (ts ++ us))
begins_more test [] us begun = absurd (false≢true begun)
begins_more test (t ∷ ts) us begun = begun

pub opens_expression : {l : Level} {ts : List Token} {e : Expr} → Spells l ts e → IsTrue (begins_with opens ts)
opens_expression (as_tight l ts e inner) = opens_expression inner
opens_expression (conditional ts us vs if_word else_word value condition other first if_is second else_is third) = begins_more opens ts _ (opens_expression first)
opens_expression (grouped_left l ts us sign op left right groups first sign_is second) = begins_more opens ts _ (opens_expression first)
opens_expression (negation ts not_word e is inner) = or_right _ _ (or_left _ _ is)
opens_expression (comparison ts us sign op left right first sign_is second) = begins_more opens ts _ (opens_expression first)
opens_expression (signed ts sign op e is inner) = or_right _ _ (or_right _ _ (ap is_some is))
opens_expression (power ts us sign op base exponent first sign_is second) = begins_more opens ts _ (opens_expression first)
opens_expression (attribute ts dot name e first dot_is name_is) = begins_more opens ts _ (opens_expression first)
opens_expression (call ts us opening closing e arguments first opening_is inner closing_is) = begins_more opens ts _ (opens_expression first)
opens_expression (index ts us opening closing e place first opening_is inner closing_is) = begins_more opens ts _ (opens_expression first)
opens_expression (slice ts us vs opening colon closing e low high first opening_is inner colon_is other closing_is) = begins_more opens ts _ (opens_expression first)
opens_expression (named name is) = opens_name name is
opens_expression (number literal value is) = opens_start literal (starts_number literal value is)
opens_expression (true_word word is) = opens_start word (starts_true word is)
opens_expression (false_word word is) = opens_start word (starts_false word is)
opens_expression (group ts opening closing e is inner closing_is) = opens_start opening (starts_parenthesis opening is)
opens_expression (items ts opening closing es is inner closing_is) = opens_start opening (starts_bracket opening is)
opens_expression (each ts us opening for_word closing e name bounds is inner for_is range closing_is) = opens_start opening (starts_bracket opening is)

-- ---- what begins no expression

-- the word of these bytes begins no expression
pub no_expression-word : (bytes : List ℕ) (l : Level) (t : Token) (ts : List Token) (e : Expr) → opens (like kind.Name bytes t) ≡ false → IsTrue (is_word bytes t) → Spells l (t ∷ ts) e → ⊥
no_expression-word bytes l t ts e other is s = false≢true (sym (by_word bytes t (λ t. opens t ≡ false) is other) ∙ opens_expression s)

pub closing_opens : (t : Token) → IsTrue (is_symbol (codes "]") t) → opens t ≡ false
closing_opens t is = of_mark (codes "]") t opens false is refl

pub parenthesis_opens : (t : Token) → IsTrue (is_symbol (codes ")") t) → opens t ≡ false
parenthesis_opens t is = of_mark (codes ")") t opens false is refl

pub none_opens : (t : Token) → IsTrue (is_word (codes "None") t) → opens t ≡ false
unfolding is_keyword
none_opens t is = of_word (codes "None") t opens false is refl
