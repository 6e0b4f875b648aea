-- With which tokens an operand begins: a sign begins none of `**`, and `not` none that may have signs before it.
use Rattle.std.proofs.Common.{◌≡◌, ◌≤◌, ◌++◌, ℕ, Bool, true, false, if◌then◌else◌, IsTrue, List, [], ◌∷◌, codes, Option, Some, refl, ap, arith}
use Rattle.std.proofs.lemmas.Bool.{both_ways, false_from_ne_true, false≢true}
use Rattle.pm_syn.specs.declared.expression.Expr.{Expr}
use Rattle.pm_syn.specs.declared.expression.UnaryOp.{UnaryOp}
use Rattle.pm_syn.specs.declared.token.Token.{Token}
use Rattle.pm_syn.specs.declared.token.TokenKind.TheVariants as kind
use Rattle.pm_grammar.specs.Expressions.{Spells}
use Rattle.pm_grammar.specs.Expressions as spells
use Rattle.pm_grammar.specs.Prefixes.{begins_with}
use Rattle.pm_grammar.specs.Levels.{rank, sign_of, tighter}
use Rattle.pm_grammar.specs.Tokens.{is_symbol, is_name, is_word}
use Rattle.pm_grammar.specs.declared.level.Level.{Level}
use Rattle.pm_grammar.specs.declared.level.Level.TheVariants as level
use Rattle.pm_grammar.proofs.ExpressionStarts.{opens, opens_expression, starts, starts_bracket, starts_false, starts_name, starts_number, starts_parenthesis, starts_true}
use Rattle.pm_grammar.proofs.LevelRanks.{groups_below, tighter_within}
use Rattle.pm_grammar.proofs.OneSymbol.{mark_no_word, no_name_of_word, not_is_keyword, other_word}
use Rattle.pm_grammar.proofs.TokenTexts.{by_mark, like}

-- the tokens begin with one that passes the test
abbrev pub IsBegun : (Token → Bool) → List Token → Type 0
IsBegun test ts = (t : Token) × (us : List Token) × (ts ≡ t ∷ us) × IsTrue (test t)

begun_more : (test : Token → Bool) (ts vs : List Token) → IsBegun test ts → IsBegun test (ts ++ vs)
begun_more test ts vs begun = (begun.0, begun.1 ++ vs, ap (λ (us : List Token). us ++ vs) begun.2, begun.3)

-- the first token of an expression
pub begun_expression : (l : Level) (ts : List Token) (e : Expr) → Spells l ts e → IsBegun opens ts
begun_expression l ts e s = go ts (opens_expression s) where
  go : (us : List Token) → IsTrue (begins_with opens us) → IsBegun opens us
  go [] begun = absurd (false≢true begun)
  go (t ∷ us) begun = (t, us, refl, begun)

by_choice : (P : Type 0) (test : Bool) (here op : UnaryOp) (other : Option UnaryOp) → (if test then Some here else other) ≡ Some op → (IsTrue test → P) → (other ≡ Some op → P) → P
by_choice P true here op other is then_so otherwise = then_so refl
by_choice P false here op other is then_so otherwise = otherwise is

-- what holds of the three signs holds of each sign
by_sign : (P : Token → Type 0) (t : Token) (op : UnaryOp) → sign_of t ≡ Some op → P (like kind.Op (codes "-") t) → P (like kind.Op (codes "+") t) → P (like kind.Op (codes "~") t) → P t
by_sign P t op is minus plus tilde =
    by_choice (P t) (is_symbol (codes "-") t) _ op _ is (λ mark. by_mark (codes "-") t P mark minus)
    (λ is. by_choice (P t) (is_symbol (codes "+") t) _ op _ is (λ mark. by_mark (codes "+") t P mark plus)
    (λ is. by_choice (P t) (is_symbol (codes "~") t) _ op _ is (λ mark. by_mark (codes "~") t P mark tilde) (λ is. cc)))

-- a sign begins no atom
pub sign_starts : (t : Token) (op : UnaryOp) → sign_of t ≡ Some op → starts t ≡ false
sign_starts t op is = by_sign (λ t. starts t ≡ false) t op is refl refl refl

-- an operand of `**` begins with no sign
pub begun_tight : (l : Level) (ts : List Token) (e : Expr) → 12 ≤ rank l → Spells l ts e → IsBegun starts ts
begun_tight l ts e at (spells.as_tight _ _ _ s) = begun_tight (tighter l) ts e (omega (arith, at, tighter_within l)) s
begun_tight _ _ _ at (spells.conditional ts us vs if_word else_word value condition other s is t is' u) = absurd (omega (arith, at))
begun_tight _ _ _ at (spells.grouped_left l ts us sign op left right groups s is t) = absurd (omega (arith, at, groups_below l groups))
begun_tight _ _ _ at (spells.negation ts not_word e is s) = absurd (omega (arith, at))
begun_tight _ _ _ at (spells.comparison ts us sign op left right s is t) = absurd (omega (arith, at))
begun_tight _ _ _ at (spells.signed ts sign op e is s) = absurd (omega (arith, at))
begun_tight _ _ _ at (spells.power ts us sign op base exponent s is t) = begun_more starts ts (sign ∷ us) (begun_tight level.Postfix ts base (omega arith) s)
begun_tight _ _ _ at (spells.attribute ts dot name e s is is') = begun_more starts ts (dot ∷ name ∷ []) (begun_tight level.Postfix ts e (omega arith) s)
begun_tight _ _ _ at (spells.call ts us opening closing e arguments s is t is') = begun_more starts ts (opening ∷ (us ++ closing ∷ [])) (begun_tight level.Postfix ts e (omega arith) s)
begun_tight _ _ _ at (spells.index ts us opening closing e place s is t is') = begun_more starts ts (opening ∷ (us ++ closing ∷ [])) (begun_tight level.Postfix ts e (omega arith) s)
begun_tight _ _ _ at (spells.slice ts us vs opening colon closing e low high s is t is' u is'') = begun_more starts ts (opening ∷ (us ++ colon ∷ (vs ++ closing ∷ []))) (begun_tight level.Postfix ts e (omega arith) s)
begun_tight _ _ _ at (spells.named name is) = (name, [], refl, starts_name name is)
begun_tight _ _ _ at (spells.number literal value is) = (literal, [], refl, starts_number literal value is)
begun_tight _ _ _ at (spells.true_word word is) = (word, [], refl, starts_true word is)
begun_tight _ _ _ at (spells.false_word word is) = (word, [], refl, starts_false word is)
begun_tight _ _ _ at (spells.group ts opening closing e is s is') = (opening, ts ++ closing ∷ [], refl, starts_parenthesis opening is)
begun_tight _ _ _ at (spells.items ts opening closing es is s is') = (opening, ts ++ closing ∷ [], refl, starts_bracket opening is)
begun_tight _ _ _ at (spells.each ts us opening for_word closing e name bounds is s is' t is'') = (opening, ts ++ for_word ∷ (us ++ closing ∷ []), refl, starts_bracket opening is)

-- ---- `not` begins no operand with signs

-- a token comes first that isn't `not`
pub record IsPositive (ts : List Token) : Type 0 where
  pub first : Token
  pub behind : List Token
  pub front : ts ≡ first ∷ behind
  pub is_other : is_word (codes "not") first ≡ false

positive_by : (ts : List Token) (first : Token) (behind : List Token) → ts ≡ first ∷ behind → is_word (codes "not") first ≡ false → IsPositive ts
positive_by ts first behind front other = record { first = first; behind = behind; front = front; is_other = other }

positive_front : (ts us : List Token) → IsPositive ts → IsPositive (ts ++ us)
positive_front ts us begun = positive_by (ts ++ us) begun.first (begun.behind ++ us) (ap (λ (xs : List Token). xs ++ us) begun.front) begun.is_other

name_is_other : (token : Token) → IsTrue (is_name token) → is_word (codes "not") token ≡ false
name_is_other token is = false_from_ne_true _ (λ word. both_ways (is_name token) (no_name_of_word (codes "not") token not_is_keyword word) is)

number_is_other : (token : Token) (value : ℕ) → token.kind ≡ kind.Int value → is_word (codes "not") token ≡ false
number_is_other token value is = rw is refl

sign_is_other : (token : Token) (op : UnaryOp) → sign_of token ≡ Some op → is_word (codes "not") token ≡ false
sign_is_other token op is = by_sign (λ t. is_word (codes "not") t ≡ false) token op is refl refl refl

-- the first token of an operand with signs
pub positive : (l : Level) (ts : List Token) (e : Expr) → Spells l ts e → 11 ≤ rank l → IsPositive ts
positive l ts e (spells.as_tight _ _ _ spelled) tight = positive (tighter l) ts e spelled (omega (arith, tight, tighter_within l))
positive l ts e (spells.conditional _ _ _ _ _ _ _ _ _ _ _ _ _) tight = absurd (omega (arith, tight))
positive l ts e (spells.grouped_left _ _ _ _ _ _ _ groups _ _ _) tight = absurd (omega (arith, tight, groups_below l groups))
positive l ts e (spells.negation _ _ _ _ _) tight = absurd (omega (arith, tight))
positive l ts e (spells.comparison _ _ _ _ _ _ _ _ _) tight = absurd (omega (arith, tight))
positive l ts e (spells.signed us sign op _ is _) tight = positive_by (sign ∷ us) sign us refl (sign_is_other sign op is)
positive l ts e (spells.power us vs sign _ base _ spelled _ _) tight = positive_front us (sign ∷ vs) (positive _ us base spelled (omega arith))
positive l ts e (spells.attribute us dot name base spelled _ _) tight = positive_front us (dot ∷ name ∷ []) (positive _ us base spelled (omega arith))
positive l ts e (spells.call us vs opening closing base _ spelled _ _ _) tight = positive_front us (opening ∷ (vs ++ closing ∷ [])) (positive _ us base spelled (omega arith))
positive l ts e (spells.index us vs opening closing base _ spelled _ _ _) tight = positive_front us (opening ∷ (vs ++ closing ∷ [])) (positive _ us base spelled (omega arith))
positive l ts e (spells.slice us vs ws opening colon closing base _ _ spelled _ _ _ _ _) tight =
    positive_front us (opening ∷ (vs ++ colon ∷ (ws ++ closing ∷ []))) (positive _ us base spelled (omega arith))
positive l ts e (spells.named name is) tight = positive_by (name ∷ []) name [] refl (name_is_other name is)
positive l ts e (spells.number literal value is) tight = positive_by (literal ∷ []) literal [] refl (number_is_other literal value is)
positive l ts e (spells.true_word word is) tight = positive_by (word ∷ []) word [] refl (other_word (codes "True") (codes "not") word refl is)
positive l ts e (spells.false_word word is) tight = positive_by (word ∷ []) word [] refl (other_word (codes "False") (codes "not") word refl is)
positive l ts e (spells.group us opening closing _ is _ _) tight = positive_by (opening ∷ (us ++ closing ∷ [])) opening (us ++ closing ∷ []) refl (mark_no_word (codes "(") (codes "not") opening is)
positive l ts e (spells.items us opening closing _ is _ _) tight = positive_by (opening ∷ (us ++ closing ∷ [])) opening (us ++ closing ∷ []) refl (mark_no_word (codes "[") (codes "not") opening is)
positive l ts e (spells.each us vs opening for_word closing _ _ _ is _ _ _ _) tight =
    positive_by (opening ∷ (us ++ for_word ∷ (vs ++ closing ∷ []))) opening (us ++ for_word ∷ (vs ++ closing ∷ [])) refl (mark_no_word (codes "[") (codes "not") opening is)
