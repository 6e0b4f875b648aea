-- The first operand of an operation, and how the operation continues after it.
use Rattle.std.proofs.Common.{◌≡◌, ◌≤◌, ◌⊎◌, ◌++◌, ◌∙◌, IsTrue, List, [], ◌∷◌, codes, Some, append_assoc, append-nil, refl, sym, ap, subst, inl, inr, ⊎_elim, arith}
use Rattle.std.proofs.lemmas.Bool.{cases_lt}
use Rattle.pm_syn.specs.declared.expression.BinaryOp.{BinaryOp}
use Rattle.pm_syn.specs.declared.expression.Expr.{Expr}
use Rattle.pm_syn.specs.declared.expression.Expr.TheViews as expr
use Rattle.pm_syn.specs.declared.expression.UnaryOp.TheVariants as unary
use Rattle.pm_syn.specs.declared.token.Token.{Token}
use Rattle.pm_grammar.specs.Expressions.{Spells}
use Rattle.pm_grammar.specs.Expressions as spells
use Rattle.pm_grammar.specs.Levels.{operator_at, rank, tighter}
use Rattle.pm_grammar.specs.Tokens.{is_word}
use Rattle.pm_grammar.specs.Operations.{Chain, continues_by}
use Rattle.pm_grammar.specs.Operations.Chain.{stay}
use Rattle.pm_grammar.specs.declared.level.Level.{Level}
use Rattle.pm_grammar.specs.declared.level.Level.TheVariants as level
use Rattle.pm_grammar.proofs.Chains.{chain_end, chain_looser, goes_from, goes_parts, goes_within}
use Rattle.pm_grammar.proofs.LevelRanks.{rank-tighter, same_level}

-- an operand with its signs comes first
pub record FromSigned (l : Level) (ts : List Token) (e : Expr) : Type 0 where
  pub us : List Token
  pub vs : List Token
  pub operand : Expr
  pub front : ts ≡ us ++ vs
  pub spelled : Spells level.Unary us operand
  pub chain : Chain level.Unary l operand vs e

-- a negation comes first
pub record FromNegation (l : Level) (ts : List Token) (e : Expr) : Type 0 where
  pub word : Token
  pub us : List Token
  pub vs : List Token
  pub operand : Expr
  pub front : ts ≡ word ∷ (us ++ vs)
  pub is_not : IsTrue (is_word (codes "not") word)
  pub loose : rank l ≤ 3
  pub spelled : Spells level.Negation us operand
  pub chain : Chain level.Negation l (expr.Unary unary.Not operand) vs e

abbrev FromOperand : Level → List Token → Expr → Type 0
FromOperand l ts e = FromSigned l ts e ⊎ FromNegation l ts e

signed_alone : (l : Level) (ts : List Token) (e : Expr) → rank l ≡ 11 → Spells l ts e → FromOperand l ts e
signed_alone l ts e same spelled =
    inl (record {
      us = ts;
      vs = [];
      operand = e;
      front = sym (append-nil ts);
      spelled = subst (λ (k : Level). Spells k ts e) (same_level l level.Unary same) spelled;
      chain = stay level.Unary l e;
    })

operand_looser : (k l : Level) (ts : List Token) (e : Expr) → rank k ≤ rank l → FromOperand l ts e → FromOperand k ts e
operand_looser k l ts e within (inl from) =
    inl (record {
      us = from.us;
      vs = from.vs;
      operand = from.operand;
      front = from.front;
      spelled = from.spelled;
      chain = chain_looser level.Unary k l from.operand e from.vs within from.chain;
    })
operand_looser k l ts e within (inr from) =
    inr (record {
      word = from.word;
      us = from.us;
      vs = from.vs;
      operand = from.operand;
      front = from.front;
      is_not = from.is_not;
      loose = omega (arith, within, from.loose);
      spelled = from.spelled;
      chain = chain_looser level.Negation k l (expr.Unary unary.Not from.operand) e from.vs within from.chain;
    })

-- one more operand at the end
operand_end : (m to at : Level) (ts us : List Token) (sign : Token) (op : BinaryOp) (left right : Expr) → rank m ≤ 11 → IsTrue (continues_by to m at) → FromOperand m ts left → operator_at at sign ≡ Some op → Spells (tighter at) us right → FromOperand to (ts ++ sign ∷ us) (expr.Binary op left right)
operand_end m to at ts us sign op left right within goes (inl from) is spelled =
    inl (record {
      us = from.us;
      vs = from.vs ++ sign ∷ us;
      operand = from.operand;
      front = ap (λ (xs : List Token). xs ++ sign ∷ us) from.front ∙ append_assoc from.us from.vs (sign ∷ us);
      spelled = from.spelled;
      chain = chain_end level.Unary m to at from.operand left right from.vs us sign op within goes from.chain is spelled;
    })
operand_end m to at ts us sign op left right within goes (inr from) is spelled =
    inr (record {
      word = from.word;
      us = from.us;
      vs = from.vs ++ sign ∷ us;
      operand = from.operand;
      front = ap (λ (xs : List Token). xs ++ sign ∷ us) from.front ∙ ap (λ (xs : List Token). from.word ∷ xs) (append_assoc from.us from.vs (sign ∷ us));
      is_not = from.is_not;
      loose = omega (arith, from.loose, (goes_parts to m at goes).0, goes_within to m at goes);
      spelled = from.spelled;
      chain = chain_end level.Negation m to at (expr.Unary unary.Not from.operand) left right from.vs us sign op from.loose goes from.chain is spelled;
    })

negated : (ts : List Token) (word : Token) (e : Expr) → IsTrue (is_word (codes "not") word) → Spells level.Negation ts e → FromOperand level.Negation (word ∷ ts) (expr.Unary unary.Not e)
negated ts word e is spelled =
    inr (record {
      word = word;
      us = ts;
      vs = [];
      operand = e;
      front = ap (λ (xs : List Token). word ∷ xs) (sym (append-nil ts));
      is_not = is;
      loose = omega arith;
      spelled = spelled;
      chain = stay level.Negation level.Negation (expr.Unary unary.Not e);
    })

-- an operation is an operand and what continues after it
pub from_operand : (l : Level) (ts : List Token) (e : Expr) → Spells l ts e → 1 ≤ rank l → rank l ≤ 11 → FromOperand l ts e
from_operand l ts e (spells.as_tight _ _ _ spelled) loosest tightest = ⊎_elim
    (λ below.
    let next = rank-tighter l (omega (arith, below)) in
    operand_looser l (tighter l) ts e (omega (arith, next)) (from_operand (tighter l) ts e spelled (omega (arith, next)) (omega (arith, next, below))))
    (λ above. signed_alone l ts e (omega (arith, above, tightest)) (spells.as_tight l ts e spelled)) (cases_lt (rank l) 11)
from_operand l ts e (spells.conditional _ _ _ _ _ _ _ _ _ _ _ _ _) loosest tightest = absurd (omega (arith, loosest))
from_operand l ts e (spells.grouped_left _ us vs sign op left right groups spelled is behind) loosest tightest =
    operand_end l l l us vs sign op left right tightest (goes_from l l l (omega arith) (inr (refl, groups))) (from_operand l us left spelled loosest tightest) is behind
from_operand l ts e (spells.negation us word negand is spelled) loosest tightest = negated us word negand is spelled
from_operand l ts e (spells.comparison us vs sign op left right spelled is behind) loosest tightest =
    operand_end level.BitOr level.Comparison level.Comparison us vs sign op left right (omega arith) refl (from_operand level.BitOr us left spelled (omega arith) (omega arith)) is behind
from_operand l ts e (spells.signed us sign op operand is spelled) loosest tightest = signed_alone level.Unary (sign ∷ us) (expr.Unary op operand) refl (spells.signed us sign op operand is spelled)
from_operand l ts e (spells.power _ _ _ _ _ _ _ _ _) loosest tightest = absurd (omega (arith, tightest))
from_operand l ts e (spells.attribute _ _ _ _ _ _ _) loosest tightest = absurd (omega (arith, tightest))
from_operand l ts e (spells.call _ _ _ _ _ _ _ _ _ _) loosest tightest = absurd (omega (arith, tightest))
from_operand l ts e (spells.index _ _ _ _ _ _ _ _ _ _) loosest tightest = absurd (omega (arith, tightest))
from_operand l ts e (spells.slice _ _ _ _ _ _ _ _ _ _ _ _ _ _ _) loosest tightest = absurd (omega (arith, tightest))
from_operand l ts e (spells.named _ _) loosest tightest = absurd (omega (arith, tightest))
from_operand l ts e (spells.number _ _ _) loosest tightest = absurd (omega (arith, tightest))
from_operand l ts e (spells.true_word _ _) loosest tightest = absurd (omega (arith, tightest))
from_operand l ts e (spells.false_word _ _) loosest tightest = absurd (omega (arith, tightest))
from_operand l ts e (spells.group _ _ _ _ _ _ _) loosest tightest = absurd (omega (arith, tightest))
from_operand l ts e (spells.items _ _ _ _ _ _ _) loosest tightest = absurd (omega (arith, tightest))
from_operand l ts e (spells.each _ _ _ _ _ _ _ _ _ _ _ _ _) loosest tightest = absurd (omega (arith, tightest))
