-- What is read of an operation: its first operand, and then operator by operator.
use Rattle.std.proofs.Common.{◌≡◌, ◌≤◌, ◌<◌, ◌++◌, ◌∙◌, false, IsTrue, List, ◌∷◌, codes, Some, None, append_assoc, refl, sym, ap, subst, ⊎_elim, arith}
use Rattle.std.proofs.lemmas.Bool.{both_ways, false≢true}
use Rattle.pm_syn.specs.declared.expression.BinaryOp.{BinaryOp}
use Rattle.pm_syn.specs.declared.expression.Expr.{Expr}
use Rattle.pm_syn.specs.declared.expression.Expr.TheViews as expr
use Rattle.pm_syn.specs.declared.expression.UnaryOp.TheVariants as unary
use Rattle.pm_syn.specs.declared.token.Token.{Token}
use Rattle.pm_grammar.specs.Expressions.{Spells, comparison, grouped_left, negation}
use Rattle.pm_grammar.specs.Prefixes.{IsAfter, IsNotFirst}
use Rattle.pm_grammar.specs.Levels.{groups_left, operator_at, rank, tighter}
use Rattle.pm_grammar.specs.Tokens.{is_word}
use Rattle.pm_grammar.specs.Operations.{Chain, ContinuesFrom, IsNextOperator, IsNoOperator, continues_by}
use Rattle.pm_grammar.specs.Operations.Chain.{go, stay}
use Rattle.pm_grammar.specs.Reading.{Begins, Ends, IsOnly, continues}
use Rattle.pm_grammar.specs.declared.level.Level.{Level}
use Rattle.pm_grammar.specs.declared.level.Level.TheVariants as level
use Rattle.pm_grammar.specs.declared.operator.Operator.{Operator}
use Rattle.pm_grammar.proofs.Chains.{chain_ends, goes_parts, goes_within, spelled_looser}
use Rattle.pm_grammar.proofs.FirstOperands.{FromNegation, FromSigned, from_operand}
use Rattle.pm_grammar.proofs.OperandStarts.{positive}
use Rattle.pm_grammar.proofs.LevelRanks.{groups_below, rank-tighter, same_level}
use Rattle.pm_grammar.proofs.OperatorLevels.{goes_at, one_level}

-- the operation with one more operand
spelled_next : (l bound at : Level) (ts us : List Token) (sign : Token) (op : BinaryOp) (left right : Expr) → rank bound ≤ 11 → IsTrue (continues_by l bound at) → operator_at at sign ≡ Some op → Spells bound ts left → Spells (tighter at) us right → Spells at (ts ++ sign ∷ us) (expr.Binary op left right)
spelled_next l bound level.Conditional ts us sign op left right within goes is spelled behind = cc
spelled_next l bound level.Disjunction ts us sign op left right within goes is spelled behind =
    grouped_left level.Disjunction ts us sign op left right refl (spelled_looser level.Disjunction bound ts left (goes_within l bound level.Disjunction goes) spelled) is behind
spelled_next l bound level.Conjunction ts us sign op left right within goes is spelled behind =
    grouped_left level.Conjunction ts us sign op left right refl (spelled_looser level.Conjunction bound ts left (goes_within l bound level.Conjunction goes) spelled) is behind
spelled_next l bound level.Negation ts us sign op left right within goes is spelled behind = cc
spelled_next l bound level.Comparison ts us sign op left right within goes is spelled behind =
    comparison ts us sign op left right (spelled_looser level.BitOr bound ts left (⊎_elim (λ below. omega (arith, below)) (λ same. absurd (false≢true same.1)) (goes_parts l bound level.Comparison goes).1) spelled) is behind
spelled_next l bound level.BitOr ts us sign op left right within goes is spelled behind =
    grouped_left level.BitOr ts us sign op left right refl (spelled_looser level.BitOr bound ts left (goes_within l bound level.BitOr goes) spelled) is behind
spelled_next l bound level.BitXor ts us sign op left right within goes is spelled behind =
    grouped_left level.BitXor ts us sign op left right refl (spelled_looser level.BitXor bound ts left (goes_within l bound level.BitXor goes) spelled) is behind
spelled_next l bound level.BitAnd ts us sign op left right within goes is spelled behind =
    grouped_left level.BitAnd ts us sign op left right refl (spelled_looser level.BitAnd bound ts left (goes_within l bound level.BitAnd goes) spelled) is behind
spelled_next l bound level.Shift ts us sign op left right within goes is spelled behind =
    grouped_left level.Shift ts us sign op left right refl (spelled_looser level.Shift bound ts left (goes_within l bound level.Shift goes) spelled) is behind
spelled_next l bound level.Sum ts us sign op left right within goes is spelled behind =
    grouped_left level.Sum ts us sign op left right refl (spelled_looser level.Sum bound ts left (goes_within l bound level.Sum goes) spelled) is behind
spelled_next l bound level.Product ts us sign op left right within goes is spelled behind =
    grouped_left level.Product ts us sign op left right refl (spelled_looser level.Product bound ts left (goes_within l bound level.Product goes) spelled) is behind
spelled_next l bound level.Unary ts us sign op left right within goes is spelled behind = cc
spelled_next l bound level.Power ts us sign op left right within goes is spelled behind = absurd (omega (arith, within, goes_within l bound level.Power goes))
spelled_next l bound level.Postfix ts us sign op left right within goes is spelled behind = cc
spelled_next l bound level.Atom ts us sign op left right within goes is spelled behind = cc

-- one more operand was found
pub begins_next : (l bound : Level) (all rest tail after : List Token) (tree right : Expr) (operator : Operator) → rank bound ≤ 11 → Begins (Spells bound) all tree rest → IsNextOperator l bound rest operator tail → Begins (Spells (tighter operator.level)) tail right after → Begins (Spells operator.level) all (expr.Binary operator.op tree right) after
begins_next l bound all rest tail after tree right operator within begins next behind =
    let front : rest ≡ next.first ∷ (behind.0 ++ after) = next.front ∙ ap (λ (xs : List Token). next.first ∷ xs) behind.1 in (
      begins.0 ++ next.first ∷ behind.0,
      begins.1 ∙ ap (λ (xs : List Token). begins.0 ++ xs) front ∙ sym (append_assoc begins.0 (next.first ∷ behind.0) after),
      spelled_next l bound operator.level begins.0 behind.0 next.first operator.op tree right within next.goes next.is begins.2 behind.2,
    )

-- an operand comes after the operator, and what continues after it
pub record GoesOnBy (l at : Level) (op : BinaryOp) (tree : Expr) (tail : List Token) (e : Expr) (rest : List Token) : Type 0 where
  pub right : Expr
  pub us : List Token
  pub begins : Begins (Spells (tighter at)) tail right (us ++ rest)
  pub ends : Ends (tighter at) (us ++ rest)
  pub chain : Chain at l (expr.Binary op tree right) us e

chain_next : (l bound at : Level) (tree e : Expr) (op : BinaryOp) (first : Token) (tail ts rest : List Token) → rank bound ≤ 11 → operator_at at first ≡ Some op → rank l ≤ rank at → first ∷ tail ≡ ts ++ rest → Ends l rest → Chain bound l tree ts e → GoesOnBy l at op tree tail e rest
chain_next l bound at tree e op first tail ts rest within is reach front ends (stay _ _ _) =
    absurd (both_ways (continues l first) (subst (λ (xs : List Token). Ends l xs) (sym front) ends) (goes_at at l first op is reach))
chain_next l bound at tree e op first tail ts rest within is reach front ends (go _ _ there _ right _ us vs sign other goes is_there spelled behind) =
    let same_sign : first ≡ sign = cc in
    let same_tail : tail ≡ (us ++ vs) ++ rest = cc in
    let here : operator_at at sign ≡ Some op = subst (λ (t : Token). operator_at at t ≡ Some op) same_sign is in
    let same : there ≡ at = one_level there at sign other op is_there here in
    let also : operator_at at sign ≡ Some other = subst (λ (k : Level). operator_at k sign ≡ Some other) same is_there in
    let same_op : other ≡ op = cc in
    let below : rank there ≤ rank bound = goes_within l bound there goes in
    let next = rank-tighter there (omega (arith, below, within)) in
    let stops : (k : Level) → IsTrue (continues_by l there k) → rank k < rank (tighter there) = λ k went. omega (arith, next, goes_within l there k went) in
    let went : GoesOnBy l there other tree tail e rest = record {
      right = right;
      us = vs;
      begins = (us, same_tail ∙ append_assoc us vs rest, spelled);
      ends = chain_ends there l (tighter there) (expr.Binary other tree right) e vs rest stops (omega (arith, next, (goes_parts l bound there goes).0)) behind ends;
      chain = behind;
    } in
    subst (λ (k : Level). GoesOnBy l k op tree tail e rest) same (subst (λ (o : BinaryOp). GoesOnBy l there o tree tail e rest) same_op went)

-- each reading continues by the operator
goes_by : (l bound : Level) (all rest tail : List Token) (tree : Expr) (operator : Operator) → rank bound ≤ 11 → ContinuesFrom l all (Some ((tree, bound), rest)) → IsNextOperator l bound rest operator tail → (e : Expr) (after : List Token) → Begins (Spells l) all e after → Ends l after → GoesOnBy l operator.level operator.op tree tail e after
goes_by l bound all rest tail tree operator within goes next e after begins ends =
    let went = goes e after begins ends in
    chain_next l bound operator.level tree e operator.op next.first tail went.0 after within next.is (goes_parts l bound operator.level next.goes).0 (sym next.front ∙ went.1) ends went.2

-- one more operand was read
pub goes_next : (l bound : Level) (all rest tail after : List Token) (tree right : Expr) (operator : Operator) → rank bound ≤ 11 → ContinuesFrom l all (Some ((tree, bound), rest)) → IsNextOperator l bound rest operator tail → IsOnly (tighter operator.level) tail (Some (right, after)) → ContinuesFrom l all (Some ((expr.Binary operator.op tree right, operator.level), after))
goes_next l bound all rest tail after tree right operator within goes next only = λ e r begins ends.
    let went = goes_by l bound all rest tail tree operator within goes next e r begins ends in
    let read = only went.right (went.us ++ r) went.begins went.ends in
    (went.us, sym read.1, subst (λ (c : Expr). Chain operator.level l (expr.Binary operator.op tree c) went.us e) read.0 went.chain)

-- no operand comes after the operator
pub no_next : (l bound : Level) (all rest tail : List Token) (tree : Expr) (operator : Operator) → rank bound ≤ 11 → ContinuesFrom l all (Some ((tree, bound), rest)) → IsNextOperator l bound rest operator tail → IsOnly (tighter operator.level) tail None → IsOnly l all None
no_next l bound all rest tail tree operator within goes next only = λ e r begins ends.
    let went = goes_by l bound all rest tail tree operator within goes next e r begins ends in
    only went.right (went.us ++ r) went.begins went.ends

chain_done : (l bound : Level) (tree e : Expr) (all ts rest : List Token) → all ≡ ts ++ rest → IsNoOperator l bound all → Chain bound l tree ts e → (e ≡ tree) × (rest ≡ all)
chain_done l bound tree e all ts rest front none (stay _ _ _) = (refl, sym front)
chain_done l bound tree e all ts rest front none (go _ _ at _ _ _ _ _ _ op goes is _ _) = absurd (subst (λ (xs : List Token). IsNoOperator l bound xs) front none at op is goes)

-- no operator continues
pub only_done : (l bound : Level) (all rest : List Token) (tree : Expr) → ContinuesFrom l all (Some ((tree, bound), rest)) → IsNoOperator l bound rest → IsOnly l all (Some (tree, rest))
only_done l bound all rest tree goes none = λ e r begins ends.
    let went = goes e r begins ends in
    chain_done l bound tree e rest went.0 r went.1 none went.2

-- the first operand, without a negation
pub record GoesOnSigned (l : Level) (all : List Token) (e : Expr) (rest : List Token) : Type 0 where
  pub operand : Expr
  pub us : List Token
  pub begins : Begins (Spells level.Unary) all operand (us ++ rest)
  pub ends : Ends level.Unary (us ++ rest)
  pub chain : Chain level.Unary l operand us e

goes_signed : (l : Level) (all : List Token) (e : Expr) (rest : List Token) → 1 ≤ rank l → rank l ≤ 11 → (rank l ≤ 3 → IsNotFirst (is_word (codes "not")) all) → Begins (Spells l) all e rest → Ends l rest → GoesOnSigned l all e rest
goes_signed l all e rest loosest tightest none begins ends = ⊎_elim
    (λ (from : FromSigned l begins.0 e).
    let stops : (at : Level) → IsTrue (continues_by l level.Unary at) → rank at < 11 = λ at goes. ⊎_elim (λ below. below) (λ same. groups_below at same.1) (goes_parts l level.Unary at goes).1 in
    record {
      operand = from.operand;
      us = from.vs;
      begins = (from.us, begins.1 ∙ ap (λ (xs : List Token). xs ++ rest) from.front ∙ append_assoc from.us from.vs rest, from.spelled);
      ends = chain_ends level.Unary l level.Unary from.operand e from.vs rest stops tightest from.chain ends;
      chain = from.chain;
    })
    (λ (from : FromNegation l begins.0 e).
    let front : all ≡ from.word ∷ ((from.us ++ from.vs) ++ rest) = begins.1 ∙ ap (λ (xs : List Token). xs ++ rest) from.front in
    absurd (both_ways (is_word (codes "not") from.word) (subst (λ (xs : List Token). IsNotFirst (is_word (codes "not")) xs) front (none from.loose)) from.is_not))
    (from_operand l begins.0 e begins.2 loosest tightest)

-- negations don't group
not_negation : (at : Level) → rank at ≡ 3 → IsTrue (groups_left at) → ⊥
not_negation at same groups = false≢true (ap groups_left (sym (same_level at level.Negation same)) ∙ groups)

-- the operand of a negation
pub record GoesOnNegated (l : Level) (behind : List Token) (e : Expr) (rest : List Token) : Type 0 where
  pub operand : Expr
  pub us : List Token
  pub begins : Begins (Spells level.Negation) behind operand (us ++ rest)
  pub ends : Ends level.Negation (us ++ rest)
  pub chain : Chain level.Negation l (expr.Unary unary.Not operand) us e

goes_negated : (l : Level) (all behind : List Token) (e : Expr) (rest : List Token) → 1 ≤ rank l → rank l ≤ 11 → IsAfter (is_word (codes "not")) all behind → Begins (Spells l) all e rest → Ends l rest → GoesOnNegated l behind e rest
goes_negated l all behind e rest loosest tightest word begins ends = ⊎_elim
    (λ (from : FromSigned l begins.0 e).
    let begun = positive level.Unary from.us from.operand from.spelled (omega arith) in
    let front : word.0 ∷ behind ≡ begun.first ∷ ((begun.behind ++ from.vs) ++ rest) = sym word.1 ∙ begins.1 ∙ ap (λ (xs : List Token). xs ++ rest) (from.front ∙ ap (λ (xs : List Token). xs ++ from.vs) begun.front) in
    let same : begun.first ≡ word.0 = cc in
    absurd (both_ways (is_word (codes "not") word.0) (subst (λ (t : Token). is_word (codes "not") t ≡ false) same begun.is_other) word.2))
    (λ (from : FromNegation l begins.0 e).
    let front : word.0 ∷ behind ≡ from.word ∷ ((from.us ++ from.vs) ++ rest) = sym word.1 ∙ begins.1 ∙ ap (λ (xs : List Token). xs ++ rest) from.front in
    let same : behind ≡ (from.us ++ from.vs) ++ rest = cc in
    let stops : (at : Level) → IsTrue (continues_by l level.Negation at) → rank at < 3 = λ at goes. ⊎_elim (λ below. below) (λ same. absurd (not_negation at same.0 same.1)) (goes_parts l level.Negation at goes).1 in
    record {
      operand = from.operand;
      us = from.vs;
      begins = (from.us, same ∙ append_assoc from.us from.vs rest, from.spelled);
      ends = chain_ends level.Negation l level.Negation (expr.Unary unary.Not from.operand) e from.vs rest stops from.loose from.chain ends;
      chain = from.chain;
    })
    (from_operand l begins.0 e begins.2 loosest tightest)

-- an operand with signs was read
pub goes_first : (l : Level) (all rest : List Token) (operand : Expr) → 1 ≤ rank l → rank l ≤ 11 → (rank l ≤ 3 → IsNotFirst (is_word (codes "not")) all) → IsOnly level.Unary all (Some (operand, rest)) → ContinuesFrom l all (Some ((operand, level.Unary), rest))
goes_first l all rest operand loosest tightest none only = λ e r begins ends.
    let went = goes_signed l all e r loosest tightest none begins ends in
    let read = only went.operand (went.us ++ r) went.begins went.ends in
    (went.us, sym read.1, subst (λ (c : Expr). Chain level.Unary l c went.us e) read.0 went.chain)

pub no_first : (l : Level) (all : List Token) → 1 ≤ rank l → rank l ≤ 11 → (rank l ≤ 3 → IsNotFirst (is_word (codes "not")) all) → IsOnly level.Unary all None → ContinuesFrom l all None
no_first l all loosest tightest none only = λ e r begins ends.
    let went = goes_signed l all e r loosest tightest none begins ends in
    only went.operand (went.us ++ r) went.begins went.ends

-- a negation was read
pub goes_not : (l : Level) (all behind rest : List Token) (operand : Expr) → 1 ≤ rank l → rank l ≤ 11 → IsAfter (is_word (codes "not")) all behind → IsOnly level.Negation behind (Some (operand, rest)) → ContinuesFrom l all (Some ((expr.Unary unary.Not operand, level.Negation), rest))
goes_not l all behind rest operand loosest tightest word only = λ e r begins ends.
    let went = goes_negated l all behind e r loosest tightest word begins ends in
    let read = only went.operand (went.us ++ r) went.begins went.ends in
    (went.us, sym read.1, subst (λ (c : Expr). Chain level.Negation l (expr.Unary unary.Not c) went.us e) read.0 went.chain)

pub no_not : (l : Level) (all behind : List Token) → 1 ≤ rank l → rank l ≤ 11 → IsAfter (is_word (codes "not")) all behind → IsOnly level.Negation behind None → ContinuesFrom l all None
no_not l all behind loosest tightest word only = λ e r begins ends.
    let went = goes_negated l all behind e r loosest tightest word begins ends in
    only went.operand (went.us ++ r) went.begins went.ends

pub begins_not : (all behind rest : List Token) (operand : Expr) → IsAfter (is_word (codes "not")) all behind → Begins (Spells level.Negation) behind operand rest → Begins (Spells level.Negation) all (expr.Unary unary.Not operand) rest
begins_not all behind rest operand word begins =
    (word.0 ∷ begins.0, word.1 ∙ ap (λ (xs : List Token). word.0 ∷ xs) begins.1, negation begins.0 word.0 operand word.2 begins.2)

-- an expression of a tighter level is one of a looser level
pub begins_looser : (l m : Level) (all rest : List Token) (e : Expr) → rank l ≤ rank m → Begins (Spells m) all e rest → Begins (Spells l) all e rest
begins_looser l m all rest e within begins = (begins.0, begins.1, spelled_looser l m begins.0 e within begins.2)
