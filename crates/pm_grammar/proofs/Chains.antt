-- How an operation continues after its first operand, operator by operator.
use Rattle.std.proofs.Common.{◌≡◌, ◌≤◌, ◌<◌, ◌⊎◌, ◌++◌, IsTrue, List, [], ◌∷◌, Some, append_assoc, append-nil, sym, subst, inl, inr, ⊎_elim, arith}
use Rattle.std.proofs.lemmas.Bool.{and_from, and_parts, cases_lt, eq-eqb, eqb-true, leb-true, le-leb, lt-ltb, ltb-true, or_cases, or_left, or_right}
use Rattle.pm_syn.specs.declared.expression.BinaryOp.{BinaryOp}
use Rattle.pm_syn.specs.declared.expression.Expr.{Expr}
use Rattle.pm_syn.specs.declared.expression.Expr.TheViews as expr
use Rattle.pm_syn.specs.declared.token.Token.{Token}
use Rattle.pm_grammar.specs.Expressions.{Spells}
use Rattle.pm_grammar.specs.Expressions.Spells.{as_tight}
use Rattle.pm_grammar.specs.Levels.{groups_left, operator_at, rank, tighter}
use Rattle.pm_grammar.specs.Operations.{Chain, continues_by}
use Rattle.pm_grammar.specs.Operations.Chain.{go, stay}
use Rattle.pm_grammar.specs.Reading.{Ends}
use Rattle.pm_grammar.specs.declared.level.Level.{Level}
use Rattle.pm_grammar.proofs.LevelRanks.{loosened}
use Rattle.pm_grammar.proofs.OperatorLevels.{ends_at, ends_tighter}

-- the operator's level is looser than the operand's, or the same and groups to the left
abbrev IsLooser : Level → Level → Type 0
IsLooser bound at = (rank at < rank bound) ⊎ ((rank at ≡ rank bound) × IsTrue (groups_left at))

pub goes_parts : (l bound at : Level) → IsTrue (continues_by l bound at) → (rank l ≤ rank at) × IsLooser bound at
goes_parts l bound at goes =
    let parts = and_parts _ _ goes in
    (leb-true (rank l) (rank at) parts.0, ⊎_elim (λ below. inl (ltb-true (rank at) (rank bound) below)) (λ same. inr (eqb-true (rank at) (rank bound) (and_parts _ _ same).0, (and_parts _ _ same).1)) (or_cases _ _ parts.1))

pub goes_from : (l bound at : Level) → rank l ≤ rank at → IsLooser bound at → IsTrue (continues_by l bound at)
goes_from l bound at within (inl below) = and_from _ _ (le-leb (rank l) (rank at) within) (or_left _ _ (lt-ltb (rank at) (rank bound) below))
goes_from l bound at within (inr same) = and_from _ _ (le-leb (rank l) (rank at) within) (or_right _ _ (and_from _ _ (eq-eqb (rank at) (rank bound) same.0) same.1))

-- a looser operation continues there too
goes_looser : (k l bound at : Level) → rank k ≤ rank l → IsTrue (continues_by l bound at) → IsTrue (continues_by k bound at)
goes_looser k l bound at within goes =
    let parts = goes_parts l bound at goes in
    let reach : rank k ≤ rank at = omega (arith, within, parts.0) in
    goes_from k bound at reach parts.1

-- so it does after a tighter operand
goes_behind : (l bound from at : Level) → rank bound ≤ rank from → IsTrue (continues_by l bound at) → IsTrue (continues_by l from at)
goes_behind l bound from at within goes =
    let parts = goes_parts l bound at goes in
    goes_from l from at parts.0 (⊎_elim (λ below. inl (omega (arith, below, within))) (λ same. ⊎_elim (λ less. inl (omega (arith, less, same.0))) (λ more. inr (omega (arith, same.0, more, within), same.1)) (cases_lt (rank bound) (rank from))) parts.1)

pub goes_within : (l bound at : Level) → IsTrue (continues_by l bound at) → rank at ≤ rank bound
goes_within l bound at goes = ⊎_elim (λ below. omega (arith, below)) (λ same. omega (arith, same.0)) (goes_parts l bound at goes).1

-- what continues to an operation continues to a looser one
pub chain_looser : (from k l : Level) (a e : Expr) (ts : List Token) → rank k ≤ rank l → Chain from l a ts e → Chain from k a ts e
chain_looser from k l a e ts within (stay _ _ _) = stay from k a
chain_looser from k l a e ts within (go _ _ at _ c _ us vs sign op goes is right rest) =
    go from k at a c e us vs sign op (goes_looser k l from at within goes) is right (chain_looser at k l (expr.Binary op a c) e vs within rest)

-- one more operand at the end
pub chain_end : (from m to at : Level) (a b c : Expr) (ts us : List Token) (sign : Token) (op : BinaryOp) → rank m ≤ rank from → IsTrue (continues_by to m at) → Chain from m a ts b → operator_at at sign ≡ Some op → Spells (tighter at) us c → Chain from to a (ts ++ sign ∷ us) (expr.Binary op b c)
chain_end from m to at a b c ts us sign op within goes (stay _ _ _) is right =
    subst (λ (vs : List Token). Chain from to a (sign ∷ vs) (expr.Binary op a c)) (append-nil us)
    (go from to at a c (expr.Binary op a c) us [] sign op (goes_behind to m from at within goes) is right (stay at to (expr.Binary op a c)))
chain_end from m to at a b c ts us sign op within goes (go _ _ first _ d _ vs ws mark other went there operand rest) is right =
    let reach = (goes_parts m from first went).0 in
    let loose : rank to ≤ rank m = omega (arith, (goes_parts to m at goes).0, goes_within to m at goes) in
    subst (λ (xs : List Token). Chain from to a (mark ∷ xs) (expr.Binary op b c)) (sym (append_assoc vs ws (sign ∷ us)))
    (go from to first a d (expr.Binary op b c) vs (ws ++ sign ∷ us) mark other (goes_looser to m from first loose went) there operand
    (chain_end first m to at (expr.Binary other a d) b c ws us sign op reach goes rest is right))

-- after the operand, no expression of its level continues
pub chain_ends : (from to m : Level) (a e : Expr) (ts rest : List Token) → ((at : Level) → IsTrue (continues_by to from at) → rank at < rank m) → rank to ≤ rank m → Chain from to a ts e → Ends to rest → Ends m (ts ++ rest)
chain_ends from to m a e ts rest tight within (stay _ _ _) ends = ends_tighter to m rest within ends
chain_ends from to m a e ts rest tight within (go _ _ at _ c _ us vs sign op goes is right behind) ends = ends_at at m sign op is (tight at goes)

pub spelled_looser : (l m : Level) (ts : List Token) (e : Expr) → rank l ≤ rank m → Spells m ts e → Spells l ts e
spelled_looser l m ts e within spelled = loosened (λ (k : Level). Spells k ts e) (λ k spelled. as_tight k ts e spelled) l m within spelled
