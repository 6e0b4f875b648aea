-- A token is an operator between operands at one level, and expressions of no tighter level continue at it.
use Rattle.std.proofs.Common.{◌≡◌, ◌≤◌, ◌<◌, ◌∙◌, Bool, true, false, if◌then◌else◌, nat_le, IsTrue, List, [], ◌∷◌, length, codes, Option, Some, None, refl, sym, ap, arith}
use Rattle.std.proofs.lemmas.Bool.{agree_below, agree_below_at, both_ways, le-leb, lt-leb, or_parts}
use Rattle.pm_syn.specs.declared.expression.BinaryOp.{BinaryOp}
use Rattle.pm_syn.specs.declared.token.Token.{Token}
use Rattle.pm_grammar.specs.Levels.{operator_at, rank, tighter}
use Rattle.pm_grammar.specs.Tokens.{is_symbol, is_word}
use Rattle.pm_grammar.specs.Operations.{IsNoOperator, continues_by, level_of}
use Rattle.pm_grammar.specs.Reading.{Ends, continues}
use Rattle.pm_grammar.specs.declared.level.Level.{Level}
use Rattle.pm_grammar.specs.declared.level.Level.TheVariants as level
use Rattle.pm_grammar.proofs.LevelRanks.{level_at, level_at-rank, rank_within, tightened}
use Rattle.pm_grammar.proofs.TokenTexts.{by_mark, by_word}

-- expressions of just the levels that aren't tighter continue at the token
abbrev Agrees : Level → Token → Type 0
Agrees l token = agree_below (λ n. continues (level_at n) token) (λ n. nat_le n (rank l)) 15 ≡ true

-- the token is an operator at this level alone
abbrev IsAlone : Level → Token → Type 0
IsAlone l token = (level_of token ≡ Some l) × Agrees l token

-- a chain of tests answers by one of them
by_test : (P : Type 0) (test : Bool) (here op : BinaryOp) (other : Option BinaryOp) → (if test then Some here else other) ≡ Some op → (IsTrue test → P) → (other ≡ Some op → P) → P
by_test P true here op other is then_so otherwise = then_so refl
by_test P false here op other is then_so otherwise = otherwise is

no_operator : (P : Type 0) (op : BinaryOp) → (the_none : Option BinaryOp) → the_none ≡ None → the_none ≡ Some op → P
no_operator P op the_none none is = cc

alone : (l : Level) (token : Token) (op : BinaryOp) → operator_at l token ≡ Some op → IsAlone l token
alone level.Conditional token op is = no_operator _ op None refl is
alone level.Disjunction token op is =
    by_test (IsAlone level.Disjunction token) (is_word (codes "or") token) _ op _ is (λ here. by_word (codes "or") token (IsAlone level.Disjunction) here (refl, refl)) (λ is. no_operator _ op None refl is)
alone level.Conjunction token op is =
    by_test (IsAlone level.Conjunction token) (is_word (codes "and") token) _ op _ is (λ here. by_word (codes "and") token (IsAlone level.Conjunction) here (refl, refl)) (λ is. no_operator _ op None refl is)
alone level.Negation token op is = no_operator _ op None refl is
alone level.Comparison token op is =
    by_test (IsAlone level.Comparison token) (is_symbol (codes "==") token) _ op _ is (λ here. by_mark (codes "==") token (IsAlone level.Comparison) here (refl, refl)) (λ is.
    (by_test (IsAlone level.Comparison token) (is_symbol (codes "!=") token) _ op _ is (λ here. by_mark (codes "!=") token (IsAlone level.Comparison) here (refl, refl)) (λ is.
    (by_test (IsAlone level.Comparison token) (is_symbol (codes "<") token) _ op _ is (λ here. by_mark (codes "<") token (IsAlone level.Comparison) here (refl, refl)) (λ is.
    (by_test (IsAlone level.Comparison token) (is_symbol (codes "<=") token) _ op _ is (λ here. by_mark (codes "<=") token (IsAlone level.Comparison) here (refl, refl)) (λ is.
    (by_test (IsAlone level.Comparison token) (is_symbol (codes ">") token) _ op _ is (λ here. by_mark (codes ">") token (IsAlone level.Comparison) here (refl, refl)) (λ is.
    (by_test (IsAlone level.Comparison token) (is_symbol (codes ">=") token) _ op _ is (λ here. by_mark (codes ">=") token (IsAlone level.Comparison) here (refl, refl)) (λ is. no_operator _ op None refl is)))))))))))
alone level.BitOr token op is =
    by_test (IsAlone level.BitOr token) (is_symbol (codes "|") token) _ op _ is (λ here. by_mark (codes "|") token (IsAlone level.BitOr) here (refl, refl)) (λ is. no_operator _ op None refl is)
alone level.BitXor token op is =
    by_test (IsAlone level.BitXor token) (is_symbol (codes "^") token) _ op _ is (λ here. by_mark (codes "^") token (IsAlone level.BitXor) here (refl, refl)) (λ is. no_operator _ op None refl is)
alone level.BitAnd token op is =
    by_test (IsAlone level.BitAnd token) (is_symbol (codes "&") token) _ op _ is (λ here. by_mark (codes "&") token (IsAlone level.BitAnd) here (refl, refl)) (λ is. no_operator _ op None refl is)
alone level.Shift token op is =
    by_test (IsAlone level.Shift token) (is_symbol (codes "<<") token) _ op _ is (λ here. by_mark (codes "<<") token (IsAlone level.Shift) here (refl, refl)) (λ is.
    (by_test (IsAlone level.Shift token) (is_symbol (codes ">>") token) _ op _ is (λ here. by_mark (codes ">>") token (IsAlone level.Shift) here (refl, refl)) (λ is. no_operator _ op None refl is)))
alone level.Sum token op is =
    by_test (IsAlone level.Sum token) (is_symbol (codes "+") token) _ op _ is (λ here. by_mark (codes "+") token (IsAlone level.Sum) here (refl, refl)) (λ is.
    (by_test (IsAlone level.Sum token) (is_symbol (codes "-") token) _ op _ is (λ here. by_mark (codes "-") token (IsAlone level.Sum) here (refl, refl)) (λ is. no_operator _ op None refl is)))
alone level.Product token op is =
    by_test (IsAlone level.Product token) (is_symbol (codes "*") token) _ op _ is (λ here. by_mark (codes "*") token (IsAlone level.Product) here (refl, refl)) (λ is.
    (by_test (IsAlone level.Product token) (is_symbol (codes "//") token) _ op _ is (λ here. by_mark (codes "//") token (IsAlone level.Product) here (refl, refl)) (λ is.
    (by_test (IsAlone level.Product token) (is_symbol (codes "%") token) _ op _ is (λ here. by_mark (codes "%") token (IsAlone level.Product) here (refl, refl)) (λ is. no_operator _ op None refl is)))))
alone level.Unary token op is = no_operator _ op None refl is
alone level.Power token op is =
    by_test (IsAlone level.Power token) (is_symbol (codes "**") token) _ op _ is (λ here. by_mark (codes "**") token (IsAlone level.Power) here (refl, refl)) (λ is. no_operator _ op None refl is)
alone level.Postfix token op is = no_operator _ op None refl is
alone level.Atom token op is = no_operator _ op None refl is

level_of-operator : (l : Level) (token : Token) (op : BinaryOp) → operator_at l token ≡ Some op → level_of token ≡ Some l
level_of-operator l token op is = (alone l token op is).0

-- an operator has one level
pub one_level : (l m : Level) (token : Token) (op other : BinaryOp) → operator_at l token ≡ Some op → operator_at m token ≡ Some other → l ≡ m
one_level l m token op other is also =
    let here = level_of-operator l token op is in
    let there = level_of-operator m token other also in
    cc

continues-operator : (l m : Level) (token : Token) (op : BinaryOp) → operator_at l token ≡ Some op → continues m token ≡ nat_le (rank m) (rank l)
continues-operator l m token op is =
    ap (λ (k : Level). continues k token) (sym (level_at-rank m))
    ∙ agree_below_at (λ n. continues (level_at n) token) (λ n. nat_le n (rank l)) 15 (rank m) (alone l token op is).1 (omega (arith, rank_within m))

-- an expression continues at an operator that isn't looser
pub goes_at : (l m : Level) (token : Token) (op : BinaryOp) → operator_at l token ≡ Some op → rank m ≤ rank l → continues m token ≡ true
goes_at l m token op is within = continues-operator l m token op is ∙ le-leb (rank m) (rank l) within

-- and at no looser one
pub ends_at : (l m : Level) (token : Token) (op : BinaryOp) → operator_at l token ≡ Some op → rank l < rank m → continues m token ≡ false
ends_at l m token op is below = continues-operator l m token op is ∙ lt-leb (rank m) (rank l) below

-- if no expression of a level continues, none of a tighter level does
continues_not : (l : Level) (token : Token) → continues l token ≡ false → continues (tighter l) token ≡ false
continues_not level.Conditional token is = (or_parts _ _ is).1
continues_not level.Disjunction token is = (or_parts _ _ is).1
continues_not level.Conjunction token is = (or_parts _ _ is).1
continues_not level.Negation token is = is
continues_not level.Comparison token is = (or_parts _ _ is).1
continues_not level.BitOr token is = (or_parts _ _ is).1
continues_not level.BitXor token is = (or_parts _ _ is).1
continues_not level.BitAnd token is = (or_parts _ _ is).1
continues_not level.Shift token is = (or_parts _ _ is).1
continues_not level.Sum token is = (or_parts _ _ is).1
continues_not level.Product token is = (or_parts _ _ is).1
continues_not level.Unary token is = is
continues_not level.Power token is = (or_parts _ _ is).1
continues_not level.Postfix token is = refl
continues_not level.Atom token is = is

ends_next : (rest : List Token) (l : Level) → Ends l rest → Ends (tighter l) rest
ends_next [] l ends = tt
ends_next (token ∷ rest) l ends = continues_not l token ends

pub ends_tighter : (l m : Level) (rest : List Token) → rank l ≤ rank m → Ends l rest → Ends m rest
ends_tighter l m rest within ends = tightened (λ (k : Level). Ends k rest) (ends_next rest) l m within ends

-- the operation doesn't continue by the operator that comes first
pub goes_by_none : (l bound at : Level) (tokens tail : List Token) (first : Token) (op : BinaryOp) → tokens ≡ first ∷ tail → operator_at at first ≡ Some op → continues_by l bound at ≡ false → IsNoOperator l bound tokens
goes_by_none l bound at tokens tail first op front is stops =
    rw front (λ other op_there there goes.
    let same : at ≡ other = one_level at other first op op_there is there in
    both_ways _ stops (ap (continues_by l bound) same ∙ goes))

-- ---- no operator comes first

pub no_operator_in : (l bound : Level) (tokens : List Token) → length tokens ≡ 0 → IsNoOperator l bound tokens
no_operator_in l bound [] is = tt
no_operator_in l bound (first ∷ tokens) is = cc

pub no_operator_first : (l bound : Level) (tokens tail : List Token) (first : Token) → tokens ≡ first ∷ tail → level_of first ≡ None → IsNoOperator l bound tokens
no_operator_first l bound tokens tail first front none =
    rw front (λ at op there goes. (let here = level_of-operator at first op there in cc))

pub no_operator_at : (l bound at : Level) (tokens tail : List Token) (first : Token) → tokens ≡ first ∷ tail → level_of first ≡ Some at → operator_at at first ≡ None → IsNoOperator l bound tokens
no_operator_at l bound at tokens tail first front some none =
    rw front (λ other op there goes.
    let here = level_of-operator other first op there in
    let same : at ≡ other = cc in
    let never = ap (λ (k : Level). operator_at k first) same in
    cc)
