-- An operation of one level: its first operand, and the operands after it.
use Rattle.std.proofs.Common.{◌≡◌, ◌⊎◌, ◌++◌, ◌∙◌, false, IsTrue, List, [], ◌∷◌, codes, Some, append_assoc, append-nil, refl, sym, ap, subst, inl, inr, arith}
use Rattle.std.proofs.lemmas.Bool.{both_ways, false≢true}
use Rattle.pm_syn.specs.declared.expression.BinaryOp.{BinaryOp}
use Rattle.pm_syn.specs.declared.expression.Expr.{Expr}
use Rattle.pm_syn.specs.declared.expression.Expr.TheViews as expr
use Rattle.pm_syn.specs.declared.expression.UnaryOp.TheVariants as unary
use Rattle.pm_syn.specs.declared.token.Token.{Token}
use Rattle.pm_grammar.specs.Expressions.{Spells}
use Rattle.pm_grammar.specs.Expressions as spells
use Rattle.pm_grammar.specs.Levels.{groups_left, operator_at, tighter}
use Rattle.pm_grammar.specs.Tokens.{is_word}
use Rattle.pm_grammar.specs.Reading.{Begins, Ends, IsOnly, continues}
use Rattle.pm_grammar.specs.declared.level.Level.{Level}
use Rattle.pm_grammar.specs.declared.level.Level.TheVariants as level
use Rattle.pm_grammar.proofs.FirstOperands.{from_operand}
use Rattle.pm_grammar.proofs.OperandStarts.{IsPositive, positive}
use Rattle.pm_grammar.proofs.LevelRanks.{groups_below, rank-tighter, tighter_within}
use Rattle.pm_grammar.proofs.OperatorLevels.{ends_at, ends_tighter, goes_at}

-- ---- operators that group to the left

-- operands of the tighter level after an operand, each after an operator of the level
pub data Grouped (l : Level) : Expr → List Token → Expr → Type 0 where
  alone : (a : Expr) → Grouped l a [] a
  behind : (a b e : Expr) (ts us : List Token) (sign : Token) (op : BinaryOp) → operator_at l sign ≡ Some op → Spells (tighter l) ts b → Grouped l (expr.Binary op a b) us e → Grouped l a (sign ∷ (ts ++ us)) e

grouped_end : (l : Level) (a b c : Expr) (ts us : List Token) (sign : Token) (op : BinaryOp) → Grouped l a ts b → operator_at l sign ≡ Some op → Spells (tighter l) us c → Grouped l a (ts ++ sign ∷ us) (expr.Binary op b c)
grouped_end l a b c ts us sign op (alone _) is spelled =
    subst (λ (vs : List Token). Grouped l a (sign ∷ vs) (expr.Binary op a c)) (append-nil us) (behind a c (expr.Binary op a c) us [] sign op is spelled (alone (expr.Binary op a c)))
grouped_end l a b c ts us sign op (behind _ d _ vs ws mark other there operand more) is spelled =
    subst (λ (xs : List Token). Grouped l a (mark ∷ xs) (expr.Binary op b c)) (sym (append_assoc vs ws (sign ∷ us)))
    (behind a d (expr.Binary op b c) vs (ws ++ sign ∷ us) mark other there operand (grouped_end l (expr.Binary other a d) b c ws us sign op more is spelled))

-- a first operand of the tighter level, and the others after it
record IsGrouped (l : Level) (ts : List Token) (e : Expr) : Type 0 where
  us : List Token
  vs : List Token
  first : Expr
  front : ts ≡ us ++ vs
  spelled : Spells (tighter l) us first
  more : Grouped l first vs e

grouped_is : (l : Level) (ts : List Token) (e : Expr) → Spells l ts e → IsTrue (groups_left l) → IsGrouped l ts e
grouped_is l ts e (spells.as_tight _ _ _ spelled) groups =
    record { us = ts; vs = []; first = e; front = sym (append-nil ts); spelled = spelled; more = alone e }
grouped_is l _ _ (spells.grouped_left _ us vs sign op left right _ spelled is operand) groups =
    let parts = grouped_is l us left spelled groups in
    record {
      us = parts.us;
      vs = parts.vs ++ sign ∷ vs;
      first = parts.first;
      front = ap (λ (xs : List Token). xs ++ sign ∷ vs) parts.front ∙ append_assoc parts.us parts.vs (sign ∷ vs);
      spelled = parts.spelled;
      more = grouped_end l parts.first left right parts.vs vs sign op parts.more is operand;
    }
grouped_is l ts e (spells.conditional _ _ _ _ _ _ _ _ _ _ _ _ _) groups = absurd (false≢true groups)
grouped_is l ts e (spells.negation _ _ _ _ _) groups = absurd (false≢true groups)
grouped_is l ts e (spells.comparison _ _ _ _ _ _ _ _ _) groups = absurd (false≢true groups)
grouped_is l ts e (spells.signed _ _ _ _ _ _) groups = absurd (false≢true groups)
grouped_is l ts e (spells.power _ _ _ _ _ _ _ _ _) groups = absurd (false≢true groups)
grouped_is l ts e (spells.attribute _ _ _ _ _ _ _) groups = absurd (false≢true groups)
grouped_is l ts e (spells.call _ _ _ _ _ _ _ _ _ _) groups = absurd (false≢true groups)
grouped_is l ts e (spells.index _ _ _ _ _ _ _ _ _ _) groups = absurd (false≢true groups)
grouped_is l ts e (spells.slice _ _ _ _ _ _ _ _ _ _ _ _ _ _ _) groups = absurd (false≢true groups)
grouped_is l ts e (spells.named _ _) groups = absurd (false≢true groups)
grouped_is l ts e (spells.number _ _ _) groups = absurd (false≢true groups)
grouped_is l ts e (spells.true_word _ _) groups = absurd (false≢true groups)
grouped_is l ts e (spells.false_word _ _) groups = absurd (false≢true groups)
grouped_is l ts e (spells.group _ _ _ _ _ _ _) groups = absurd (false≢true groups)
grouped_is l ts e (spells.items _ _ _ _ _ _ _) groups = absurd (false≢true groups)
grouped_is l ts e (spells.each _ _ _ _ _ _ _ _ _ _ _ _ _) groups = absurd (false≢true groups)

-- each operation of the level with which the tokens begin, and that doesn't continue after it, continues from this one
abbrev pub GoesOnAt : Level → List Token → Expr → List Token → Type 0
GoesOnAt l all e rest = (other : Expr) (left : List Token) → Begins (Spells l) all other left → Ends l left → (us : List Token) × (rest ≡ us ++ left) × Grouped l e us other

-- after the first operand, no operand continues
pub ends_operand : (l : Level) (sign : Token) (op : BinaryOp) (tail : List Token) → IsTrue (groups_left l) → operator_at l sign ≡ Some op → Ends (tighter l) (sign ∷ tail)
ends_operand l sign op tail groups is =
    let below = groups_below l groups in
    let next = rank-tighter l (omega (arith, below)) in
    ends_at l (tighter l) sign op is (omega (arith, next))

grouped_ends : (l : Level) (a e : Expr) (us left : List Token) → IsTrue (groups_left l) → Grouped l a us e → Ends l left → Ends (tighter l) (us ++ left)
grouped_ends l a e us left groups (alone _) ends = ends_tighter l (tighter l) left (tighter_within l) ends
grouped_ends l a e us left groups (behind _ b _ vs ws sign op is spelled more) ends = ends_operand l sign op ((vs ++ ws) ++ left) groups is

pub goes_at_first : (l : Level) (all rest : List Token) (a : Expr) → IsTrue (groups_left l) → IsOnly (tighter l) all (Some (a, rest)) → GoesOnAt l all a rest
goes_at_first l all rest a groups only = λ other left begins ends.
    let parts = grouped_is l begins.0 other begins.2 groups in
    let split : all ≡ parts.us ++ (parts.vs ++ left) = begins.1 ∙ ap (λ (xs : List Token). xs ++ left) parts.front ∙ append_assoc parts.us parts.vs left in
    let read = only parts.first (parts.vs ++ left) (parts.us, split, parts.spelled) (grouped_ends l parts.first other parts.vs left groups parts.more ends) in
    (parts.vs, sym read.1, subst (λ (b : Expr). Grouped l b parts.vs other) read.0 parts.more)

-- after an operator, an operand and the others
record GoesOnBehind (l : Level) (op : BinaryOp) (a : Expr) (tail : List Token) (e : Expr) (left : List Token) : Type 0 where
  right : Expr
  us : List Token
  begins : Begins (Spells (tighter l)) tail right (us ++ left)
  more : Grouped l (expr.Binary op a right) us e

grouped_on : (l : Level) (a e : Expr) (sign : Token) (op : BinaryOp) (tail us left : List Token) → operator_at l sign ≡ Some op → sign ∷ tail ≡ us ++ left → Ends l left → Grouped l a us e → GoesOnBehind l op a tail e left
grouped_on l a e sign op tail us left is front ends (alone _) =
    absurd (both_ways (continues l sign) (subst (λ (xs : List Token). Ends l xs) (sym front) ends) (goes_at l l sign op is (omega arith)))
grouped_on l a e sign op tail us left is front ends (behind _ b _ vs ws mark other there spelled more) =
    let same : sign ≡ mark = cc in
    let behind_it : tail ≡ (vs ++ ws) ++ left = cc in
    let here : operator_at l mark ≡ Some op = subst (λ (t : Token). operator_at l t ≡ Some op) same is in
    let same_op : other ≡ op = cc in
    record {
      right = b;
      us = ws;
      begins = (vs, behind_it ∙ append_assoc vs ws left, spelled);
      more = subst (λ (o : BinaryOp). Grouped l (expr.Binary o a b) ws e) same_op more;
    }

pub goes_at_next : (l : Level) (all tail rest : List Token) (a b : Expr) (sign : Token) (op : BinaryOp) → IsTrue (groups_left l) → operator_at l sign ≡ Some op → GoesOnAt l all a (sign ∷ tail) → IsOnly (tighter l) tail (Some (b, rest)) → GoesOnAt l all (expr.Binary op a b) rest
goes_at_next l all tail rest a b sign op groups is goes only = λ other left begins ends.
    let on = goes other left begins ends in
    let parts = grouped_on l a other sign op tail on.0 left is on.1 ends on.2 in
    let read = only parts.right (parts.us ++ left) parts.begins (grouped_ends l (expr.Binary op a parts.right) other parts.us left groups parts.more ends) in
    (parts.us, sym read.1, subst (λ (c : Expr). Grouped l (expr.Binary op a c) parts.us other) read.0 parts.more)

grouped_done : (l : Level) (a e : Expr) (us left rest : List Token) → rest ≡ us ++ left → Ends l rest → Grouped l a us e → (e ≡ a) × (left ≡ rest)
grouped_done l a e us left rest front ends (alone _) = (refl, sym front)
grouped_done l a e us left rest front ends (behind _ b _ vs ws sign op is spelled more) =
    absurd (both_ways (continues l sign) (subst (λ (xs : List Token). Ends l xs) front ends) (goes_at l l sign op is (omega arith)))

-- no operator of the level comes after the operation
pub only_at : (l : Level) (all rest : List Token) (a : Expr) → GoesOnAt l all a rest → Ends l rest → IsOnly l all (Some (a, rest))
only_at l all rest a goes stops = λ other left begins ends.
    let on = goes other left begins ends in
    grouped_done l a other on.0 left rest on.1 stops on.2

-- ---- comparisons

-- two operands, and the operator between them
record IsCompared (ts : List Token) (e : Expr) : Type 0 where
  us : List Token
  vs : List Token
  sign : Token
  op : BinaryOp
  first : Expr
  second : Expr
  front : ts ≡ us ++ sign ∷ vs
  is : e ≡ expr.Binary op first second
  at : operator_at level.Comparison sign ≡ Some op
  first_spelled : Spells level.BitOr us first
  second_spelled : Spells level.BitOr vs second

compared_is : (ts : List Token) (e : Expr) → Spells level.Comparison ts e → Spells level.BitOr ts e ⊎ IsCompared ts e
compared_is ts e (spells.as_tight _ _ _ spelled) = inl spelled
compared_is _ _ (spells.comparison us vs sign op first second spelled at also) =
    inr (record {
      us = us;
      vs = vs;
      sign = sign;
      op = op;
      first = first;
      second = second;
      front = refl;
      is = refl;
      at = at;
      first_spelled = spelled;
      second_spelled = also;
    })
compared_is ts e (spells.grouped_left _ _ _ _ _ _ _ groups _ _ _) = absurd (false≢true groups)

compared_split : (all ts us vs left : List Token) (sign : Token) → all ≡ ts ++ left → ts ≡ us ++ sign ∷ vs → all ≡ us ++ sign ∷ (vs ++ left)
compared_split all ts us vs left sign split front = split ∙ ap (λ (xs : List Token). xs ++ left) front ∙ append_assoc us (sign ∷ vs) left

-- no operator comes after the first operand
pub only_uncompared : (all rest : List Token) (a : Expr) → IsOnly level.BitOr all (Some (a, rest)) → Ends level.Comparison rest → IsOnly level.Comparison all (Some (a, rest))
only_uncompared all rest a only stops = λ e left begins ends.
    elim (compared_is begins.0 e begins.2) [
      | inl spelled ↦ only e left (begins.0, begins.1, spelled) (ends_tighter level.Comparison level.BitOr left (omega arith) ends)
      | inr parts ↦
          let read = only parts.first (parts.sign ∷ (parts.vs ++ left)) (parts.us, compared_split all begins.0 parts.us parts.vs left parts.sign begins.1 parts.front, parts.first_spelled)
          (ends_at level.Comparison level.BitOr parts.sign parts.op parts.at (omega arith)) in
          absurd (both_ways (continues level.Comparison parts.sign) (subst (λ (xs : List Token). Ends level.Comparison xs) (sym read.1) stops) (goes_at level.Comparison level.Comparison parts.sign parts.op parts.at (omega arith)))
    ]

pub only_compared : (all tail rest : List Token) (a b : Expr) (sign : Token) (op : BinaryOp) → operator_at level.Comparison sign ≡ Some op → IsOnly level.BitOr all (Some (a, sign ∷ tail)) → IsOnly level.BitOr tail (Some (b, rest)) → IsOnly level.Comparison all (Some (expr.Binary op a b, rest))
only_compared all tail rest a b sign op is only also = λ e left begins ends.
    elim (compared_is begins.0 e begins.2) [
      | inl spelled ↦
          let read = only e left (begins.0, begins.1, spelled) (ends_tighter level.Comparison level.BitOr left (omega arith) ends) in
          absurd (both_ways (continues level.Comparison sign) (subst (λ (xs : List Token). Ends level.Comparison xs) read.1 ends) (goes_at level.Comparison level.Comparison sign op is (omega arith)))
      | inr parts ↦
          let read = only parts.first (parts.sign ∷ (parts.vs ++ left)) (parts.us, compared_split all begins.0 parts.us parts.vs left parts.sign begins.1 parts.front, parts.first_spelled)
          (ends_at level.Comparison level.BitOr parts.sign parts.op parts.at (omega arith)) in
          let front = read.1 in
          let same : parts.sign ≡ sign = cc in
          let behind_it : tail ≡ parts.vs ++ left = cc in
          let here : operator_at level.Comparison sign ≡ Some parts.op = subst (λ (t : Token). operator_at level.Comparison t ≡ Some parts.op) same parts.at in
          let same_op : parts.op ≡ op = cc in
          let second = also parts.second left (parts.vs, behind_it, parts.second_spelled) (ends_tighter level.Comparison level.BitOr left (omega arith) ends) in
          (parts.is ∙ ap (λ (o : BinaryOp). expr.Binary o parts.first parts.second) same_op ∙ ap (λ (c : Expr). expr.Binary op c parts.second) read.0 ∙ ap (λ (c : Expr). expr.Binary op a c) second.0, second.1)
    ]

-- ---- negations

-- `not`, and an operand
record IsNegation (ts : List Token) (e : Expr) : Type 0 where
  us : List Token
  word : Token
  operand : Expr
  front : ts ≡ word ∷ us
  is : e ≡ expr.Unary unary.Not operand
  is_not : IsTrue (is_word (codes "not") word)
  spelled : Spells level.Negation us operand

negation_is : (ts : List Token) (e : Expr) → Spells level.Negation ts e → Spells level.Comparison ts e ⊎ IsNegation ts e
negation_is ts e (spells.as_tight _ _ _ spelled) = inl spelled
negation_is _ _ (spells.negation us word operand is_not spelled) =
    inr (record { us = us; word = word; operand = operand; front = refl; is = refl; is_not = is_not; spelled = spelled })
negation_is ts e (spells.grouped_left _ _ _ _ _ _ _ groups _ _ _) = absurd (false≢true groups)

-- a comparison doesn't begin with `not`
positive_comparison : (ts : List Token) (e : Expr) → Spells level.Comparison ts e → IsPositive ts
positive_comparison ts e spelled =
    elim (from_operand level.Comparison ts e spelled (omega arith) (omega arith)) [
      | inl parts ↦
          let begun = positive level.Unary parts.us parts.operand parts.spelled (omega arith) in
          record {
            first = begun.first;
            behind = begun.behind ++ parts.vs;
            front = parts.front ∙ ap (λ (xs : List Token). xs ++ parts.vs) begun.front;
            is_other = begun.is_other;
          }
      | inr parts ↦ absurd (omega (arith, parts.loose))
    ]

not_first : (all ts left tail : List Token) (e : Expr) (word : Token) → Spells level.Comparison ts e → all ≡ ts ++ left → all ≡ word ∷ tail → IsTrue (is_word (codes "not") word) → ⊥
not_first all ts left tail e word spelled split front is =
    let begun = positive_comparison ts e spelled in
    let whole : all ≡ begun.first ∷ (begun.behind ++ left) = split ∙ ap (λ (xs : List Token). xs ++ left) begun.front in
    let same : begun.first ≡ word = cc in
    both_ways (is_word (codes "not") word) (subst (λ (t : Token). is_word (codes "not") t ≡ false) same begun.is_other) is

pub only_positive : (ts rest : List Token) (e : Expr) → Spells level.Comparison ts e → IsOnly level.Comparison (ts ++ rest) (Some (e, rest)) → IsOnly level.Negation (ts ++ rest) (Some (e, rest))
only_positive ts rest e spelled only = λ other left begins ends.
    elim (negation_is begins.0 other begins.2) [
      | inl also ↦ only other left (begins.0, begins.1, also) (ends_tighter level.Negation level.Comparison left (omega arith) ends)
      | inr parts ↦ absurd (not_first (ts ++ rest) ts rest (parts.us ++ left) e parts.word spelled refl (begins.1 ∙ ap (λ (xs : List Token). xs ++ left) parts.front) parts.is_not)
    ]

pub only_negation : (tail rest : List Token) (word : Token) (e : Expr) → IsTrue (is_word (codes "not") word) → IsOnly level.Negation tail (Some (e, rest)) → IsOnly level.Negation (word ∷ tail) (Some (expr.Unary unary.Not e, rest))
only_negation tail rest word e is only = λ other left begins ends.
    elim (negation_is begins.0 other begins.2) [
      | inl also ↦ absurd (not_first (word ∷ tail) begins.0 left tail other word also begins.1 refl is)
      | inr parts ↦
          let front : word ∷ tail ≡ parts.word ∷ (parts.us ++ left) = begins.1 ∙ ap (λ (xs : List Token). xs ++ left) parts.front in
          let behind_it : tail ≡ parts.us ++ left = cc in
          let read = only parts.operand left (parts.us, behind_it, parts.spelled) ends in
          (parts.is ∙ ap (λ (o : Expr). expr.Unary unary.Not o) read.0, read.1)
    ]
