-- Whether tokens spell an expression of a level: by the number of the tokens, and then by the level.
use Rattle.std.proofs.Common.{◌≡◌, ◌⊎◌, ◌<◌, ◌≤◌, ◌++◌, ◌+◌, ℕ, suc, zero, Bool, true, false, IsTrue, List, [], ◌∷◌, codes, length, arith, inl, inr, refl, ap}
use Rattle.std.specs.Prelude.{Option, Some, None, is_some}
use Rattle.std.proofs.lemmas.Bool.{false≢true}
use Rattle.std.proofs.lemmas.List.{length-append}
use Rattle.pm_syn.specs.declared.expression.Arg.{Arg}
use Rattle.pm_syn.specs.declared.expression.Expr.{Expr}
use Rattle.pm_syn.specs.declared.expression.Expr as leaf
use Rattle.pm_syn.specs.declared.expression.Expr.TheViews as expr
use Rattle.pm_syn.specs.declared.expression.UnaryOp.TheVariants as unary
use Rattle.pm_syn.specs.declared.token.Token.{Token}
use Rattle.pm_syn.specs.declared.token.TokenKind.{TokenKind}
use Rattle.pm_syn.specs.declared.token.TokenKind.TheVariants as kind
use Rattle.pm_grammar.specs.Expressions.{Spells, SpellsArgument, SpellsArgumentSequence, SpellsArguments, SpellsItems, SpellsRange, SpellsSequence}
use Rattle.pm_grammar.specs.Levels.{groups_left, operator_at, rank, sign_of, tighter}
use Rattle.pm_grammar.specs.Tokens.{is_symbol, is_name, is_word}
use Rattle.pm_grammar.specs.declared.level.Level.{Level}
use Rattle.pm_grammar.specs.declared.level.Level.TheVariants as level
use Rattle.pm_grammar.proofs.Decisions.{Decided, Found, IsEmpty, Next, Split, after, both_decided, decide_empty, decide_next, decide_split_at, either_decided, fewer, in_two, or_else, test_decides}
use Rattle.pm_grammar.proofs.LevelRanks.{groups_below, loosened, rank_within}

-- ---- what a token is

-- the value in an option that has one
abbrev pub Value : {A : Type 0} → Option A → Type 0
Value {A} o = (one : A) × (o ≡ Some one)

pub value_of : {A : Type 0} (o : Option A) → IsTrue (is_some o) → Value o
value_of None is = absurd (false≢true is)
value_of (Some one) is = (one, refl)

pub has_value : {A : Type 0} (o : Option A) (one : A) → o ≡ Some one → IsTrue (is_some o)
has_value o one is = rw is refl

-- the kind of numbers
abbrev is_number_kind : TokenKind → Bool
is_number_kind (kind.Int value) = true
is_number_kind kind.Name = false
is_number_kind kind.Op = false
is_number_kind kind.Str = false

abbrev is_number : Token → Bool
is_number token = is_number_kind token.kind

number_of : (k : TokenKind) → IsTrue (is_number_kind k) → (value : ℕ) × (k ≡ kind.Int value)
number_of (kind.Int value) is = (value, refl)
number_of kind.Name is = absurd (false≢true is)
number_of kind.Op is = absurd (false≢true is)
number_of kind.Str is = absurd (false≢true is)

number_kind : (k : TokenKind) (value : ℕ) → k ≡ kind.Int value → IsTrue (is_number_kind k)
number_kind k value is = rw is refl

-- an operator between two operands, at a level
abbrev is_operator : Level → Token → Bool
is_operator l token = is_some (operator_at l token)

-- an operator before its operand
abbrev is_sign : Token → Bool
is_sign token = is_some (sign_of token)

-- ---- expressions and lists of them

-- an expression of a level
abbrev pub Expression : Level → List Token → Type 0
Expression l = Found (Spells l)

-- any expression
abbrev pub AnyExpression : List Token → Type 0
AnyExpression = Expression level.Conditional

-- a sequence, a comma and one more expression
abbrev MoreExpressions : List Token → Type 0
MoreExpressions = Split (Found SpellsSequence) (Next (is_symbol (codes ",")) AnyExpression)

longer : (tokens : List Token) → MoreExpressions tokens → Found SpellsSequence tokens
longer _ (Split.split ts _ es (Next.next comma us is e)) = (es.0 ++ e.0 ∷ [], SpellsSequence.more ts us comma es.0 e.0 es.1 is e.1)

no_sequence : (tokens : List Token) (es : List Expr) → SpellsSequence tokens es → (AnyExpression tokens → ⊥) → (MoreExpressions tokens → ⊥) → ⊥
no_sequence _ _ (SpellsSequence.one ts e spelled) no_one no_more = no_one (e, spelled)
no_sequence _ _ (SpellsSequence.more ts us comma es e before is spelled) no_one no_more = no_more (Split.split ts (comma ∷ us) (es, before) (Next.next comma us is (e, spelled)))

decide_sequence : (n : ℕ) → Decided n AnyExpression → Decided n (Found SpellsSequence)
decide_sequence zero expressions tokens below = absurd (omega arith)
decide_sequence (suc n) expressions tokens below =
    let fewer_expressions = fewer n AnyExpression expressions in
    or_else (expressions tokens below) (λ one. (one.0 ∷ [], SpellsSequence.one tokens one.0 one.1)) (λ no_one.
    or_else (decide_split_at n (Found SpellsSequence) (is_symbol (codes ",")) AnyExpression (decide_sequence n fewer_expressions) fewer_expressions tokens below) (longer tokens) (λ no_more.
    inr (λ found. no_sequence tokens found.0 found.1 no_one no_more)))

-- a sequence of at most so many expressions
abbrev AtMost : ℕ → List Token → Type 0
AtMost count tokens = (es : List Expr) × SpellsSequence tokens es × (length es ≤ count)

-- at most so many, a comma and one more
abbrev OneMore : ℕ → List Token → Type 0
OneMore count = Split (AtMost count) (Next (is_symbol (codes ",")) AnyExpression)

one_longer : (count : ℕ) (tokens : List Token) → OneMore count tokens → AtMost (suc count) tokens
one_longer count _ (Split.split ts _ es (Next.next comma us is e)) =
    let size : length (es.0 ++ e.0 ∷ []) ≡ length es.0 + length (e.0 ∷ []) = length-append es.0 (e.0 ∷ []) in
    let within : length (es.0 ++ e.0 ∷ []) ≤ suc count = omega (arith, size, es.2) in
    (es.0 ++ e.0 ∷ [], SpellsSequence.more ts us comma es.0 e.0 es.1 is e.1, within)

none_within : (tokens : List Token) (es : List Expr) → SpellsSequence tokens es → length es ≤ 0 → ⊥
none_within _ _ (SpellsSequence.one ts e spelled) within = omega arith
none_within _ _ (SpellsSequence.more ts us comma es e before is spelled) within =
    let size : length (es ++ e ∷ []) ≡ length es + length (e ∷ []) = length-append es (e ∷ []) in
    omega (arith, size)

none_longer : (count : ℕ) (tokens : List Token) (es : List Expr) → SpellsSequence tokens es → length es ≤ suc count → (AnyExpression tokens → ⊥) → (OneMore count tokens → ⊥) → ⊥
none_longer count _ _ (SpellsSequence.one ts e spelled) within no_one no_more = no_one (e, spelled)
none_longer count _ _ (SpellsSequence.more ts us comma es e before is spelled) within no_one no_more =
    let size : length (es ++ e ∷ []) ≡ length es + length (e ∷ []) = length-append es (e ∷ []) in
    let shorter : length es ≤ count = omega (arith, size, within) in
    no_more (Split.split ts (comma ∷ us) (es, before, shorter) (Next.next comma us is (e, spelled)))

decide_one_more : (n : ℕ) → Decided n AnyExpression → (count : ℕ) → Decided n (AtMost count) → Decided n (OneMore count)
decide_one_more n expressions count sequences = in_two sequences (after expressions)

decide_at_most : (n : ℕ) → Decided n AnyExpression → (count : ℕ) → Decided n (AtMost count)
decide_at_most n expressions zero tokens below = inr (λ found. none_within tokens found.0 found.1 found.2)
decide_at_most n expressions (suc count) tokens below =
    or_else (expressions tokens below) (λ one. (one.0 ∷ [], SpellsSequence.one tokens one.0 one.1, omega arith)) (λ no_one.
    or_else (decide_one_more n expressions count (decide_at_most n expressions count) tokens below) (one_longer count tokens) (λ no_more.
    inr (λ found. none_longer count tokens found.0 found.1 found.2 no_one no_more)))

-- a sequence and a comma
abbrev SequenceComma : List Token → Type 0
SequenceComma = Split (Found SpellsSequence) (Next (is_symbol (codes ",")) IsEmpty)

items_comma : (tokens : List Token) → SequenceComma tokens → Found SpellsItems tokens
items_comma _ (Split.split ts _ es (Next.next comma _ is IsEmpty.empty)) = (es.0, SpellsItems.items_comma ts comma es.0 es.1 is)

no_items : (tokens : List Token) (es : List Expr) → SpellsItems tokens es → (IsEmpty tokens → ⊥) → (Found SpellsSequence tokens → ⊥) → (SequenceComma tokens → ⊥) → ⊥
no_items _ _ SpellsItems.no_items no_none no_some no_comma = no_none IsEmpty.empty
no_items _ _ (SpellsItems.some_items ts es spelled) no_none no_some no_comma = no_some (es, spelled)
no_items _ _ (SpellsItems.items_comma ts comma es spelled is) no_none no_some no_comma = no_comma (Split.split ts (comma ∷ []) (es, spelled) (Next.next comma [] is IsEmpty.empty))

nothing_items : (tokens : List Token) → IsEmpty tokens → Found SpellsItems tokens
nothing_items _ IsEmpty.empty = ([], SpellsItems.no_items)

decide_sequence_comma : (n : ℕ) → Decided n AnyExpression → Decided n SequenceComma
decide_sequence_comma n expressions = in_two (decide_sequence n expressions) (after (decide_empty n))

decide_items : (n : ℕ) → Decided n AnyExpression → Decided n (Found SpellsItems)
decide_items n expressions tokens below =
    or_else (decide_empty n tokens below) (nothing_items tokens) (λ no_none.
    or_else (decide_sequence n expressions tokens below) (λ some. (some.0, SpellsItems.some_items tokens some.0 some.1)) (λ no_some.
    or_else (decide_sequence_comma n expressions tokens below) (items_comma tokens) (λ no_comma.
    inr (λ found. no_items tokens found.0 found.1 no_none no_some no_comma))))

-- `NAME in range( .. )`
abbrev RangeForm : List Token → Type 0
RangeForm = Next is_name (Next (is_word (codes "in")) (Next (is_word (codes "range")) (Next (is_symbol (codes "(")) (Split (AtMost 3) (Next (is_symbol (codes ")")) IsEmpty)))))

range_found : (tokens : List Token) → RangeForm tokens → Found SpellsRange tokens
range_found _ (Next.next name _ named (Next.next in_word _ in_is (Next.next range _ range_is (Next.next opening _ open_is (Split.split ts _ bounds (Next.next closing _ close_is IsEmpty.empty)))))) =
    ((name.text, bounds.0), SpellsRange.ranged ts name in_word range opening closing bounds.0 named in_is range_is open_is bounds.1 bounds.2 close_is)

range_form : (tokens : List Token) (range : List ℕ × List Expr) → SpellsRange tokens range → RangeForm tokens
range_form _ _ (SpellsRange.ranged ts name in_word range opening closing bounds named in_is range_is open_is spelled within close_is) =
    let end = Next.next closing [] close_is IsEmpty.empty in
    let inner = Next.next opening (ts ++ closing ∷ []) open_is (Split.split ts (closing ∷ []) (bounds, spelled, within) end) in
    Next.next name (in_word ∷ range ∷ opening ∷ (ts ++ closing ∷ [])) named (Next.next in_word (range ∷ opening ∷ (ts ++ closing ∷ [])) in_is (Next.next range (opening ∷ (ts ++ closing ∷ [])) range_is inner))

decide_range_form : (n : ℕ) → Decided n AnyExpression → Decided n RangeForm
decide_range_form n expressions = after (after (after (after (in_two (decide_at_most n expressions 3) (after (decide_empty n))))))

pub decide_range : (n : ℕ) → Decided n AnyExpression → Decided n (Found SpellsRange)
decide_range n expressions tokens below =
    or_else (decide_range_form n expressions tokens below) (range_found tokens) (λ no_form.
    inr (λ found. no_form (range_form tokens found.0 found.1)))

-- ---- arguments of calls

-- an argument with the name of its parameter
abbrev NamedArgument : List Token → Type 0
NamedArgument = Next is_name (Next (is_symbol (codes "=")) AnyExpression)

argument_named : (tokens : List Token) → NamedArgument tokens → Found SpellsArgument tokens
argument_named _ (Next.next name _ named (Next.next sign ts is e)) = (record { name = Some name.text; value = e.0 }, SpellsArgument.by_name ts name sign e.0 named is e.1)

no_argument : (tokens : List Token) (a : Arg) → SpellsArgument tokens a → (AnyExpression tokens → ⊥) → (NamedArgument tokens → ⊥) → ⊥
no_argument _ _ (SpellsArgument.plain ts e spelled) no_plain no_named = no_plain (e, spelled)
no_argument _ _ (SpellsArgument.by_name ts name sign e named is spelled) no_plain no_named = no_named (Next.next name (sign ∷ ts) named (Next.next sign ts is (e, spelled)))

decide_named_argument : (n : ℕ) → Decided n AnyExpression → Decided n NamedArgument
decide_named_argument n expressions = after (after expressions)

decide_argument : (n : ℕ) → Decided n AnyExpression → Decided n (Found SpellsArgument)
decide_argument n expressions tokens below =
    or_else (expressions tokens below) (λ plain. (record { name = None; value = plain.0 }, SpellsArgument.plain tokens plain.0 plain.1)) (λ no_plain.
    or_else (decide_named_argument n expressions tokens below) (argument_named tokens) (λ no_named.
    inr (λ found. no_argument tokens found.0 found.1 no_plain no_named)))

-- a sequence, a comma and one more argument
abbrev MoreArguments : List Token → Type 0
MoreArguments = Split (Found SpellsArgumentSequence) (Next (is_symbol (codes ",")) (Found SpellsArgument))

longer_arguments : (tokens : List Token) → MoreArguments tokens → Found SpellsArgumentSequence tokens
longer_arguments _ (Split.split ts _ arguments (Next.next comma us is a)) = (arguments.0 ++ a.0 ∷ [], SpellsArgumentSequence.more_arguments ts us comma arguments.0 a.0 arguments.1 is a.1)

no_argument_sequence : (tokens : List Token) (arguments : List Arg) → SpellsArgumentSequence tokens arguments → (Found SpellsArgument tokens → ⊥) → (MoreArguments tokens → ⊥) → ⊥
no_argument_sequence _ _ (SpellsArgumentSequence.one_argument ts a spelled) no_one no_more = no_one (a, spelled)
no_argument_sequence _ _ (SpellsArgumentSequence.more_arguments ts us comma arguments a before is spelled) no_one no_more =
    no_more (Split.split ts (comma ∷ us) (arguments, before) (Next.next comma us is (a, spelled)))

decide_argument_sequence : (n : ℕ) → Decided n (Found SpellsArgument) → Decided n (Found SpellsArgumentSequence)
decide_argument_sequence zero arguments tokens below = absurd (omega arith)
decide_argument_sequence (suc n) arguments tokens below =
    let fewer_arguments = fewer n (Found SpellsArgument) arguments in
    or_else (arguments tokens below) (λ one. (one.0 ∷ [], SpellsArgumentSequence.one_argument tokens one.0 one.1)) (λ no_one.
    or_else (decide_split_at n (Found SpellsArgumentSequence) (is_symbol (codes ",")) (Found SpellsArgument) (decide_argument_sequence n fewer_arguments) fewer_arguments tokens below) (longer_arguments tokens) (λ no_more.
    inr (λ found. no_argument_sequence tokens found.0 found.1 no_one no_more)))

-- a sequence and a comma
abbrev ArgumentsComma : List Token → Type 0
ArgumentsComma = Split (Found SpellsArgumentSequence) (Next (is_symbol (codes ",")) IsEmpty)

arguments_comma : (tokens : List Token) → ArgumentsComma tokens → Found SpellsArguments tokens
arguments_comma _ (Split.split ts _ arguments (Next.next comma _ is IsEmpty.empty)) = (arguments.0, SpellsArguments.arguments_comma ts comma arguments.0 arguments.1 is)

nothing_arguments : (tokens : List Token) → IsEmpty tokens → Found SpellsArguments tokens
nothing_arguments _ IsEmpty.empty = ([], SpellsArguments.no_arguments)

no_arguments : (tokens : List Token) (arguments : List Arg) → SpellsArguments tokens arguments → (IsEmpty tokens → ⊥) → (Found SpellsArgumentSequence tokens → ⊥) → (ArgumentsComma tokens → ⊥) → ⊥
no_arguments _ _ SpellsArguments.no_arguments no_none no_some no_comma = no_none IsEmpty.empty
no_arguments _ _ (SpellsArguments.some_arguments ts arguments spelled) no_none no_some no_comma = no_some (arguments, spelled)
no_arguments _ _ (SpellsArguments.arguments_comma ts comma arguments spelled is) no_none no_some no_comma =
    no_comma (Split.split ts (comma ∷ []) (arguments, spelled) (Next.next comma [] is IsEmpty.empty))

decide_arguments_comma : (n : ℕ) → Decided n (Found SpellsArgumentSequence) → Decided n ArgumentsComma
decide_arguments_comma n sequences = in_two sequences (after (decide_empty n))

decide_arguments : (n : ℕ) → Decided n AnyExpression → Decided n (Found SpellsArguments)
decide_arguments n expressions tokens below =
    let sequences = decide_argument_sequence n (decide_argument n expressions) in
    or_else (decide_empty n tokens below) (nothing_arguments tokens) (λ no_none.
    or_else (sequences tokens below) (λ some. (some.0, SpellsArguments.some_arguments tokens some.0 some.1)) (λ no_some.
    or_else (decide_arguments_comma n sequences tokens below) (arguments_comma tokens) (λ no_comma.
    inr (λ found. no_arguments tokens found.0 found.1 no_none no_some no_comma))))

-- ---- the forms of each level

-- a closing bracket, and nothing more
abbrev Closing : List ℕ → List Token → Type 0
Closing bytes = Next (is_symbol bytes) IsEmpty

-- an expression and a suffix that begins with this mark
abbrev Suffixed : List ℕ → (List Token → Type 0) → List Token → Type 0
Suffixed bytes Rest = Split (Expression level.Postfix) (Next (is_symbol bytes) Rest)

-- two operands, and between them an operator of the level
abbrev Operands : Level → Level → Level → List Token → Type 0
Operands left l right = Split (Expression left) (Next (is_operator l) (Expression right))

-- what follows the opening bracket of an index, and of a slice
abbrev IndexRest : List Token → Type 0
IndexRest = Split AnyExpression (Closing (codes "]"))

abbrev SliceRest : List Token → Type 0
SliceRest = Split AnyExpression (Next (is_symbol (codes ":")) IndexRest)

-- what follows the dot of an attribute, and the opening bracket of a call
abbrev AttributeRest : List Token → Type 0
AttributeRest = Next is_name IsEmpty

abbrev CallRest : List Token → Type 0
CallRest = Split (Found SpellsArguments) (Closing (codes ")"))

-- what follows the condition of a conditional expression, and its value
abbrev ElseRest : List Token → Type 0
ElseRest = Split (Expression level.Disjunction) (Next (is_word (codes "else")) AnyExpression)

-- an expression of the level that is none of the next tighter level and has no operator that groups to the left
abbrev Own : Level → List Token → Type 0
Own level.Conditional tokens = Split (Expression level.Disjunction) (Next (is_word (codes "if")) ElseRest) tokens
Own level.Negation tokens = Next (is_word (codes "not")) (Expression level.Negation) tokens
Own level.Comparison tokens = Operands level.BitOr level.Comparison level.BitOr tokens
Own level.Unary tokens = Next is_sign (Expression level.Unary) tokens
Own level.Power tokens = Operands level.Postfix level.Power level.Unary tokens
Own level.Postfix tokens =
    Suffixed (codes ".") AttributeRest tokens ⊎ (Suffixed (codes "(") CallRest tokens ⊎ (Suffixed (codes "[") IndexRest tokens ⊎ Suffixed (codes "[") SliceRest tokens))
Own other tokens = ⊥

-- an expression whose operator groups to the left
abbrev Grouped : Level → List Token → Type 0
Grouped l tokens = IsTrue (groups_left l) × Operands l l (tighter l) tokens

own_spelled : (l : Level) (tokens : List Token) → Own l tokens → Expression l tokens
own_spelled level.Conditional _ (Split.split ts _ value (Next.next if_word _ is (Split.split us _ condition (Next.next else_word vs else_is other)))) =
    (expr.Cond value.0 condition.0 other.0, Spells.conditional ts us vs if_word else_word value.0 condition.0 other.0 value.1 is condition.1 else_is other.1)
own_spelled level.Negation _ (Next.next not_word ts is e) = (expr.Unary unary.Not e.0, Spells.negation ts not_word e.0 is e.1)
own_spelled level.Comparison _ (Split.split ts _ left (Next.next sign us is right)) =
    let op = value_of (operator_at level.Comparison sign) is in
    (expr.Binary op.0 left.0 right.0, Spells.comparison ts us sign op.0 left.0 right.0 left.1 op.1 right.1)
own_spelled level.Unary _ (Next.next sign ts is e) =
    let op = value_of (sign_of sign) is in
    (expr.Unary op.0 e.0, Spells.signed ts sign op.0 e.0 op.1 e.1)
own_spelled level.Power _ (Split.split ts _ base (Next.next sign us is exponent)) =
    let op = value_of (operator_at level.Power sign) is in
    (expr.Binary op.0 base.0 exponent.0, Spells.power ts us sign op.0 base.0 exponent.0 base.1 op.1 exponent.1)
own_spelled level.Postfix _ (inl (Split.split ts _ e (Next.next dot _ is (Next.next name _ named IsEmpty.empty)))) = (expr.Attr e.0 name.text, Spells.attribute ts dot name e.0 e.1 is named)
own_spelled level.Postfix _ (inr (inl (Split.split ts _ e (Next.next opening _ is (Split.split us _ arguments (Next.next closing _ close_is IsEmpty.empty)))))) =
    (expr.Call e.0 arguments.0, Spells.call ts us opening closing e.0 arguments.0 e.1 is arguments.1 close_is)
own_spelled level.Postfix _ (inr (inr (inl (Split.split ts _ e (Next.next opening _ is (Split.split us _ place (Next.next closing _ close_is IsEmpty.empty))))))) =
    (expr.Index e.0 place.0, Spells.index ts us opening closing e.0 place.0 e.1 is place.1 close_is)
own_spelled level.Postfix _ (inr (inr (inr (Split.split ts _ e (Next.next opening _ is (Split.split us _ low (Next.next colon _ colon_is (Split.split vs _ high (Next.next closing _ close_is IsEmpty.empty))))))))) =
    (expr.Slice e.0 low.0 high.0, Spells.slice ts us vs opening colon closing e.0 low.0 high.0 e.1 is low.1 colon_is high.1 close_is)
own_spelled other tokens none = absurd none

grouped_spelled : (l : Level) (tokens : List Token) → Grouped l tokens → Expression l tokens
grouped_spelled l tokens grouped = spelled tokens grouped.1 where
  spelled : (us : List Token) → Operands l l (tighter l) us → Expression l us
  spelled _ (Split.split ts _ left (Next.next sign us is right)) =
      let op = value_of (operator_at l sign) is in
      (expr.Binary op.0 left.0 right.0, Spells.grouped_left l ts us sign op.0 left.0 right.0 grouped.0 left.1 op.1 right.1)

no_expression : (l : Level) (tokens : List Token) (e : Expr) → Spells l tokens e → (Expression (tighter l) tokens → ⊥) → (Grouped l tokens → ⊥) → (Own l tokens → ⊥) → ⊥
no_expression _ _ _ (Spells.as_tight l ts e spelled) no_tight no_grouped no_own = no_tight (e, spelled)
no_expression _ _ _ (Spells.conditional ts us vs if_word else_word value condition other value_is if_is condition_is else_is other_is) no_tight no_grouped no_own =
    no_own (Split.split ts (if_word ∷ (us ++ else_word ∷ vs)) (value, value_is) (Next.next if_word (us ++ else_word ∷ vs) if_is
    (Split.split us (else_word ∷ vs) (condition, condition_is) (Next.next else_word vs else_is (other, other_is)))))
no_expression _ _ _ (Spells.grouped_left l ts us sign op left right groups left_is op_is right_is) no_tight no_grouped no_own =
    no_grouped (groups, Split.split ts (sign ∷ us) (left, left_is) (Next.next sign us (has_value (operator_at l sign) op op_is) (right, right_is)))
no_expression _ _ _ (Spells.negation ts not_word e is spelled) no_tight no_grouped no_own = no_own (Next.next not_word ts is (e, spelled))
no_expression _ _ _ (Spells.comparison ts us sign op left right left_is op_is right_is) no_tight no_grouped no_own =
    no_own (Split.split ts (sign ∷ us) (left, left_is) (Next.next sign us (has_value (operator_at level.Comparison sign) op op_is) (right, right_is)))
no_expression _ _ _ (Spells.signed ts sign op e op_is spelled) no_tight no_grouped no_own = no_own (Next.next sign ts (has_value (sign_of sign) op op_is) (e, spelled))
no_expression _ _ _ (Spells.power ts us sign op base exponent base_is op_is exponent_is) no_tight no_grouped no_own =
    no_own (Split.split ts (sign ∷ us) (base, base_is) (Next.next sign us (has_value (operator_at level.Power sign) op op_is) (exponent, exponent_is)))
no_expression _ _ _ (Spells.attribute ts dot name e spelled is named) no_tight no_grouped no_own =
    no_own (inl (Split.split ts (dot ∷ name ∷ []) (e, spelled) (Next.next dot (name ∷ []) is (Next.next name [] named IsEmpty.empty))))
no_expression _ _ _ (Spells.call ts us opening closing e arguments spelled is arguments_are close_is) no_tight no_grouped no_own =
    no_own (inr (inl (Split.split ts (opening ∷ (us ++ closing ∷ [])) (e, spelled) (Next.next opening (us ++ closing ∷ []) is
    (Split.split us (closing ∷ []) (arguments, arguments_are) (Next.next closing [] close_is IsEmpty.empty))))))
no_expression _ _ _ (Spells.index ts us opening closing e place spelled is place_is close_is) no_tight no_grouped no_own =
    no_own (inr (inr (inl (Split.split ts (opening ∷ (us ++ closing ∷ [])) (e, spelled) (Next.next opening (us ++ closing ∷ []) is
    (Split.split us (closing ∷ []) (place, place_is) (Next.next closing [] close_is IsEmpty.empty)))))))
no_expression _ _ _ (Spells.slice ts us vs opening colon closing e low high spelled is low_is colon_is high_is close_is) no_tight no_grouped no_own =
    no_own (inr (inr (inr (Split.split ts (opening ∷ (us ++ colon ∷ (vs ++ closing ∷ []))) (e, spelled) (Next.next opening (us ++ colon ∷ (vs ++ closing ∷ [])) is
    (Split.split us (colon ∷ (vs ++ closing ∷ [])) (low, low_is) (Next.next colon (vs ++ closing ∷ []) colon_is
    (Split.split vs (closing ∷ []) (high, high_is) (Next.next closing [] close_is IsEmpty.empty)))))))))
no_expression _ _ _ (Spells.named name is) no_tight no_grouped no_own = no_tight (leaf.Name name.text, Spells.named name is)
no_expression _ _ _ (Spells.number literal value is) no_tight no_grouped no_own = no_tight (leaf.Int value, Spells.number literal value is)
no_expression _ _ _ (Spells.true_word word is) no_tight no_grouped no_own = no_tight (leaf.Bool true, Spells.true_word word is)
no_expression _ _ _ (Spells.false_word word is) no_tight no_grouped no_own = no_tight (leaf.Bool false, Spells.false_word word is)
no_expression _ _ _ (Spells.group ts opening closing e open_is spelled close_is) no_tight no_grouped no_own = no_tight (e, Spells.group ts opening closing e open_is spelled close_is)
no_expression _ _ _ (Spells.items ts opening closing es open_is spelled close_is) no_tight no_grouped no_own = no_tight (expr.Items es, Spells.items ts opening closing es open_is spelled close_is)
no_expression _ _ _ (Spells.each ts us opening for_word closing e name bounds open_is spelled for_is range close_is) no_tight no_grouped no_own =
    no_tight (expr.Each e name bounds, Spells.each ts us opening for_word closing e name bounds open_is spelled for_is range close_is)

-- ---- atoms

-- what follows the opening bracket of a list that has `for`
abbrev EachRest : List Token → Type 0
EachRest = Split AnyExpression (Next (is_word (codes "for")) (Split (Found SpellsRange) (Closing (codes "]"))))

abbrev GroupRest : List Token → Type 0
GroupRest = Split AnyExpression (Closing (codes ")"))

abbrev ItemsRest : List Token → Type 0
ItemsRest = Split (Found SpellsItems) (Closing (codes "]"))

-- one token
abbrev Leaf : List Token → Type 0
Leaf tokens = Next is_name IsEmpty tokens ⊎ (Next is_number IsEmpty tokens ⊎ (Next (is_word (codes "True")) IsEmpty tokens ⊎ Next (is_word (codes "False")) IsEmpty tokens))

-- something in brackets
abbrev Bracketed : List Token → Type 0
Bracketed tokens = Next (is_symbol (codes "(")) GroupRest tokens ⊎ (Next (is_symbol (codes "[")) ItemsRest tokens ⊎ Next (is_symbol (codes "[")) EachRest tokens)

leaf_spelled : (tokens : List Token) → Leaf tokens → Expression level.Atom tokens
leaf_spelled _ (inl (Next.next name _ is IsEmpty.empty)) = (leaf.Name name.text, Spells.named name is)
leaf_spelled _ (inr (inl (Next.next literal _ is IsEmpty.empty))) = let value = number_of literal.kind is in (leaf.Int value.0, Spells.number literal value.0 value.1)
leaf_spelled _ (inr (inr (inl (Next.next word _ is IsEmpty.empty)))) = (leaf.Bool true, Spells.true_word word is)
leaf_spelled _ (inr (inr (inr (Next.next word _ is IsEmpty.empty)))) = (leaf.Bool false, Spells.false_word word is)

bracketed_spelled : (tokens : List Token) → Bracketed tokens → Expression level.Atom tokens
bracketed_spelled _ (inl (Next.next opening _ is (Split.split ts _ e (Next.next closing _ close_is IsEmpty.empty)))) = (e.0, Spells.group ts opening closing e.0 is e.1 close_is)
bracketed_spelled _ (inr (inl (Next.next opening _ is (Split.split ts _ es (Next.next closing _ close_is IsEmpty.empty))))) = (expr.Items es.0, Spells.items ts opening closing es.0 is es.1 close_is)
bracketed_spelled _ (inr (inr (Next.next opening _ is (Split.split ts _ e (Next.next for_word _ for_is (Split.split us _ ((name, bounds), range) (Next.next closing _ close_is IsEmpty.empty))))))) =
    (expr.Each e.0 name bounds, Spells.each ts us opening for_word closing e.0 name bounds is e.1 for_is range close_is)

-- this isn't the level of atoms
other_level : (l : Level) → rank l < 14 → l ≡ level.Atom → ⊥
other_level l below same = let ranks : rank l ≡ 14 = ap rank same in omega arith

no_atom : (l : Level) (tokens : List Token) (e : Expr) → Spells l tokens e → l ≡ level.Atom → (Leaf tokens → ⊥) → (Bracketed tokens → ⊥) → ⊥
no_atom _ _ _ (Spells.as_tight l ts e spelled) same no_leaf no_bracketed = no_atom (tighter l) ts e spelled (ap tighter same) no_leaf no_bracketed
no_atom _ _ _ (Spells.conditional ts us vs if_word else_word value condition other value_is if_is condition_is else_is other_is) same no_leaf no_bracketed = other_level level.Conditional (omega arith) same
no_atom _ _ _ (Spells.grouped_left l ts us sign op left right groups left_is op_is right_is) same no_leaf no_bracketed = let below = groups_below l groups in other_level l (omega arith) same
no_atom _ _ _ (Spells.negation ts not_word e is spelled) same no_leaf no_bracketed = other_level level.Negation (omega arith) same
no_atom _ _ _ (Spells.comparison ts us sign op left right left_is op_is right_is) same no_leaf no_bracketed = other_level level.Comparison (omega arith) same
no_atom _ _ _ (Spells.signed ts sign op e op_is spelled) same no_leaf no_bracketed = other_level level.Unary (omega arith) same
no_atom _ _ _ (Spells.power ts us sign op base exponent base_is op_is exponent_is) same no_leaf no_bracketed = other_level level.Power (omega arith) same
no_atom _ _ _ (Spells.attribute ts dot name e spelled is named) same no_leaf no_bracketed = other_level level.Postfix (omega arith) same
no_atom _ _ _ (Spells.call ts us opening closing e arguments spelled is arguments_are close_is) same no_leaf no_bracketed = other_level level.Postfix (omega arith) same
no_atom _ _ _ (Spells.index ts us opening closing e place spelled is place_is close_is) same no_leaf no_bracketed = other_level level.Postfix (omega arith) same
no_atom _ _ _ (Spells.slice ts us vs opening colon closing e low high spelled is low_is colon_is high_is close_is) same no_leaf no_bracketed = other_level level.Postfix (omega arith) same
no_atom _ _ _ (Spells.named name is) same no_leaf no_bracketed = no_leaf (inl (Next.next name [] is IsEmpty.empty))
no_atom _ _ _ (Spells.number literal value is) same no_leaf no_bracketed = no_leaf (inr (inl (Next.next literal [] (number_kind literal.kind value is) IsEmpty.empty)))
no_atom _ _ _ (Spells.true_word word is) same no_leaf no_bracketed = no_leaf (inr (inr (inl (Next.next word [] is IsEmpty.empty))))
no_atom _ _ _ (Spells.false_word word is) same no_leaf no_bracketed = no_leaf (inr (inr (inr (Next.next word [] is IsEmpty.empty))))
no_atom _ _ _ (Spells.group ts opening closing e open_is spelled close_is) same no_leaf no_bracketed =
    no_bracketed (inl (Next.next opening (ts ++ closing ∷ []) open_is (Split.split ts (closing ∷ []) (e, spelled) (Next.next closing [] close_is IsEmpty.empty))))
no_atom _ _ _ (Spells.items ts opening closing es open_is spelled close_is) same no_leaf no_bracketed =
    no_bracketed (inr (inl (Next.next opening (ts ++ closing ∷ []) open_is (Split.split ts (closing ∷ []) (es, spelled) (Next.next closing [] close_is IsEmpty.empty)))))
no_atom _ _ _ (Spells.each ts us opening for_word closing e name bounds open_is spelled for_is range close_is) same no_leaf no_bracketed =
    no_bracketed (inr (inr (Next.next opening (ts ++ for_word ∷ (us ++ closing ∷ [])) open_is (Split.split ts (for_word ∷ (us ++ closing ∷ [])) (e, spelled) (Next.next for_word (us ++ closing ∷ []) for_is
    (Split.split us (closing ∷ []) ((name, bounds), range) (Next.next closing [] close_is IsEmpty.empty)))))))

-- ---- deciding

-- every expression of fewer tokens is decided
abbrev AllDecided : ℕ → Type 0
AllDecided n = (l : Level) → Decided n (Expression l)

decide_closing : (n : ℕ) (bytes : List ℕ) → Decided n (Closing bytes)
decide_closing n bytes = after (decide_empty n)

decide_attribute : (n : ℕ) → Decided n AttributeRest
decide_attribute n = after (decide_empty n)

decide_call : (n : ℕ) → AllDecided n → Decided n CallRest
decide_call n smaller = in_two (decide_arguments n (smaller level.Conditional)) (decide_closing n (codes ")"))

decide_index : (n : ℕ) → AllDecided n → Decided n IndexRest
decide_index n smaller = in_two (smaller level.Conditional) (decide_closing n (codes "]"))

decide_slice : (n : ℕ) → AllDecided n → Decided n SliceRest
decide_slice n smaller = in_two (smaller level.Conditional) (after (decide_index n smaller))

decide_else : (n : ℕ) → AllDecided n → Decided n ElseRest
decide_else n smaller = in_two (smaller level.Disjunction) (after (smaller level.Conditional))

decide_suffixed : (n : ℕ) → AllDecided n → (bytes : List ℕ) (Rest : List Token → Type 0) → Decided n Rest → Decided (suc n) (Suffixed bytes Rest)
decide_suffixed n smaller bytes Rest rests = decide_split_at n (Expression level.Postfix) (is_symbol bytes) Rest (smaller level.Postfix) rests

decide_operands : (n : ℕ) → AllDecided n → (left l right : Level) → Decided (suc n) (Operands left l right)
decide_operands n smaller left l right = decide_split_at n (Expression left) (is_operator l) (Expression right) (smaller left) (smaller right)

decide_own : (n : ℕ) → AllDecided n → (l : Level) → Decided (suc n) (Own l)
decide_own n smaller level.Conditional = decide_split_at n (Expression level.Disjunction) (is_word (codes "if")) ElseRest (smaller level.Disjunction) (decide_else n smaller)
decide_own n smaller level.Negation = decide_next n (is_word (codes "not")) (Expression level.Negation) (smaller level.Negation)
decide_own n smaller level.Comparison = decide_operands n smaller level.BitOr level.Comparison level.BitOr
decide_own n smaller level.Unary = decide_next n is_sign (Expression level.Unary) (smaller level.Unary)
decide_own n smaller level.Power = decide_operands n smaller level.Postfix level.Power level.Unary
decide_own n smaller level.Postfix = λ tokens below.
    let attributes = decide_suffixed n smaller (codes ".") AttributeRest (decide_attribute n) tokens below in
    let calls = decide_suffixed n smaller (codes "(") CallRest (decide_call n smaller) tokens below in
    let indexes = decide_suffixed n smaller (codes "[") IndexRest (decide_index n smaller) tokens below in
    let slices = decide_suffixed n smaller (codes "[") SliceRest (decide_slice n smaller) tokens below in
    either_decided _ _ attributes (either_decided _ _ calls (either_decided _ _ indexes slices))
decide_own n smaller other = λ tokens below. inr (λ none. none)

decide_grouped : (n : ℕ) → AllDecided n → (l : Level) → Decided (suc n) (Grouped l)
decide_grouped n smaller l tokens below =
    both_decided (IsTrue (groups_left l)) (Operands l l (tighter l) tokens) (test_decides (groups_left l)) (decide_operands n smaller l l (tighter l) tokens below)

-- a level, once the next tighter level is decided
decide_level : (n : ℕ) → AllDecided n → (l : Level) → Decided (suc n) (Expression (tighter l)) → Decided (suc n) (Expression l)
decide_level n smaller l tight tokens below =
    or_else (tight tokens below) (λ found. (found.0, Spells.as_tight l tokens found.0 found.1)) (λ no_tight.
    or_else (decide_grouped n smaller l tokens below) (grouped_spelled l tokens) (λ no_grouped.
    or_else (decide_own n smaller l tokens below) (own_spelled l tokens) (λ no_own.
    inr (λ found. no_expression l tokens found.0 found.1 no_tight no_grouped no_own))))

decide_leaf : (n : ℕ) → Decided (suc n) Leaf
decide_leaf n tokens below =
    let one = λ (test : Token → Bool). decide_next n test IsEmpty (decide_empty n) tokens below in
    either_decided _ _ (one is_name) (either_decided _ _ (one is_number) (either_decided _ _ (one (is_word (codes "True"))) (one (is_word (codes "False")))))

decide_group : (n : ℕ) → AllDecided n → Decided n GroupRest
decide_group n smaller = in_two (smaller level.Conditional) (decide_closing n (codes ")"))

decide_list : (n : ℕ) → AllDecided n → Decided n ItemsRest
decide_list n smaller = in_two (decide_items n (smaller level.Conditional)) (decide_closing n (codes "]"))

decide_each : (n : ℕ) → AllDecided n → Decided n EachRest
decide_each n smaller = in_two (smaller level.Conditional) (after (in_two (decide_range n (smaller level.Conditional)) (decide_closing n (codes "]"))))

decide_bracketed : (n : ℕ) → AllDecided n → Decided (suc n) Bracketed
decide_bracketed n smaller tokens below =
    either_decided _ _ (decide_next n (is_symbol (codes "(")) GroupRest (decide_group n smaller) tokens below)
    (either_decided _ _ (decide_next n (is_symbol (codes "[")) ItemsRest (decide_list n smaller) tokens below)
    (decide_next n (is_symbol (codes "[")) EachRest (decide_each n smaller) tokens below))

decide_atom : (n : ℕ) → AllDecided n → Decided (suc n) (Expression level.Atom)
decide_atom n smaller tokens below =
    or_else (decide_leaf n tokens below) (leaf_spelled tokens) (λ no_leaf.
    or_else (decide_bracketed n smaller tokens below) (bracketed_spelled tokens) (λ no_bracketed.
    inr (λ found. no_atom level.Atom tokens found.0 found.1 refl no_leaf no_bracketed)))

-- from the level of atoms to looser ones
decide_levels : (n : ℕ) → AllDecided n → AllDecided (suc n)
decide_levels n smaller l = loosened (λ (m : Level). Decided (suc n) (Expression m)) (decide_level n smaller) l level.Atom (rank_within l) (decide_atom n smaller)

pub decide_fewer : (n : ℕ) → AllDecided n
decide_fewer zero = λ l tokens below. absurd (omega arith)
decide_fewer (suc n) = decide_levels n (decide_fewer n)
