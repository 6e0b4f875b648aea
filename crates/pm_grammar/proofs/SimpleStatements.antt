-- What the tokens of a simple statement spell, by what comes first and after its first expression.
use Rattle.std.proofs.Common.{arith, ◌≡◌, ◌⊎◌, ◌∙◌, ◌++◌, Bool, true, false, if◌then◌else◌, ℕ, IsTrue, MatchBool, ◌<◌, List, length, ◌==◌, [], ◌∷◌, codes, Option, Some, None, refl, sym, ap, subst, inl, inr, append-nil}
use Rattle.std.proofs.Math.Path.{subst₂}
use Rattle.std.specs.List.{AllWithin, HoldsAt}
use Rattle.std.proofs.lemmas.Iterator.Search.{true_from_All}
use Rattle.std.proofs.lemmas.List.Elements.{All-cons, All-from_all_within, All-head, All-tail}
use Rattle.std.proofs.lemmas.Bool.{MatchBool-at_true, both_ways, cond_both, eqb-false, eqb-true, true≢false}
use Rattle.pm_syn.specs.declared.expression.Expr.{Expr}
use Rattle.pm_syn.specs.declared.statement.AssignOp.{AssignOp}
use Rattle.pm_syn.specs.declared.statement.AssignOp.TheVariants as assign
use Rattle.pm_syn.specs.declared.statement.Stmt.{Stmt}
use Rattle.pm_syn.specs.declared.statement.Stmt as leaf
use Rattle.pm_syn.specs.declared.token.Token.{Token}
use Rattle.pm_syn.specs.declared.token.TokenKind.{TokenKind}
use Rattle.pm_syn.specs.declared.token.TokenKind.TheVariants as kind
use Rattle.pm_grammar.specs.ExpressionStatements.{EndsAssertion, SpellsAfter, SpellsWithExpression}
use Rattle.pm_grammar.specs.Prefixes.{IsAfter, IsNotFirst, begins_with}
use Rattle.pm_syn.specs.Names.{is_keyword}
use Rattle.pm_grammar.specs.Tokens.{is_symbol, is_word}
use Rattle.pm_grammar.specs.Reading.{Begins, Ends, IsOnly}
use Rattle.pm_grammar.specs.Statements.{AreStrings, IsExpression, SpellsSimple, assignment_of}
use Rattle.pm_grammar.specs.declared.level.Level.TheVariants as level
use Rattle.pm_grammar.proofs.ExpressionStarts.{begins_more, no_expression-word, opens, opens_expression}
use Rattle.pm_grammar.proofs.OneSymbol.{ends_colon, ends_comma, ends_equals}
use Rattle.pm_grammar.proofs.StatementStarts.{no_simple_in}
use Rattle.pm_grammar.proofs.TokenTexts.{by_mark, by_string, by_word, like}

-- ---- what an expression was read as

-- an expression that all of the tokens spell was read
pub whole_some : (all rest : List Token) (tree : Expr) → IsOnly level.Conditional all (Some (tree, rest)) → (e : Expr) → IsExpression all e → (e ≡ tree) × ([] ≡ rest)
whole_some all rest tree only e s = only e [] (all, sym (append-nil all), s) tt

pub whole_none : (all : List Token) → IsOnly level.Conditional all None → (e : Expr) → IsExpression all e → ⊥
whole_none all only e s = only e [] (all, sym (append-nil all), s) tt

whole_found : (all rest : List Token) (e : Expr) → Begins IsExpression all e rest → rest ≡ [] → IsExpression all e
whole_found all rest e begun none =
    let same : begun.0 ≡ all = sym (append-nil begun.0) ∙ ap (λ (us : List Token). begun.0 ++ us) (sym none) ∙ sym begun.1 in
    subst (λ (ts : List Token). IsExpression ts e) same begun.2

-- the tokens that are empty
pub no_tokens : (ts : List Token) → true ≡ (length ts == 0) → ts ≡ []
no_tokens [] is = refl
no_tokens (t ∷ ts) is = absurd (omega (arith, eqb-true (length (t ∷ ts)) 0 (sym is)))

pub no_tokens-length : (ts : List Token) → length ts ≡ 0 → ts ≡ []
no_tokens-length [] is = refl
no_tokens-length (t ∷ ts) is = absurd (omega (arith, is))

pub some_tokens : (ts : List Token) → false ≡ (length ts == 0) → ts ≡ [] → ⊥
some_tokens ts is none = eqb-false (length ts) 0 (sym is) (ap length none)

-- ---- the symbols of assignments

chosen : (P : Type 0) (test : Bool) (here op : AssignOp) (other : Option AssignOp) → (if test then Some here else other) ≡ Some op → (IsTrue test → here ≡ op → P) → (other ≡ Some op → P) → P
chosen P true here op other is then_so otherwise = then_so refl cc
chosen P false here op other is then_so otherwise = otherwise is

-- what holds of the symbols of assignments holds of the token
by_assignment : (P : Token → Type 0) (sign : Token) (op : AssignOp) → assignment_of sign ≡ Some op → P (like kind.Op (codes "=") sign)
    → P (like kind.Op (codes "@=") sign) → P (like kind.Op (codes "<<=") sign) → P (like kind.Op (codes "//=") sign) → P sign
by_assignment P sign op is plain now next join =
    chosen (P sign) (is_symbol (codes "=") sign) assign.Plain op _ is (λ mark _. by_mark (codes "=") sign P mark plain)
    (λ is. chosen (P sign) (is_symbol (codes "@=") sign) assign.Now op _ is (λ mark _. by_mark (codes "@=") sign P mark now)
    (λ is. chosen (P sign) (is_symbol (codes "<<=") sign) assign.Next op _ is (λ mark _. by_mark (codes "<<=") sign P mark next)
    (λ is. chosen (P sign) (is_symbol (codes "//=") sign) assign.Join op _ is (λ mark _. by_mark (codes "//=") sign P mark join) (λ is. cc))))

join_assigns : (sign : Token) → IsTrue (is_symbol (codes "//=") sign) → assignment_of sign ≡ Some assign.Join
join_assigns sign is = by_mark (codes "//=") sign (λ t. assignment_of t ≡ Some assign.Join) is refl

colon_assigns : (sign : Token) → IsTrue (is_symbol (codes ":") sign) → assignment_of sign ≡ None
colon_assigns sign is = by_mark (codes ":") sign (λ t. assignment_of t ≡ None) is refl

pub assignment_ends : (sign : Token) (ts : List Token) (op : AssignOp) → assignment_of sign ≡ Some op → Ends level.Conditional (sign ∷ ts)
assignment_ends sign ts op is = by_assignment (λ t. Ends level.Conditional (t ∷ ts)) sign op is refl refl refl refl

-- `lambda` begins no expression
lambda_begins : (word : Token) (ts : List Token) (e : Expr) → IsTrue (is_word (codes "lambda") word) → IsExpression (word ∷ ts) e → ⊥
unfolding is_keyword
lambda_begins word ts e is s = no_expression-word (codes "lambda") level.Conditional word ts e refl is s

-- ---- what comes after the first expression

-- an expression ends where a statement may continue after it
behind_ends : (target : Expr) (rest : List Token) (s : Stmt) → SpellsAfter target rest s → Ends level.Conditional rest
behind_ends target _ _ SpellsAfter.done = tt
behind_ends target _ _ (SpellsAfter.assigned sign us op value is _) = assignment_ends sign us op is
behind_ends target _ _ (SpellsAfter.joined sign word colon us value is _ _ _) = assignment_ends sign (word ∷ colon ∷ us) assign.Join (join_assigns sign is)
behind_ends target _ _ (SpellsAfter.noted colon us note is _) = ends_colon colon is
behind_ends target _ _ (SpellsAfter.noted_value colon sign us vs note value is _ _ _) = ends_colon colon is

-- the expression with which a statement begins was read
pub behind_read : (all rest : List Token) (tree : Expr) → IsOnly level.Conditional all (Some (tree, rest)) → (s : Stmt) → SpellsWithExpression all s → SpellsAfter tree rest s
behind_read all rest tree only s with_it =
    let same = only with_it.0 with_it.1 with_it.2 (behind_ends with_it.0 with_it.1 s with_it.3) in
    subst₂ (λ (e : Expr) (ts : List Token). SpellsAfter e ts s) same.0 same.1 with_it.3

pub no_behind : (all : List Token) → IsOnly level.Conditional all None → (s : Stmt) → SpellsWithExpression all s → ⊥
no_behind all only s with_it = only with_it.0 with_it.1 with_it.2 (behind_ends with_it.0 with_it.1 s with_it.3)

pub with_done : (all rest : List Token) (tree target : Expr) → Begins IsExpression all tree rest → target ≡ tree → rest ≡ [] → SpellsWithExpression all (leaf.Do target)
with_done all rest tree target begun is none =
    let spelled : IsExpression all target = subst (IsExpression all) (sym is) (whole_found all rest tree begun none) in
    (target, [], (all, sym (append-nil all), spelled), SpellsAfter.done)

-- the first token after it
pub behind_first : (all rest ts : List Token) (tree target : Expr) (sign : Token) → IsOnly level.Conditional all (Some (tree, rest)) → target ≡ tree → rest ≡ sign ∷ ts
    → (s : Stmt) → SpellsWithExpression all s → SpellsAfter target (sign ∷ ts) s
behind_first all rest ts tree target sign only is front s with_it =
    subst₂ (λ (e : Expr) (us : List Token). SpellsAfter e us s) (sym is) front (behind_read all rest tree only s with_it)

-- nothing comes after the expression
pub behind_done : (target : Expr) (rest : List Token) (s : Stmt) → SpellsAfter target rest s → rest ≡ [] → s ≡ leaf.Do target
behind_done target _ _ SpellsAfter.done none = refl
behind_done target _ _ (SpellsAfter.assigned sign us op value _ _) none = cc
behind_done target _ _ (SpellsAfter.joined sign word colon us value _ _ _ _) none = cc
behind_done target _ _ (SpellsAfter.noted colon us note _ _) none = cc
behind_done target _ _ (SpellsAfter.noted_value colon sign us vs note value _ _ _ _) none = cc

-- a colon or the symbol of an assignment comes after the expression
pub behind_other : (target : Expr) (rest : List Token) (s : Stmt) → SpellsAfter target rest s → (sign : Token) (ts : List Token) → rest ≡ sign ∷ ts
    → is_symbol (codes ":") sign ≡ false → assignment_of sign ≡ None → ⊥
behind_other target _ _ SpellsAfter.done sign ts is colon none = cc
behind_other target _ _ (SpellsAfter.assigned sign' us op value assigns _) sign ts is colon none =
    let one : sign' ≡ sign = cc in
    let here = ap assignment_of one in
    cc
behind_other target _ _ (SpellsAfter.joined sign' word colon' us value mark _ _ _) sign ts is colon none =
    let one : sign' ≡ sign = cc in
    let here = ap assignment_of one in
    let assigns = join_assigns sign' mark in
    cc
behind_other target _ _ (SpellsAfter.noted colon' us note mark _) sign ts is colon none =
    let one : colon' ≡ sign = cc in
    both_ways (is_symbol (codes ":") sign) colon (subst (λ t. IsTrue (is_symbol (codes ":") t)) one mark)
behind_other target _ _ (SpellsAfter.noted_value colon' sign' us vs note value mark _ _ _) sign ts is colon none =
    let one : colon' ≡ sign = cc in
    both_ways (is_symbol (codes ":") sign) colon (subst (λ t. IsTrue (is_symbol (codes ":") t)) one mark)

-- ---- assignments

-- a value that is assigned
abbrev IsAssigned : AssignOp → Expr → List Token → Stmt → Type 0
IsAssigned op target ts s = (value : Expr) × IsExpression ts value × (s ≡ leaf.Assign op target value)

-- a value that is joined, after `lambda`
abbrev IsJoined : Expr → List Token → Stmt → Type 0
IsJoined target ts s = (colon : Token) × (us : List Token) × (value : Expr) × (ts ≡ colon ∷ us) × IsTrue (is_symbol (codes ":") colon) × IsExpression us value × (s ≡ leaf.JoinLambda target value)

-- a block that is joined
abbrev IsLambda : AssignOp → Expr → List Token → Stmt → Type 0
IsLambda op target ts s = (word : Token) × (us : List Token) × (op ≡ assign.Join) × (ts ≡ word ∷ us) × IsTrue (is_word (codes "lambda") word) × IsJoined target us s

assigned_is : (target : Expr) (rest : List Token) (s : Stmt) → SpellsAfter target rest s → (sign : Token) (ts : List Token) (op : AssignOp) → rest ≡ sign ∷ ts
    → assignment_of sign ≡ Some op → IsAssigned op target ts s ⊎ IsLambda op target ts s
assigned_is target _ _ SpellsAfter.done sign ts op is assigns = cc
assigned_is target _ _ (SpellsAfter.assigned sign' us op' value assigns' spelled) sign ts op is assigns =
    let one : sign' ≡ sign = cc in
    let same : us ≡ ts = cc in
    let here = ap assignment_of one in
    let ops : op' ≡ op = cc in
    inl (value, subst (λ (ts : List Token). IsExpression ts value) same spelled, ap (λ (o : AssignOp). leaf.Assign o target value) ops)
assigned_is target _ _ (SpellsAfter.joined sign' word colon us value mark lambda colon_mark spelled) sign ts op is assigns =
    let one : sign' ≡ sign = cc in
    let same : ts ≡ word ∷ colon ∷ us = cc in
    let here = ap assignment_of one in
    let joins = join_assigns sign' mark in
    inr (word, colon ∷ us, cc, same, lambda, (colon, us, value, refl, colon_mark, spelled, refl))
assigned_is target _ _ (SpellsAfter.noted colon us note mark _) sign ts op is assigns =
    let one : colon ≡ sign = cc in
    let here = ap assignment_of one in
    let none = colon_assigns colon mark in
    cc
assigned_is target _ _ (SpellsAfter.noted_value colon sign' us vs note value mark _ _ _) sign ts op is assigns =
    let one : colon ≡ sign = cc in
    let here = ap assignment_of one in
    let none = colon_assigns colon mark in
    cc

-- no `lambda` is joined
pub assigned_only : (target : Expr) (ts : List Token) (op : AssignOp) → (op ≡ assign.Join → IsNotFirst (is_word (codes "lambda")) ts) → (s : Stmt) (sign : Token)
    → assignment_of sign ≡ Some op → SpellsAfter target (sign ∷ ts) s → IsAssigned op target ts s
assigned_only target ts op other s sign assigns behind = go (assigned_is target (sign ∷ ts) s behind sign ts op refl assigns) where
  go : IsAssigned op target ts s ⊎ IsLambda op target ts s → IsAssigned op target ts s
  go (inl is) = is
  go (inr is) = absurd (both_ways (is_word (codes "lambda") is.0) (subst (IsNotFirst (is_word (codes "lambda"))) is.3 (other is.2)) is.4)

join_sign : (sign : Token) → assignment_of sign ≡ Some assign.Join → IsTrue (is_symbol (codes "//=") sign)
join_sign sign is =
    by_assignment (λ (t : Token). assignment_of t ≡ Some assign.Join → IsTrue (is_symbol (codes "//=") t)) sign assign.Join is (λ is. cc) (λ is. cc) (λ is. cc) (λ is. refl) is

-- what is assigned is `lambda`, and what comes after it is joined
pub lambda_joined : (target : Expr) (ts tail : List Token) (op : AssignOp) → op ≡ assign.Join → IsAfter (is_word (codes "lambda")) ts tail → (s : Stmt) (sign : Token) → assignment_of sign ≡ Some op → SpellsAfter target (sign ∷ ts) s
    → (sign : Token) × (word : Token) × IsTrue (is_symbol (codes "//=") sign) × IsTrue (is_word (codes "lambda") word) × SpellsAfter target (sign ∷ word ∷ tail) s
lambda_joined target ts tail op joins lambda s sign assigns behind =
    (sign, lambda.0, join_sign sign (assigns ∙ ap Some joins), lambda.2, subst (λ (us : List Token). SpellsAfter target (sign ∷ us) s) lambda.1 behind)

-- `lambda` is joined
pub joined_only : (target : Expr) (ts : List Token) (s : Stmt) (sign word : Token) → IsTrue (is_symbol (codes "//=") sign) → IsTrue (is_word (codes "lambda") word)
    → SpellsAfter target (sign ∷ word ∷ ts) s → IsJoined target ts s
joined_only target ts s sign word mark lambda behind = go (assigned_is target (sign ∷ word ∷ ts) s behind sign (word ∷ ts) assign.Join refl (join_assigns sign mark)) where
  go : IsAssigned assign.Join target (word ∷ ts) s ⊎ IsLambda assign.Join target (word ∷ ts) s → IsJoined target ts s
  go (inl is) = absurd (lambda_begins word ts is.0 lambda is.1)
  go (inr is) = let same : is.1 ≡ ts = (let e = is.3 in cc) in subst (λ (ts : List Token). IsJoined target ts s) same is.5

pub no_colon : (target : Expr) (ts : List Token) (s : Stmt) → IsNotFirst (is_symbol (codes ":")) ts → IsJoined target ts s → ⊥
no_colon target ts s missing is = both_ways (is_symbol (codes ":") is.0) (subst (IsNotFirst (is_symbol (codes ":"))) is.3 missing) is.4

-- the value after the colon
pub joined_value : (target : Expr) (ts behind : List Token) (s : Stmt) → IsAfter (is_symbol (codes ":")) ts behind → IsJoined target ts s
    → (value : Expr) × IsExpression behind value × (s ≡ leaf.JoinLambda target value)
joined_value target ts behind s there is =
    let front = there.1 in
    let joins = is.3 in
    let same : is.1 ≡ behind = cc in
    (is.2, subst (λ ts. IsExpression ts is.2) same is.5, is.6)

pub joined_found : (target : Expr) (ts behind : List Token) (value : Expr) → IsAfter (is_symbol (codes ":")) ts behind → IsExpression behind value → (sign word : Token)
    → IsTrue (is_symbol (codes "//=") sign) → IsTrue (is_word (codes "lambda") word) → SpellsAfter target (sign ∷ word ∷ ts) (leaf.JoinLambda target value)
joined_found target ts behind value there spelled sign word mark lambda =
    subst (λ ts. SpellsAfter target (sign ∷ word ∷ ts) (leaf.JoinLambda target value)) (sym there.1) (SpellsAfter.joined sign word there.0 behind value mark lambda there.2 spelled)

-- ---- annotations

-- what comes after an annotation: nothing, or a value
pub data SpellsValue (target note : Expr) : List Token → Stmt → Type 0 where
  without : SpellsValue target note [] (leaf.Note target note None)
  with_value : (sign : Token) (ts : List Token) (value : Expr) → IsTrue (is_symbol (codes "=") sign) → IsExpression ts value
      → SpellsValue target note (sign ∷ ts) (leaf.Note target note (Some value))

value_ends : (target note : Expr) (rest : List Token) (s : Stmt) → SpellsValue target note rest s → Ends level.Conditional rest
value_ends target note _ _ SpellsValue.without = tt
value_ends target note _ _ (SpellsValue.with_value sign ts value is _) = ends_equals sign is

noted_is : (target : Expr) (rest : List Token) (s : Stmt) → SpellsAfter target rest s → (colon : Token) (ts : List Token) → rest ≡ colon ∷ ts
    → IsTrue (is_symbol (codes ":") colon) → (note : Expr) × (after : List Token) × Begins IsExpression ts note after × SpellsValue target note after s
noted_is target _ _ SpellsAfter.done colon ts is mark = cc
noted_is target _ _ (SpellsAfter.assigned sign us op value assigns _) colon ts is mark =
    let one : sign ≡ colon = cc in
    let here = ap assignment_of one in
    let none = colon_assigns colon mark in
    cc
noted_is target _ _ (SpellsAfter.joined sign word colon' us value joins _ _ _) colon ts is mark =
    let one : sign ≡ colon = cc in
    let here = ap assignment_of one in
    let none = colon_assigns colon mark in
    let assigns = join_assigns sign joins in
    cc
noted_is target _ _ (SpellsAfter.noted colon' us note mark' spelled) colon ts is mark =
    let same : ts ≡ us = cc in
    (note, [], (us, same ∙ sym (append-nil us), spelled), SpellsValue.without)
noted_is target _ _ (SpellsAfter.noted_value colon' sign us vs note value mark' spelled equals value_spelled) colon ts is mark =
    let same : ts ≡ us ++ sign ∷ vs = cc in
    (note, sign ∷ vs, (us, same, spelled), SpellsValue.with_value sign vs value equals value_spelled)

pub value_read : (target tree : Expr) (ts rest : List Token) → IsOnly level.Conditional ts (Some (tree, rest)) → (s : Stmt) (colon : Token) → IsTrue (is_symbol (codes ":") colon)
    → SpellsAfter target (colon ∷ ts) s → SpellsValue target tree rest s
value_read target tree ts rest only s colon mark behind =
    let noted = noted_is target (colon ∷ ts) s behind colon ts refl mark in
    let same = only noted.0 noted.1 noted.2 (value_ends target noted.0 noted.1 s noted.3) in
    subst₂ (λ (e : Expr) (ts : List Token). SpellsValue target e ts s) same.0 same.1 noted.3

pub no_note : (target : Expr) (ts : List Token) → IsOnly level.Conditional ts None → (s : Stmt) (colon : Token) → IsTrue (is_symbol (codes ":") colon)
    → SpellsAfter target (colon ∷ ts) s → ⊥
no_note target ts only s colon mark behind =
    let noted = noted_is target (colon ∷ ts) s behind colon ts refl mark in
    only noted.0 noted.1 noted.2 (value_ends target noted.0 noted.1 s noted.3)

pub value_none : (target note : Expr) (rest : List Token) (s : Stmt) → SpellsValue target note rest s → rest ≡ [] → s ≡ leaf.Note target note None
value_none target note _ _ SpellsValue.without none = refl
value_none target note _ _ (SpellsValue.with_value sign ts value _ _) none = cc

pub value_missing : (target note : Expr) (rest : List Token) (s : Stmt) → SpellsValue target note rest s → (rest ≡ [] → ⊥) → IsNotFirst (is_symbol (codes "=")) rest → ⊥
value_missing target note _ _ SpellsValue.without some missing = some refl
value_missing target note _ _ (SpellsValue.with_value sign ts value equals _) some missing = both_ways (is_symbol (codes "=") sign) missing equals

pub value_some : (target note : Expr) (rest : List Token) (s : Stmt) → SpellsValue target note rest s → (behind : List Token) → IsAfter (is_symbol (codes "=")) rest behind
    → (value : Expr) × IsExpression behind value × (s ≡ leaf.Note target note (Some value))
value_some target note _ _ SpellsValue.without behind there = let front = there.1 in cc
value_some target note _ _ (SpellsValue.with_value sign ts value equals spelled) behind there =
    let front = there.1 in
    let same : ts ≡ behind = cc in
    (value, subst (λ ts. IsExpression ts value) same spelled, refl)

pub note_found : (target note : Expr) (ts rest : List Token) → Begins IsExpression ts note rest → rest ≡ [] → (colon : Token) → IsTrue (is_symbol (codes ":") colon)
    → SpellsAfter target (colon ∷ ts) (leaf.Note target note None)
note_found target note ts rest begun none colon mark = SpellsAfter.noted colon ts note mark (whole_found ts rest note begun none)

pub noted_found : (target note value : Expr) (ts rest behind : List Token) → Begins IsExpression ts note rest → IsAfter (is_symbol (codes "=")) rest behind → IsExpression behind value
    → (colon : Token) → IsTrue (is_symbol (codes ":") colon) → SpellsAfter target (colon ∷ ts) (leaf.Note target note (Some value))
noted_found target note value ts rest behind begun there spelled colon mark =
    let front : ts ≡ begun.0 ++ there.0 ∷ behind = begun.1 ∙ ap (λ us. begun.0 ++ us) there.1 in
    subst (λ us. SpellsAfter target (colon ∷ us) (leaf.Note target note (Some value))) (sym front)
    (SpellsAfter.noted_value colon there.0 begun.0 behind note value mark begun.2 there.2 spelled)

-- ---- the first word of a statement

-- what a statement begins with
data Beginning : Type 0 where
  pass_word : Beginning
  return_word : Beginning
  assert_word : Beginning
  string : Beginning
  other : Beginning

abbrev is_text : TokenKind → Bool
is_text kind.Str = true
is_text kind.Name = false
is_text (kind.Int n) = false
is_text kind.Op = false

-- what a statement that begins with the token begins with
abbrev beginning_of : Token → Beginning
beginning_of t =
    if is_word (codes "pass") t then Beginning.pass_word
    else if is_word (codes "return") t then Beginning.return_word
    else if is_word (codes "assert") t then Beginning.assert_word
    else if is_text t.kind then Beginning.string
    else Beginning.other

abbrev beginning : List Token → Beginning
beginning [] = Beginning.other
beginning (t ∷ ts) = beginning_of t

-- a statement that begins so
abbrev FormOf : Beginning → List Token → Stmt → Type 0
FormOf Beginning.pass_word ts s = (word : Token) × (ts ≡ word ∷ []) × (s ≡ leaf.Pass)
FormOf Beginning.return_word ts s = (word : Token) × (us : List Token) × (e : Expr) × (ts ≡ word ∷ us) × IsExpression us e × (s ≡ leaf.Return e)
FormOf Beginning.assert_word ts s =
    (word : Token) × (us : List Token) × (e : Expr) × (rest : List Token) × (ts ≡ word ∷ us) × Begins IsExpression us e rest × EndsAssertion rest × (s ≡ leaf.Assert e)
FormOf Beginning.string ts s = AreStrings ts × (s ≡ leaf.Doc)
FormOf Beginning.other ts s = SpellsWithExpression ts s

no_word : (bytes : List ℕ) (t : Token) → opens (like kind.Name bytes t) ≡ false → opens t ≡ true → IsTrue (is_word bytes t) → ⊥
no_word bytes t apart begins is = both_ways (opens t) (by_word bytes t (λ t. opens t ≡ false) is apart) begins

no_text : (t : Token) → opens t ≡ true → is_text t.kind ≡ true → ⊥
no_text t begins is = both_ways (opens t) (by_string (λ t. opens t ≡ false) t (text_is t.kind is) refl) begins where
  text_is : (k : TokenKind) → is_text k ≡ true → k ≡ kind.Str
  text_is kind.Str is = refl
  text_is kind.Name is = absurd (true≢false (sym is))
  text_is (kind.Int n) is = absurd (true≢false (sym is))
  text_is kind.Op is = absurd (true≢false (sym is))

-- an expression begins with none of the words, nor with a string
other_beginning : (ts : List Token) → begins_with opens ts ≡ true → beginning ts ≡ Beginning.other
unfolding is_keyword
other_beginning [] begins = refl
other_beginning (t ∷ ts) begins =
    cond_both _ _ _ (λ k. k ≡ Beginning.other) (λ is. absurd (no_word (codes "pass") t refl begins is))
    (λ _. cond_both _ _ _ (λ k. k ≡ Beginning.other) (λ is. absurd (no_word (codes "return") t refl begins is))
    (λ _. cond_both _ _ _ (λ k. k ≡ Beginning.other) (λ is. absurd (no_word (codes "assert") t refl begins is))
    (λ _. cond_both _ _ _ (λ k. k ≡ Beginning.other) (λ is. absurd (no_text t begins is)) (λ _. refl))))

with_first : (ts : List Token) (s : Stmt) → SpellsWithExpression ts s → begins_with opens ts ≡ true
with_first ts s with_it =
    let begun = with_it.2 in
    subst (λ ts. begins_with opens ts ≡ true) (sym begun.1)
    (begins_more opens begun.0 with_it.1 (opens_expression begun.2))

formed_so : (k : Beginning) (ts : List Token) (s : Stmt) → beginning ts ≡ k → FormOf k ts s → FormOf (beginning ts) ts s
formed_so k ts s is form = subst (λ k. FormOf k ts s) (sym is) form

formed_word : (bytes : List ℕ) (k : Beginning) (word : Token) (ts : List Token) (s : Stmt) → IsTrue (is_word bytes word) → beginning_of (like kind.Name bytes word) ≡ k
    → FormOf k (word ∷ ts) s → FormOf (beginning_of word) (word ∷ ts) s
formed_word bytes k word ts s is begins form = formed_so k (word ∷ ts) s (by_word bytes word (λ t. beginning_of t ≡ k) is begins) form

formed_expression : (ts : List Token) (s : Stmt) → SpellsWithExpression ts s → FormOf (beginning ts) ts s
formed_expression ts s with_it = formed_so Beginning.other ts s (other_beginning ts (with_first ts s with_it)) with_it

strings_begin : (ts : List Token) → AreStrings ts → beginning ts ≡ Beginning.string
strings_begin [] strings = absurd strings
strings_begin (t ∷ ts) strings = by_string (λ t. beginning_of t ≡ Beginning.string) t strings.0 refl

formed : (ts : List Token) (s : Stmt) → SpellsSimple ts s → FormOf (beginning ts) ts s
formed _ _ (SpellsSimple.passed word is) = formed_word (codes "pass") Beginning.pass_word word [] leaf.Pass is refl (word, refl, refl)
formed _ _ (SpellsSimple.returned word ts e is spelled) = formed_word (codes "return") Beginning.return_word word ts (leaf.Return e) is refl (word, ts, e, refl, spelled, refl)
formed _ _ (SpellsSimple.asserted word ts e is spelled) =
    formed_word (codes "assert") Beginning.assert_word word ts (leaf.Assert e) is refl (word, ts, e, [], refl, (ts, sym (append-nil ts), spelled), tt, refl)
formed _ _ (SpellsSimple.asserted_saying word comma ts strings e is spelled mark said) =
    formed_word (codes "assert") Beginning.assert_word word (ts ++ comma ∷ strings) (leaf.Assert e) is refl
    (word, ts ++ comma ∷ strings, e, comma ∷ strings, refl, (ts, refl, spelled), (mark, said), refl)
formed _ _ (SpellsSimple.doc strings are) = formed_so Beginning.string strings leaf.Doc (strings_begin strings are) (are, refl)
formed _ _ (SpellsSimple.assigned sign ts us op target value first is spelled) =
    formed_expression _ _ (target, sign ∷ us, (ts, refl, first), SpellsAfter.assigned sign us op value is spelled)
formed _ _ (SpellsSimple.joined sign word colon ts us target value first is lambda mark spelled) =
    formed_expression _ _ (target, sign ∷ word ∷ colon ∷ us, (ts, refl, first), SpellsAfter.joined sign word colon us value is lambda mark spelled)
formed _ _ (SpellsSimple.noted colon ts us target note first is spelled) =
    formed_expression _ _ (target, colon ∷ us, (ts, refl, first), SpellsAfter.noted colon us note is spelled)
formed _ _ (SpellsSimple.noted_value colon sign ts us vs target note value first is spelled equals valued) =
    formed_expression _ _ (target, colon ∷ (us ++ sign ∷ vs), (ts, refl, first), SpellsAfter.noted_value colon sign us vs note value is spelled equals valued)
formed _ _ (SpellsSimple.done ts e spelled) = formed_expression _ _ (e, [], (ts, sym (append-nil ts), spelled), SpellsAfter.done)

-- ---- what a statement is, by its first token

form_by_word : (bytes : List ℕ) (k : Beginning) (word : Token) (ts : List Token) (s : Stmt) → beginning_of (like kind.Name bytes word) ≡ k → IsTrue (is_word bytes word)
    → SpellsSimple (word ∷ ts) s → FormOf k (word ∷ ts) s
form_by_word bytes k word ts s begins is spelled = subst (λ k. FormOf k (word ∷ ts) s) (by_word bytes word (λ t. beginning_of t ≡ k) is begins) (formed (word ∷ ts) s spelled)

pub simple-empty : (ts : List Token) (s : Stmt) → length ts ≡ 0 → SpellsSimple ts s → ⊥
simple-empty ts s none spelled = no_simple_in s (subst (λ ts. SpellsSimple ts s) (no_tokens-length ts none) spelled)

pub simple-pass : (all ts : List Token) (word : Token) → all ≡ word ∷ ts → IsTrue (is_word (codes "pass") word) → (s : Stmt) → SpellsSimple all s → (ts ≡ []) × (s ≡ leaf.Pass)
simple-pass all ts word front is s spelled =
    let form = form_by_word (codes "pass") Beginning.pass_word word ts s refl is (subst (λ us. SpellsSimple us s) front spelled) in
    (let e = form.1 in cc, form.2)

pub pass_found : (all ts : List Token) (word : Token) → all ≡ word ∷ ts → ts ≡ [] → IsTrue (is_word (codes "pass") word) → SpellsSimple all leaf.Pass
pass_found all ts word front none is =
    let same : all ≡ word ∷ [] = cc in
    subst (λ us. SpellsSimple us leaf.Pass) (sym same) (SpellsSimple.passed word is)

pub simple-return : (word : Token) (ts : List Token) (s : Stmt) → IsTrue (is_word (codes "return") word) → SpellsSimple (word ∷ ts) s
    → (e : Expr) × IsExpression ts e × (s ≡ leaf.Return e)
simple-return word ts s is spelled =
    let form = form_by_word (codes "return") Beginning.return_word word ts s refl is spelled in
    let same : form.1 ≡ ts = (let e = form.3 in cc) in
    (form.2, subst (λ ts. IsExpression ts form.2) same form.4, form.5)

simple-assert : (word : Token) (ts : List Token) (s : Stmt) → IsTrue (is_word (codes "assert") word) → SpellsSimple (word ∷ ts) s
    → (e : Expr) × (rest : List Token) × Begins IsExpression ts e rest × EndsAssertion rest × (s ≡ leaf.Assert e)
simple-assert word ts s is spelled =
    let form = form_by_word (codes "assert") Beginning.assert_word word ts s refl is spelled in
    let same : form.1 ≡ ts = (let e = form.4 in cc) in
    (form.2, form.3, subst (λ ts. Begins IsExpression ts form.2 form.3) same form.5, form.6, form.7)

pub simple-strings : (ts : List Token) (s : Stmt) → AreStrings ts → SpellsSimple ts s → s ≡ leaf.Doc
simple-strings ts s are spelled =
    let form : FormOf Beginning.string ts s = subst (λ k. FormOf k ts s) (strings_begin ts are) (formed ts s spelled) in
    form.1

other_first : (t : Token) (ts : List Token) (s : Stmt) → is_word (codes "pass") t ≡ false → is_word (codes "return") t ≡ false → is_word (codes "assert") t ≡ false
    → (AreStrings (t ∷ ts) → ⊥) → SpellsSimple (t ∷ ts) s → SpellsWithExpression (t ∷ ts) s
other_first t ts s no_pass no_return no_assert no_strings spelled =
    let form = formed (t ∷ ts) s spelled in
    let begins : beginning_of t ≡ (if is_text t.kind then Beginning.string else Beginning.other) = rw (no_pass, no_return, no_assert) refl in
    cond_both (is_text t.kind) Beginning.string Beginning.other (λ k. FormOf k (t ∷ ts) s → SpellsWithExpression (t ∷ ts) s) (λ _ strings. absurd (no_strings strings.0)) (λ _ other. other)
    (subst (λ k. FormOf k (t ∷ ts) s) begins form)

-- none of the words comes first, and not all are strings
pub simple-other : (all ts : List Token) (t : Token) → all ≡ t ∷ ts → is_word (codes "pass") t ≡ false → is_word (codes "return") t ≡ false
    → is_word (codes "assert") t ≡ false → (AreStrings all → ⊥) → (s : Stmt) → SpellsSimple all s → SpellsWithExpression all s
simple-other all ts t front no_pass no_return no_assert no_strings s spelled =
    subst (λ us. SpellsWithExpression us s) (sym front)
    (other_first t ts s no_pass no_return no_assert (λ are. no_strings (subst AreStrings (sym front) are)) (subst (λ us. SpellsSimple us s) front spelled))

-- a statement that begins with an expression is a simple one
simple_of : (target : Expr) (rest : List Token) (s : Stmt) → SpellsAfter target rest s → (ts : List Token) → IsExpression ts target → SpellsSimple (ts ++ rest) s
simple_of target _ _ SpellsAfter.done ts first = subst (λ us. SpellsSimple us (leaf.Do target)) (sym (append-nil ts)) (SpellsSimple.done ts target first)
simple_of target _ _ (SpellsAfter.assigned sign us op value is spelled) ts first = SpellsSimple.assigned sign ts us op target value first is spelled
simple_of target _ _ (SpellsAfter.joined sign word colon us value is lambda mark spelled) ts first =
    SpellsSimple.joined sign word colon ts us target value first is lambda mark spelled
simple_of target _ _ (SpellsAfter.noted colon us note is spelled) ts first = SpellsSimple.noted colon ts us target note first is spelled
simple_of target _ _ (SpellsAfter.noted_value colon sign us vs note value is spelled equals valued) ts first =
    SpellsSimple.noted_value colon sign ts us vs target note value first is spelled equals valued

pub simple_with : (all : List Token) (s : Stmt) → SpellsWithExpression all s → SpellsSimple all s
simple_with all s with_it =
    let begun = with_it.2 in
    subst (λ ts. SpellsSimple ts s) (sym begun.1) (simple_of with_it.0 with_it.1 s with_it.3 begun.0 begun.2)

-- ---- assertions

assertion_ends : (rest : List Token) → EndsAssertion rest → Ends level.Conditional rest
assertion_ends [] ends = tt
assertion_ends (comma ∷ strings) ends = ends_comma comma ends.0

pub assertion_found : (word : Token) (all rest : List Token) (e : Expr) → IsTrue (is_word (codes "assert") word) → Begins IsExpression all e rest → EndsAssertion rest
    → SpellsSimple (word ∷ all) (leaf.Assert e)
assertion_found word all [] e is begun ends = SpellsSimple.asserted word all e is (whole_found all [] e begun refl)
assertion_found word all (comma ∷ strings) e is begun ends =
    subst (λ ts. SpellsSimple (word ∷ ts) (leaf.Assert e)) (sym begun.1) (SpellsSimple.asserted_saying word comma begun.0 strings e is begun.2 ends.0 ends.1)

pub assertion_read : (all rest : List Token) (tree : Expr) → IsOnly level.Conditional all (Some (tree, rest)) → (s : Stmt) (word : Token) → IsTrue (is_word (codes "assert") word)
    → SpellsSimple (word ∷ all) s → EndsAssertion rest × (s ≡ leaf.Assert tree)
assertion_read all rest tree only s word is spelled =
    let form = simple-assert word all s is spelled in
    let same = only form.0 form.1 form.2 (assertion_ends form.1 form.3) in
    (subst EndsAssertion same.1 form.3, form.4 ∙ ap leaf.Assert same.0)

pub no_assertion : (all : List Token) → IsOnly level.Conditional all None → (s : Stmt) (word : Token) → IsTrue (is_word (codes "assert") word) → SpellsSimple (word ∷ all) s → ⊥
no_assertion all only s word is spelled =
    let form = simple-assert word all s is spelled in
    only form.0 form.1 form.2 (assertion_ends form.1 form.3)

-- ---- strings

pub strings_from_all : (ts : List Token) (r : Bool) → false ≡ (length ts == 0)
    → MatchBool r (AllWithin (λ (t : Token). t.kind ≡ kind.Str) ts 0 (length ts)) ((k : ℕ) × (k < length ts) × HoldsAt (λ (t : Token). t.kind ≡ kind.Str → ⊥) ts k)
    → (IsTrue r → AreStrings ts) × (AreStrings ts → IsTrue r)
strings_from_all [] r some found = absurd (some_tokens [] some refl)
strings_from_all (t ∷ ts) r some found =
    let text : Token → Type 0 = λ (t : Token). t.kind ≡ kind.Str in (
      λ is.
          let all = All-from_all_within text (t ∷ ts) (MatchBool-at_true _ _ is found) in
          (All-head text t ts all, All-tail text t ts all),
      λ strings. true_from_All text (λ (t : Token). t.kind ≡ kind.Str → ⊥) r (t ∷ ts) (λ x is other. other is) found (All-cons text t ts strings.0 strings.1),
    )
