-- What is read of a conditional expression: a value, and after `if` a condition, and after `else` the other value.
use Rattle.std.proofs.Common.{◌≡◌, ◌⊎◌, ◌++◌, ◌∙◌, false, IsTrue, List, ◌∷◌, codes, Some, None, append_assoc, refl, sym, ap, subst, inl, inr, ⊎_elim, arith}
use Rattle.std.proofs.lemmas.Bool.{both_ways, false≢true, or_left}
use Rattle.pm_syn.specs.declared.expression.Expr.{Expr}
use Rattle.pm_syn.specs.declared.expression.Expr.TheViews as expr
use Rattle.pm_syn.specs.declared.token.Token.{Token}
use Rattle.pm_grammar.specs.Expressions.{Spells, as_tight, conditional, grouped_left}
use Rattle.pm_grammar.specs.Prefixes.{IsAfter, IsNotFirst}
use Rattle.pm_grammar.specs.Tokens.{is_word}
use Rattle.pm_grammar.specs.Reading.{Begins, Ends, IsOnly, continues}
use Rattle.pm_grammar.specs.declared.level.Level.TheVariants as level
use Rattle.pm_grammar.proofs.OperatorLevels.{ends_tighter}
use Rattle.pm_grammar.proofs.OneSymbol.{ends_else, ends_if}

-- the parts of a conditional expression
pub record IsConditional (ts : List Token) (e : Expr) : Type 0 where
  pub us : List Token
  pub vs : List Token
  pub ws : List Token
  pub if_word : Token
  pub else_word : Token
  pub value : Expr
  pub condition : Expr
  pub other : Expr
  pub front : ts ≡ us ++ if_word ∷ (vs ++ else_word ∷ ws)
  pub is : e ≡ expr.Cond value condition other
  pub is_if : IsTrue (is_word (codes "if") if_word)
  pub is_else : IsTrue (is_word (codes "else") else_word)
  pub value_spelled : Spells level.Disjunction us value
  pub condition_spelled : Spells level.Disjunction vs condition
  pub other_spelled : Spells level.Conditional ws other

-- an expression is a value alone, or has a condition
conditional_is : (ts : List Token) (e : Expr) → Spells level.Conditional ts e → Spells level.Disjunction ts e ⊎ IsConditional ts e
conditional_is ts e (as_tight _ _ _ spelled) = inl spelled
conditional_is ts e (conditional us vs ws if_word else_word value condition other value_spelled is_if condition_spelled is_else other_spelled) =
    inr (record {
      us = us;
      vs = vs;
      ws = ws;
      if_word = if_word;
      else_word = else_word;
      value = value;
      condition = condition;
      other = other;
      front = refl;
      is = refl;
      is_if = is_if;
      is_else = is_else;
      value_spelled = value_spelled;
      condition_spelled = condition_spelled;
      other_spelled = other_spelled;
    })
conditional_is ts e (grouped_left _ _ _ _ _ _ _ groups _ _ _) = absurd (false≢true groups)

-- a value comes first, and the rest of a conditional expression after it
record GoesOnAtIf (all : List Token) (e : Expr) (rest : List Token) : Type 0 where
  value : Expr
  condition : Expr
  other : Expr
  if_word : Token
  else_word : Token
  condition_on : List Token
  other_on : List Token
  is : e ≡ expr.Cond value condition other
  is_if : IsTrue (is_word (codes "if") if_word)
  is_else : IsTrue (is_word (codes "else") else_word)
  begins : Begins (Spells level.Disjunction) all value (if_word ∷ condition_on)
  condition_begins : Begins (Spells level.Disjunction) condition_on condition (else_word ∷ other_on)
  other_begins : Begins (Spells level.Conditional) other_on other rest

first_value : (all : List Token) (e : Expr) (rest : List Token) → Begins (Spells level.Conditional) all e rest → Begins (Spells level.Disjunction) all e rest ⊎ GoesOnAtIf all e rest
first_value all e rest begins = ⊎_elim
    (λ spelled. inl (begins.0, begins.1, spelled))
    (λ (parts : IsConditional begins.0 e).
    let split : all ≡ (parts.us ++ parts.if_word ∷ (parts.vs ++ parts.else_word ∷ parts.ws)) ++ rest = begins.1 ∙ ap (λ (xs : List Token). xs ++ rest) parts.front in
    let behind : parts.if_word ∷ ((parts.vs ++ parts.else_word ∷ parts.ws) ++ rest) ≡ parts.if_word ∷ (parts.vs ++ parts.else_word ∷ (parts.ws ++ rest)) =
    ap (λ (xs : List Token). parts.if_word ∷ xs) (append_assoc parts.vs (parts.else_word ∷ parts.ws) rest) in
    inr (record {
      value = parts.value;
      condition = parts.condition;
      other = parts.other;
      if_word = parts.if_word;
      else_word = parts.else_word;
      condition_on = parts.vs ++ parts.else_word ∷ (parts.ws ++ rest);
      other_on = parts.ws ++ rest;
      is = parts.is;
      is_if = parts.is_if;
      is_else = parts.is_else;
      begins = (parts.us, split ∙ append_assoc parts.us (parts.if_word ∷ (parts.vs ++ parts.else_word ∷ parts.ws)) rest ∙ ap (λ (xs : List Token). parts.us ++ xs) behind, parts.value_spelled);
      condition_begins = (parts.vs, refl, parts.condition_spelled);
      other_begins = (parts.ws, refl, parts.other_spelled);
    }))
    (conditional_is begins.0 e begins.2)

-- no value comes first
pub no_value : (all : List Token) → IsOnly level.Disjunction all None → IsOnly level.Conditional all None
no_value all only = λ e r begins ends. ⊎_elim
    (λ alone. only e r alone (ends_tighter level.Conditional level.Disjunction r (omega arith) ends))
    (λ (parts : GoesOnAtIf all e r). only parts.value (parts.if_word ∷ parts.condition_on) parts.begins (ends_if parts.if_word parts.condition_on parts.is_if))
    (first_value all e r begins)

-- a value was read, and no `if` follows it
pub only_value : (all rest : List Token) (value : Expr) → IsOnly level.Disjunction all (Some (value, rest)) → IsNotFirst (is_word (codes "if")) rest → IsOnly level.Conditional all (Some (value, rest))
only_value all rest value only none = λ e r begins ends. ⊎_elim
    (λ alone. only e r alone (ends_tighter level.Conditional level.Disjunction r (omega arith) ends))
    (λ (parts : GoesOnAtIf all e r).
    let read = only parts.value (parts.if_word ∷ parts.condition_on) parts.begins (ends_if parts.if_word parts.condition_on parts.is_if) in
    absurd (both_ways (is_word (codes "if") parts.if_word) (subst (λ (xs : List Token). IsNotFirst (is_word (codes "if")) xs) (sym read.1) none) parts.is_if))
    (first_value all e r begins)

-- after `if`, a condition and the rest of the expression
record GoesOnBehindIf (value : Expr) (behind : List Token) (e : Expr) (rest : List Token) : Type 0 where
  condition : Expr
  other : Expr
  else_word : Token
  other_on : List Token
  is : e ≡ expr.Cond value condition other
  is_else : IsTrue (is_word (codes "else") else_word)
  begins : Begins (Spells level.Disjunction) behind condition (else_word ∷ other_on)
  other_begins : Begins (Spells level.Conditional) other_on other rest

-- a value was read, and `if` follows it
abbrev IsValueBefore : List Token → Expr → List Token → Type 0
IsValueBefore all value behind = (rest : List Token) × IsOnly level.Disjunction all (Some (value, rest)) × IsAfter (is_word (codes "if")) rest behind

behind_if : (all behind : List Token) (value : Expr) → IsValueBefore all value behind → (e : Expr) (r : List Token) → Begins (Spells level.Conditional) all e r → Ends level.Conditional r → GoesOnBehindIf value behind e r
behind_if all behind value was e r begins ends = ⊎_elim
    (λ alone.
    let read = was.1 e r alone (ends_tighter level.Conditional level.Disjunction r (omega arith) ends) in
    let stops : continues level.Conditional was.2.0 ≡ false = subst (λ (xs : List Token). Ends level.Conditional xs) (read.1 ∙ was.2.1) ends in
    absurd (both_ways (continues level.Conditional was.2.0) stops (or_left _ _ was.2.2)))
    (λ (parts : GoesOnAtIf all e r).
    let read = was.1 parts.value (parts.if_word ∷ parts.condition_on) parts.begins (ends_if parts.if_word parts.condition_on parts.is_if) in
    let front : parts.if_word ∷ parts.condition_on ≡ was.2.0 ∷ behind = read.1 ∙ was.2.1 in
    let same : parts.condition_on ≡ behind = cc in
    record {
      condition = parts.condition;
      other = parts.other;
      else_word = parts.else_word;
      other_on = parts.other_on;
      is = parts.is ∙ ap (λ (v : Expr). expr.Cond v parts.condition parts.other) read.0;
      is_else = parts.is_else;
      begins = subst (λ (xs : List Token). Begins (Spells level.Disjunction) xs parts.condition (parts.else_word ∷ parts.other_on)) same parts.condition_begins;
      other_begins = parts.other_begins;
    })
    (first_value all e r begins)

-- no condition comes after `if`
pub no_condition : (all behind : List Token) (value : Expr) → IsValueBefore all value behind → IsOnly level.Disjunction behind None → IsOnly level.Conditional all None
no_condition all behind value was only = λ e r begins ends.
    let parts = behind_if all behind value was e r begins ends in
    only parts.condition (parts.else_word ∷ parts.other_on) parts.begins (ends_else parts.else_word parts.other_on parts.is_else)

-- no `else` follows the condition
pub no_else : (all behind rest : List Token) (value condition : Expr) → IsValueBefore all value behind → IsOnly level.Disjunction behind (Some (condition, rest)) → IsNotFirst (is_word (codes "else")) rest → IsOnly level.Conditional all None
no_else all behind rest value condition was only none = λ e r begins ends.
    let parts = behind_if all behind value was e r begins ends in
    let read = only parts.condition (parts.else_word ∷ parts.other_on) parts.begins (ends_else parts.else_word parts.other_on parts.is_else) in
    both_ways (is_word (codes "else") parts.else_word) (subst (λ (xs : List Token). IsNotFirst (is_word (codes "else")) xs) (sym read.1) none) parts.is_else

-- the condition was read, and `else` follows it
abbrev IsConditionBefore : List Token → Expr → List Token → Type 0
IsConditionBefore behind condition last = (rest : List Token) × IsOnly level.Disjunction behind (Some (condition, rest)) × IsAfter (is_word (codes "else")) rest last

behind_else : (all behind last : List Token) (value condition : Expr) → IsValueBefore all value behind → IsConditionBefore behind condition last → (e : Expr) (r : List Token) → Begins (Spells level.Conditional) all e r → Ends level.Conditional r → (other : Expr) × (e ≡ expr.Cond value condition other) × Begins (Spells level.Conditional) last other r
behind_else all behind last value condition was also e r begins ends =
    let parts = behind_if all behind value was e r begins ends in
    let read = also.1 parts.condition (parts.else_word ∷ parts.other_on) parts.begins (ends_else parts.else_word parts.other_on parts.is_else) in
    let front : parts.else_word ∷ parts.other_on ≡ also.2.0 ∷ last = read.1 ∙ also.2.1 in
    let same : parts.other_on ≡ last = cc in (
      parts.other,
      parts.is ∙ ap (λ (c : Expr). expr.Cond value c parts.other) read.0,
      subst (λ (xs : List Token). Begins (Spells level.Conditional) xs parts.other r) same parts.other_begins,
    )

-- no other value comes after `else`
pub no_other : (all behind last : List Token) (value condition : Expr) → IsValueBefore all value behind → IsConditionBefore behind condition last → IsOnly level.Conditional last None → IsOnly level.Conditional all None
no_other all behind last value condition was also only = λ e r begins ends.
    let parts = behind_else all behind last value condition was also e r begins ends in
    only parts.0 r parts.2 ends

-- all was read
pub only_conditional : (all behind last rest : List Token) (value condition other : Expr) → IsValueBefore all value behind → IsConditionBefore behind condition last → IsOnly level.Conditional last (Some (other, rest)) → IsOnly level.Conditional all (Some (expr.Cond value condition other, rest))
only_conditional all behind last rest value condition other was also only = λ e r begins ends.
    let parts = behind_else all behind last value condition was also e r begins ends in
    let read = only parts.0 r parts.2 ends in
    (parts.1 ∙ ap (λ (o : Expr). expr.Cond value condition o) read.0, read.1)

pub begins_value : (all rest : List Token) (value : Expr) → Begins (Spells level.Disjunction) all value rest → Begins (Spells level.Conditional) all value rest
begins_value all rest value begins = (begins.0, begins.1, as_tight level.Conditional begins.0 value begins.2)

pub begins_conditional : (all before behind after last rest : List Token) (value condition other : Expr) → Begins (Spells level.Disjunction) all value before → IsAfter (is_word (codes "if")) before behind → Begins (Spells level.Disjunction) behind condition after → IsAfter (is_word (codes "else")) after last → Begins (Spells level.Conditional) last other rest → Begins (Spells level.Conditional) all (expr.Cond value condition other) rest
begins_conditional all before behind after last rest value condition other first if_there second else_there third =
    let us = first.0 in
    let vs = second.0 in
    let ws = third.0 in
    let third_on : after ≡ else_there.0 ∷ (ws ++ rest) = else_there.1 ∙ ap (λ (xs : List Token). else_there.0 ∷ xs) third.1 in
    let second_on : behind ≡ (vs ++ else_there.0 ∷ ws) ++ rest = second.1 ∙ ap (λ (xs : List Token). vs ++ xs) third_on ∙ sym (append_assoc vs (else_there.0 ∷ ws) rest) in
    let first_on : before ≡ if_there.0 ∷ ((vs ++ else_there.0 ∷ ws) ++ rest) = if_there.1 ∙ ap (λ (xs : List Token). if_there.0 ∷ xs) second_on in (
      us ++ if_there.0 ∷ (vs ++ else_there.0 ∷ ws),
      first.1 ∙ ap (λ (xs : List Token). us ++ xs) first_on ∙ sym (append_assoc us (if_there.0 ∷ (vs ++ else_there.0 ∷ ws)) rest),
      conditional us vs ws if_there.0 else_there.0 value condition other first.2 if_there.2 second.2 else_there.2 third.2,
    )
