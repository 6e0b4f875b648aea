-- What is read of an operand with its exponent, and with the signs before it.
use Rattle.std.proofs.Common.{arith, ◌≡◌, ◌⊎◌, ◌∷◌, ◌++◌, Bool, true, false, IsTrue, List, [], codes, append_assoc, refl, sym, ap, subst, inl, inr, ◌∙◌}
use Rattle.std.specs.Prelude.{Option, Some, None, if◌then◌else◌, is_some}
use Rattle.std.proofs.lemmas.Bool.{false≢true, or_parts}
use Rattle.pm_syn.specs.declared.expression.BinaryOp.{BinaryOp}
use Rattle.pm_syn.specs.declared.expression.BinaryOp.TheVariants as binary
use Rattle.pm_syn.specs.declared.expression.UnaryOp.{UnaryOp}
use Rattle.pm_syn.specs.declared.expression.Expr.{Expr}
use Rattle.pm_syn.specs.declared.expression.Expr.TheViews as expr
use Rattle.pm_syn.specs.declared.token.Token.{Token}
use Rattle.pm_grammar.specs.Expressions.{Spells}
use Rattle.pm_grammar.specs.Prefixes.{IsAfter, IsNotFirst}
use Rattle.pm_grammar.specs.Levels.{operator_at, sign_of}
use Rattle.pm_grammar.specs.Tokens.{is_symbol}
use Rattle.pm_grammar.specs.Reading.{Begins, Ends, IsOnly, is_suffix}
use Rattle.pm_grammar.specs.declared.level.Level.TheVariants as level
use Rattle.pm_grammar.proofs.ExpressionStarts.{starts}
use Rattle.pm_grammar.proofs.OneSymbol.{power_ends_base}
use Rattle.pm_grammar.proofs.OperandStarts.{begun_tight, sign_starts}
use Rattle.pm_grammar.proofs.TokenTexts.{of_mark}
use Rattle.pm_grammar.proofs.Parts.{behind_first, not_there}

-- ---- `**`

-- the operator is `**`
power_operator : (sign : Token) (op : BinaryOp) → operator_at level.Power sign ≡ Some op → (op ≡ binary.Pow) × IsTrue (is_symbol (codes "**") sign)
power_operator sign op is = go (is_symbol (codes "**") sign) refl is where
  go : (same : Bool) → is_symbol (codes "**") sign ≡ same → (if same then Some binary.Pow else None) ≡ Some op → (op ≡ binary.Pow) × IsTrue (is_symbol (codes "**") sign)
  go true mark one = (cc, mark)
  go false mark one = cc

mark_operator : (sign : Token) → IsTrue (is_symbol (codes "**") sign) → operator_at level.Power sign ≡ Some binary.Pow
mark_operator sign is = of_mark (codes "**") sign (operator_at level.Power) (Some binary.Pow) is refl

-- a base, `**` and an exponent
record IsPower (ts : List Token) (e : Expr) : Type 0 where
  pub front : List Token
  pub behind : List Token
  pub sign : Token
  pub base : Expr
  pub exponent : Expr
  pub split : ts ≡ front ++ sign ∷ behind
  pub made : e ≡ expr.Binary binary.Pow base exponent
  pub base_spelled : Spells level.Postfix front base
  pub mark : IsTrue (is_symbol (codes "**") sign)
  pub exponent_spelled : Spells level.Unary behind exponent

power_is : (ts : List Token) (e : Expr) → Spells level.Power ts e → Spells level.Postfix ts e ⊎ IsPower ts e
power_is ts e (Spells.as_tight _ _ _ s) = inl s
power_is _ _ (Spells.grouped_left _ ts us sign op left right groups s is t) = absurd (false≢true groups)
power_is _ _ (Spells.power ts us sign op base exponent s is t) =
    let mark = power_operator sign op is in
    inr (record {
      front = ts;
      behind = us;
      sign = sign;
      base = base;
      exponent = exponent;
      split = refl;
      made = ap (λ (one : BinaryOp). expr.Binary one base exponent) mark.0;
      base_spelled = s;
      mark = mark.1;
      exponent_spelled = t;
    })

-- if an operand with an exponent ends, so does one without
ends_base : (rest : List Token) → Ends level.Power rest → Ends level.Postfix rest
ends_base [] ends = tt
ends_base (t ∷ rest) ends = (or_parts (is_some (operator_at level.Power t)) (is_suffix t) ends).1

-- and one with a sign
pub ends_unary : (rest : List Token) → Ends level.Power rest → Ends level.Unary rest
ends_unary [] ends = tt
ends_unary (t ∷ rest) ends = ends

ends_power : (rest : List Token) → Ends level.Unary rest → Ends level.Power rest
ends_power [] ends = tt
ends_power (t ∷ rest) ends = ends

-- no operand ends before `**`
no_end : (rest tail left : List Token) → IsAfter (is_symbol (codes "**")) rest tail → rest ≡ left → Ends level.Power left → ⊥
no_end rest tail [] behind same ends = let there = behind.1 in cc
no_end rest tail (t ∷ left) behind same ends =
    let there = behind.1 in
    let one : behind.0 ≡ t = cc in
    let parts = or_parts (is_some (operator_at level.Power t)) (is_suffix t) ends in
    let op = mark_operator t (subst (λ (z : Token). IsTrue (is_symbol (codes "**") z)) one behind.2) in
    false≢true (sym parts.0 ∙ ap is_some op)

pub begins_power : (all rest : List Token) (a : Expr) → Begins (Spells level.Postfix) all a rest → Begins (Spells level.Power) all a rest
begins_power all rest a begins = (begins.0, begins.1, Spells.as_tight level.Power begins.0 a begins.2)

pub power_found : (all rest tail after : List Token) (base exponent : Expr) → Begins (Spells level.Postfix) all base rest → IsAfter (is_symbol (codes "**")) rest tail
    → Begins (Spells level.Unary) tail exponent after → Begins (Spells level.Power) all (expr.Binary binary.Pow base exponent) after
power_found all rest tail after base exponent begins behind begins' = (
  begins.0 ++ behind.0 ∷ begins'.0,
  begins.1 ∙ ap (λ (us : List Token). begins.0 ++ us) (behind.1 ∙ ap (λ (us : List Token). behind.0 ∷ us) begins'.1)
      ∙ sym (append_assoc begins.0 (behind.0 ∷ begins'.0) after),
  Spells.power begins.0 begins'.0 behind.0 binary.Pow base exponent begins.2 (mark_operator behind.0 behind.2) begins'.2,
)

-- what is read before `**`, and after it
record PowerReads (all : List Token) (e : Expr) (left : List Token) : Type 0 where
  pub sign : Token
  pub behind : List Token
  pub base : Expr
  pub exponent : Expr
  pub made : e ≡ expr.Binary binary.Pow base exponent
  pub base_begins : Begins (Spells level.Postfix) all base (sign ∷ behind)
  pub base_ends : Ends level.Postfix (sign ∷ behind)
  pub mark : IsTrue (is_symbol (codes "**") sign)
  pub exponent_begins : Begins (Spells level.Unary) behind exponent left

power_reads : (all left : List Token) (e : Expr) → Begins (Spells level.Power) all e left → Begins (Spells level.Postfix) all e left ⊎ PowerReads all e left
power_reads all left e begins = elim (power_is begins.0 e begins.2) [
  | inl postfix ↦ inl (begins.0, begins.1, postfix)
  | inr power ↦ inr (record {
    sign = power.sign;
    behind = power.behind ++ left;
    base = power.base;
    exponent = power.exponent;
    made = power.made;
    base_begins = (power.front, begins.1 ∙ ap (λ (us : List Token). us ++ left) power.split ∙ append_assoc power.front (power.sign ∷ power.behind) left, power.base_spelled);
    base_ends = power_ends_base power.sign binary.Pow (mark_operator power.sign power.mark);
    mark = power.mark;
    exponent_begins = (power.behind, refl, power.exponent_spelled);
  })
]

pub no_base : (all : List Token) → IsOnly level.Postfix all None → IsOnly level.Power all None
no_base all only e left begins ends = elim (power_reads all left e begins) [
  | inl postfix ↦ only e left postfix (ends_base left ends)
  | inr power ↦ only power.base (power.sign ∷ power.behind) power.base_begins power.base_ends
]

pub only_base : (all rest : List Token) (a : Expr) → IsOnly level.Postfix all (Some (a, rest)) → IsNotFirst (is_symbol (codes "**")) rest → IsOnly level.Power all (Some (a, rest))
only_base all rest a only apart e left begins ends = elim (power_reads all left e begins) [
  | inl postfix ↦ only e left postfix (ends_base left ends)
  | inr power ↦
      let was = only power.base (power.sign ∷ power.behind) power.base_begins power.base_ends in
      absurd (not_there (is_symbol (codes "**")) rest power.behind power.sign apart (sym was.1) power.mark)
]

pub no_exponent : (all rest tail : List Token) (a : Expr) → IsOnly level.Postfix all (Some (a, rest)) → IsAfter (is_symbol (codes "**")) rest tail → IsOnly level.Unary tail None → IsOnly level.Power all None
no_exponent all rest tail a only behind only' e left begins ends = elim (power_reads all left e begins) [
  | inl postfix ↦
      let was = only e left postfix (ends_base left ends) in
      no_end rest tail left behind (sym was.1) ends
  | inr power ↦
      let was = only power.base (power.sign ∷ power.behind) power.base_begins power.base_ends in
      let same = behind_first (is_symbol (codes "**")) rest tail power.behind power.sign behind (sym was.1) in
      only' power.exponent left (subst (λ (us : List Token). Begins (Spells level.Unary) us power.exponent left) (sym same) power.exponent_begins) (ends_unary left ends)
]

pub only_power : (all rest tail after : List Token) (a b : Expr) → IsOnly level.Postfix all (Some (a, rest)) → IsAfter (is_symbol (codes "**")) rest tail
    → IsOnly level.Unary tail (Some (b, after)) → IsOnly level.Power all (Some (expr.Binary binary.Pow a b, after))
only_power all rest tail after a b only behind only' e left begins ends = elim (power_reads all left e begins) [
  | inl postfix ↦
      let was = only e left postfix (ends_base left ends) in
      absurd (no_end rest tail left behind (sym was.1) ends)
  | inr power ↦
      let was = only power.base (power.sign ∷ power.behind) power.base_begins power.base_ends in
      let same = behind_first (is_symbol (codes "**")) rest tail power.behind power.sign behind (sym was.1) in
      let was' = only' power.exponent left (subst (λ (us : List Token). Begins (Spells level.Unary) us power.exponent left) (sym same) power.exponent_begins) (ends_unary left ends) in
      (power.made ∙ ap (λ (one : Expr). expr.Binary binary.Pow one power.exponent) was.0 ∙ ap (λ (one : Expr). expr.Binary binary.Pow a one) was'.0, was'.1)
]

-- ---- signs

-- a sign and an operand
record IsSigned (ts : List Token) (e : Expr) : Type 0 where
  pub sign : Token
  pub behind : List Token
  pub op : UnaryOp
  pub operand : Expr
  pub split : ts ≡ sign ∷ behind
  pub made : e ≡ expr.Unary op operand
  pub is : sign_of sign ≡ Some op
  pub spelled : Spells level.Unary behind operand

unary_is : (ts : List Token) (e : Expr) → Spells level.Unary ts e → Spells level.Power ts e ⊎ IsSigned ts e
unary_is ts e (Spells.as_tight _ _ _ s) = inl s
unary_is _ _ (Spells.grouped_left _ ts us sign op left right groups s is t) = absurd (false≢true groups)
unary_is _ _ (Spells.signed ts sign op e is s) = inr (record { sign = sign; behind = ts; op = op; operand = e; split = refl; made = refl; is = is; spelled = s })

pub begins_unsigned : (all rest : List Token) (a : Expr) → Begins (Spells level.Power) all a rest → Begins (Spells level.Unary) all a rest
begins_unsigned all rest a begins = (begins.0, begins.1, Spells.as_tight level.Unary begins.0 a begins.2)

pub begins_signed : (all tail rest : List Token) (first : Token) (op : UnaryOp) (a : Expr) → all ≡ first ∷ tail → sign_of first ≡ Some op
    → Begins (Spells level.Unary) tail a rest → Begins (Spells level.Unary) all (expr.Unary op a) rest
begins_signed all tail rest first op a is sign begins =
    (first ∷ begins.0, is ∙ ap (λ (us : List Token). first ∷ us) begins.1, Spells.signed begins.0 first op a sign begins.2)

-- no operand that begins with a sign is unsigned
power_signed : (all tail left : List Token) (first : Token) (op : UnaryOp) (e : Expr) → all ≡ first ∷ tail → sign_of first ≡ Some op → Begins (Spells level.Power) all e left → ⊥
power_signed all tail left first op e is sign begins =
    let begun = begun_tight level.Power begins.0 e (omega arith) begins.2 in
    let split : all ≡ begun.0 ∷ (begun.1 ++ left) = begins.1 ∙ ap (λ (us : List Token). us ++ left) begun.2 in
    let one : first ≡ begun.0 = cc in
    false≢true (sym (sign_starts first op sign) ∙ ap starts one ∙ begun.3)

-- an operand begins with a sign, or is unsigned
unary_reads : (all tail left : List Token) (first : Token) (e : Expr) → all ≡ first ∷ tail → Begins (Spells level.Unary) all e left
    → Begins (Spells level.Power) all e left ⊎ ((op : UnaryOp) × (operand : Expr) × (sign_of first ≡ Some op) × (e ≡ expr.Unary op operand) × Begins (Spells level.Unary) tail operand left)
unary_reads all tail left first e is begins = elim (unary_is begins.0 e begins.2) [
  | inl tight ↦ inl (begins.0, begins.1, tight)
  | inr signed ↦
      let split : all ≡ signed.sign ∷ (signed.behind ++ left) = begins.1 ∙ ap (λ (us : List Token). us ++ left) signed.split in
      let one : first ≡ signed.sign = cc in
      let same : tail ≡ signed.behind ++ left = cc in
      inr (signed.op, signed.operand, ap sign_of one ∙ signed.is, signed.made, (signed.behind, same, signed.spelled))
]

-- no operand of no tokens
pub no_operand_there : (all : List Token) → all ≡ [] → IsOnly level.Unary all None
no_operand_there all is e left begins ends = elim (unary_is begins.0 e begins.2) [
  | inl tight ↦
      let begun = begun_tight level.Power begins.0 e (omega arith) tight in
      let split : all ≡ begun.0 ∷ (begun.1 ++ left) = begins.1 ∙ ap (λ (us : List Token). us ++ left) begun.2 in
      cc
  | inr signed ↦
      let split : all ≡ signed.sign ∷ (signed.behind ++ left) = begins.1 ∙ ap (λ (us : List Token). us ++ left) signed.split in
      cc
]

pub only_unsigned : (all tail : List Token) (first : Token) (read : Option (Expr × List Token)) → all ≡ first ∷ tail → sign_of first ≡ None → IsOnly level.Power all read → IsOnly level.Unary all read
only_unsigned all tail first read is sign only e left begins ends = elim (unary_reads all tail left first e is begins) [
  | inl tight ↦ only e left tight (ends_power left ends)
  | inr signed ↦ let op = signed.2 in cc
]

pub no_signed : (all tail : List Token) (first : Token) (op : UnaryOp) → all ≡ first ∷ tail → sign_of first ≡ Some op → IsOnly level.Unary tail None → IsOnly level.Unary all None
no_signed all tail first op is sign only e left begins ends = elim (unary_reads all tail left first e is begins) [
  | inl tight ↦ power_signed all tail left first op e is sign tight
  | inr signed ↦ only signed.1 left signed.4 ends
]

pub only_signed : (all tail rest : List Token) (first : Token) (op : UnaryOp) (a : Expr) → all ≡ first ∷ tail → sign_of first ≡ Some op → IsOnly level.Unary tail (Some (a, rest))
    → IsOnly level.Unary all (Some (expr.Unary op a, rest))
only_signed all tail rest first op a is sign only e left begins ends = elim (unary_reads all tail left first e is begins) [
  | inl tight ↦ absurd (power_signed all tail left first op e is sign tight)
  | inr signed ↦
      let was = only signed.1 left signed.4 ends in
      let two = signed.2 in
      let same : signed.0 ≡ op = cc in
      (signed.3 ∙ ap (λ (one : UnaryOp). expr.Unary one signed.1) same ∙ ap (λ (one : Expr). expr.Unary op one) was.0, was.1)
]
