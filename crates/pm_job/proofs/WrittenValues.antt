-- The terms and values that are read are those that the text is written for.
use Rattle.std.proofs.Common.{◌≡◌, ◌<◌, ◌+◌, ◌^◌, ◌++◌, ◌&&◌, ◌⊎◌, ℕ, zero, suc, Bool, true, false, not, List, [], ◌∷◌, refl, ap, sym, subst, ◌∙◌, arith, inl, inr, ⊎_elim}
use Rattle.std.specs.Prelude.{Option, None, Some, option_map, codes, nat_lt, slice_get}
use Rattle.std.specs.List.{list_any}
use Rattle.std.specs.Option.{option_map_or}
use Rattle.std.specs.Str.{bytes_eq}
use Rattle.std.proofs.lemmas.Bool.{and_parts, or_parts, not-true, both_ways, false_from_ne_true, ltb-true, lt-ltb}
use Rattle.std.proofs.lemmas.List.{append_assoc}
use Rattle.std.proofs.lemmas.Option.{option_and_then_some}
use Rattle.std.proofs.lemmas.Slice.Eq.{bytes_eq-Decides}
use Rattle.pm_bits.specs.Word.{Word}
use Rattle.pm_bits.specs.declared.operator.Op.{Op}
use Rattle.pm_bits.specs.declared.operator.Op.TheVariants as op
use Rattle.pm_design.specs.declared.signal.Signal.{Signal}
use Rattle.pm_job.specs.declared.component.Expression.{Expression}
use Rattle.pm_job.specs.declared.component.Expression.TheVariants as expression
use Rattle.pm_job.specs.declared.component.Operand.{Operand}
use Rattle.pm_job.specs.declared.component.Operand.TheVariants as operand
use Rattle.pm_job.specs.Words.{blank, without_prefix}
use Rattle.pm_job.specs.Sound.{is_width}
use Rattle.pm_job.specs.Spelling.{◌and_then◌, cut, numeral_below, value_where_it_fits, operator_of}
use Rattle.pm_job.specs.Form.{index_from, index_of, operand_of, both_of, double_of, expression_of, signals_differ}
use Rattle.pm_job.specs.WrittenForm.{IsSign, IsTerm, ReadsSignal, IsValue}
use Rattle.pm_job.specs.WrittenForm.IsSign.{sum, conjunction, disjunction, exclusive}
use Rattle.pm_job.specs.WrittenForm.IsTerm.{signal as signal_term, number as number_term}
use Rattle.pm_job.specs.WrittenForm.ReadsSignal.{signal as reads_signal}
use Rattle.pm_job.specs.WrittenForm.IsValue.{term as one_term, first_signal, second_signal}
use Rattle.pm_job.proofs.Headers.{without_prefix_some}
use Rattle.pm_job.proofs.WrittenParts.{HasNoBlank, option_map_some, where_true, where_same, cut_some, cut-append, cut-word, numeral_below_some, numeral_below-decimal, decimal_has_no_blank, without_prefix_dot-decimal}

-- ---- indices

-- a signal of this name stands at an index
pub record IsAt (signals : List Signal) (name : List ℕ) (index : ℕ) : Type 0 where
  pub read : Signal
  pub there : slice_get signals index ≡ Some read
  pub named : name ≡ read.name

index_from_some : (first : ℕ) (signals : List Signal) (name : List ℕ) (index : ℕ) → index_from first signals name ≡ Some index
    → (steps : ℕ) × (index ≡ first + steps) × IsAt signals name steps
index_from_some first [] name index is = absurd (cc)
index_from_some first (signal ∷ signals) name index is =
    where_same signal.name name first index (index_from (first + 1) signals name) is
    (λ here same. (0, omega arith, record { read = signal; there = refl; named = sym here }))
    (λ later.
    let rest = index_from_some (first + 1) signals name index later in
    (suc rest.0, omega (arith, rest.1), record { read = rest.2.read; there = rest.2.there; named = rest.2.named }))

-- an index that is found is that of a signal of the name
pub index_of_some : (signals : List Signal) (name : List ℕ) (index : ℕ) → index_of signals name ≡ Some index → IsAt signals name index
unfolding index_of
index_of_some signals name index is =
    let found = index_from_some 0 signals name index is in
    let same : found.0 ≡ index = omega (arith, found.1) in
    subst (IsAt signals name) same found.2

fails_at : (test : Signal → Bool) (signals : List Signal) (index : ℕ) (read : Signal) → list_any test signals ≡ false
    → slice_get signals index ≡ Some read → test read ≡ false
fails_at test [] index read none there = absurd (cc)
fails_at test (signal ∷ signals) zero read none there =
    let same : signal ≡ read = cc in
    ap test (sym same) ∙ (or_parts (test signal) (list_any test signals) none).0
fails_at test (signal ∷ signals) (suc index) read none there =
    fails_at test signals index read (or_parts (test signal) (list_any test signals) none).1 there

index_from-name : (first : ℕ) (signals : List Signal) (steps : ℕ) (read : Signal) → signals_differ signals ≡ true → slice_get signals steps ≡ Some read
    → index_from first signals read.name ≡ Some (first + steps)
index_from-name first [] steps read differ there = absurd (cc)
index_from-name first (signal ∷ signals) zero read differ there =
    let same : signal ≡ read = cc in
    let here : bytes_eq signal.name read.name ≡ true = (bytes_eq-Decides signal.name read.name).1 (ap (λ (s : Signal). s.name) same) in
    rw here (ap Some (omega arith))
index_from-name first (signal ∷ signals) (suc steps) read differ there =
    let parts = and_parts (not (list_any (λ other. bytes_eq other.name signal.name) signals)) (signals_differ signals) differ in
    let later : bytes_eq read.name signal.name ≡ false =
    fails_at (λ other. bytes_eq other.name signal.name) signals steps read (not-true _ parts.0) there in
    let other : bytes_eq signal.name read.name ≡ false =
    false_from_ne_true _ (λ same.
    both_ways _ later ((bytes_eq-Decides read.name signal.name).1 (sym ((bytes_eq-Decides signal.name read.name).0 same)))) in
    rw other (index_from-name (first + 1) signals steps read parts.1 there ∙ ap Some (omega arith))

-- the index of a signal is found by its name
pub index_of-name : (signals : List Signal) (index : ℕ) (read : Signal) → signals_differ signals ≡ true → slice_get signals index ≡ Some read
    → index_of signals read.name ≡ Some index
unfolding index_of
index_of-name signals index read differ there = index_from-name 0 signals index read differ there ∙ ap Some (omega arith)

-- signals that a block can name and take as its target
pub record AreReadable (signals : List Signal) : Type 0 where
  pub differ : signals_differ signals ≡ true
  pub named : (index : ℕ) (read : Signal) → slice_get signals index ≡ Some read → HasNoBlank read.name
  pub wide : (index : ℕ) (read : Signal) → slice_get signals index ≡ Some read → is_width read.width ≡ true

-- ---- terms

value_some : (width number : ℕ) (value : Word) → value_where_it_fits width number ≡ Some value
    → (number < 2 ^ width) × (record { width = width; value = number } ≡ value)
unfolding value_where_it_fits
value_some width number value is =
    let fits = where_true (is_width width && nat_lt number (2 ^ width)) (Some (record { width = width; value = number })) value is in
    let parts = and_parts (is_width width) (nat_lt number (2 ^ width)) fits.0 in
    (ltb-true number (2 ^ width) parts.1, cc)

value_below : (width number : ℕ) → is_width width ≡ true → number < 2 ^ width
    → value_where_it_fits width number ≡ Some (record { width = width; value = number })
unfolding value_where_it_fits
value_below width number wide below = rw (wide, lt-ltb number (2 ^ width) below) refl

term_cases : (signals : List Signal) (width : ℕ) (text : List ℕ) (a : Operand) (name : Option (List ℕ)) → without_prefix (codes "s.") text ≡ name
    → option_map_or (λ name. option_map operand.Signal (index_of signals name)) name
    (numeral_below (2 ^ 63) text and_then λ number. option_map operand.Constant (value_where_it_fits width number)) ≡ Some a
    → IsTerm signals width a text
term_cases signals width text a (Some name) begins is =
    option_map_some operand.Signal (index_of signals name) a is (λ index found same.
    let here = index_of_some signals name index found in
    let written : text ≡ codes "s." ++ here.read.name = without_prefix_some (codes "s.") text name begins ∙ ap (λ (n : List ℕ). codes "s." ++ n) here.named in
    subst (λ (o : Operand). IsTerm signals width o text) same (rw written (signal_term index here.read here.there)))
term_cases signals width text a None begins is =
    option_and_then_some _ (numeral_below (2 ^ 63) text) a is (λ number numeral rest.
    option_map_some operand.Constant (value_where_it_fits width number) a rest (λ value found same.
    let written = numeral_below_some (2 ^ 63) text number (omega arith) numeral in
    let fits = value_some width number value found in
    subst (λ (o : Operand). IsTerm signals width o text) (ap operand.Constant fits.1 ∙ same) (rw written.0 (number_term number written.1 fits.0))))

-- a term that is read is written for what it is read as
operand_of_some : (signals : List Signal) (width : ℕ) (text : List ℕ) (a : Operand) → operand_of signals width text ≡ Some a
    → IsTerm signals width a text
unfolding operand_of
operand_of_some signals width text a is = term_cases signals width text a (without_prefix (codes "s.") text) refl is

-- what is written for an operand is read as it
operand_of-term : (signals : List Signal) (width : ℕ) (a : Operand) (text : List ℕ) → AreReadable signals → is_width width ≡ true
    → IsTerm signals width a text → operand_of signals width text ≡ Some a
unfolding operand_of
operand_of-term signals width a text readable wide (signal_term index read there) = rw (index_of-name signals index read readable.differ there) refl
operand_of-term signals width a text readable wide (number_term value low below) =
    rw (without_prefix_dot-decimal value (omega arith), numeral_below-decimal (2 ^ 63) value (omega arith) low, value_below width value wide below) refl

term_has_no_blank : (signals : List Signal) (width : ℕ) (a : Operand) (text : List ℕ) → AreReadable signals
    → IsTerm signals width a text → HasNoBlank text
term_has_no_blank signals width a text readable (signal_term index read there) = (refl, (refl, readable.named index read there))
term_has_no_blank signals width a text readable (number_term value low below) = decimal_has_no_blank value (omega arith)

-- ---- signs

sign_at : (word key : List ℕ) (one other : Op) → IsSign one key → word ≡ key → one ≡ other → IsSign other word
sign_at word key one other sign here same = subst (λ (o : Op). IsSign o word) same (rw here sign)

-- a sign that is read is that of the operator
operator_of_some : (word : List ℕ) (o : Op) → operator_of word ≡ Some o → IsSign o word
unfolding operator_of
operator_of_some word o is =
    where_same word (codes "+") op.Add o _ is (sign_at word _ _ o sum) (λ no_sum.
    where_same word (codes "&") op.And o _ no_sum (sign_at word _ _ o conjunction) (λ no_conjunction.
    where_same word (codes "|") op.Or o _ no_conjunction (sign_at word _ _ o disjunction) (λ no_disjunction.
    where_same word (codes "^") op.Xor o _ no_disjunction (sign_at word _ _ o exclusive) (λ none. absurd (cc)))))

-- the sign of an operator is read as it
operator_of-sign : (o : Op) (word : List ℕ) → IsSign o word → operator_of word ≡ Some o
unfolding operator_of
operator_of-sign o word sum = refl
operator_of-sign o word conjunction = refl
operator_of-sign o word disjunction = refl
operator_of-sign o word exclusive = refl

sign_has_no_blank : (o : Op) (word : List ℕ) → IsSign o word → HasNoBlank word
sign_has_no_blank o word sum = (refl, tt)
sign_has_no_blank o word conjunction = (refl, tt)
sign_has_no_blank o word disjunction = (refl, tt)
sign_has_no_blank o word exclusive = (refl, tt)

-- ---- values

both_of_some : (o : Op) (a b : Operand) (e : Expression) → both_of o a b ≡ Some e → (ReadsSignal a ⊎ ReadsSignal b) × (expression.Both o a b ≡ e)
unfolding both_of
both_of_some o (operand.Signal index) b e is = (inl (reads_signal index), cc)
both_of_some o (operand.Constant bits) (operand.Signal index) e is = (inr (reads_signal index), cc)
both_of_some o (operand.Constant bits) (operand.Constant others) e is = absurd (cc)

both_of-first : (o : Op) (a b : Operand) → ReadsSignal a → both_of o a b ≡ Some (expression.Both o a b)
unfolding both_of
both_of-first o a b (reads_signal index) = refl

both_of-second : (o : Op) (a b : Operand) → ReadsSignal b → both_of o a b ≡ Some (expression.Both o a b)
unfolding both_of
both_of-second o (operand.Signal index) b (reads_signal other) = refl
both_of-second o (operand.Constant bits) b (reads_signal other) = refl

double_of_some : (signals : List Signal) (width : ℕ) (left sign right : List ℕ) (e : Expression) → double_of signals width left sign right ≡ Some e
    → IsValue signals width e (left ++ codes " " ++ sign ++ codes " " ++ right)
unfolding double_of
double_of_some signals width left sign right e is =
    option_and_then_some _ (operator_of sign) e is (λ o at_sign more.
    option_and_then_some _ (operand_of signals width left) e more (λ a at_left rest.
    option_and_then_some _ (operand_of signals width right) e rest (λ b at_right last.
    let first = operand_of_some signals width left a at_left in
    let second = operand_of_some signals width right b at_right in
    let signed = operator_of_some sign o at_sign in
    let found = both_of_some o a b e last in
    subst (λ (v : Expression). IsValue signals width v (left ++ codes " " ++ sign ++ codes " " ++ right)) found.1
    (⊎_elim (λ reads. first_signal o a b left sign right first signed second reads)
    (λ reads. second_signal o a b left sign right first signed second reads) found.0))))

pair_joined : (left sign right : List ℕ) → left ++ codes " " ++ sign ++ codes " " ++ right ≡ left ++ blank ∷ (sign ++ blank ∷ right)
pair_joined left sign right = simp append_assoc

value_cases : (signals : List Signal) (width : ℕ) (text : List ℕ) (e : Expression) (parts : Option (List ℕ × List ℕ)) → cut text ≡ parts
    → option_map_or (λ first. cut first.1 and_then λ sign. double_of signals width first.0 sign.0 sign.1) parts
    (option_map expression.Just (operand_of signals width text)) ≡ Some e
    → IsValue signals width e text
value_cases signals width text e (Some first) one is =
    option_and_then_some _ (cut first.1) e is (λ sign two rest.
    let written : text ≡ first.0 ++ blank ∷ (sign.0 ++ blank ∷ sign.1) =
    cut_some text first one ∙ ap (λ (t : List ℕ). first.0 ++ blank ∷ t) (cut_some first.1 sign two) in
    rw (written, ← (pair_joined first.0 sign.0 sign.1)) (double_of_some signals width first.0 sign.0 sign.1 e rest))
value_cases signals width text e None one is =
    option_map_some expression.Just (operand_of signals width text) e is (λ a found same.
    subst (λ (v : Expression). IsValue signals width v text) same (one_term a text (operand_of_some signals width text a found)))

-- a value that is read is written for the expression that it is read as
pub expression_of_some : (signals : List Signal) (width : ℕ) (text : List ℕ) (e : Expression) → expression_of signals width text ≡ Some e
    → IsValue signals width e text
unfolding expression_of
expression_of_some signals width text e is = value_cases signals width text e (cut text) refl is

double_of-terms : (signals : List Signal) (width : ℕ) (o : Op) (a b : Operand) (left sign right : List ℕ) → AreReadable signals → is_width width ≡ true
    → IsTerm signals width a left → IsSign o sign → IsTerm signals width b right → both_of o a b ≡ Some (expression.Both o a b)
    → expression_of signals width (left ++ codes " " ++ sign ++ codes " " ++ right) ≡ Some (expression.Both o a b)
unfolding expression_of double_of
double_of-terms signals width o a b left sign right readable wide first signed second both =
    rw (
      pair_joined left sign right,
      cut-append left (sign ++ blank ∷ right) (term_has_no_blank signals width a left readable first),
      cut-append sign right (sign_has_no_blank o sign signed),
      operator_of-sign o sign signed,
      operand_of-term signals width a left readable wide first,
      operand_of-term signals width b right readable wide second,
    ) both

-- what is written for an expression is read as it
pub expression_of-value : (signals : List Signal) (width : ℕ) (e : Expression) (text : List ℕ) → AreReadable signals → is_width width ≡ true
    → IsValue signals width e text → expression_of signals width text ≡ Some e
unfolding expression_of
expression_of-value signals width e text readable wide (one_term a word term) =
    rw (cut-word word (term_has_no_blank signals width a word readable term), operand_of-term signals width a word readable wide term) refl
expression_of-value signals width e text readable wide (first_signal o a b left sign right first signed second reads) =
    double_of-terms signals width o a b left sign right readable wide first signed second (both_of-first o a b reads)
expression_of-value signals width e text readable wide (second_signal o a b left sign right first signed second reads) =
    double_of-terms signals width o a b left sign right readable wide first signed second (both_of-second o a b reads)
