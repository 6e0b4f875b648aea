-- Names, operators, attributes and lists.
use Rattle.std.proofs.Common.{ℕ, ℤ, Bool, true, false, List, [], ◌∷◌, ◌++◌, sym, subst}
use Rattle.std.specs.Prelude.{Option, Some, None, Ok, Err, nat_lt, if◌then◌else◌, pos}
use Rattle.std.specs.Str.{bytes_eq}
use Rattle.pm_design.specs.declared.connection.Term.{Term}
use Rattle.pm_syn.specs.declared.expression.BinaryOp.{BinaryOp}
use Rattle.pm_syn.specs.declared.expression.BinaryOp.TheVariants as op
use Rattle.pm_syn.specs.declared.expression.UnaryOp.{UnaryOp}
use Rattle.pm_values.specs.declared.fault.BuildFault.TheVariants.{Unbound, IntRange, WrongKind}
use Rattle.pm_values.specs.declared.value.Member.{Member}
use Rattle.pm_values.specs.declared.value.Value.{Value, Value-F, out-Value, roll-out-Value, roll-Value}
use Rattle.pm_values.specs.declared.value.Value.TheVariants as value
use Rattle.pm_values.specs.Tables.{Names, get}
use Rattle.pm_values.specs.Integers.{is_zero, operated, applied}
use Rattle.pm_elab.specs.declared.elaboration.Elaboration.{Elaboration}
use Rattle.pm_elab.specs.declared.frame.Frame.{Frame}
use Rattle.pm_elab.specs.declared.frame.Local.{Local}
use Rattle.pm_elab.specs.declared.site.Turn.{Turn}
use Rattle.pm_elab.specs.Attributes.{indexable, sliceable}
use Rattle.pm_elab.specs.Elab.{Checked, and_then, Elab, step}
use Rattle.pm_elab.specs.Expressions.{Meaning, name_value, literal, integer_or, unary, settles, int_operation, term_in}
use Rattle.pm_elab.specs.Expressions.{term_at, rule, rule_by, orders, comparison, operation_by, operation_on, operation}
use Rattle.pm_elab.specs.Expressions.{choice, attribute_of, element_of, index, bounds, slice_of, slice_expression}
use Rattle.pm_elab.specs.Expressions.{items_from, items, ints_from, range_of, range, turn, turns_from, turns}
use Rattle.pm_elab.specs.Expressions.{comprehension}
use Rattle.pm_elab.specs.Sites.{Site, with_turn, named, turn_named, local_named, own, or}
use Rattle.pm_elab.specs.Values.{int}
use Rattle.pm_elab_laws.proofs.Keeping.{On, Each, Where, Origin, Keeping, Runs, bind, so, lifted, done, failed}
use Rattle.pm_elab_laws.proofs.Places.{IsSite, IsMeaning, any, free, found, where_so, chosen, fork, site_on, turn_site}
use Rattle.pm_elab_laws.proofs.Places.{int_any, steps, int_runs}

-- expressions that keep the facts
abbrev pub AreMeanings : Keeping → List Meaning → Type 0
AreMeanings k es = Each (IsMeaning k) es

module _ (k : Keeping) where
  -- ---- names

  either : (P : Value → Type 0) (x y : Option Value) → Where P x → Where P y → Where P (or x y)
  either P (Some v) y first second = first
  either P None y first second = second

  turn_value : (m : Elaboration) (fr : Option Frame) (ts : List Turn) (name : List ℕ)
      → Where (k.IsValue m m fr) (turn_named ts name)
  turn_value m fr [] name = tt
  turn_value m fr (t ∷ ts) name =
      chosen (Where (k.IsValue m m fr)) (bytes_eq t.name name) (Some (value.Int t.value)) (turn_named ts name)
      (k.int_value m fr t.value) (turn_value m fr ts name)

  own_value : (m : Elaboration) (fr : Option Frame) (name : List ℕ) → Where (k.IsValue m m fr) (own name)
  own_value m fr name = by (bytes_eq name _)
    where
      by : (b : Bool) → Where (k.IsValue m m fr) (if b then Some value.Own else None)
      by true = k.own_value m fr
      by false = tt

  local_value : (o : Origin) (m : Elaboration) (fr : Option Frame) (name : List ℕ) → Where (k.IsFrame o m) fr
      → Where (k.IsValue m m fr) (local_named fr name)
  local_value o m None name is = tt
  local_value o m (Some f) name is = either (k.IsValue m m (Some f)) _ _ (by (get f.raw.locals name) (k.local_value
      o m f name is)) (own_value m (Some f) name)
    where
      by : (l : Option Local) → Where (λ (l : Local). k.IsValue m m (Some f) l.value) l
          → Where (k.IsValue m m (Some f)) (elim l as (λ _. Option Value) [ Some l ↦ Some l.value | None ↦ None ])
      by (Some l) is = is
      by None is = tt

  pub global_named : (m : Elaboration) (names : Names Value) (name : List ℕ)
      → Each (λ (p : List ℕ × Value). k.IsGlobal m p.1) names → Where (k.IsGlobal m) (get names name)
  global_named m [] name each = tt
  global_named m (p ∷ ps) name each =
      chosen (Where (k.IsGlobal m)) (bytes_eq name p.0) (Some p.1) (get ps name) each.0 (global_named m ps name each.1)

  named_value : (o : Origin) (m : Elaboration) (site : Site) (name : List ℕ) → IsSite k o m site
      → Where (k.IsValue m m site.frame) (named site name)
  unfolding named
  named_value o m site name at =
      either (k.IsValue m m site.frame) _ _ (turn_value m site.frame site.turns name)
      (either (k.IsValue m m site.frame) _ _ (local_value o m site.frame name at.frame)
      (where_so (k.IsGlobal m) (k.IsValue m m site.frame) _ (k.global_value m site.frame)
      (either (k.IsGlobal m) _ _ (global_named m site.file.names name at.file.names) (k.named_type m name))))

  pub name_runs : (name : List ℕ) (o : Origin) (m : Elaboration) (site : Site) → IsSite k o m site
      → Runs k m (name_value name site m) (λ v n. k.IsValue m n site.frame v)
  unfolding name_value
  name_runs name o m site at = lifted k m _ (found (k.IsValue m m site.frame) (named site name) (Unbound site.line)
      (named_value o m site name at))

  -- ---- integers

  pub literal_value : (m : Elaboration) (fr : Option Frame) (line n : ℕ) → On (literal line n) (k.IsValue m m fr)
  unfolding literal
  literal_value m fr line n = by (nat_lt n _)
    where
      by : (b : Bool) → On (if b then Ok (value.Int (pos n)) else Err (IntRange line)) (k.IsValue m m fr)
      by true = k.int_value m fr (pos n)
      by false = tt

  integer_value : (l m : Elaboration) (fr : Option Frame) (line : ℕ) (n : Option ℤ) → k.Leads l m
      → On (integer_or line n) (k.IsValue l m fr)
  integer_value l m fr line (Some n) leads = int_any k l m fr n leads
  integer_value l m fr line None leads = tt

  pub unary_runs : (o : UnaryOp) (e : Meaning) → IsMeaning k e
      → IsMeaning k (record { name = None; literal = None; value = unary o e })
  unfolding unary
  unary_runs u e means o m site at = bind k m _ _ (int_runs k e means o m site at) (λ x leads is. lifted k x.1 _
      (integer_value m x.1 site.frame site.line (applied u x.0) leads))

  int_operation_runs : (b : BinaryOp) (v : Value) (e : Meaning) → IsMeaning k e
      → (o : Origin) (m : Elaboration) (site : Site) → IsSite k o m site
      → Runs k m (int_operation b v e site m) (λ v n. k.IsValue m n site.frame v)
  unfolding int_operation
  int_operation_runs b v e means o m site at =
      bind k m _ _ (free k m (int site.line v)) (λ x leads is. fork k x.1 (settles b x.0) _ _
      (done k x.1 (value.Int x.0) (int_any k m x.1 site.frame x.0 leads))
      (bind k x.1 _ _ (int_runs k e means o x.1 site (site_on k o m x.1 site leads at))
      (λ y onward is. lifted k y.1 _ (integer_value m y.1 site.frame site.line (operated b x.0 y.0) (k.on m x.1 y.1
      leads onward)))))

  -- ---- constraints

  term_is : (l m : Elaboration) (fr : Option Frame) (v : Value) → k.IsValue l m fr v
      → Where (λ (t : Term). k.IsValue l m fr (value.Term t)) (term_in v)
  unfolding term_in
  term_is l m fr v is = by (out-Value v) (subst (k.IsValue l m fr) (sym (roll-out-Value v)) is)
    where
      by : (w : Value-F Value Member) → k.IsValue l m fr (roll-Value w)
          → Where (λ (t : Term). k.IsValue l m fr (value.Term t)) (term_at w)
      by (Value-F.Term t) is = subst (k.IsValue l m fr) (value.rolls-Term t) is
      by (Value-F.Int n) is = tt
      by (Value-F.Type t) is = tt
      by (Value-F.Const w) is = tt
      by (Value-F.Class n) is = tt
      by (Value-F.Items vs) is = tt
      by Value-F.Own is = tt
      by (Value-F.New n) is = tt
      by (Value-F.NewInterface ms) is = tt
      by (Value-F.Taken t) is = tt
      by (Value-F.Interface ms) is = tt
      by (Value-F.Rule t u) is = tt

  rule_value : (l n m : Elaboration) (fr : Option Frame) (line : ℕ) (b : BinaryOp) (t : Term) (u : Option Term)
      → k.IsValue l m fr (value.Term t)
      → Where (λ (u : Term). k.IsValue n m fr (value.Term u)) u → On (rule_by line b t u) (k.IsValue m m fr)
  rule_value l n m fr line op.Lt t (Some u) first second = k.rule_value l n m fr t u first second
  rule_value l n m fr line op.Gt t (Some u) first second = k.rule_value n l m fr u t second first
  rule_value l n m fr line op.Lt t None first second = tt
  rule_value l n m fr line op.Gt t None first second = tt
  rule_value l n m fr line op.Or t u first second = tt
  rule_value l n m fr line op.And t u first second = tt
  rule_value l n m fr line op.Eq t u first second = tt
  rule_value l n m fr line op.Ne t u first second = tt
  rule_value l n m fr line op.Le t u first second = tt
  rule_value l n m fr line op.Ge t u first second = tt
  rule_value l n m fr line op.BitOr t u first second = tt
  rule_value l n m fr line op.BitXor t u first second = tt
  rule_value l n m fr line op.BitAnd t u first second = tt
  rule_value l n m fr line op.Shl t u first second = tt
  rule_value l n m fr line op.Shr t u first second = tt
  rule_value l n m fr line op.Add t u first second = tt
  rule_value l n m fr line op.Sub t u first second = tt
  rule_value l n m fr line op.Mul t u first second = tt
  rule_value l n m fr line op.FloorDiv t u first second = tt
  rule_value l n m fr line op.Mod t u first second = tt
  rule_value l n m fr line op.Pow t u first second = tt

  pub on_from : (l m : Elaboration) (fr : Option Frame) (r : Checked Value) → k.Leads l m → On r (k.IsValue m m fr)
      → On r (k.IsValue l m fr)
  on_from l m fr (Ok v) leads is = k.value_from l m m fr v leads is
  on_from l m fr (Err e) leads is = tt

  rule_on : (l n m : Elaboration) (fr : Option Frame) (line : ℕ) (b : BinaryOp) (t : Term) (v : Value)
      → k.IsValue l m fr (value.Term t) → k.IsValue n m fr v
      → On (rule line b t v) (k.IsValue m m fr)
  unfolding rule
  rule_on l n m fr line b t v first second = rule_value l n m fr line b t (term_in v) first (term_is n m fr v second)

  comparison_runs : (b : BinaryOp) (t : Term) (e : Meaning) → IsMeaning k e
      → (o : Origin) (l m : Elaboration) (site : Site) → IsSite k o m site → k.IsValue l m site.frame (value.Term t)
      → Runs k m (comparison b t e site m) (λ v n. k.IsValue m n site.frame v)
  unfolding comparison
  comparison_runs b t e means o l m site at is = fork k m (orders b) _ _
      (bind k m _ _ (means o m site at) (λ x leads value.
      lifted k x.1 _ (on_from m x.1 site.frame _ leads (rule_on l m x.1 site.frame site.line b t x.0 (k.value_on l m
      x.1 site.frame _ leads is) value))))
      (failed k m (WrongKind site.line))

  operation_by_runs : (t : Option Term) (b : BinaryOp) (v : Value) (e : Meaning) → IsMeaning k e
      → (o : Origin) (l m : Elaboration) (site : Site) → IsSite k o m site
      → Where (λ (t : Term). k.IsValue l m site.frame (value.Term t)) t
      → Runs k m (operation_by t b v e site m) (λ v n. k.IsValue m n site.frame v)
  operation_by_runs (Some t) b v e means o l m site at is = comparison_runs b t e means o l m site at is
  operation_by_runs None b v e means o l m site at is = int_operation_runs b v e means o m site at

  -- a run from later on is one from before
  pub from : (l m : Elaboration) (fr : Option Frame) (r : Checked (Value × Elaboration)) → k.Leads l m
      → Runs k m r (λ v n. k.IsValue m n fr v) → Runs k m r (λ v n. k.IsValue l n fr v)
  from l m fr r leads run = so k m r run (λ x onward is. k.value_from l m x.1 fr x.0 leads is)

  pub operation_runs : (b : BinaryOp) (left right : Meaning) → IsMeaning k left → IsMeaning k right
      → (o : Origin) (m : Elaboration) (site : Site) → IsSite k o m site
      → Runs k m (operation b left right site m) (λ v n. k.IsValue m n site.frame v)
  unfolding operation operation_on
  operation_runs b left right first second o m site at = bind k m _ _ (first o m site at) (λ x leads is.
      from m x.1 site.frame _ leads (operation_by_runs (term_in x.0) b x.0 right second o m x.1 site (site_on k o m
      x.1 site leads at) (term_is m x.1 site.frame x.0 is)))

  pub choice_runs : (this c other : Meaning) → IsMeaning k this → IsMeaning k c → IsMeaning k other
      → (o : Origin) (m : Elaboration) (site : Site) → IsSite k o m site
      → Runs k m (choice this c other site m) (λ v n. k.IsValue m n site.frame v)
  unfolding choice
  choice_runs this c other first test second o m site at = bind k m _ _ (int_runs k c test o m site at) (λ x leads is.
      from m x.1 site.frame _ leads (fork k x.1 (is_zero x.0) _ _ (second o x.1 site (site_on k o m x.1 site leads
      at)) (first o x.1 site (site_on k o m x.1 site leads at))))

  -- ---- attributes, elements and slices

  pub attribute_runs : (e : Meaning) (name : List ℕ) → IsMeaning k e → (o : Origin) (m : Elaboration) (site : Site)
      → IsSite k o m site
      → Runs k m (attribute_of e name site m) (λ v n. k.IsValue m n site.frame v)
  unfolding attribute_of
  attribute_runs e name means o m site at = bind k m _ _ (means o m site at) (λ x leads is.
      let here = site_on k o m x.1 site leads at in
      lifted k x.1 _ (k.attribute_value o m x.1 site name x.0 here.file.fine here.frame is))

  element_runs : (v : Value) (i : Meaning) → IsMeaning k i → (o : Origin) (l m : Elaboration) (site : Site)
      → IsSite k o m site → k.IsValue l m site.frame v
      → Runs k m (element_of v i site m) (λ v n. k.IsValue l n site.frame v)
  unfolding element_of
  element_runs v i means o l m site at is = bind k m _ _ (bind k m _ _ (free k m (indexable site.line v))
      (λ x leads _. int_runs k i means o x.1 site (site_on k o m x.1 site leads at)))
      (λ y leads _. lifted k y.1 _ (k.element_value l y.1 site.frame site.line v y.0 (k.value_on l m y.1 site.frame
      v leads is)))

  pub index_runs : (e i : Meaning) → IsMeaning k e → IsMeaning k i → (o : Origin) (m : Elaboration) (site : Site)
      → IsSite k o m site
      → Runs k m (index e i site m) (λ v n. k.IsValue m n site.frame v)
  unfolding index
  index_runs e i first second o m site at = bind k m _ _ (first o m site at) (λ x leads is. element_runs x.0 i
      second o m x.1 site (site_on k o m x.1 site leads at) is)

  bounds_runs : (lo hi : Meaning) → IsMeaning k lo → IsMeaning k hi → (o : Origin) (m : Elaboration) (site : Site)
      → IsSite k o m site → Runs k m (bounds lo hi site m) (λ _ _. Unit {0})
  unfolding bounds
  bounds_runs lo hi first second o m site at = bind k m _ _ (int_runs k lo first o m site at) (λ x leads _.
      bind k x.1 _ _ (int_runs k hi second o x.1 site (site_on k o m x.1 site leads at)) (λ y onward _. done k y.1
      (x.0, y.0) tt))

  slice_of_runs : (v : Value) (lo hi : Meaning) → IsMeaning k lo → IsMeaning k hi
      → (o : Origin) (l m : Elaboration) (site : Site) → IsSite k o m site → k.IsValue l m site.frame v
      → Runs k m (slice_of v lo hi site m) (λ v n. k.IsValue l n site.frame v)
  unfolding slice_of
  slice_of_runs v lo hi first second o l m site at is = bind k m _ _ (bind k m _ _ (free k m (sliceable site.line
      v)) (λ x leads _. bounds_runs lo hi first second o x.1 site (site_on k o m x.1 site leads at)))
      (λ y leads _. lifted k y.1 _ (k.slice_value l y.1 site.frame site.line v y.0.0 y.0.1 (k.value_on l m y.1
      site.frame v leads is)))

  pub slice_runs : (e lo hi : Meaning) → IsMeaning k e → IsMeaning k lo → IsMeaning k hi
      → (o : Origin) (m : Elaboration) (site : Site) → IsSite k o m site
      → Runs k m (slice_expression e lo hi site m) (λ v n. k.IsValue m n site.frame v)
  unfolding slice_expression
  slice_runs e lo hi first second third o m site at = bind k m _ _ (first o m site at) (λ x leads is. slice_of_runs
      x.0 lo hi second third o m x.1 site (site_on k o m x.1 site leads at) is)

  -- ---- lists

  -- one more element, which costs a step
  item_runs : (line : ℕ) (e : Elab Value) (o : Origin) (l m : Elaboration) (site : Site) (done_ : List Value)
      → IsSite k o m site → k.IsItems l m site.frame done_
      → ((n : Elaboration) → IsSite k o n site → Runs k n (e n) (λ v n'. k.IsValue n n' site.frame v))
      → Runs k m (and_then (step line m) (λ r. e r.1)) (λ v n. k.IsItems l n site.frame (done_ ++ v ∷ []))
  item_runs line e o l m site vs at is each = bind k m _ _ (steps k line m) (λ x leads step.
      so k x.1 _ (each x.1 (site_on k o m x.1 site leads at)) (λ y onward value.
      k.items_more l m y.1 site.frame vs y.0 step.1 (subst (λ n. k.Leads n y.1) step.0 onward) is
      (subst (λ n. k.IsValue n y.1 site.frame y.0) step.0 value)))

  items_from_runs : (es : List Meaning) (o : Origin) (l m : Elaboration) (site : Site) (vs : List Value)
      → AreMeanings k es → IsSite k o m site → k.IsItems l m site.frame vs
      → Runs k m (items_from vs es site m) (λ ws n. k.IsItems l n site.frame ws)
  unfolding items_from
  items_from_runs [] o l m site vs means at is = done k m vs is
  items_from_runs (e ∷ es) o l m site vs means at is = bind k m _ _ (item_runs site.line (e.value site) o l m site
      vs at is (λ n here. means.0 o n site here)) (λ x leads more.
      items_from_runs es o l x.1 site (vs ++ x.0 ∷ []) means.1 (site_on k o m x.1 site leads at) more)

  pub items_runs : (es : List Meaning) → AreMeanings k es → (o : Origin) (m : Elaboration) (site : Site)
      → IsSite k o m site → Runs k m (items es site m) (λ v n. k.IsValue m n site.frame v)
  unfolding items
  items_runs es means o m site at = bind k m _ _ (items_from_runs es o m m site [] means at (k.items_none m
      site.frame)) (λ x leads is. done k x.1 _ (k.items_value m x.1 site.frame x.0 is))

  ints_runs : (ns : List ℤ) (es : List Meaning) → AreMeanings k es → (o : Origin) (m : Elaboration) (site : Site)
      → IsSite k o m site → Runs k m (ints_from ns es site m) (λ _ _. Unit {0})
  unfolding ints_from
  ints_runs ns [] means o m site at = done k m ns tt
  ints_runs ns (e ∷ es) means o m site at = bind k m _ _ (int_runs k e means.0 o m site at) (λ x leads _. ints_runs
      (ns ++ x.0 ∷ []) es means.1 o x.1 site (site_on k o m x.1 site leads at))

  pub range_runs : (es : List Meaning) → AreMeanings k es → (o : Origin) (m : Elaboration) (site : Site)
      → IsSite k o m site → Runs k m (range es site m) (λ _ _. Unit {0})
  unfolding range
  range_runs es means o m site at = bind k m _ _ (ints_runs [] es means o m site at) (λ x leads _. lifted k x.1 _
      (any (range_of site.line x.0)))

  turns_from_runs : (ns : List ℤ) (e : Meaning) (name : List ℕ) → IsMeaning k e
      → (o : Origin) (l m : Elaboration) (site : Site) (vs : List Value) → IsSite k o m site
      → k.IsItems l m site.frame vs
      → Runs k m (turns_from vs e name ns site m) (λ ws n. k.IsItems l n site.frame ws)
  unfolding turns_from turn
  turns_from_runs [] e name means o l m site vs at is = done k m vs is
  turns_from_runs (n ∷ ns) e name means o l m site vs at is =
      bind k m _ _ (item_runs site.line (e.value (with_turn site name n)) o l m site vs at is (λ n' here. means o n'
      (with_turn site name n) (turn_site k o n' site name n here))) (λ x leads more.
      turns_from_runs ns e name means o l x.1 site (vs ++ x.0 ∷ []) (site_on k o m x.1 site leads at) more)

  turns_runs : (e : Meaning) (name : List ℕ) (ns : List ℤ) → IsMeaning k e
      → (o : Origin) (m : Elaboration) (site : Site) → IsSite k o m site
      → Runs k m (turns e name ns site m) (λ v n. k.IsValue m n site.frame v)
  unfolding turns
  turns_runs e name ns means o m site at = bind k m _ _ (turns_from_runs ns e name means o m m site [] at
      (k.items_none m site.frame)) (λ x leads is. done k x.1 _ (k.items_value m x.1 site.frame x.0 is))

  pub comprehension_runs : (e : Meaning) (name : List ℕ) (es : List Meaning) → IsMeaning k e → AreMeanings k es
      → (o : Origin) (m : Elaboration) (site : Site) → IsSite k o m site
      → Runs k m (comprehension e name es site m) (λ v n. k.IsValue m n site.frame v)
  unfolding comprehension
  comprehension_runs e name es first means o m site at = bind k m _ _ (range_runs es means o m site at) (λ x leads _.
      from m x.1 site.frame _ leads (turns_runs e name x.0 first o x.1 site (site_on k o m x.1 site leads at)))
