-- Expressions, by their trees.
use Rattle.std.proofs.Common.{◌≡◌, ◌++◌, ℕ, List, [], ◌∷◌, refl, sym, subst, map}
use Rattle.std.specs.Prelude.{IsTrue, nat_lt, nat_le, Option, Some, None}
use Rattle.pm_design.specs.declared.body.Ex.{Ex}
use Rattle.std.proofs.lemmas.Bool.{le-leb, eq-eqb}
use Rattle.pm_design.specs.Typing.{typing}
use Rattle.pm_syn.specs.declared.expression.Arg.{Arg, Arg-F, fold-roll-Arg, roll-Arg}
use Rattle.pm_syn.specs.declared.expression.BinaryOp.{BinaryOp}
use Rattle.pm_syn.specs.declared.expression.Expr.{Expr, Expr-F, fold-roll-Expr, roll-Expr}
use Rattle.pm_syn.specs.declared.expression.Expr.TheFolds.{ind-Expr, map-Expr, map-Arg}
use Rattle.pm_syn.specs.declared.expression.UnaryOp.{UnaryOp}
use Rattle.pm_values.specs.declared.reference.ValueType.{ValueType}
use Rattle.pm_values.specs.Integers.{is_zero}
use Rattle.pm_elab.specs.Values.{bits_of}
use Rattle.pm_typing.specs.declared.fault.TypeFault.TheVariants.{NotAllowedHere}
use Rattle.pm_typing.specs.declared.operand.Effected.{Effected}
use Rattle.pm_typing.specs.declared.operand.Effected.TheVariants as effected
use Rattle.pm_typing.specs.declared.operand.Operand.{Operand}
use Rattle.pm_typing.specs.declared.operand.Operand.TheVariants as operands
use Rattle.pm_typing.specs.declared.thing.BodyFunction.{BodyFunction}
use Rattle.pm_typing.specs.declared.thing.BodyFunction.TheVariants as functions
use Rattle.pm_typing.specs.Calls.{constant_call, field_types, struct_value}
use Rattle.pm_typing.specs.Counted.{Counted, ◌>>=◌, pure, lift}
use Rattle.pm_typing.specs.Expressions.{Meaning, Passed, plainly, operand, unary, binary, branches, choice_by, choice, attribute_of, indexed, index, slice_expression, operands_from, any_named, values_call, length_meant, length_call, function_call, only_literal, integer_call, width_call_by, width_call, struct_call, type_call_by, type_call, is_bare, call_of, call, effect_of, right_call_of, right_call, truth_thing, meaning_of, passed_of, meaning, passed}
use Rattle.pm_typing.specs.Functions.{called, length_of}
use Rattle.pm_typing.specs.Names.{name_thing}
use Rattle.pm_typing.specs.Operands.{bits_value, condition, value_of}
use Rattle.pm_typing.specs.Operators.{application, either, literal, operation}
use Rattle.pm_typing.specs.Picks.{dynamic}
use Rattle.pm_typing.specs.References.{attribute, sliced}
use Rattle.pm_typing.specs.Sites.{Site, within_index}
use Rattle.pm_typing.specs.Things as things
use Rattle.pm_typing.specs.Things.{Thing, Right}
use Rattle.pm_type_laws.specs.Views.{ExpressionsAreSound, Each, IsSite, View, is_typed}
use Rattle.pm_type_laws.specs.Good.{is_type}
use Rattle.pm_type_laws.proofs.Yields.{On, Yields, test_on, bind, done, failed, lifted, test}
use Rattle.pm_type_laws.proofs.Things.{IsThing, IsOperand, IsTyped, is_deque}
use Rattle.pm_type_laws.proofs.Named.{name_is}
use Rattle.pm_type_laws.proofs.Cuts.{attribute_is, sliced_is, type_width}
use Rattle.pm_type_laws.proofs.Values.{both}
use Rattle.pm_typing.specs.declared.tally.Tally.{Tally}
use Rattle.pm_type_laws.proofs.Picking.{dynamic_is}
use Rattle.pm_type_laws.proofs.Valued.{Fits, bits_value_is, condition_fits, element_of, typed_parts, value_is}
use Rattle.pm_type_laws.proofs.Applied.{application_is, either_is, operation_is}
use Rattle.pm_type_laws.proofs.Called.{called_is, constant_call_is, length_is, literal_constant_is, ready_is, struct_is}

module _ (s : View) where
  -- what a call that may change states calls
  abbrev pub IsEffected : Site → Effected → Type 0
  IsEffected site (effected.Method c) = IsTrue (s.sight.calls c).there
  IsEffected site (effected.Deque k c) = IsTrue (is_deque site.scope k)

  -- what stands by itself, or as a whole right side
  abbrev pub IsRight : Site → Right → Type 0
  IsRight site (things.plain t) = IsThing s site.scope t
  IsRight site (things.effect x) = IsEffected site x.what × Each (IsOperand s site.scope) x.arguments

  -- an expression that gives what it should wherever it stands
  pub record IsMeaning (e : Meaning) : Type 0 where
    pub thing : (site : Site) → IsSite s site → Yields (IsThing s site.scope) (e.thing site)
    pub right : (site : Site) → IsSite s site → Yields (IsRight site) (e.right site)

  -- arguments that do
  abbrev pub ArePassed : List Passed → Type 0
  ArePassed = Each (λ (p : Passed). IsMeaning p.meaning)

  -- what gives a thing gives a right side
  plainly_is : (f : Site → Counted Thing) → ((site : Site) → IsSite s site → Yields (IsThing s site.scope) (f site))
      → (site : Site) → IsSite s site → Yields (IsRight site) (plainly f site)
  plainly_is f is site at =
      bind (IsThing s site.scope) (IsRight site) (f site) (λ t. pure (things.plain t)) (is site at) (λ t good. done (IsRight site) (things.plain t) good)

  compound_is : (f : Site → Counted Thing) → ((site : Site) → IsSite s site → Yields (IsThing s site.scope) (f site))
      → IsMeaning (record { literal = None; thing = f; right = plainly f })
  compound_is f is = record { thing = is; right = plainly_is f is }

  pub operand_is : (e : Meaning) → IsMeaning e → (site : Site) → IsSite s site
      → Yields (IsOperand s site.scope) (operand e site)
  unfolding operand
  operand_is e is site at =
      bind (IsThing s site.scope) (IsOperand s site.scope) (e.thing site) (λ t. value_of site.scope site.line t) (is.thing site at)
      (λ t good. value_is s site.scope at.0 site.line t good)

  -- ---- operators

  literal_is : (site : Site) (n : ℕ) → On (IsThing s site.scope) (literal site.line n)
  unfolding literal
  literal_is site n = test_on (IsThing s site.scope) (nat_lt n _) _ _ (λ _. tt) tt

  unary_is : (o : UnaryOp) (e : Meaning) → IsMeaning e → (site : Site) → IsSite s site
      → Yields (IsThing s site.scope) (unary o e site)
  unfolding unary
  unary_is o e is site at =
      bind (IsOperand s site.scope) (IsThing s site.scope) (operand e site) (λ x. application site.line o x) (operand_is e is site at)
      (λ x good. application_is s site.scope site.line o x good)

  binary_is : (o : BinaryOp) (a b : Meaning) → IsMeaning a → IsMeaning b → (site : Site) → IsSite s site
      → Yields (IsThing s site.scope) (binary o a b site)
  unfolding binary
  binary_is o a b left right site at =
      bind (IsOperand s site.scope) (IsThing s site.scope) (operand a site) (λ x. operand b site >>= (λ y. operation site.line o x y)) (operand_is a left site at)
      (λ x first. bind (IsOperand s site.scope) (IsThing s site.scope) (operand b site) (λ y. operation site.line o x y) (operand_is b right site at)
      (λ y second. operation_is s site.scope site.line o x y first second))

  branches_are : (c : Ex) (a b : Meaning) → IsMeaning a → IsMeaning b → (site : Site) → IsSite s site
      → Fits s site.scope (bits_of 1) c
      → Yields (IsThing s site.scope) (branches c a b site)
  unfolding branches
  branches_are c a b left right site at tested =
      bind (IsOperand s site.scope) (IsThing s site.scope) (operand a site) (λ x. operand b site >>= (λ y. either site.line c x y)) (operand_is a left site at)
      (λ x first. bind (IsOperand s site.scope) (IsThing s site.scope) (operand b site) (λ y. either site.line c x y) (operand_is b right site at)
      (λ y second. either_is s site.scope site.line c x y tested first second))

  choice_by_is : (x : Operand) (a b : Meaning) → IsMeaning a → IsMeaning b → (site : Site) → IsSite s site
      → IsOperand s site.scope x
      → Yields (IsThing s site.scope) (choice_by x a b site)
  unfolding choice_by
  choice_by_is (operands.Int n) a b left right site at is =
      test (IsThing s site.scope) (is_zero n) (b.thing site) (a.thing site) (λ _. right.thing site at) (left.thing site at)
  choice_by_is (operands.Bits e ty) a b left right site at is =
      bind (Fits s site.scope (bits_of 1)) (IsThing s site.scope) (condition site.line e ty) (λ c. branches c a b site)
      (condition_fits s site.scope site.line e ty is) (λ c tested. branches_are c a b left right site at tested)

  choice_is : (a c b : Meaning) → IsMeaning a → IsMeaning c → IsMeaning b → (site : Site) → IsSite s site
      → Yields (IsThing s site.scope) (choice a c b site)
  unfolding choice
  choice_is a c b left tested right site at =
      bind (IsOperand s site.scope) (IsThing s site.scope) (operand c site) (λ x. choice_by x a b site) (operand_is c tested site at)
      (λ x good. choice_by_is x a b left right site at good)

  -- ---- attributes, elements and slices

  attributes_are : (e : Meaning) (name : List ℕ) → IsMeaning e → (site : Site) → IsSite s site
      → Yields (IsThing s site.scope) (attribute_of e name site)
  unfolding attribute_of
  attributes_are e name is site at =
      bind (IsThing s site.scope) (IsThing s site.scope) (e.thing site) (λ t. lift (attribute site.scope site.line name t)) (is.thing site at)
      (λ t good. lifted (IsThing s site.scope) (attribute site.scope site.line name t) (attribute_is s site.scope at.0 site.line name t good))

  by_bits : (site : Site) (t i : Thing) → IsSite s site → IsThing s site.scope t → IsThing s site.scope i
      → Yields (IsThing s site.scope) (bits_value site.scope site.line i >>= (λ e. dynamic site.line site.inside_index e t))
  by_bits site t i at good index =
      bind (IsTyped s site.scope) (IsThing s site.scope) (bits_value site.scope site.line i) (λ e. dynamic site.line site.inside_index e t)
      (bits_value_is s site.scope at.0 site.line i index) (λ e typed. dynamic_is s site.scope at.0 site.line site.inside_index e t typed good)

  indexed_is : (site : Site) (t i : Thing) → IsSite s site → IsThing s site.scope t → IsThing s site.scope i
      → Yields (IsThing s site.scope) (indexed site t i)
  unfolding indexed
  indexed_is site t (things.integer k) at good index = element_of s site.scope at.0 site.line k t good
  indexed_is site t i at good index = by_bits site t i at good index

  index_is : (e i : Meaning) → IsMeaning e → IsMeaning i → (site : Site) → IsSite s site
      → Yields (IsThing s site.scope) (index e i site)
  unfolding index
  index_is e i is by site at =
      bind (IsThing s site.scope) (IsThing s site.scope) (e.thing site) (λ t. i.thing (within_index site) >>= (λ k. indexed site t k)) (is.thing site at)
      (λ t good. bind (IsThing s site.scope) (IsThing s site.scope) (i.thing (within_index site)) (λ k. indexed site t k) (by.thing (within_index site) at)
      (λ k index. indexed_is site t k at good index))

  slice_is : (e lo hi : Meaning) → IsMeaning e → IsMeaning lo → IsMeaning hi → (site : Site) → IsSite s site
      → Yields (IsThing s site.scope) (slice_expression e lo hi site)
  unfolding slice_expression
  slice_is e lo hi is low high site at =
      bind (IsThing s site.scope) (IsThing s site.scope) (e.thing site) _ (is.thing site at)
      (λ t good. bind (IsThing s site.scope) (IsThing s site.scope) (lo.thing site) _ (low.thing site at)
      (λ a _. bind (IsThing s site.scope) (IsThing s site.scope) (hi.thing site) _ (high.thing site at)
      (λ b _. lifted (IsThing s site.scope) (sliced site.line a b t) (sliced_is s site.scope site.line a b t good))))

  -- ---- calls

  behind : (site : Site) (xs : List Operand) (x : Operand) → Each (IsOperand s site.scope) xs → IsOperand s site.scope x
      → Each (IsOperand s site.scope) (xs ++ x ∷ [])
  behind site [] x each is = (is, tt)
  behind site (y ∷ xs) x each is = (each.0, behind site xs x each.1 is)

  pub operands_are : (xs : List Operand) (ps : List Passed) (site : Site) → Each (IsOperand s site.scope) xs
      → ArePassed ps → IsSite s site
      → Yields (Each (IsOperand s site.scope)) (operands_from xs ps site)
  unfolding operands_from
  operands_are xs [] site each are at = done (Each (IsOperand s site.scope)) xs each
  operands_are xs (p ∷ ps) site each are at =
      bind (IsOperand s site.scope) (Each (IsOperand s site.scope)) (operand p.meaning site) (λ x. operands_from (xs ++ x ∷ []) ps site)
      (operand_is p.meaning are.0 site at) (λ x is. operands_are (xs ++ x ∷ []) ps site (behind site xs x each is) are.1 at)

  values_call_is : (f : BodyFunction) (ps : List Passed) (site : Site) → ArePassed ps → IsSite s site
      → Yields (IsThing s site.scope) (values_call f ps site)
  unfolding values_call
  values_call_is f ps site are at =
      bind (Each (IsOperand s site.scope)) (IsThing s site.scope) (operands_from [] ps site) (λ xs. called f site.line (any_named ps) xs)
      (operands_are [] ps site tt are at) (λ xs each. called_is s site.scope f site.line (any_named ps) xs each)

  length_meant_is : (e : Meaning) (site : Site) → IsMeaning e → IsSite s site
      → Yields (IsThing s site.scope) (length_meant e site)
  unfolding length_meant
  length_meant_is e site is at =
      bind (IsThing s site.scope) (IsThing s site.scope) (e.thing site) (λ t. length_of site.scope site.line t) (is.thing site at)
      (λ t good. length_is s site.scope at.0 site.line t good)

  length_call_is : (ps : List Passed) (site : Site) → ArePassed ps → IsSite s site
      → Yields (IsThing s site.scope) (length_call ps site)
  unfolding length_call
  length_call_is [] site are at = failed (IsThing s site.scope) (NotAllowedHere site.line)
  length_call_is (p ∷ []) site are at =
      test (IsThing s site.scope) p.named _ (length_meant p.meaning site) (λ _. failed (IsThing s site.scope) (NotAllowedHere site.line))
      (length_meant_is p.meaning site are.0 at)
  length_call_is (p ∷ q ∷ ps) site are at = failed (IsThing s site.scope) (NotAllowedHere site.line)

  function_call_is : (f : BodyFunction) (ps : List Passed) (site : Site) → ArePassed ps → IsSite s site
      → Yields (IsThing s site.scope) (function_call f ps site)
  unfolding function_call
  function_call_is functions.Length ps site are at = length_call_is ps site are at
  function_call_is f ps site are at = values_call_is f ps site are at

  width_call_is : (width : ℕ) (ps : List Passed) (site : Site) → ArePassed ps → IsSite s site
      → Yields (IsThing s site.scope) (width_call width ps site)
  unfolding width_call integer_call
  width_call_is width ps site are at = by (only_literal ps)
    where
      by : (n : Option ℕ) → Yields (IsThing s site.scope) (width_call_by n width ps site)
      by (Some n) = literal_constant_is s site.scope site.line width n
      by None =
          bind (Each (IsOperand s site.scope)) (IsThing s site.scope) (operands_from [] ps site) (λ xs. constant_call site.line width (any_named ps) xs)
          (operands_are [] ps site tt are at) (λ xs each. constant_call_is s site.scope site.line width (any_named ps) xs)

  type_call_is : (ty : ValueType) (ps : List Passed) (site : Site)
      → IsTrue (is_type site.scope.design.design.shapes ty) → ArePassed ps → IsSite s site
      → Yields (IsThing s site.scope) (type_call ty ps site)
  unfolding type_call struct_call
  type_call_is ty ps site is are at = by ty.shape refl
    where
      by : (shape : Option ℕ) → ty.shape ≡ shape → Yields (IsThing s site.scope) (type_call_by shape ty ps site)
      by (Some k) same =
          bind (Each (IsOperand s site.scope)) (IsThing s site.scope) (operands_from [] ps site)
          (λ xs. struct_value site.line ty (field_types site.scope k) (any_named ps) xs) (operands_are [] ps site tt are at)
          (λ xs each. struct_is s site.scope at.0 site.line ty k (any_named ps) xs same is each)
      by None same = width_call_is ty.width ps site are at

  call_of_is : (t : Thing) (ps : List Passed) (site : Site) → IsThing s site.scope t → ArePassed ps → IsSite s site
      → Yields (IsThing s site.scope) (call_of t ps site)
  unfolding call_of
  call_of_is (things.function f) ps site is are at = function_call_is f ps site are at
  call_of_is (things.of_type ty) ps site is are at = type_call_is ty ps site is are at
  call_of_is (things.ready c) ps site is are at = ready_is s site.scope site.line c (is_bare ps) is
  call_of_is _ ps site is are at = failed (IsThing s site.scope) (NotAllowedHere site.line)

  call_is : (f : Meaning) (ps : List Passed) → IsMeaning f → ArePassed ps → (site : Site) → IsSite s site
      → Yields (IsThing s site.scope) (call f ps site)
  unfolding call
  call_is f ps is are site at =
      bind (IsThing s site.scope) (IsThing s site.scope) (f.thing site) (λ t. call_of t ps site) (is.thing site at) (λ t good. call_of_is t ps site good are at)

  effect_is : (what : Effected) (ps : List Passed) (site : Site) → IsEffected site what → ArePassed ps → IsSite s site
      → Yields (IsRight site) (effect_of what ps site)
  unfolding effect_of
  effect_is what ps site is are at =
      bind (Each (IsOperand s site.scope)) (IsRight site) (operands_from [] ps site)
      (λ xs. pure (things.effect (record { what = what; arguments = xs; named = any_named ps }))) (operands_are [] ps site tt are at)
      (λ xs each. done (IsRight site) (things.effect (record { what = what; arguments = xs; named = any_named ps })) (is, each))

  plain_call : (t : Thing) (ps : List Passed) (site : Site) → IsThing s site.scope t → ArePassed ps → IsSite s site
      → Yields (IsRight site) (call_of t ps site >>= (λ x. pure (things.plain x)))
  plain_call t ps site is are at =
      bind (IsThing s site.scope) (IsRight site) (call_of t ps site) (λ x. pure (things.plain x)) (call_of_is t ps site is are at)
      (λ x good. done (IsRight site) (things.plain x) good)

  right_call_of_is : (t : Thing) (ps : List Passed) (site : Site) → IsThing s site.scope t → ArePassed ps
      → IsSite s site → Yields (IsRight site) (right_call_of t ps site)
  unfolding right_call_of
  right_call_of_is (things.method c) ps site is are at = effect_is (effected.Method c) ps site is are at
  right_call_of_is (things.change k c) ps site is are at = effect_is (effected.Deque k c) ps site is are at
  right_call_of_is t ps site is are at = plain_call t ps site is are at

  right_call_is : (f : Meaning) (ps : List Passed) → IsMeaning f → ArePassed ps → (site : Site) → IsSite s site
      → Yields (IsRight site) (right_call f ps site)
  unfolding right_call
  right_call_is f ps is are site at =
      bind (IsThing s site.scope) (IsRight site) (f.thing site) (λ t. right_call_of t ps site) (is.thing site at) (λ t good. right_call_of_is t ps site good are at)

  -- ---- all expressions

  abbrev IsGood : Expr → Type 0
  IsGood e = IsMeaning (meaning e)

  abbrev IsPassed : Arg → Type 0
  IsPassed a = IsMeaning (passed a).meaning

  are_passed : (gs : List ((a : Arg) × IsPassed a)) → ArePassed (map passed (map (λ a. a.0) gs))
  are_passed [] = tt
  are_passed (g ∷ gs) = (g.1, are_passed gs)

  layer : (y : Expr-F ((e : Expr) × IsGood e) ((a : Arg) × IsPassed a))
      → IsMeaning (meaning_of (map-Expr Expr Arg Meaning Passed meaning passed (map-Expr ((e : Expr) × IsGood e) ((a : Arg) × IsPassed a) Expr Arg (λ e. e.0) (λ a. a.0) y)))
  layer (Expr-F.Name n) = compound_is _ (λ site at. lifted (IsThing s site.scope) (name_thing n site) (name_is s site n at))
  layer (Expr-F.Int n) = record {
    thing = λ site at. lifted (IsThing s site.scope) (literal site.line n) (literal_is site n);
    right = plainly_is (λ site. lift (literal site.line n)) (λ site at. lifted (IsThing s site.scope) (literal site.line n) (literal_is site n));
  }
  layer (Expr-F.Bool b) = compound_is _ (λ site at. done (IsThing s site.scope) (truth_thing b) tt)
  layer (Expr-F.Unary o e) = compound_is _ (unary_is o (meaning e.0) e.1)
  layer (Expr-F.Binary o a b) = compound_is _ (binary_is o (meaning a.0) (meaning b.0) a.1 b.1)
  layer (Expr-F.Cond a c b) = compound_is _ (choice_is (meaning a.0) (meaning c.0) (meaning b.0) a.1 c.1 b.1)
  layer (Expr-F.Attr e n) = compound_is _ (attributes_are (meaning e.0) n e.1)
  layer (Expr-F.Call f gs) = record {
    thing = call_is (meaning f.0) (map passed (map (λ a. a.0) gs)) f.1 (are_passed gs);
    right = right_call_is (meaning f.0) (map passed (map (λ a. a.0) gs)) f.1 (are_passed gs);
  }
  layer (Expr-F.Index e i) = compound_is _ (index_is (meaning e.0) (meaning i.0) e.1 i.1)
  layer (Expr-F.Slice e lo hi) = compound_is _ (slice_is (meaning e.0) (meaning lo.0) (meaning hi.0) e.1 lo.1 hi.1)
  layer (Expr-F.Items es) = compound_is _ (λ site at. failed (IsThing s site.scope) (NotAllowedHere site.line))
  layer (Expr-F.Each e n es) = compound_is _ (λ site at. failed (IsThing s site.scope) (NotAllowedHere site.line))

  whole : (x : Expr-F Expr Arg) (y : Expr-F ((e : Expr) × IsGood e) ((a : Arg) × IsPassed a))
      → map-Expr ((e : Expr) × IsGood e) ((a : Arg) × IsPassed a) Expr Arg (λ e. e.0) (λ a. a.0) y ≡ x
      → IsGood (roll-Expr x)
  unfolding meaning passed
  whole x y is =
      let step : Expr-F Expr Arg → Type 0 = λ z. IsMeaning (meaning_of (map-Expr Expr Arg Meaning Passed meaning passed z)) in
      subst IsMeaning (sym (fold-roll-Expr Meaning Passed meaning_of passed_of x)) (subst step is (layer y))

  given : (x : Arg-F Expr Arg) (y : Arg-F ((e : Expr) × IsGood e) ((a : Arg) × IsPassed a))
      → map-Arg ((e : Expr) × IsGood e) ((a : Arg) × IsPassed a) Expr Arg (λ e. e.0) (λ a. a.0) y ≡ x
      → IsPassed (roll-Arg x)
  unfolding meaning passed
  given x y is =
      let step : Arg-F Expr Arg → Type 0 = λ z. IsMeaning (passed_of (map-Arg Expr Arg Meaning Passed meaning passed z)).meaning in
      subst (λ (p : Passed). IsMeaning p.meaning) (sym (fold-roll-Arg Meaning Passed meaning_of passed_of x)) (subst step is y.value.1)

  -- each expression gives what it should wherever it stands
  pub expression_is : (e : Expr) → IsMeaning (meaning e)
  expression_is e = ind-Expr IsGood IsPassed whole given e

-- the value of an expression is sound
pub expressions_are_sound : ExpressionsAreSound
expressions_are_sound view site e before after value ty at is =
    let typed : IsTrue (is_typed view site.scope value ty) =
    subst (On (λ (r : Operand × Tally). IsOperand view site.scope r.0)) is (operand_is view (meaning e) (expression_is view e) site at before) in
    let parts = typed_parts view site.scope value ty typed in
    let wide = type_width site.scope.design.design.shapes ty parts.typed in (
      both (typing view.sight value).fine _ parts.fine (eq-eqb _ _ parts.wide),
      (both (nat_le 1 ty.width) _ (le-leb 1 ty.width wide.0) (le-leb ty.width 128 wide.1), parts.reads),
    )
