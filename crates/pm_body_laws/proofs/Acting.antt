-- Calls that change states.
use Rattle.std.proofs.Common.{◌≡◌, ◌∙◌, ◌==◌, ◌||◌, ◌++◌, ℕ, Bool, true, false, List, [], ◌∷◌, refl, sym, ap, ap₂, subst, map, length, arith, ltb-true, eqb-true}
use Rattle.std.specs.Prelude.{IsTrue, bytes_eq, if◌then◌else◌, nat_lt, not, Option, Some, None, Ok}
use Rattle.std.specs.List.{list_all}
use Rattle.std.specs.Option.{option_map}
use Rattle.std.proofs.lemmas.Bool.{and_parts, eq-eqb, false≢true}
use Rattle.pm_design.specs.declared.body.Ex.{Ex}
use Rattle.pm_design.specs.declared.body.Side.{Side}
use Rattle.pm_design.specs.declared.connection.Callee.{Callee}
use Rattle.pm_design.specs.Settings.{Progress, behind_reading, behind_setting, in_turn, progress, reads_assigned}
use Rattle.pm_design.specs.Typing.{Sight, has_width, have_widths, is_sound, is_temp, state_of, takes_answer, typing}
use Rattle.pm_design.specs.Typing as sights
use Rattle.pm_design.proofs.Soundness.{sound_call, sound_clear, sound_pop, sound_push}
use Rattle.pm_design.proofs.Progressing.{progress_call, progress_clear, progress_pop, progress_push}
use Rattle.pm_values.specs.declared.reference.ValueType.{ValueType}
use Rattle.pm_typing.specs.declared.fault.TypeFault.TheVariants.{NotAllowedHere}
use Rattle.pm_typing.specs.declared.operand.Change.{Change}
use Rattle.pm_typing.specs.declared.operand.Change.TheVariants as changes
use Rattle.pm_typing.specs.declared.operand.Effect.{Effect}
use Rattle.pm_typing.specs.declared.operand.Effected.{Effected}
use Rattle.pm_typing.specs.declared.operand.Effected.TheVariants as effected
use Rattle.pm_typing.specs.declared.operand.Operand.{Operand}
use Rattle.pm_typing.specs.Calls.{fitted_from}
use Rattle.pm_typing.specs.Counted.{fail, lift}
use Rattle.pm_typing.specs.Names.{most_items}
use Rattle.pm_typing.specs.Operands.{fitted, state_type}
use Rattle.pm_typing.specs.Sites.{Scope}
use Rattle.pm_typing.specs.Things as things
use Rattle.pm_type_laws.proofs.Expressions.{IsEffected, IsRight}
use Rattle.pm_typing.specs.declared.frame.Frame.{Frame}
use Rattle.pm_types.specs.Assignments.{here}
use Rattle.pm_types.specs.declared.effects.Act.TheVariants as act
use Rattle.pm_types.specs.declared.effects.Acted.{Acted}
use Rattle.pm_types.specs.declared.effects.CallTypes.{CallTypes}
use Rattle.pm_types.specs.Effects.{acted, acted_at, allowed, arguments_for, bare_act, call_types, deque_act, may_change, method_act, method_act_if, method_called, push_act, push_at, pushed, statement_of}
use Rattle.pm_type_laws.specs.Good.{is_state, is_type}
use Rattle.pm_type_laws.specs.Views.{Each, View, is_typed}
use Rattle.pm_type_laws.proofs.Things.{IsOperand, is_deque}
use Rattle.pm_type_laws.proofs.Yields.{On, Where, Yields, bind, done, failed, lifted, test, test_on}
use Rattle.pm_type_laws.proofs.Values.{both}
use Rattle.pm_type_laws.proofs.Valued.{Fits, HasState, deque_has, fitted_is, state_held, typed_parts}
use Rattle.pm_body_laws.specs.Premises.{Allows, IsCalled}
use Rattle.pm_body_laws.proofs.Frames.{IsDone}

-- ---- reading several expressions

abbrev Readings : List Ex → Progress → Progress
Readings es p = in_turn (map behind_reading es) p

readings_assign : (es : List Ex) (p : Progress) → (Readings es p).assigned ≡ p.assigned
readings_assign [] p = refl
readings_assign (e ∷ es) p = readings_assign es (behind_reading e p)

readings_fine : (es : List Ex) (p : Progress) → IsTrue p.fine → IsTrue (list_all (reads_assigned p.assigned) es) → IsTrue (Readings es p).fine
readings_fine [] p fine all = fine
readings_fine (e ∷ es) p fine all =
    let parts = and_parts (reads_assigned p.assigned e) (list_all (reads_assigned p.assigned) es) all in
    readings_fine es (behind_reading e p) (both p.fine (reads_assigned p.assigned e) fine parts.0) parts.1

abbrev view : Sight → Progress → View
view s p = record { sight = s; assigned = p.assigned }

-- expressions of types, one for each
abbrev AreArguments : View → Scope → List Ex → List ValueType → Type 0
AreArguments v scope [] [] = Unit {0}
AreArguments v scope [] (ty ∷ tys) = ⊥
AreArguments v scope (e ∷ es) [] = ⊥
AreArguments v scope (e ∷ es) (ty ∷ tys) = IsTrue (is_typed v scope e ty) × AreArguments v scope es tys

module _ (s : Sight) (scope : Scope) where
  argument_behind : (v : View) (es : List Ex) (tys : List ValueType) (e : Ex) (ty : ValueType) → AreArguments v scope es tys → IsTrue (is_typed v scope e ty)
      → AreArguments v scope (es ++ e ∷ []) (tys ++ ty ∷ [])
  argument_behind v [] [] e ty are is = (is, tt)
  argument_behind v [] (t ∷ tys) e ty are is = absurd are
  argument_behind v (x ∷ es) [] e ty are is = absurd are
  argument_behind v (x ∷ es) (t ∷ tys) e ty are is = (are.0, argument_behind v es tys e ty are.1 is)

  tys_append : (xs ys zs : List ValueType) → (xs ++ ys) ++ zs ≡ xs ++ (ys ++ zs)
  tys_append [] ys zs = refl
  tys_append (x ∷ xs) ys zs = ap (λ (ws : List ValueType). x ∷ ws) (tys_append xs ys zs)

  tys_nil : (xs : List ValueType) → xs ++ [] ≡ xs
  tys_nil [] = refl
  tys_nil (x ∷ xs) = ap (λ (ws : List ValueType). x ∷ ws) (tys_nil xs)

  -- values that fit so many types
  arguments_are : (v : View) (line : ℕ) (es : List Ex) (tys more : List ValueType) (xs : List Operand) → AreArguments v scope es tys
      → Each (IsOperand v scope) xs → length xs ≡ length more
      → Yields (λ (es : List Ex). AreArguments v scope es (tys ++ more)) (fitted_from line es more xs)
  unfolding fitted_from
  arguments_are v line es tys [] [] are each same =
      done (λ (es : List Ex). AreArguments v scope es (tys ++ [])) es (subst (λ (ts : List ValueType). AreArguments v scope es ts) (sym (tys_nil tys)) are)
  arguments_are v line es tys [] (x ∷ xs) are each same = absurd (omega (arith, same))
  arguments_are v line es tys (ty ∷ more) [] are each same = absurd (omega (arith, same))
  arguments_are v line es tys (ty ∷ more) (x ∷ xs) are each same =
      bind (Fits v scope ty) (λ (es : List Ex). AreArguments v scope es (tys ++ ty ∷ more)) (fitted line ty x)
      (λ e. fitted_from line (es ++ e ∷ []) more xs) (fitted_is v scope line ty x each.0)
      (λ e is. subst (λ (ts : List ValueType). Yields (λ (es : List Ex). AreArguments v scope es ts) (fitted_from line (es ++ e ∷ []) more xs))
      (tys_append tys (ty ∷ []) more)
      (arguments_are v line (es ++ e ∷ []) (tys ++ ty ∷ []) more xs (argument_behind v es tys e ty are is) each.1 (omega (arith, same))))

  arguments_fine : (v : View) (es : List Ex) (tys : List ValueType) → AreArguments v scope es tys → IsTrue (list_all (λ e. (typing v.sight e).fine) es)
  arguments_fine v [] [] are = refl
  arguments_fine v [] (ty ∷ tys) are = absurd are
  arguments_fine v (e ∷ es) [] are = absurd are
  arguments_fine v (e ∷ es) (ty ∷ tys) are = both (typing v.sight e).fine _ (typed_parts v scope e ty are.0).fine (arguments_fine v es tys are.1)

  arguments_read : (v : View) (es : List Ex) (tys : List ValueType) → AreArguments v scope es tys → IsTrue (list_all (reads_assigned v.assigned) es)
  arguments_read v [] [] are = refl
  arguments_read v [] (ty ∷ tys) are = absurd are
  arguments_read v (e ∷ es) [] are = absurd are
  arguments_read v (e ∷ es) (ty ∷ tys) are = both (reads_assigned v.assigned e) _ (typed_parts v scope e ty are.0).reads (arguments_read v es tys are.1)

  arguments_wide : (v : View) (es : List Ex) (tys : List ValueType) → AreArguments v scope es tys
      → map (λ e. (typing v.sight e).width) es ≡ map (λ t. t.width) tys
  arguments_wide v [] [] are = refl
  arguments_wide v [] (ty ∷ tys) are = absurd are
  arguments_wide v (e ∷ es) [] are = absurd are
  arguments_wide v (e ∷ es) (ty ∷ tys) are = ap₂ (λ (n : ℕ) (ns : List ℕ). n ∷ ns) (typed_parts v scope e ty are.0).wide (arguments_wide v es tys are.1)

  same_bytes : (xs : List ℕ) → bytes_eq xs xs ≡ true
  same_bytes [] = refl
  same_bytes (x ∷ xs) = both (x == x) _ (eq-eqb x x refl) (same_bytes xs)

  -- ---- acts

  -- a temporary for an answer, if one is named
  abbrev pub HasTemp : Option ValueType → Option ℕ → Type 0
  HasTemp answer None = Unit {0}
  HasTemp None (Some t) = ⊥
  HasTemp (Some ty) (Some t) = IsTrue (is_temp s ty.width t)

  abbrev Sets : Progress → Option ℕ → Type 0
  Sets p None = Unit {0}
  Sets p (Some t) = IsTrue (p.assigned t)

  -- an act where this is assigned: its statement is sound, whichever temporary takes its answer
  pub record Acts (p : Progress) (a : Acted) : Type 0 where
    pub done : IsTrue p.fine → (target : Option ℕ) → HasTemp a.answer target → IsDone s scope p (statement_of a.act target)
    pub sets : (t : ℕ) (ty : ValueType) → a.answer ≡ Some ty → IsTrue ((progress (statement_of a.act (Some t)) p).assigned t)
    pub typed : (ty : ValueType) → a.answer ≡ Some ty → IsTrue (is_type scope.design.design.shapes ty)

  pub setting_fine : (target : Option ℕ) (p : Progress) → IsTrue p.fine → IsTrue (behind_setting target p).fine
  setting_fine None p fine = fine
  setting_fine (Some t) p fine = fine

  or_right : (a b : Bool) → IsTrue b → IsTrue (a || b)
  or_right true b is = refl
  or_right false b is = is

  or_left : (a b : Bool) → IsTrue a → IsTrue (a || b)
  or_left true b is = refl
  or_left false b is = absurd (false≢true is)

  pub setting_keeps : (target : Option ℕ) (p : Progress) (t : ℕ) → IsTrue (p.assigned t) → IsTrue ((behind_setting target p).assigned t)
  setting_keeps None p t is = is
  setting_keeps (Some u) p t is = or_right (t == u) (p.assigned t) is

  pub setting_sets : (t : ℕ) (p : Progress) → IsTrue ((behind_setting (Some t) p).assigned t)
  setting_sets t p = or_left (t == t) (p.assigned t) (eq-eqb t t refl)

  same_type_width : (n : ℕ) (ty : ValueType) (t : ℕ) → ty.width ≡ n → IsTrue (is_temp s ty.width t) → IsTrue (is_temp s n t)
  same_type_width n ty t same is = subst (λ (k : ℕ). IsTrue (is_temp s k t)) same is

  -- ---- calls of methods

  takes_result : (types : CallTypes) (target : Option ℕ) → HasTemp types.result target
      → IsTrue (takes_answer s (option_map (λ t. t.width) types.result) target)
  takes_result types None has = refl
  takes_result types (Some t) has = by types.result has
    where
      by : (result : Option ValueType) → HasTemp result (Some t) → IsTrue (takes_answer s (option_map (λ t. t.width) result) (Some t))
      by None has = absurd has
      by (Some ty) has = has

  call_acts : (p : Progress) (c : Callee) (es : List Ex) (types : CallTypes) → IsTrue s.changes → IsCalled s scope c types
      → AreArguments (view s p) scope es types.arguments → Acts p (record { act = act.Call c es; answer = types.result })
  unfolding statement_of
  call_acts p c es types changes called are =
      let widths : map (λ e. (typing s e).width) es ≡ (s.calls c).arguments = arguments_wide (view s p) es types.arguments are ∙ sym called.arguments in
      let have : IsTrue (have_widths s (s.calls c).arguments es) =
      both (list_all (λ e. (typing s e).fine) es) _ (arguments_fine (view s p) es types.arguments are)
      (subst (λ (ns : List ℕ). IsTrue (bytes_eq (map (λ e. (typing s e).width) es) ns)) widths (same_bytes (map (λ e. (typing s e).width) es))) in
      let read = arguments_read (view s p) es types.arguments are in
      record {
        done = λ fine target has. record {
          sound = rw (sound_call s c es target)
              (both s.changes _ changes (both (s.calls c).there _ called.there (both (have_widths s (s.calls c).arguments es) _ have
              (subst (λ (answer : Option ℕ). IsTrue (takes_answer s answer target)) (sym called.answer) (takes_result types target has)))));
          fine = rw (progress_call c es target p) (setting_fine target (Readings es p) (readings_fine es p fine read));
          keeps = λ t is. rw (progress_call c es target p)
              (setting_keeps target (Readings es p) t (subst (λ (a : ℕ → Bool). IsTrue (a t)) (sym (readings_assign es p)) is));
        };
        sets = λ t ty is. rw (progress_call c es (Some t) p) (setting_sets t (Readings es p));
        typed = λ ty is. called.result ty is;
      }

  -- ---- changes of deques

  push_acts : (p : Progress) (k : ℕ) (side : Side) (e : Ex) → IsTrue s.changes → HasState (view s p) scope k → IsTrue (nat_lt 0 (most_items scope k))
      → IsTrue (is_typed (view s p) scope e (state_type scope k)) → Acts p (record { act = act.Push k side e; answer = None })
  unfolding statement_of
  push_acts p k side e changes held some typed =
      let parts = typed_parts (view s p) scope e (state_type scope k) typed in
      record {
        done = λ fine target has. record {
          sound = rw (sound_push s k side e)
              (both s.changes _ changes (both (sights.is_deque s 0 k) _ (deque_has (view s p) scope k 0 held (ltb-true _ _ some))
              (both (typing s e).fine _ parts.fine (eq-eqb _ _ (parts.wide ∙ sym held.width)))));
          fine = rw (progress_push k side e p) (both p.fine (reads_assigned p.assigned e) fine parts.reads);
          keeps = λ t is. rw (progress_push k side e p) is;
        };
        sets = λ t ty is. absurd (no_type ty is);
        typed = λ ty is. absurd (no_type ty is);
      }
    where
      no_type : (ty : ValueType) → None ≡ Some ty → ⊥
      no_type ty is = false≢true (ap (λ (x : Option ValueType). elim x as (λ _. Bool) [ Some y ↦ true | None ↦ false ]) is)

  pop_acts : (p : Progress) (k : ℕ) (side : Side) → IsTrue s.changes → HasState (view s p) scope k → IsTrue (nat_lt 0 (most_items scope k))
      → Acts p (record { act = act.Pop k side; answer = Some (state_type scope k) })
  unfolding statement_of
  pop_acts p k side changes held some = record {
    done = λ fine target has. record {
      sound = rw (sound_pop s k side target)
          (both s.changes _ changes (both (sights.is_deque s 0 k) _ (deque_has (view s p) scope k 0 held (ltb-true _ _ some)) (takes target has)));
      fine = rw (progress_pop k side target p) (setting_fine target p fine);
      keeps = λ t is. rw (progress_pop k side target p) (setting_keeps target p t is);
    };
    sets = λ t ty is. rw (progress_pop k side (Some t) p) (setting_sets t p);
    typed = λ ty is. subst (λ (x : Option ValueType). Where (λ (t : ValueType). IsTrue (is_type scope.design.design.shapes t)) x) is held.ty;
  }
    where
      takes : (target : Option ℕ) → HasTemp (Some (state_type scope k)) target → IsTrue (takes_answer s (Some (state_of s k).width) target)
      takes None has = refl
      takes (Some t) has = same_type_width (state_of s k).width (state_type scope k) t (sym held.width) has

  clear_acts : (p : Progress) (k : ℕ) → IsTrue s.changes → HasState (view s p) scope k → IsTrue (nat_lt 0 (most_items scope k))
      → Acts p (record { act = act.Clear k; answer = None })
  unfolding statement_of
  clear_acts p k changes held some = record {
    done = λ fine target has. record {
      sound = rw (sound_clear s k) (both s.changes _ changes (deque_has (view s p) scope k 0 held (ltb-true _ _ some)));
      fine = rw (progress_clear k p) fine;
      keeps = λ t is. rw (progress_clear k p) is;
    };
    sets = λ t ty is. absurd (no_type ty is);
    typed = λ ty is. absurd (no_type ty is);
  }
    where
      no_type : (ty : ValueType) → None ≡ Some ty → ⊥
      no_type ty is = false≢true (ap (λ (x : Option ValueType). elim x as (λ _. Bool) [ Some y ↦ true | None ↦ false ]) is)

  -- ---- all acts

  or_false : (a b : Bool) → (a || b) ≡ false → b ≡ false
  or_false true b is = absurd (false≢true (sym is))
  or_false false b is = is

  not_false : (b : Bool) → not b ≡ false → b ≡ true
  not_false true is = refl
  not_false false is = sym is

  module _ (allows : Allows s scope) (p : Progress) where
    allowed_is : (line : ℕ) (a : Acted) → (IsTrue s.changes → Acts p a) → On (Acts p) (allowed line scope.sort a)
    unfolding allowed
    allowed_is line a is = test_on (Acts p) (may_change scope.sort) (Ok a) _ (λ may. is (allows.changes may)) tt

    arguments_for_are : (line : ℕ) (tys : List ValueType) (named : Bool) (xs : List Operand) → Each (IsOperand (view s p) scope) xs
        → Yields (λ (es : List Ex). AreArguments (view s p) scope es tys) (arguments_for line tys named xs)
    unfolding arguments_for
    arguments_for_are line tys named xs each = by (named || not (length xs == length tys)) refl
      where
        by : (b : Bool) → (named || not (length xs == length tys)) ≡ b
            → Yields (λ (es : List Ex). AreArguments (view s p) scope es tys) (if b then fail (NotAllowedHere line) else fitted_from line [] tys xs)
        by true is = failed (λ (es : List Ex). AreArguments (view s p) scope es tys) (NotAllowedHere line)
        by false is =
            arguments_are (view s p) line [] [] tys xs tt each
            (eqb-true (length xs) (length tys) (not_false (length xs == length tys) (or_false named (not (length xs == length tys)) is)))

    method_act_is : (line : ℕ) (c : Callee) (types : CallTypes) (named : Bool) (xs : List Operand) → IsCalled s scope c types
        → Each (IsOperand (view s p) scope) xs → Yields (Acts p) (method_act scope line c types named xs)
    unfolding method_act
    method_act_is line c types named xs called each =
        bind (λ (es : List Ex). AreArguments (view s p) scope es types.arguments) (Acts p) (arguments_for line types.arguments named xs)
        (λ es. lift (allowed line scope.sort (record { act = act.Call c es; answer = types.result }))) (arguments_for_are line types.arguments named xs each)
        (λ es are. lifted (Acts p) _ (allowed_is line (record { act = act.Call c es; answer = types.result })
        (λ changes. call_acts p c es types changes called are)))

    method_is : (line : ℕ) (c : Callee) (named : Bool) (xs : List Operand) → IsTrue (s.calls c).there → Each (IsOperand (view s p) scope) xs
        → Yields (Acts p) (method_called scope line c named xs)
    method_is line c named xs there each = by (call_types scope c) refl
      where
        by : (types : Option CallTypes) → call_types scope c ≡ types → Yields (Acts p) (method_act_if scope line c types named xs)
        by (Some types) is = method_act_is line c types named xs (allows.calls c types is there) each
        by None is = failed (Acts p) (NotAllowedHere line)

    held_at : (k : ℕ) → IsTrue (is_deque scope k) → HasState (view s p) scope k × IsTrue (nat_lt 0 (most_items scope k))
    held_at k is =
        let parts = and_parts (is_state scope k) (nat_lt 0 (most_items scope k)) is in
        (state_held (view s p) scope (allows.sees p.assigned) k parts.0, parts.1)

    pushed_is : (line k : ℕ) (side : Side) (x : Operand) → IsTrue (is_deque scope k) → IsOperand (view s p) scope x
        → Yields (Acts p) (pushed scope line k side x)
    unfolding pushed
    pushed_is line k side x is good =
        bind (Fits (view s p) scope (state_type scope k)) (Acts p) (fitted line (state_type scope k) x)
        (λ e. lift (allowed line scope.sort (record { act = act.Push k side e; answer = None }))) (fitted_is (view s p) scope line (state_type scope k) x good)
        (λ e typed. lifted (Acts p) _ (allowed_is line (record { act = act.Push k side e; answer = None })
        (λ changes. push_acts p k side e changes (held_at k is).0 (held_at k is).1 typed)))

    push_is : (line k : ℕ) (side : Side) (xs : List Operand) → IsTrue (is_deque scope k) → Each (IsOperand (view s p) scope) xs
        → Yields (Acts p) (push_at scope line k side xs)
    push_is line k side [] is each = failed (Acts p) (NotAllowedHere line)
    push_is line k side (x ∷ []) is each = pushed_is line k side x is each.0
    push_is line k side (x ∷ y ∷ xs) is each = failed (Acts p) (NotAllowedHere line)

    bare_is : (line : ℕ) (a : Acted) (named : Bool) (count : ℕ) → (IsTrue s.changes → Acts p a) → On (Acts p) (bare_act scope line a named count)
    unfolding bare_act
    bare_is line a named count is = test_on (Acts p) (named || nat_lt 0 count) _ (allowed line scope.sort a) (λ _. tt) (allowed_is line a is)

    deque_is : (line k : ℕ) (c : Change) (named : Bool) (xs : List Operand) → IsTrue (is_deque scope k) → Each (IsOperand (view s p) scope) xs
        → Yields (Acts p) (deque_act scope line k c named xs)
    unfolding push_act
    deque_is line k (changes.Push side) named xs is each =
        test (Acts p) named _ (push_at scope line k side xs) (λ _. failed (Acts p) (NotAllowedHere line)) (push_is line k side xs is each)
    deque_is line k (changes.Pop side) named xs is each =
        lifted (Acts p) _ (bare_is line (record { act = act.Pop k side; answer = Some (state_type scope k) }) named (length xs)
        (λ changes. pop_acts p k side changes (held_at k is).0 (held_at k is).1))
    deque_is line k changes.Clear named xs is each =
        lifted (Acts p) _ (bare_is line (record { act = act.Clear k; answer = None }) named (length xs)
        (λ changes. clear_acts p k changes (held_at k is).0 (held_at k is).1))

    acted_by : (line : ℕ) (f : Frame) (what : Effected) (named : Bool) (xs : List Operand) → IsEffected (view s p) (here scope line f) what
        → Each (IsOperand (view s p) scope) xs → Yields (Acts p) (acted_at scope line what named xs)
    acted_by line f (effected.Method c) named xs is each = method_is line c named xs is each
    acted_by line f (effected.Deque k c) named xs is each = deque_is line k c named xs is each

    -- what a call does
    pub acted_is : (line : ℕ) (f : Frame) (e : Effect) → IsRight (view s p) (here scope line f) (things.effect e) → Yields (Acts p) (acted scope line e)
    unfolding acted
    acted_is line f e is = acted_by line f e.what e.named e.arguments is.0 is.1
