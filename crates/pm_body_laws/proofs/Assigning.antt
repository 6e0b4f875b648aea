-- Assignments, and calls alone.
use Rattle.std.proofs.Common.{◌≡◌, ◌∙◌, ◌+◌, ◌==◌, ◌&&◌, ◌++◌, ◌^◌, ℕ, zero, suc, Bool, List, [], ◌∷◌, refl, sym, ap, subst, length, arith, eqb-true}
use Rattle.std.specs.Prelude.{IsTrue, if◌then◌else◌, nat_lt, nat_le, not, slice_get, slice_set, slice_index_or, Option, Some, None, Ok}
use Rattle.std.specs.List.{list_all}
use Rattle.std.proofs.lemmas.Bool.{and_parts, le-leb, eq-eqb, false≢true}
use Rattle.pm_design.specs.declared.body.Ex.{Ex}
use Rattle.pm_design.specs.declared.body.St.{St}
use Rattle.pm_design.specs.declared.body.St.TheVariants as st
use Rattle.pm_design.specs.Settings.{Progress, behind_reading, progress, reads_assigned}
use Rattle.pm_design.specs.Typing.{Sight, has_width, is_sound, is_temp, state_of, typing}
use Rattle.pm_design.specs.Typing as sights
use Rattle.pm_design.proofs.Soundness.{sound_set, sound_set_number, sound_set_pick, sound_set_temp}
use Rattle.pm_design.proofs.Progressing.{progress_set, progress_set_number, progress_set_pick, progress_set_temp}
use Rattle.pm_syn.specs.declared.statement.AssignOp.{AssignOp}
use Rattle.pm_values.specs.declared.reference.Reference.{Reference}
use Rattle.pm_values.specs.declared.reference.ValueType.{ValueType}
use Rattle.pm_typing.specs.declared.fault.TypeFault.TheVariants.{NotAllowedHere}
use Rattle.pm_typing.specs.declared.frame.Bound.TheVariants as bound
use Rattle.pm_typing.specs.declared.frame.Frame.{Frame}
use Rattle.pm_typing.specs.declared.frame.Stored.{Stored}
use Rattle.pm_typing.specs.declared.operand.Operand.{Operand}
use Rattle.pm_typing.specs.declared.operand.Operand.TheVariants as operands
use Rattle.pm_typing.specs.Counted.{Counted, ◌>>=◌, ◌>>◌, pure, fail, lift, node}
use Rattle.pm_typing.specs.Expressions.{Meaning}
use Rattle.pm_typing.specs.Operands.{fitted, same_type, state_type, value_of}
use Rattle.pm_typing.specs.Sites.{Scope}
use Rattle.pm_typing.specs.Things as things
use Rattle.pm_typing.specs.Things.{Thing, Right}
use Rattle.pm_types.specs.declared.effects.Acted.{Acted}
use Rattle.pm_types.specs.declared.targets.Target.{Target}
use Rattle.pm_types.specs.Assignments.{act_put, act_to, act_typed, alone_right, declared_as, declared_if, flat, here, name_type, name_type_by, stored_at, temp_fitted, temp_put, temp_right, temp_to, temp_typed, temporary, type_by_itself, with_bound, with_stored, act_value, number_set, number_target, number_to, right_value, set, set_fitted, set_number, set_target, set_thing, set_to, value_in}
use Rattle.pm_syn.specs.declared.statement.AssignOp.TheVariants as assign
use Rattle.pm_types.specs.declared.targets.Target.TheVariants as target
use Rattle.pm_types.specs.Targets.{are_whole, is_edge, is_whole, may_write, may_write_all, set_statement, suits, target_of, target_type, whole_at}
use Rattle.pm_typing.specs.Operands.{parts_of}
use Rattle.pm_typing.specs.References.{element_type, type_of}
use Rattle.pm_type_laws.proofs.Things.{IsPick}
use Rattle.pm_type_laws.proofs.Cuts.{same_width}
use Rattle.pm_type_laws.proofs.Named.{found_in}
use Rattle.pm_typing.specs.Names.{most_items}
use Rattle.pm_types.specs.Effects.{acted, answer_type, kept, may_change, put, statement_of, with_statement, with_temp}
use Rattle.pm_type_laws.specs.Good.{is_reference, is_type}
use Rattle.pm_type_laws.specs.Views.{Each, View, is_temporary, is_typed}
use Rattle.pm_type_laws.proofs.Things.{IsOperand, IsThing}
use Rattle.pm_type_laws.proofs.Yields.{On, Where, Yields, a_node, bind, done, failed, lifted, test, test_on}
use Rattle.pm_type_laws.proofs.Values.{both}
use Rattle.pm_design.specs.declared.body.Ex.TheVariants as ex
use Rattle.pm_type_laws.proofs.Valued as valued
use Rattle.pm_type_laws.proofs.Valued.{Fits, HasState, fitted_is, state_held, typed_parts, value_is}
use Rattle.pm_type_laws.proofs.Expressions.{IsMeaning, IsRight}
use Rattle.pm_design.specs.Widths.{is_width}
use Rattle.pm_body_laws.specs.Premises.{Allows}
use Rattle.pm_body_laws.proofs.Frames.{is_stored, Begins, IsDone, IsFrame, Leads, Ready, behind, begins_itself, begins_more, begins_on, bounds_on, behind_more, bound_put, frame_put, later, leads_itself, leads_on, next_of, put_is, put_leads, site_is, view_at, view_of, weaken, wide_first, wide_more}
use Rattle.pm_body_laws.proofs.Acting.{Acts, HasTemp, acted_is, setting_fine, setting_keeps, setting_sets}

-- an expression that gives what it should in each view
abbrev pub IsGood : Sight → Meaning → Type 0
IsGood s e = (assigned : ℕ → Bool) → IsMeaning (record { sight = s; assigned = assigned }) e

module _ (s : Sight) (scope : Scope) (allows : Allows s scope) where
  -- what an expression gives where a body stands
  pub right_at : (line : ℕ) (f : Frame) (e : Meaning) → IsGood s e
      → Yields (λ (r : Right). (i : Ready s scope f) → IsRight (view_at s scope f i) (here scope line f) r) (e.right (here scope line f))
  right_at line f e good =
      later (λ (i : Ready s scope f). IsRight (view_at s scope f i) (here scope line f)) (e.right (here scope line f))
      (λ i. (good (behind i.progress f.out).assigned).right (here scope line f) (site_is s scope allows line f i))

  thing_at : (line : ℕ) (f : Frame) (e : Meaning) → IsGood s e
      → Yields (λ (t : Thing). (i : Ready s scope f) → IsThing (view_at s scope f i) scope t) (e.thing (here scope line f))
  thing_at line f e good =
      later (λ (i : Ready s scope f). IsThing (view_at s scope f i) scope) (e.thing (here scope line f))
      (λ i. (good (behind i.progress f.out).assigned).thing (here scope line f) (site_is s scope allows line f i))

  -- a frame and a value, where another frame was
  pub record Values (f : Frame) (r : Frame × Operand) : Type 0 where
    pub leads : Leads s scope f r.0
    pub value : (p : Progress) → Begins r.0.temps s.temps → IsFrame s scope p f → IsOperand (view_of s p r.0.out) scope r.1

  pub temporary_typed : (v : View) (t : ℕ) (ty : ValueType) → IsTrue (v.assigned t) → IsTrue (is_temp v.sight ty.width t)
      → IsTrue (is_type scope.design.design.shapes ty) → IsTrue (is_temporary v scope t 0 ty)
  temporary_typed v t ty set temp good =
      let parts = and_parts (nat_lt t (length v.sight.temps)) _ temp in
      let wide : slice_index_or v.sight.temps t 0 ≡ ty.width = eqb-true _ _ parts.1 in
      both (v.assigned t) _ set (both (nat_lt t (length v.sight.temps)) _ parts.0
      (both (nat_le (0 + ty.width) (slice_index_or v.sight.temps t 0)) _ (le-leb _ _ (omega (arith, wide))) good))

  -- a further temporary
  temp_of : (f : Frame) (ty : ValueType) → Begins (f.temps ++ ty.width ∷ []) s.temps → IsTrue (is_temp s ty.width (length f.temps))
  temp_of f ty begins =
      let next = next_of f.temps ty.width s.temps begins in
      both (nat_lt (length f.temps) (length s.temps)) _ (le-leb _ _ next.0) (eq-eqb _ _ next.1)

  temp_leads : (f : Frame) (width : ℕ) → ((i : Ready s scope f) → IsTrue (is_width width)) → Leads s scope f (with_temp width f)
  unfolding with_temp
  temp_leads f width good = record {
    temps = begins_more f.temps width;
    frame = λ p begins is.
        let i : Ready s scope f = record {
          progress = p;
          temps = begins_on f.temps (f.temps ++ width ∷ []) s.temps (begins_more f.temps width) begins;
          frame = is;
        } in
        record {
          bounds = is.bounds;
          stored = is.stored;
          sound = is.sound;
          fine = is.fine;
          wide = wide_more f.temps width is.wide (good i);
        };
  }

  -- a type is as wide as a value may be
  width_good : (ty : ValueType) → IsTrue (is_type scope.design.design.shapes ty) → IsTrue (is_width ty.width)
  width_good ty is = (and_parts (is_width ty.width) _ is).0

  -- ---- right sides

  -- where a body stood before a temporary was added
  before_temp : (f : Frame) (width : ℕ) → Ready s scope (with_temp width f) → Ready s scope f
  unfolding with_temp
  before_temp f width r = record {
    progress = r.progress;
    temps = begins_on f.temps (f.temps ++ width ∷ []) s.temps (begins_more f.temps width) r.temps;
    frame = record {
      bounds = r.frame.bounds;
      stored = r.frame.stored;
      sound = r.frame.sound;
      fine = r.frame.fine;
      wide = wide_first f.temps (width ∷ []) r.frame.wide;
    };
  }

  kept_frame : Acted → ValueType → Frame → Frame
  kept_frame a ty f = with_statement (statement_of a.act (Some (length f.temps))) (with_temp ty.width f)

  kept_leads : (f : Frame) (a : Acted) (ty : ValueType) → a.answer ≡ Some ty → ((i : Ready s scope f) → Acts s scope (behind i.progress f.out) a)
      → Leads s scope f (kept_frame a ty f)
  unfolding kept_frame with_temp before_temp
  kept_leads f a ty is acts =
      leads_on s scope f (with_temp ty.width f) (kept_frame a ty f)
      (temp_leads f ty.width (λ i. width_good ty ((acts i).typed ty is)))
      (put_leads s scope (with_temp ty.width f) (statement_of a.act (Some (length f.temps)))
      (λ r.
      let i = before_temp f ty.width r in
      (acts i).done r.frame.fine (Some (length f.temps))
      (subst (λ (answer : Option ValueType). HasTemp s scope answer (Some (length f.temps))) (sym is) (temp_of f ty r.temps))))

  kept_value : (f : Frame) (a : Acted) (ty : ValueType) → a.answer ≡ Some ty → ((i : Ready s scope f) → Acts s scope (behind i.progress f.out) a)
      → (p : Progress) → Begins (kept_frame a ty f).temps s.temps → IsFrame s scope p f
      → IsTrue (is_typed (view_of s p (kept_frame a ty f).out) scope (ex.Temp (length f.temps) 0 ty.width) ty)
  unfolding kept_frame with_temp
  kept_value f a ty is acts p begins frame =
      let i : Ready s scope f = record {
        progress = p;
        temps = begins_on f.temps (f.temps ++ ty.width ∷ []) s.temps (begins_more f.temps ty.width) begins;
        frame = frame;
      } in
      let here = acts i in
      let same = behind_more p f.out (statement_of a.act (Some (length f.temps))) in
      let set : IsTrue ((behind p (f.out ++ statement_of a.act (Some (length f.temps)) ∷ [])).assigned (length f.temps)) =
      subst (λ (q : Progress). IsTrue (q.assigned (length f.temps))) (sym same) (here.sets (length f.temps) ty is) in
      valued.temporary_typed (view_of s p (f.out ++ statement_of a.act (Some (length f.temps)) ∷ [])) scope (length f.temps) 0 ty
      (temporary_typed (view_of s p (f.out ++ statement_of a.act (Some (length f.temps)) ∷ [])) (length f.temps) ty set (temp_of f ty begins) (here.typed ty is))

  -- an act whose answer is the value
  kept_is : (f : Frame) (a : Acted) (ty : ValueType) → a.answer ≡ Some ty → ((i : Ready s scope f) → Acts s scope (behind i.progress f.out) a)
      → Yields (Values f) (kept a.act ty f)
  unfolding kept put kept_frame node
  kept_is f a ty is acts =
      bind (λ (g : Frame). g ≡ kept_frame a ty f) (Values f) (node >> pure (kept_frame a ty f))
      (λ g. node >> pure (g, operands.Bits (ex.Temp (length f.temps) 0 ty.width) ty))
      (a_node (λ (g : Frame). g ≡ kept_frame a ty f) (kept_frame a ty f) refl)
      (λ g same. a_node (Values f) (g, operands.Bits (ex.Temp (length f.temps) 0 ty.width) ty)
      (subst (λ (h : Frame). Values f (h, operands.Bits (ex.Temp (length f.temps) 0 ty.width) ty)) (sym same)
      (record { leads = kept_leads f a ty is acts; value = kept_value f a ty is acts })))

  act_value_is : (line : ℕ) (f : Frame) (a : Acted) → ((i : Ready s scope f) → Acts s scope (behind i.progress f.out) a)
      → Yields (Values f) (act_value line a f)
  unfolding act_value
  act_value_is line f a acts = by a.answer refl
    where
      by : (answer : Option ValueType) → a.answer ≡ answer → Yields (Values f) (lift (answer_type line answer) >>= (λ ty. kept a.act ty f))
      by (Some ty) is = kept_is f a ty is acts
      by None is = failed (Values f) (NotAllowedHere line)

  -- the value of a right side
  value_in_is : (line : ℕ) (f : Frame) (r : Right) → ((i : Ready s scope f) → IsRight (view_at s scope f i) (here scope line f) r)
      → Yields (Values f) (value_in scope line r f)
  unfolding value_in
  value_in_is line f (things.plain t) is =
      bind (λ (x : Operand). (i : Ready s scope f) → IsOperand (view_at s scope f i) scope x) (Values f) (value_of scope line t) (λ x. pure (f, x))
      (later (λ (i : Ready s scope f). IsOperand (view_at s scope f i) scope) (value_of scope line t)
      (λ i. value_is (view_at s scope f i) scope (allows.sees (behind i.progress f.out).assigned) line t (is i)))
      (λ x good. done (Values f) (f, x) (record {
        leads = leads_itself s scope f;
        value = λ p begins frame. good (record { progress = p; temps = begins; frame = frame });
      }))
  value_in_is line f (things.effect e) is =
      bind (λ (a : Acted). (i : Ready s scope f) → Acts s scope (behind i.progress f.out) a) (Values f) (acted scope line e) (λ a. act_value line a f)
      (later (λ (i : Ready s scope f). Acts s scope (behind i.progress f.out)) (acted scope line e)
      (λ i. acted_is s scope allows (behind i.progress f.out) line f e (is i)))
      (λ a acts. act_value_is line f a acts)

  -- the value of an expression that is a whole right side
  pub right_value_is : (line : ℕ) (f : Frame) (e : Meaning) → IsGood s e → Yields (Values f) (right_value scope line e f)
  unfolding right_value
  right_value_is line f e good =
      bind (λ (r : Right). (i : Ready s scope f) → IsRight (view_at s scope f i) (here scope line f) r) (Values f) (e.right (here scope line f))
      (λ r. value_in scope line r f) (right_at line f e good) (λ r is. value_in_is line f r is)

  -- ---- assignments of signals

  -- where more is known of what was assigned first
  record Known (K : Progress → Type 0) (g : Frame) : Type 0 where
    progress : Progress
    temps : Begins g.temps s.temps
    frame : IsFrame s scope progress g
    known : K progress

  record LeadsThere (K : Progress → Type 0) (g h : Frame) : Type 0 where
    temps : Begins g.temps h.temps
    frame : (p : Progress) → Begins h.temps s.temps → K p → IsFrame s scope p g → IsFrame s scope p h

  ready_of : (K : Progress → Type 0) (g : Frame) → Known K g → Ready s scope g
  ready_of K g r = record { progress = r.progress; temps = r.temps; frame = r.frame }

  put_there : (K : Progress → Type 0) (g : Frame) (st : St) → ((r : Known K g) → IsDone s scope (behind r.progress g.out) st)
      → Yields (LeadsThere K g) (put st g)
  unfolding put
  put_there K g st is = a_node (LeadsThere K g) (with_statement st g) (record {
    temps = begins_itself g.temps;
    frame = λ p begins known frame.
        let done = is (record { progress = p; temps = begins; frame = frame; known = known }) in
        frame_put s scope p g st g.bounds frame done (bounds_on s scope (behind p g.out) (progress st (behind p g.out)) g.bounds done.keeps frame.bounds);
  })

  thing_there : (K : Progress → Type 0) (line : ℕ) (g : Frame) (e : Meaning) → IsGood s e
      → Yields (λ (t : Thing). (r : Known K g) → IsThing (view_of s r.progress g.out) scope t) (e.thing (here scope line g))
  unfolding ready_of
  thing_there K line g e good =
      weaken (λ (t : Thing). (i : Ready s scope g) → IsThing (view_at s scope g i) scope t)
      (λ (t : Thing). (r : Known K g) → IsThing (view_of s r.progress g.out) scope t) (e.thing (here scope line g))
      (λ t is r. is (ready_of K g r)) (thing_at line g e good)

  -- a frame and a value lead on where the value is known
  from_there : (f : Frame) (r : Frame × Operand) (h : Frame) → Values f r → LeadsThere (λ p. IsFrame s scope p f) r.0 h → Leads s scope f h
  from_there f r h first second = record {
    temps = begins_on f.temps r.0.temps h.temps first.leads.temps second.temps;
    frame = λ p begins frame.
        second.frame p begins frame (first.leads.frame p (begins_on r.0.temps h.temps s.temps second.temps begins) frame);
  }

  -- a target, and what it may take
  IsTarget : View → Target → Type 0
  IsTarget v (target.Whole r) = IsTrue (is_reference scope r) × IsTrue (may_write scope.sort r)
  IsTarget v (target.Picked e rs) = IsPick v scope e rs × IsTrue (may_write_all scope.sort rs)

  target_is : (v : View) (line : ℕ) (t : Thing) → IsThing v scope t → On (IsTarget v) (target_of scope.sort line t)
  unfolding target_of IsTarget
  target_is v line (things.signal r) is = test_on (IsTarget v) (may_write scope.sort r) (Ok (target.Whole r)) _ (λ may. (is, may)) tt
  target_is v line (things.pick e rs) is =
      test_on (IsTarget v) (may_write_all scope.sort rs) (Ok (target.Picked e rs)) _ (λ may. (is, may)) tt
  target_is v line _ is = tt

  -- at the clock edge a target is whole
  whole_there : (o : AssignOp) (t : Target) → IsTrue (suits o scope.sort t) → IsTrue (is_edge scope.sort) → IsTrue (whole_at t)
  unfolding suits
  whole_there assign.Now t is edge = absurd (false≢true (sym (ap not edge) ∙ is))
  whole_there assign.Next t is edge = (and_parts (is_edge scope.sort) (whole_at t) is).1
  whole_there assign.Plain t is edge = absurd (false≢true is)
  whole_there assign.Join t is edge = absurd (false≢true is)

  writes_all : (rs xs : List Reference) (n : ℕ) → IsTrue (list_all (λ r. is_reference scope r && same_type (type_of r) (element_type rs)) xs)
      → IsTrue (list_all (may_write scope.sort) xs) → (IsTrue (is_edge scope.sort) → IsTrue (list_all is_whole xs)) → (element_type rs).width ≡ n
      → IsTrue (list_all (λ p. s.writes p && p.width == n) (parts_of xs))
  unfolding parts_of
  writes_all rs [] n all may whole wide = refl
  writes_all rs (x ∷ xs) n all may whole wide =
      let parts = and_parts (is_reference scope x && same_type (type_of x) (element_type rs)) _ all in
      let here = and_parts (is_reference scope x) _ parts.0 in
      let writable = and_parts (may_write scope.sort x) (list_all (may_write scope.sort) xs) may in
      let same : x.part.width ≡ n = same_width (type_of x) (element_type rs) here.1 ∙ wide in
      both (s.writes x.part && x.part.width == n) _
      (both (s.writes x.part) _ (allows.writes x here.0 writable.0 (λ edge. (and_parts (is_whole x) (list_all is_whole xs) (whole edge)).0)) (eq-eqb _ _ same))
      (writes_all rs xs n parts.1 writable.1 (λ edge. (and_parts (is_whole x) (list_all is_whole xs) (whole edge)).1) wide)

  parts_count : (rs : List Reference) → length (parts_of rs) ≡ length rs
  unfolding parts_of
  parts_count [] = refl
  parts_count (r ∷ rs) = ap suc (parts_count rs)

  set_done : (p : Progress) (o : AssignOp) (t : Target) (e : Ex) → IsTrue p.fine → IsTarget (record { sight = s; assigned = p.assigned }) t
      → IsTrue (is_typed (record { sight = s; assigned = p.assigned }) scope e (target_type t)) → IsTrue (suits o scope.sort t)
      → IsDone s scope p (set_statement t e)
  unfolding set_statement target_type IsTarget may_write_all are_whole
  set_done p o (target.Whole r) e fine is typed suit =
      let says = typed_parts (record { sight = s; assigned = p.assigned }) scope e (type_of r) typed in
      record {
        sound = rw (sound_set s r.part e)
            (both (s.writes r.part) _ (allows.writes r is.0 is.1 (whole_there o (target.Whole r) suit)) (both (typing s e).fine _ says.fine (eq-eqb _ _ says.wide)));
        fine = rw (progress_set r.part e p) (both p.fine (reads_assigned p.assigned e) fine says.reads);
        keeps = λ t is. rw (progress_set r.part e p) is;
      }
  set_done p o (target.Picked i rs) e fine is typed suit =
      let says = typed_parts (record { sight = s; assigned = p.assigned }) scope e (element_type rs) typed in
      record {
        sound = rw (sound_set_pick s i (parts_of rs) e)
            (both (typing s i).fine _ is.0.fine (both (typing s e).fine _ says.fine
            (both (nat_le (length (parts_of rs)) (2 ^ (typing s i).width)) _ (le-leb _ _ (omega (arith, parts_count rs, is.0.reach)))
            (writes_all rs rs (typing s e).width is.0.elements is.1 (whole_there o (target.Picked i rs) suit) (sym says.wide)))));
        fine = rw (progress_set_pick i (parts_of rs) e p)
            (both (p.fine && reads_assigned p.assigned i) (reads_assigned p.assigned e) (both p.fine (reads_assigned p.assigned i) fine is.0.reads) says.reads);
        keeps = λ t is. rw (progress_set_pick i (parts_of rs) e p) is;
      }

  -- where a value and a thing are known
  abbrev ThereOperand : (Progress → Type 0) → Frame → Operand → Type 0
  ThereOperand K g x = (r : Known K g) → IsOperand (view_of s r.progress g.out) scope x

  abbrev ThereThing : (Progress → Type 0) → Frame → Thing → Type 0
  ThereThing K g t = (r : Known K g) → IsThing (view_of s r.progress g.out) scope t

  -- an expression for a place of a type
  fitted_there : (K : Progress → Type 0) (line : ℕ) (g : Frame) (ty : ValueType) (x : Operand) → ThereOperand K g x
      → Yields (λ (e : Ex). (r : Known K g) → Fits (view_of s r.progress g.out) scope ty e) (fitted line ty x)
  fitted_there K line g ty x is =
      later (λ (r : Known K g). Fits (view_of s r.progress g.out) scope ty) (fitted line ty x)
      (λ r. fitted_is (view_of s r.progress g.out) scope line ty x (is r))

  set_to_is : (K : Progress → Type 0) (line : ℕ) (o : AssignOp) (t : Target) (x : Operand) (g : Frame)
      → ((r : Known K g) → IsTarget (view_of s r.progress g.out) t) → ThereOperand K g x → Yields (LeadsThere K g) (set_to line o scope t x g)
  unfolding set_to set_fitted
  set_to_is K line o t x g is good =
      bind (λ (e : Ex). (r : Known K g) → Fits (view_of s r.progress g.out) scope (target_type t) e) (LeadsThere K g) (fitted line (target_type t) x)
      (λ e. if suits o scope.sort t then put (set_statement t e) g else fail (NotAllowedHere line)) (fitted_there K line g (target_type t) x good)
      (λ e typed. test (LeadsThere K g) (suits o scope.sort t) (put (set_statement t e) g) _
      (λ suit. put_there K g (set_statement t e) (λ r. set_done (behind r.progress g.out) o t e r.frame.fine (is r) (typed r) suit))
      (failed (LeadsThere K g) (NotAllowedHere line)))

  set_target_is : (K : Progress → Type 0) (line : ℕ) (o : AssignOp) (to : Meaning) (x : Operand) (g : Frame) → IsGood s to → ThereOperand K g x
      → Yields (LeadsThere K g) (set_target line o scope to x g)
  unfolding set_target set_thing
  set_target_is K line o to x g good known =
      bind (ThereThing K g) (LeadsThere K g) (to.thing (here scope line g)) _ (thing_there K line g to good)
      (λ t thing. bind (λ (target : Target). (r : Known K g) → IsTarget (view_of s r.progress g.out) target) (LeadsThere K g)
      (lift (target_of scope.sort line t)) (λ target. set_to line o scope target x g)
      (later (λ (r : Known K g). IsTarget (view_of s r.progress g.out)) (lift (target_of scope.sort line t))
      (λ r. lifted (IsTarget (view_of s r.progress g.out)) (target_of scope.sort line t) (target_is (view_of s r.progress g.out) line t (thing r))))
      (λ target is. set_to_is K line o target x g is known))

  -- what is known of a value where a frame led to it
  value_known : (f : Frame) (r : Frame × Operand) → Values f r → ThereOperand (λ p. IsFrame s scope p f) r.0 r.1
  value_known f r is k = is.value k.progress k.temps k.known

  -- a right side, and then what uses its value
  with_value : (line : ℕ) (f : Frame) (e : Meaning) (next : Operand → Frame → Counted Frame) → IsGood s e
      → ((g : Frame) (x : Operand) → ThereOperand (λ p. IsFrame s scope p f) g x → Yields (LeadsThere (λ p. IsFrame s scope p f) g) (next x g))
      → Yields (Leads s scope f) (right_value scope line e f >>= (λ p. next p.1 p.0))
  with_value line f e next good is =
      bind (Values f) (Leads s scope f) (right_value scope line e f) (λ p. next p.1 p.0) (right_value_is line f e good)
      (λ r values. weaken (LeadsThere (λ p. IsFrame s scope p f) r.0) (Leads s scope f) (next r.1 r.0) (λ h there. from_there f r h values there)
      (is r.0 r.1 (value_known f r values)))

  pub set_is : (line : ℕ) (o : AssignOp) (to e : Meaning) (f : Frame) → IsGood s to → IsGood s e → Yields (Leads s scope f) (set line o scope to e f)
  unfolding set
  set_is line o to e f good is =
      with_value line f e (λ x g. set_target line o scope to x g) is (λ g x known. set_target_is (λ p. IsFrame s scope p f) line o to x g good known)

  -- ---- states of a number

  number_done : (p : Progress) (k : ℕ) (e : Ex) → IsTrue p.fine → IsTrue s.changes → HasState (record { sight = s; assigned = p.assigned }) scope k
      → most_items scope k ≡ 0 → IsTrue (is_typed (record { sight = s; assigned = p.assigned }) scope e (state_type scope k))
      → IsDone s scope p (st.SetNumber k e)
  number_done p k e fine changes held none typed =
      let says = typed_parts (record { sight = s; assigned = p.assigned }) scope e (state_type scope k) typed in
      record {
        sound = rw (sound_set_number s k e)
            (both s.changes _ changes (both (sights.is_number s k) _
            (both (nat_lt k (length s.states)) _ (le-leb (suc k) (length s.states) held.there) (eq-eqb _ _ (held.most ∙ none)))
            (both (typing s e).fine _ says.fine (eq-eqb _ _ (says.wide ∙ sym held.width)))));
        fine = rw (progress_set_number k e p) (both p.fine (reads_assigned p.assigned e) fine says.reads);
        keeps = λ t is. rw (progress_set_number k e p) is;
      }

  number_set_is : (K : Progress → Type 0) (line : ℕ) (t : Thing) (x : Operand) (g : Frame) → ThereThing K g t → ThereOperand K g x
      → Yields (LeadsThere K g) (number_set line scope t x g)
  unfolding number_set number_to
  number_set_is K line (things.state k) x g is known =
      test (LeadsThere K g) (most_items scope k == 0 && may_change scope.sort) _ _
      (λ may.
      let parts = and_parts (most_items scope k == 0) (may_change scope.sort) may in
      bind (λ (e : Ex). (r : Known K g) → Fits (view_of s r.progress g.out) scope (state_type scope k) e) (LeadsThere K g)
      (fitted line (state_type scope k) x) (λ e. put (st.SetNumber k e) g) (fitted_there K line g (state_type scope k) x known)
      (λ e typed. put_there K g (st.SetNumber k e)
      (λ r. number_done (behind r.progress g.out) k e r.frame.fine (allows.changes parts.1)
      (state_held (view_of s r.progress g.out) scope (allows.sees (behind r.progress g.out).assigned) k (is r)) (eqb-true _ _ parts.0) (typed r))))
      (failed (LeadsThere K g) (NotAllowedHere line))
  number_set_is K line _ x g is known = failed (LeadsThere K g) (NotAllowedHere line)

  pub set_number_is : (line : ℕ) (to e : Meaning) (f : Frame) → IsGood s to → IsGood s e → Yields (Leads s scope f) (set_number line scope to e f)
  unfolding set_number number_target
  set_number_is line to e f good is =
      with_value line f e (λ x g. number_target line scope to x g) is
      (λ g x known. bind (ThereThing (λ p. IsFrame s scope p f) g) (LeadsThere (λ p. IsFrame s scope p f) g) (to.thing (here scope line g))
      (λ t. number_set line scope t x g) (thing_there (λ p. IsFrame s scope p f) line g to good)
      (λ t thing. number_set_is (λ p. IsFrame s scope p f) line t x g thing known))

  -- ---- temporaries

  -- a frame in which the name of a type has a temporary
  pub record Declared (f : Frame) (ty : ValueType) (r : Frame × ℕ) : Type 0 where
    pub temps : Begins f.temps r.0.temps
    pub out : r.0.out ≡ f.out
    pub bounds : r.0.bounds ≡ f.bounds
    pub frame : (p : Progress) → Begins r.0.temps s.temps → IsTrue (is_type scope.design.design.shapes ty) → IsFrame s scope p f → IsFrame s scope p r.0
    pub temp : (p : Progress) → Begins r.0.temps s.temps → IsFrame s scope p f → IsTrue (is_temp s ty.width r.1)

  abbrev IsStored : Option Stored → Type 0
  IsStored = Where (λ (t : Stored). IsTrue (is_stored s scope t))

  stored_of : (k : ℕ) (f : Frame) (p : Progress) → IsFrame s scope p f → IsStored (stored_at k f)
  unfolding stored_at
  stored_of k f p frame = by (slice_get f.stored k) (found_in IsStored f.stored k frame.stored)
    where
      by : (x : Option (Option Stored)) → Where IsStored x → IsStored (flat x)
      by (Some t) is = is
      by None is = tt

  stored_put_all : (ts : List (Option Stored)) (k : ℕ) (t : Stored) → Each IsStored ts → IsTrue (is_stored s scope t) → Each IsStored (slice_set ts k (Some t))
  stored_put_all [] k t each is = tt
  stored_put_all (x ∷ ts) zero t each is = (is, each.1)
  stored_put_all (x ∷ ts) (suc k) t each is = (each.0, stored_put_all ts k t each.1 is)

  declared_old : (f : Frame) (k : ℕ) (ty : ValueType) (t : Stored) → stored_at k f ≡ Some t → IsTrue (same_type t.ty ty) → Declared f ty (f, t.number)
  declared_old f k ty t at same = record {
    temps = begins_itself f.temps;
    out = refl;
    bounds = refl;
    frame = λ p begins good frame. frame;
    temp = λ p begins frame.
        let is : IsTrue (is_stored s scope t) = subst IsStored at (stored_of k f p frame) in
        let parts = and_parts (nat_lt t.number (length s.temps)) _ is in
        let wide = and_parts (slice_index_or s.temps t.number 0 == t.ty.width) _ parts.1 in
        both (nat_lt t.number (length s.temps)) _ parts.0 (eq-eqb _ _ (eqb-true _ _ wide.0 ∙ same_width t.ty ty same));
  }

  pub declared_new : (f : Frame) (k : ℕ) (ty : ValueType) → Declared f ty (with_stored k ty f, length f.temps)
  unfolding with_stored with_temp
  declared_new f k ty = record {
    temps = begins_more f.temps ty.width;
    out = refl;
    bounds = refl;
    frame = λ p begins good frame.
        let next = next_of f.temps ty.width s.temps begins in
        record {
          bounds = frame.bounds;
          stored = stored_put_all f.stored k (record { number = length f.temps; ty = ty }) frame.stored
              (both (nat_lt (length f.temps) (length s.temps)) _ (le-leb _ _ next.0)
              (both (slice_index_or s.temps (length f.temps) 0 == ty.width) _ (eq-eqb _ _ next.1) good));
          sound = frame.sound;
          fine = frame.fine;
          wide = wide_more f.temps ty.width frame.wide (width_good ty good);
        };
    temp = λ p begins frame. temp_of f ty begins;
  }

  declared_is : (line k : ℕ) (ty : ValueType) (f : Frame) → On (Declared f ty) (declared_as line k ty f)
  unfolding declared_as
  declared_is line k ty f = by (stored_at k f) refl
    where
      by : (t : Option Stored) → stored_at k f ≡ t → On (Declared f ty) (declared_if line k ty t f)
      by (Some t) at = test_on (Declared f ty) (same_type t.ty ty) (Ok (f, t.number)) _ (λ same. declared_old f k ty t at same) tt
      by None at = declared_new f k ty

  -- a statement that assigns a temporary, and the name that stands for it then
  named_leads : (f : Frame) (k : ℕ) (ty : ValueType) (r : Frame × ℕ) (st : St) → Declared f ty r
      → ((i : Ready s scope f) → IsTrue (is_type scope.design.design.shapes ty))
      → ((i : Ready s scope f) → IsTrue (is_temp s ty.width r.1) → IsDone s scope (behind i.progress f.out) st
      × IsTrue ((progress st (behind i.progress f.out)).assigned r.1))
      → Leads s scope f (with_statement st (with_bound k (bound.Temp r.1 ty) r.0))
  unfolding with_bound
  named_leads f k ty r st declared good is = record {
    temps = declared.temps;
    frame = λ p begins frame.
        let i : Ready s scope f = record { progress = p; temps = begins_on f.temps r.0.temps s.temps declared.temps begins; frame = frame } in
        let temp = declared.temp p begins frame in
        let done = is i temp in
        let there = declared.frame p begins (good i) frame in
        let done_there : IsDone s scope (behind p r.0.out) st = subst (λ (out : List St). IsDone s scope (behind p out) st) (sym declared.out) done.0 in
        let set : IsTrue ((progress st (behind p r.0.out)).assigned r.1) =
        subst (λ (out : List St). IsTrue ((progress st (behind p out)).assigned r.1)) (sym declared.out) done.1 in
        frame_put s scope p r.0 st (slice_set r.0.bounds k (bound.Temp r.1 ty)) there done_there
        (bound_put s scope (progress st (behind p r.0.out)) r.0.bounds k (bound.Temp r.1 ty)
        (bounds_on s scope (behind p r.0.out) (progress st (behind p r.0.out)) r.0.bounds done_there.keeps there.bounds)
        (temporary_typed (record { sight = s; assigned = (progress st (behind p r.0.out)).assigned }) r.1 ty set temp (good i)));
  }

  named_is : (f : Frame) (k : ℕ) (ty : ValueType) (r : Frame × ℕ) (st : St) → Declared f ty r
      → ((i : Ready s scope f) → IsTrue (is_type scope.design.design.shapes ty))
      → ((i : Ready s scope f) → IsTrue (is_temp s ty.width r.1) → IsDone s scope (behind i.progress f.out) st
      × IsTrue ((progress st (behind i.progress f.out)).assigned r.1))
      → Yields (Leads s scope f) (put st (with_bound k (bound.Temp r.1 ty) r.0))
  unfolding put
  named_is f k ty r st declared good is =
      a_node (Leads s scope f) (with_statement st (with_bound k (bound.Temp r.1 ty) r.0)) (named_leads f k ty r st declared good is)

  temp_done : (p : Progress) (t : ℕ) (e : Ex) (ty : ValueType) → IsTrue p.fine → IsTrue (is_typed (record { sight = s; assigned = p.assigned }) scope e ty)
      → IsTrue (is_temp s ty.width t) → IsDone s scope p (st.SetTemp t e) × IsTrue ((progress (st.SetTemp t e) p).assigned t)
  temp_done p t e ty fine typed temp =
      let says = typed_parts (record { sight = s; assigned = p.assigned }) scope e ty typed in (
        record {
          sound = rw (sound_set_temp s t e) (both (typing s e).fine _ says.fine (subst (λ (n : ℕ). IsTrue (is_temp s n t)) (sym says.wide) temp));
          fine = rw (progress_set_temp t e p) (setting_fine s scope (Some t) (behind_reading e p) (both p.fine (reads_assigned p.assigned e) fine says.reads));
          keeps = λ u is. rw (progress_set_temp t e p) (setting_keeps s scope (Some t) (behind_reading e p) u is);
        },
        rw (progress_set_temp t e p) (setting_sets s scope t (behind_reading e p)),
      )

  -- what is true where a body stands
  abbrev ReadyOperand : Frame → Operand → Type 0
  ReadyOperand f x = (i : Ready s scope f) → IsOperand (view_at s scope f i) scope x

  temp_typed_is : (line k : ℕ) (ty : ValueType) (x : Operand) (f : Frame) → ((i : Ready s scope f) → IsTrue (is_type scope.design.design.shapes ty))
      → ReadyOperand f x → Yields (Leads s scope f) (temp_typed line k ty x f)
  unfolding temp_typed temp_fitted temp_put
  temp_typed_is line k ty x f good is =
      bind (λ (e : Ex). (i : Ready s scope f) → Fits (view_at s scope f i) scope ty e) (Leads s scope f) (fitted line ty x)
      (λ e. lift (declared_as line k ty f) >>= (λ p. put (st.SetTemp p.1 e) (with_bound k (bound.Temp p.1 ty) p.0)))
      (later (λ (i : Ready s scope f). Fits (view_at s scope f i) scope ty) (fitted line ty x) (λ i. fitted_is (view_at s scope f i) scope line ty x (is i)))
      (λ e typed. bind (Declared f ty) (Leads s scope f) (lift (declared_as line k ty f)) (λ p. put (st.SetTemp p.1 e) (with_bound k (bound.Temp p.1 ty) p.0))
      (lifted (Declared f ty) (declared_as line k ty f) (declared_is line k ty f))
      (λ r declared. named_is f k ty r (st.SetTemp r.1 e) declared good
      (λ i temp. temp_done (behind i.progress f.out) r.1 e ty i.frame.fine (typed i) temp)))

  name_type_is : (line k : ℕ) (f : Frame) (x : Operand) → ReadyOperand f x
      → On (λ (ty : ValueType). (i : Ready s scope f) → IsTrue (is_type scope.design.design.shapes ty)) (name_type line k f x)
  unfolding name_type
  name_type_is line k f x is = by (stored_at k f) refl
    where
      by_itself : (x : Operand) → ReadyOperand f x
          → On (λ (ty : ValueType). (i : Ready s scope f) → IsTrue (is_type scope.design.design.shapes ty)) (type_by_itself line x)
      by_itself (operands.Int n) is = tt
      by_itself (operands.Bits e ty) is = λ i. (typed_parts (view_at s scope f i) scope e ty (is i)).typed

      by : (t : Option Stored) → stored_at k f ≡ t
          → On (λ (ty : ValueType). (i : Ready s scope f) → IsTrue (is_type scope.design.design.shapes ty)) (name_type_by line t x)
      by (Some t) at = λ i.
          let is : IsTrue (is_stored s scope t) = subst IsStored at (stored_of k f i.progress i.frame) in
          (and_parts (slice_index_or s.temps t.number 0 == t.ty.width) _ (and_parts (nat_lt t.number (length s.temps)) _ is).1).1
      by None at = by_itself x is

  temp_to_is : (line k : ℕ) (x : Operand) (f : Frame) → ReadyOperand f x → Yields (Leads s scope f) (temp_to line k x f)
  unfolding temp_to
  temp_to_is line k x f is =
      bind (λ (ty : ValueType). (i : Ready s scope f) → IsTrue (is_type scope.design.design.shapes ty)) (Leads s scope f) (lift (name_type line k f x))
      (λ ty. temp_typed line k ty x f) (lifted _ (name_type line k f x) (name_type_is line k f x is)) (λ ty good. temp_typed_is line k ty x f good is)

  act_to_is : (line k : ℕ) (a : Acted) (f : Frame) → ((i : Ready s scope f) → Acts s scope (behind i.progress f.out) a) → Yields (Leads s scope f) (act_to line k a f)
  unfolding act_to act_typed act_put
  act_to_is line k a f acts = by a.answer refl
    where
      by : (answer : Option ValueType) → a.answer ≡ answer → Yields (Leads s scope f) (lift (answer_type line answer) >>= (λ ty. act_typed line k a ty f))
      by None is = failed (Leads s scope f) (NotAllowedHere line)
      by (Some ty) is =
          bind (Declared f ty) (Leads s scope f) (lift (declared_as line k ty f)) (λ p. put (statement_of a.act (Some p.1)) (with_bound k (bound.Temp p.1 ty) p.0))
          (lifted (Declared f ty) (declared_as line k ty f) (declared_is line k ty f))
          (λ r declared. named_is f k ty r (statement_of a.act (Some r.1)) declared (λ i. (acts i).typed ty is)
          (λ i temp. ((acts i).done i.frame.fine (Some r.1) (subst (λ (x : Option ValueType). HasTemp s scope x (Some r.1)) (sym is) temp), (acts i).sets r.1 ty is)))

  temp_right_is : (line k : ℕ) (r : Right) (f : Frame) → ((i : Ready s scope f) → IsRight (view_at s scope f i) (here scope line f) r)
      → Yields (Leads s scope f) (temp_right scope line k r f)
  unfolding temp_right
  temp_right_is line k (things.plain t) f is =
      bind (ReadyOperand f) (Leads s scope f) (value_of scope line t) (λ x. temp_to line k x f)
      (later (λ (i : Ready s scope f). IsOperand (view_at s scope f i) scope) (value_of scope line t)
      (λ i. value_is (view_at s scope f i) scope (allows.sees (behind i.progress f.out).assigned) line t (is i)))
      (λ x good. temp_to_is line k x f good)
  temp_right_is line k (things.effect e) f is =
      bind (λ (a : Acted). (i : Ready s scope f) → Acts s scope (behind i.progress f.out) a) (Leads s scope f) (acted scope line e) (λ a. act_to line k a f)
      (later (λ (i : Ready s scope f). Acts s scope (behind i.progress f.out)) (acted scope line e)
      (λ i. acted_is s scope allows (behind i.progress f.out) line f e (is i)))
      (λ a acts. act_to_is line k a f acts)

  pub temporary_is : (line k : ℕ) (e : Meaning) (f : Frame) → IsGood s e → Yields (Leads s scope f) (temporary scope line k e f)
  unfolding temporary
  temporary_is line k e f good =
      bind (λ (r : Right). (i : Ready s scope f) → IsRight (view_at s scope f i) (here scope line f) r) (Leads s scope f) (e.right (here scope line f))
      (λ r. temp_right scope line k r f) (right_at line f e good) (λ r is. temp_right_is line k r f is)

  pub alone_right_is : (line : ℕ) (r : Right) (f : Frame) → ((i : Ready s scope f) → IsRight (view_at s scope f i) (here scope line f) r)
      → Yields (Leads s scope f) (alone_right scope line r f)
  unfolding alone_right
  alone_right_is line (things.effect e) f is =
      bind (λ (a : Acted). (i : Ready s scope f) → Acts s scope (behind i.progress f.out) a) (Leads s scope f) (acted scope line e)
      (λ a. put (statement_of a.act None) f)
      (later (λ (i : Ready s scope f). Acts s scope (behind i.progress f.out)) (acted scope line e)
      (λ i. acted_is s scope allows (behind i.progress f.out) line f e (is i)))
      (λ a acts. put_is s scope f (statement_of a.act None) (λ i. (acts i).done i.frame.fine None (no_temp a.answer)))
    where
      no_temp : (answer : Option ValueType) → HasTemp s scope answer None
      no_temp None = tt
      no_temp (Some ty) = tt
  alone_right_is line (things.plain t) f is = failed (Leads s scope f) (NotAllowedHere line)
