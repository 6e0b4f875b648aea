-- The bodies of methods and guards.
use Rattle.std.proofs.Common.{◌≡◌, ◌∙◌, ◌+◌, ◌≤◌, ◌<◌, ◌++◌, ℕ, true, List, [], ◌∷◌, refl, sym, ap, subst, map, length, arith}
use Rattle.std.specs.Prelude.{IsTrue, nat_lt, Option, Some, None}
use Rattle.std.specs.List.{list_all}
use Rattle.std.specs.Option.{option_map}
use Rattle.std.proofs.lemmas.Bool.{and_parts, eq-eqb, le-leb}
use Rattle.pm_design.specs.declared.body.Ex.{Ex}
use Rattle.pm_design.specs.declared.body.St.{St}
use Rattle.pm_design.specs.Settings.{Progress, progress_of}
use Rattle.pm_design.specs.Sound.{is_sound_answer}
use Rattle.pm_design.specs.Typing.{Sight, has_width, is_sound, typing}
use Rattle.pm_design.specs.Widths.{is_width}
use Rattle.pm_syn.specs.declared.expression.Expr.{Expr}
use Rattle.pm_syn.specs.declared.statement.Node.{Node}
use Rattle.pm_values.specs.declared.reference.ValueType.{ValueType}
use Rattle.pm_values.specs.Tables.{Names, get}
use Rattle.pm_elab.specs.declared.body.Argument.{Argument}
use Rattle.pm_elab.specs.declared.body.MethodTypes.{MethodTypes}
use Rattle.pm_elab.specs.Values.{bits_of}
use Rattle.pm_typing.specs.declared.fault.TypeFault.TheVariants.{NotAllowedHere}
use Rattle.pm_typing.specs.declared.frame.Bound.TheVariants as bound
use Rattle.pm_typing.specs.declared.frame.Frame.{Frame}
use Rattle.pm_typing.specs.Counted.{◌>>=◌, pure, lift}
use Rattle.pm_typing.specs.Expressions.{meaning, operand}
use Rattle.pm_typing.specs.Operands.{bits_in, condition, fitted}
use Rattle.pm_typing.specs.Sites.{Scope}
use Rattle.pm_types.specs.declared.bodies.TypedBody.{TypedBody}
use Rattle.pm_types.specs.declared.bodies.TypedBody.TheVariants as typed
use Rattle.pm_types.specs.Assignments.{right_value, with_bound, with_stored}
use Rattle.pm_types.specs.Effects.{with_temp}
use Rattle.pm_types.specs.Bodies.{Returned, answer_by, answer_of, answered, first_frame, guard_body, guard_of, last_return, lines_before, lone_site, method_body, method_done, method_lines, place_of, with_argument, with_arguments}
use Rattle.pm_types.specs.Statements.{lines}
use Rattle.pm_type_laws.specs.Good.{is_type}
use Rattle.pm_type_laws.specs.Views.{View}
use Rattle.pm_type_laws.proofs.Things.{IsOperand, IsTyped}
use Rattle.pm_type_laws.proofs.Yields.{Yields, bind, done, failed, lifted}
use Rattle.pm_type_laws.proofs.Values.{both}
use Rattle.pm_type_laws.proofs.Valued.{Fits, bits_is, condition_fits, fitted_is, typed_parts}
use Rattle.pm_type_laws.proofs.Expressions.{expression_is, operand_is}
use Rattle.pm_body_laws.specs.Premises.{Allows}
use Rattle.pm_body_laws.proofs.Frames.{Begins, IsFrame, Leads, append_append, append_nil, behind, begins_on, bound_put, later, leads_on, view_of}
use Rattle.pm_body_laws.proofs.Assigning.{Values, declared_new, right_value_is, temporary_typed}
use Rattle.pm_body_laws.proofs.Bodies.{first_frame_is}
use Rattle.pm_body_laws.proofs.Stating.{good_meaning, lines_are}

-- the widths of arguments
abbrev pub widths_of : List Argument → List ℕ
widths_of xs = map (λ (a : Argument). a.ty.width) xs

-- so many arguments are assigned
abbrev pub started : ℕ → Progress
started n = record { fine = true; assigned = λ t. nat_lt t n }

-- a method's body, whose arguments are its first temporaries
pub record IsSoundMethodBody (s : Sight) (types : MethodTypes) (body : List St) (temps : List ℕ) (returned : Option Ex) : Type 0 where
  pub begins : Begins (widths_of types.arguments) temps
  pub sound : IsTrue (list_all (is_sound s) body)
  pub fine : IsTrue (progress_of (length types.arguments) body).fine
  pub answer : IsTrue (is_sound_answer s (progress_of (length types.arguments) body) (option_map (λ (t : ValueType). t.width) types.result) returned)
  pub wide : IsTrue (list_all is_width temps)

-- the body of a method of a number is sound where its temporaries are those of the sight
abbrev pub IsSoundMethod : Sight → MethodTypes → ℕ → TypedBody → Type 0
IsSoundMethod s types m (typed.Method n body temps answer) = (n ≡ m) × (s.temps ≡ temps → IsSoundMethodBody s types body temps answer)
IsSoundMethod s types m _ = ⊥

-- a guard of one bit
abbrev pub IsSoundGuard : Sight → TypedBody → Type 0
IsSoundGuard s (typed.Guard m e) = IsTrue (has_width s 1 e)
IsSoundGuard s _ = ⊥

module _ (s : Sight) (scope : Scope) (allows : Allows s scope) where
  -- ---- arguments

  argument_is : (n : ℕ) (own : Names ℕ) (a : Argument) (f : Frame) → length f.temps < n → Begins (f.temps ++ a.ty.width ∷ []) s.temps
      → IsTrue (is_type scope.design.design.shapes a.ty) → f.out ≡ [] → IsFrame s scope (started n) f
      → IsFrame s scope (started n) (with_argument own a f)
  unfolding with_argument with_bound with_stored with_temp
  argument_is n own a f less begins good out frame =
      let k : ℕ = place_of (get own a.name) in
      let declared = declared_new s scope allows f k a.ty in
      let there = declared.frame (started n) begins good frame in
      let assigned : IsTrue ((behind (started n) f.out).assigned (length f.temps)) =
      subst (λ (out : List St). IsTrue ((behind (started n) out).assigned (length f.temps))) (sym out) (le-leb _ _ less) in
      record {
        bounds = bound_put s scope (behind (started n) f.out) f.bounds k (bound.Temp (length f.temps) a.ty) there.bounds
            (temporary_typed s scope allows (view_of s (started n) f.out) (length f.temps) a.ty assigned
            (declared.temp (started n) begins frame) good);
        stored = there.stored;
        sound = there.sound;
        fine = there.fine;
        wide = there.wide;
      }

  same_out : (own : Names ℕ) (f : Frame) (a : Argument) → f.out ≡ [] → (with_argument own a f).out ≡ []
  unfolding with_argument with_bound with_stored with_temp
  same_out own f a out = out

  one_more : (ws : List ℕ) (w : ℕ) → length (ws ++ w ∷ []) ≡ length ws + 1
  one_more [] w = refl
  one_more (x ∷ ws) w = let more = one_more ws w in omega (arith, more)

  more_few : (n : ℕ) (own : Names ℕ) (f : Frame) (a : Argument) (xs : List Argument) → length f.temps + length (a ∷ xs) ≤ n
      → length (with_argument own a f).temps + length xs ≤ n
  unfolding with_argument with_bound with_stored with_temp
  more_few n own f a xs few = let more = one_more f.temps a.ty.width in omega (arith, few, more)

  more_begins : (own : Names ℕ) (f : Frame) (a : Argument) (xs : List Argument) → Begins (f.temps ++ widths_of (a ∷ xs)) s.temps
      → Begins ((with_argument own a f).temps ++ widths_of xs) s.temps
  unfolding with_argument with_bound with_stored with_temp
  more_begins own f a xs begins =
      (begins.0, ap (λ (ws : List ℕ). ws ++ begins.0) (append_append f.temps (a.ty.width ∷ []) (widths_of xs)) ∙ begins.1)

  arguments_are : (n : ℕ) (own : Names ℕ) (xs : List Argument) (f : Frame) → length f.temps + length xs ≤ n
      → Begins (f.temps ++ widths_of xs) s.temps
      → IsTrue (list_all (λ (a : Argument). is_type scope.design.design.shapes a.ty) xs) → f.out ≡ []
      → IsFrame s scope (started n) f → IsFrame s scope (started n) (with_arguments own xs f)
  unfolding with_arguments
  arguments_are n own [] f few begins all out frame = frame
  arguments_are n own (a ∷ xs) f few begins all out frame =
      let parts = and_parts (is_type scope.design.design.shapes a.ty) (list_all (λ (a : Argument). is_type scope.design.design.shapes a.ty) xs) all in
      let first : Begins (f.temps ++ a.ty.width ∷ []) s.temps = (
        widths_of xs ++ begins.0,
        sym (append_append (f.temps ++ a.ty.width ∷ []) (widths_of xs) begins.0)
            ∙ (ap (λ (ws : List ℕ). ws ++ begins.0) (append_append f.temps (a.ty.width ∷ []) (widths_of xs)) ∙ begins.1),
      ) in
      arguments_are n own xs (with_argument own a f) (more_few n own f a xs few) (more_begins own f a xs begins) parts.1 (same_out own f a out)
      (argument_is n own a f (omega (arith, few)) first parts.0 out frame)

  -- the temporaries that arguments are
  argument_temps : (own : Names ℕ) (xs : List Argument) (f : Frame) → (with_arguments own xs f).temps ≡ f.temps ++ widths_of xs
  unfolding with_arguments with_argument with_bound with_stored with_temp
  argument_temps own [] f = sym (append_nil f.temps)
  argument_temps own (a ∷ xs) f =
      argument_temps own xs (with_argument own a f) ∙ append_append f.temps (a.ty.width ∷ []) (widths_of xs)

  -- ---- methods

  module _ (types : MethodTypes) (good : IsTrue (list_all (λ (a : Argument). is_type scope.design.design.shapes a.ty) types.arguments)) where
    -- where the lines of a method begin
    begun : Frame
    begun = with_arguments scope.own types.arguments (first_frame (length scope.own))

    n : ℕ
    n = length types.arguments

    begun_temps : begun.temps ≡ widths_of types.arguments
    unfolding begun first_frame
    begun_temps = argument_temps scope.own types.arguments (first_frame (length scope.own))

    begun_is : Begins begun.temps s.temps → IsFrame s scope (started n) begun
    unfolding begun n first_frame
    begun_is begins =
        arguments_are (length types.arguments) scope.own types.arguments (first_frame (length scope.own)) (omega arith)
        (subst (λ (ws : List ℕ). Begins ws s.temps) begun_temps begins) good refl
        (first_frame_is s scope allows (started (length types.arguments)) (length scope.own) refl)

    -- what stands behind the last line
    last_is : (g : Frame) (answer : Option Ex) → Leads s scope begun g
        → ((frame : IsFrame s scope (started n) g)
        → IsTrue (is_sound_answer s (progress_of n g.out) (option_map (λ (t : ValueType). t.width) types.result) answer))
        → s.temps ≡ g.temps → IsSoundMethodBody s types g.out g.temps answer
    unfolding n
    last_is g answer leads answers same =
        let begins : Begins g.temps s.temps = ([], append_nil g.temps ∙ sym same) in
        let last = leads.frame (started n) begins (begun_is (begins_on begun.temps g.temps s.temps leads.temps begins)) in
        record {
          begins = subst (λ (ws : List ℕ). Begins ws g.temps) begun_temps leads.temps;
          sound = last.sound;
          fine = last.fine;
          answer = answers last;
          wide = last.wide;
        }

    -- what is known where an answer stands
    abbrev There : Frame → Frame → Type 0
    There g h = Begins h.temps s.temps × IsFrame s scope (started n) g

    -- an answer of the result's type
    answered_is : (m line : ℕ) (ty : ValueType) (e : Expr) (g : Frame) → types.result ≡ Some ty → Leads s scope begun g
        → Yields (IsSoundMethod s types m) (answered scope m line ty e g)
    unfolding answered n
    answered_is m line ty e g is leads =
        bind (Values s scope allows g) (IsSoundMethod s types m) (right_value scope line (meaning e) g)
        (λ p. fitted line ty p.1 >>= (λ x. pure (method_done m p.0 (Some x))))
        (right_value_is s scope allows line g (meaning e) (good_meaning s e))
        (λ p values. bind (λ (x : Ex). (i : There g p.0) → Fits (view_of s (started n) p.0.out) scope ty x) (IsSoundMethod s types m)
        (fitted line ty p.1) (λ x. pure (method_done m p.0 (Some x)))
        (later (λ (i : There g p.0). Fits (view_of s (started n) p.0.out) scope ty) (fitted line ty p.1)
        (λ i. fitted_is (view_of s (started n) p.0.out) scope line ty p.1 (values.value (started n) i.0 i.1)))
        (λ x fits. done (IsSoundMethod s types m) (method_done m p.0 (Some x)) (
          refl,
          λ same.
              let begins : Begins p.0.temps s.temps = ([], append_nil p.0.temps ∙ sym same) in
              let before : Begins g.temps s.temps = begins_on g.temps p.0.temps s.temps values.leads.temps begins in
              let frame : IsFrame s scope (started n) g =
              leads.frame (started n) before (begun_is (begins_on begun.temps g.temps s.temps leads.temps before)) in
              let says = typed_parts (view_of s (started n) p.0.out) scope x ty (fits (begins, frame)) in
              last_is p.0 (Some x) (leads_on s scope begun g p.0 leads values.leads)
              (λ last. subst (λ (r : Option ValueType). IsTrue (is_sound_answer s (progress_of (length types.arguments) p.0.out) (option_map (λ (t : ValueType). t.width) r) (Some x)))
              (sym is) (both (has_width s ty.width x) _ (both (typing s x).fine _ says.fine (eq-eqb _ _ says.wide)) says.reads)) same,
        )))

    answer_is : (m line : ℕ) (r : Option Returned) (g : Frame) → Leads s scope begun g
        → Yields (IsSoundMethod s types m) (answer_of scope m line types.result r g)
    unfolding answer_of
    answer_is m line r g leads = by types.result r refl
      where
        by : (ty : Option ValueType) (r : Option Returned) → types.result ≡ ty → Yields (IsSoundMethod s types m) (answer_by scope m line ty r g)
        by None None is =
            done (IsSoundMethod s types m) (method_done m g None) (
              refl,
              last_is g None leads
                  (λ last. subst (λ (r : Option ValueType). IsTrue (is_sound_answer s (progress_of n g.out) (option_map (λ (t : ValueType). t.width) r) None))
                  (sym is) refl),
            )
        by None (Some r) is = failed (IsSoundMethod s types m) (NotAllowedHere r.line)
        by (Some ty) None is = failed (IsSoundMethod s types m) (NotAllowedHere line)
        by (Some ty) (Some r) is = answered_is m r.line ty r.expression g is leads

    -- the lines of a method, and its answer
    pub method_is : (m line : ℕ) (ns : List Node) → Yields (IsSoundMethod s types m) (method_body scope m line types ns)
    unfolding method_body method_lines begun
    method_is m line ns =
        bind (Leads s scope begun) (IsSoundMethod s types m) (lines scope (lines_before (last_return ns) ns) begun)
        (λ g. answer_of scope m line types.result (last_return ns) g)
        (lines_are s scope allows (lines_before (last_return ns) ns) begun)
        (λ g leads. answer_is m line (last_return ns) g leads)

  -- ---- guards

  -- the condition of a method's `rdy`
  pub guard_is : (m line : ℕ) (e : Expr) → Yields (IsSoundGuard s) (guard_body scope m line e)
  unfolding guard_body guard_of
  guard_is m line e =
      bind (IsOperand v scope) (IsSoundGuard s) (operand (meaning e) (lone_site scope line)) (λ x. guard_of m line x)
      (operand_is v (meaning e) (expression_is v e) (lone_site scope line) (allows.sees (λ t. nat_lt t 0), tt))
      (λ x good. bind (IsTyped v scope) (IsSoundGuard s) (lift (bits_in line x))
      (λ e. condition line e.expression e.ty >>= (λ c. pure (typed.Guard m c)))
      (lifted (IsTyped v scope) (bits_in line x) (bits_is v scope line x good))
      (λ b is. bind (Fits v scope (bits_of 1)) (IsSoundGuard s) (condition line b.expression b.ty) (λ c. pure (typed.Guard m c))
      (condition_fits v scope line b.expression b.ty is)
      (λ c fits.
      let says = typed_parts v scope c (bits_of 1) fits in
      done (IsSoundGuard s) (typed.Guard m c) (both (typing s c).fine _ says.fine (eq-eqb _ _ says.wide)))))
    where
      v : View
      v = record { sight = s; assigned = λ t. nat_lt t 0 }
