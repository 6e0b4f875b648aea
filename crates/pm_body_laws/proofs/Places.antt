-- Each body of a design that is given is sound in its place.
use Rattle.std.proofs.Common.{◌≡◌, ◌∙◌, ◌==◌, ◌&&◌, ◌++◌, ℕ, zero, suc, Bool, true, false, List, [], ◌∷◌, refl, sym, ap, subst, map, length}
use Rattle.std.specs.Prelude.{IsTrue, bytes_eq, is_some, slice_get, take, Option, Some, None, Ok, Err}
use Rattle.std.specs.List.{list_all}
use Rattle.std.specs.Option.{option_map}
use Rattle.std.proofs.lemmas.Bool.{and_parts, eq-eqb, eqb-true, false≢true}
use Rattle.std.proofs.lemmas.Option.{same_Some}
use Rattle.pm_design.specs.declared.body.Block.{Block}
use Rattle.pm_design.specs.declared.body.BlockSort.{BlockSort}
use Rattle.pm_design.specs.declared.body.BlockSort.TheVariants as block_sort
use Rattle.pm_design.specs.declared.body.Ex.{Ex}
use Rattle.pm_design.specs.declared.body.Method.{Method}
use Rattle.pm_design.specs.declared.body.St.{St}
use Rattle.pm_design.specs.declared.design.Design.{Design}
use Rattle.pm_design.specs.declared.design.Kind.{Kind}
use Rattle.pm_design.specs.Settings.{progress_of}
use Rattle.pm_design.specs.Sound.{is_sound_answer, method_sight}
use Rattle.pm_design.specs.Typing.{Sight, is_sound}
use Rattle.pm_syn.specs.declared.expression.Expr.{Expr}
use Rattle.pm_syn.specs.declared.statement.Node.{Node}
use Rattle.pm_values.specs.declared.reference.Reference.{Reference}
use Rattle.pm_values.specs.declared.reference.ValueType.{ValueType}
use Rattle.pm_values.specs.declared.value.Taken.TheVariants as taken
use Rattle.pm_values.specs.Tables.{Names}
use Rattle.pm_elab.specs.declared.body.Argument.{Argument}
use Rattle.pm_elab.specs.declared.body.BodyPlace.{BodyPlace}
use Rattle.pm_elab.specs.declared.body.BodyPlace.TheVariants as place
use Rattle.pm_elab.specs.declared.body.Code.{Code}
use Rattle.pm_elab.specs.declared.body.Code.TheVariants as code
use Rattle.pm_elab.specs.declared.body.MethodTypes.{MethodTypes}
use Rattle.pm_elab.specs.declared.body.RawBody.{RawBody}
use Rattle.pm_elab.specs.declared.elaboration.RawDesign.{RawDesign}
use Rattle.pm_elab.specs.declared.elaboration.RawKind.{RawKind}
use Rattle.pm_elab.specs.Placing.{width_if}
use Rattle.pm_elab_laws.specs.Bodies.{are_lines, is_of_method}
use Rattle.pm_elab_laws.proofs.Fits.{taken_fits, type_fits, type_fits_if}
use Rattle.pm_elab_laws.proofs.Kept.{at_update, code_fits, is_update, method_fits, signal_fits}
use Rattle.pm_elab_laws.proofs.Tests.{never}
use Rattle.pm_typing.specs.declared.fault.TypeFault.TheVariants.{NotAllowedHere}
use Rattle.pm_typing.specs.declared.scope.BodySort.{BodySort}
use Rattle.pm_typing.specs.declared.scope.BodySort.TheVariants as sort
use Rattle.pm_typing.specs.declared.tally.Tally.{Tally}
use Rattle.pm_typing.specs.Counted.{Checked, Counted, ◌>>◌, pure, node}
use Rattle.pm_typing.specs.Expressions.{meaning, operand}
use Rattle.pm_typing.specs.Operands.{fitted}
use Rattle.pm_typing.specs.References.{type_of}
use Rattle.pm_typing.specs.Sites.{Scope}
use Rattle.pm_types.specs.declared.bodies.TypedBody.{TypedBody}
use Rattle.pm_types.specs.declared.bodies.TypedBody.TheVariants as typed
use Rattle.pm_types.specs.Bodies.{block_body, body_by, body_scope, first_frame, guard_body, lambda_body, lambda_done, lambda_to, lone_site, method_body, method_if, names_of, number_of, sort_at, sort_of_block, statements_by, whole_body}
use Rattle.pm_types.specs.Statements.{lines}
use Rattle.pm_types.specs.Targets.{may_write}
use Rattle.pm_type_laws.specs.Good.{IsMade, is_type}
use Rattle.pm_type_laws.proofs.Yields.{On, Where, Yields, a_node, bind, done, failed, test}
use Rattle.pm_type_laws.proofs.Values.{both, find_in}
use Rattle.pm_made_laws.specs.Noted.{Widths, method_widths, noted_method}
use Rattle.pm_made_laws.proofs.MadeScopes.{reference_seen, type_is}
use Rattle.pm_body_laws.specs.Premises.{Allows, AreCalled, IsSoundBody}
use Rattle.pm_body_laws.specs.Wholes.{HasSoundLines, IsSoundFor}
use Rattle.pm_body_laws.proofs.Blocks.{allows_block, sight_of}
use Rattle.pm_body_laws.proofs.Bodies.{block_is, lambda_is}
use Rattle.pm_body_laws.proofs.Called.{Fits}
use Rattle.pm_body_laws.proofs.Methods.{IsSoundGuard, IsSoundMethod, IsSoundMethodBody, guard_is, method_is, widths_of}
use Rattle.pm_body_laws.proofs.Numbers.{is_method}

-- nothing is claimed
anything : {A : Type 0} (c : Counted A) → Yields (λ _. Unit {0}) c
anything {A} c m = by (c m)
  where
    by : (r : Checked (A × Tally)) → On (λ (r : A × Tally). Unit {0}) r
    by (Ok r) = tt
    by (Err e) = tt

-- ---- what a body is of

-- the body of a block
abbrev IsBlockOf : ℕ → TypedBody → Type 0
IsBlockOf b (typed.Block n body temps) = n ≡ b
IsBlockOf b _ = ⊥

block_of : (scope : Scope) (b : ℕ) (ns : List Node) → Yields (IsBlockOf b) (block_body scope b ns)
unfolding block_body
block_of scope b ns =
    bind (λ _. Unit {0}) (IsBlockOf b) (lines scope ns (first_frame (length scope.own))) (λ f. pure (typed.Block b f.out f.temps))
    (anything _) (λ f is. done (IsBlockOf b) (typed.Block b f.out f.temps) refl)

lambda_of : (scope : Scope) (b line : ℕ) (to : Reference) (e : Expr) → Yields (IsBlockOf b) (lambda_body scope b line to e)
unfolding lambda_body lambda_to
lambda_of scope b line to e =
    bind (λ _. Unit {0}) (IsBlockOf b) (operand (meaning e) (lone_site scope line)) (λ x. lambda_to scope b line to x) (anything _)
    (λ x is. test (IsBlockOf b) (may_write scope.sort to) _ _
    (λ may. bind (λ _. Unit {0}) (IsBlockOf b) (fitted line (type_of to) x) (λ e. node >> pure (lambda_done b to e)) (anything _)
    (λ e is. a_node (IsBlockOf b) (lambda_done b to e) refl))
    (failed (IsBlockOf b) (NotAllowedHere line)))

-- the lines of a method give a method of its number
abbrev IsOf : RawBody → TypedBody → Type 0
IsOf b t = (m : ℕ) → IsTrue (is_of_method m b.place && are_lines b.code) → IsTrue (is_method m t)

-- ---- methods

abbrev head : List Widths → Widths
head [] = record { arguments = []; answer = None }
head (w ∷ ws) = w

abbrev others : List Widths → List Widths
others [] = []
others (w ∷ ws) = ws

-- a method, and what is noted of it
widths_at : (xs : List Method) (ts : List MethodTypes) → map method_widths xs ≡ map noted_method ts
    → (m : ℕ) (x : Method) (t : MethodTypes) → slice_get xs m ≡ Some x → slice_get ts m ≡ Some t → method_widths x ≡ noted_method t
widths_at [] ts same m x t first second = never (ap is_some first)
widths_at (y ∷ xs) [] same m x t first second = never (ap is_some second)
widths_at (y ∷ xs) (u ∷ ts) same zero x t first second =
    subst (λ (x : Method). method_widths x ≡ noted_method t) (same_Some y x first)
    (subst (λ (t : MethodTypes). method_widths y ≡ noted_method t) (same_Some u t second) (ap head same))
widths_at (y ∷ xs) (u ∷ ts) same (suc m) x t first second = widths_at xs ts (ap others same) m x t first second

width_same : (r : Option ValueType) → width_if r ≡ option_map (λ (t : ValueType). t.width) r
width_same None = refl
width_same (Some t) = refl

-- a list that begins so
taken_first : (xs rest : List ℕ) → IsTrue (bytes_eq (take (length xs) (xs ++ rest)) xs)
taken_first [] rest = refl
taken_first (x ∷ xs) rest = both (x == x) _ (eq-eqb x x refl) (taken_first xs rest)

widths_counted : (xs : List Argument) → length (widths_of xs) ≡ length xs
widths_counted [] = refl
widths_counted (x ∷ xs) = ap (λ (n : ℕ). suc n) (widths_counted xs)

module _ (d : Design) where
  arguments_typed : (xs : List Argument) → list_all (λ (a : Argument). type_fits d a.ty) xs ≡ true
      → IsTrue (list_all (λ (a : Argument). is_type d.shapes a.ty) xs)
  arguments_typed [] all = refl
  arguments_typed (x ∷ xs) all =
      let parts = and_parts (type_fits d x.ty) (list_all (λ (a : Argument). type_fits d a.ty) xs) all in
      both (is_type d.shapes x.ty) _ (type_is d x.ty parts.0) (arguments_typed xs parts.1)

  -- a sound body of a method of these types is one of the method that they are noted of
  lines_for : (kind : Kind) (method : Method) (types : MethodTypes) (body : List St) (temps : List ℕ) (answer : Option Ex)
      → method_widths method ≡ noted_method types → IsSoundMethodBody (method_sight d kind temps) types body temps answer
      → HasSoundLines d kind method body temps answer
  lines_for kind method types body temps answer same is =
      let arguments : method.arguments ≡ widths_of types.arguments = ap (λ (w : Widths). w.arguments) same in
      let result : method.result ≡ option_map (λ (t : ValueType). t.width) types.result =
      ap (λ (w : Widths). w.answer) same ∙ width_same types.result in
      let many : length method.arguments ≡ length types.arguments =
      ap (λ (ws : List ℕ). length ws) arguments ∙ widths_counted types.arguments in
      record {
        arguments = subst (λ (ws : List ℕ). IsTrue (bytes_eq (take (length ws) temps) ws)) (sym arguments)
            (subst (λ (ws : List ℕ). IsTrue (bytes_eq (take (length (widths_of types.arguments)) ws) (widths_of types.arguments)))
            is.begins.1 (taken_first (widths_of types.arguments) is.begins.0));
        sound = is.sound;
        fine = subst (λ (n : ℕ). IsTrue (progress_of n body).fine) (sym many) is.fine;
        answer = subst (λ (r : Option ℕ). IsTrue (is_sound_answer (method_sight d kind temps) (progress_of (length method.arguments) body) r answer)) (sym result)
            (subst (λ (n : ℕ). IsTrue (is_sound_answer (method_sight d kind temps) (progress_of n body) (option_map (λ (t : ValueType). t.width) types.result) answer)) (sym many) is.answer);
        wide = is.wide;
      }

-- ---- blocks

-- a block that runs in each cycle
update_sort : (block : Block) → is_update (Some block) ≡ true → sort_at block.sort ≡ sort.Update
update_sort block is = by block.sort is
  where
    by : (of : BlockSort) → elim of as (λ _. Bool) [ block_sort.Update ↦ true | block_sort.Once ↦ false | block_sort.Edge ↦ false ] ≡ true
        → sort_at of ≡ sort.Update
    by block_sort.Update is = refl
    by block_sort.Once is = never is
    by block_sort.Edge is = never is

module _ (given : RawDesign) (kind : Kind) (raw : RawKind) (fits : Fits given.design kind raw)
    (signals : (i : ℕ) (k : Kind) → slice_get given.design.kinds i ≡ Some k → list_all (signal_fits given.design) k.signals ≡ true)
    (made : (own : Names ℕ) (of : BodySort) → IsMade (record { design = given; kind = kind; raw = raw; own = own; sort = of }))
    (called : (own : Names ℕ) (of : BodySort) → AreCalled (record { design = given; kind = kind; raw = raw; own = own; sort = of })) where
  abbrev d : Design
  d = given.design

  -- where a body of a sort stands that assigns these names
  abbrev within : Names ℕ → BodySort → Scope
  within own of = record { design = given; kind = kind; raw = raw; own = own; sort = of }

  -- a body is sound for what it is of, and is the lines of a method where it is typed for one
  abbrev pub IsPlaced : RawBody → TypedBody → Type 0
  IsPlaced b t = IsSoundFor d kind t × IsOf b t

  -- the body of a block that is sound in each sight that allows it
  block_for : (own : Names ℕ) (of : BodySort) (b : ℕ) (c : Counted TypedBody) → Yields (IsBlockOf b) c
      → ((s : Sight) → Allows s (within own of) → Yields (IsSoundBody s) c)
      → ((block : Block) → slice_get kind.blocks b ≡ Some block → of ≡ sort_at block.sort)
      → Yields (IsSoundFor d kind) c
  unfolding sight_of
  block_for own of b c one sound at m = by (c m) (one m) (λ s allows. sound s allows m)
    where
      by : (r : Checked (TypedBody × Tally)) → On (λ (r : TypedBody × Tally). IsBlockOf b r.0) r
          → ((s : Sight) → Allows s (within own of) → On (λ (r : TypedBody × Tally). IsSoundBody s r.0) r)
          → On (λ (r : TypedBody × Tally). IsSoundFor d kind r.0) r
      by (Err e) one sound = tt
      by (Ok (typed.Block n body temps, after)) one sound = λ block is.
          let is_there : slice_get kind.blocks b ≡ Some block = subst (λ (k : ℕ). slice_get kind.blocks k ≡ Some block) one is in
          let good : IsMade (within own of) = made own of in
          let allows = allows_block (within own of) block.name body temps good (called own of) block.sort (at block is_there) in
          let parts = sound (sight_of (within own of) block.name body temps good block.sort) allows refl in
          (both (list_all (is_sound (sight_of (within own of) block.name body temps good block.sort)) body) _ parts.0 parts.1, parts.2)
      by (Ok (typed.Method n body temps answer, after)) one sound = absurd one
      by (Ok (typed.Guard n e, after)) one sound = absurd one

  -- the lines of a block
  lines_of_block : (b : ℕ) (ns : List Node)
      → Yields (IsSoundFor d kind) (block_body (body_scope given kind raw (sort_of_block (slice_get kind.blocks b)) (names_of [] ns)) b ns)
  lines_of_block b ns =
      block_for (names_of [] ns) of b (block_body (within (names_of [] ns) of) b ns) (block_of (within (names_of [] ns) of) b ns)
      (λ s allows. block_is s (within (names_of [] ns) of) allows b ns)
      (λ block at. ap (λ (x : Option Block). sort_of_block x) at)
    where
      of : BodySort
      of = sort_of_block (slice_get kind.blocks b)

  -- a lambda, which is an update block
  lambda_placed : (b line : ℕ) (to : Reference) (e : Expr) → is_update (slice_get kind.blocks b) ≡ true
      → taken_fits d kind (taken.Signal to) ≡ true
      → Yields (IsSoundFor d kind) (lambda_body (body_scope given kind raw sort.Update []) b line to e)
  lambda_placed b line to e update there =
      block_for [] sort.Update b (lambda_body (within [] sort.Update) b line to e) (lambda_of (within [] sort.Update) b line to e)
      (λ s allows. lambda_is s (within [] sort.Update) allows b line to e
      (reference_seen given kind raw [] sort.Update fits.kept signals to there) refl)
      (λ block at. sym (update_sort block (subst (λ (x : Option Block). is_update x ≡ true) at update)))

  -- what a method or a guard may do
  allows_method : (own : Names ℕ) (temps : List ℕ) → Allows (method_sight d kind temps) (within own sort.Method)
  allows_method own temps = record {
    sees = λ assigned. record { made = made own sort.Method; reads = λ p is. is; states = refl; calls = refl };
    writes = λ r is may whole. absurd (false≢true may);
    changes = λ may. refl;
    calls = λ c types at there.
        let is = called own sort.Method c types at there in
        record { there = is.there; arguments = is.arguments; answer = is.answer; typed = is.typed; result = is.result };
  }

  -- the lines of a method
  method_placed : (b : RawBody) (m line : ℕ) (types : MethodTypes) (ns : List Node) → b.place ≡ place.Method m → slice_get raw.methods m ≡ Some types
      → Yields (IsPlaced b) (method_body (body_scope given kind raw sort.Method (names_of types.arguments ns)) m line types ns)
  method_placed b m line types ns is_of at before =
      by (method_body (within own sort.Method) m line types ns before)
      (λ temps. method_is (method_sight d kind temps) (within own sort.Method) (allows_method own temps) types good m line ns before)
    where
      own : Names ℕ
      own = names_of types.arguments ns

      fine : method_fits d types ≡ true
      fine = subst (Where (λ (t : MethodTypes). IsTrue (method_fits d t))) at (find_in (method_fits d) raw.methods m fits.kept.typed.methods_fit)

      good : IsTrue (list_all (λ (a : Argument). is_type d.shapes a.ty) types.arguments)
      good = arguments_typed d types.arguments (and_parts (list_all (λ (a : Argument). type_fits d a.ty) types.arguments) (type_fits_if d types.result) fine).0

      its_own : (n k : ℕ) → n ≡ m → IsTrue (is_of_method k b.place && are_lines b.code) → IsTrue (n == k)
      its_own n k same is =
          let mine : IsTrue (m == k) =
          subst (λ (p : BodyPlace). IsTrue (is_of_method k p)) is_of (and_parts (is_of_method k b.place) (are_lines b.code) is).0 in
          eq-eqb n k (same ∙ eqb-true m k mine)

      by : (r : Checked (TypedBody × Tally))
          → ((temps : List ℕ) → On (λ (r : TypedBody × Tally). IsSoundMethod (method_sight d kind temps) types m r.0) r)
          → On (λ (r : TypedBody × Tally). IsPlaced b r.0) r
      by (Err e) sound = tt
      by (Ok (typed.Block n body temps, after)) sound = absurd (sound [])
      by (Ok (typed.Guard n e, after)) sound = absurd (sound [])
      by (Ok (typed.Method n body temps answer, after)) sound =
          let says = sound temps in (
            (λ method is. lines_for d kind method types body temps answer
                (widths_at kind.methods raw.methods fits.noted.methods m method types
                (subst (λ (k : ℕ). slice_get kind.methods k ≡ Some method) says.0 is) at) (says.1 refl)),
            (λ k is. its_own n k says.0 is),
          )

  -- a guard
  guard_placed : (m line : ℕ) (e : Expr) → Yields (IsSoundFor d kind) (guard_body (body_scope given kind raw sort.Method []) m line e)
  guard_placed m line e before =
      by (guard_body (within [] sort.Method) m line e before)
      (guard_is (method_sight d kind []) (within [] sort.Method) (allows_method [] []) m line e before)
    where
      by : (r : Checked (TypedBody × Tally)) → On (λ (r : TypedBody × Tally). IsSoundGuard (method_sight d kind []) r.0) r
          → On (λ (r : TypedBody × Tally). IsSoundFor d kind r.0) r
      by (Err e) sound = tt
      by (Ok (typed.Block n body temps, after)) sound = absurd sound
      by (Ok (typed.Method n body temps answer, after)) sound = absurd sound
      by (Ok (typed.Guard n e, after)) sound = sound

  -- ---- any body

  -- what is of no method
  other : (b : RawBody) (c : Counted TypedBody) → ((k : ℕ) → (is_of_method k b.place && are_lines b.code) ≡ false)
      → Yields (IsSoundFor d kind) c → Yields (IsPlaced b) c
  other b c none is m = by (c m) (is m)
    where
      by : (r : Checked (TypedBody × Tally)) → On (λ (r : TypedBody × Tally). IsSoundFor d kind r.0) r
          → On (λ (r : TypedBody × Tally). IsPlaced b r.0) r
      by (Err e) is = tt
      by (Ok r) is = (is, λ k lines. absurd (false≢true (sym (none k) ∙ lines)))

  never_lines : (a : Bool) → (a && false) ≡ false
  never_lines true = refl
  never_lines false = refl

  -- the place of a lambda
  lambda_by : (p : BodyPlace) (line : ℕ) (to : Reference) (e : Expr) → at_update kind p ≡ true → taken_fits d kind (taken.Signal to) ≡ true
      → Yields (IsSoundFor d kind) (lambda_body (body_scope given kind raw sort.Update []) (number_of p) line to e)
  lambda_by (place.Block n) line to e update there = lambda_placed n line to e update there
  lambda_by (place.Method n) line to e update there = never update
  lambda_by (place.Guard n) line to e update there = never update

  body_placed : (b : RawBody) → code_fits d kind b.place b.code ≡ true → Yields (IsPlaced b) (body_by given kind raw b b.code)
  body_placed b good = by b.code refl good
    where
      lines_by : (p : BodyPlace) (ns : List Node) → b.place ≡ p → Yields (IsPlaced b) (statements_by given kind raw p b.line ns)
      lines_by (place.Block n) ns is =
          other b (statements_by given kind raw (place.Block n) b.line ns)
          (λ k. subst (λ (p : BodyPlace). (is_of_method k p && are_lines b.code) ≡ false) (sym is) refl) (lines_of_block n ns)
      lines_by (place.Guard n) ns is = failed (IsPlaced b) (NotAllowedHere b.line)
      lines_by (place.Method n) ns is = method_by (slice_get raw.methods n) refl
        where
          method_by : (t : Option MethodTypes) → slice_get raw.methods n ≡ t → Yields (IsPlaced b) (method_if given kind raw n b.line t ns)
          method_by None at = failed (IsPlaced b) (NotAllowedHere b.line)
          method_by (Some types) at = method_placed b n b.line types ns is at

      none_by : (c : Code) → b.code ≡ c → are_lines c ≡ false → (k : ℕ) → (is_of_method k b.place && are_lines b.code) ≡ false
      none_by c is none k =
          ap (λ (x : Code). is_of_method k b.place && are_lines x) is
          ∙ (ap (λ (l : Bool). is_of_method k b.place && l) none ∙ never_lines (is_of_method k b.place))

      by : (c : Code) → b.code ≡ c → code_fits d kind b.place c ≡ true → Yields (IsPlaced b) (body_by given kind raw b c)
      by (code.Statements ns) is good = lines_by b.place ns refl
      by (code.Guard e) is good = other b _ (none_by (code.Guard e) is refl) (guard_placed (number_of b.place) b.line e)
      by (code.Lambda to e) is good =
          let parts = and_parts (at_update kind b.place) (taken_fits d kind (taken.Signal to)) good in
          other b _ (none_by (code.Lambda to e) is refl) (lambda_by b.place b.line to e parts.0 parts.1)

  -- a body is sound in its place
  pub whole_placed : (b : RawBody) → code_fits d kind b.place b.code ≡ true → Yields (IsPlaced b) (whole_body given kind raw b)
  unfolding whole_body
  whole_placed b good m = body_placed b good (record m { line = b.line })
