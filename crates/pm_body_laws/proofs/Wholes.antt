-- A design with typed bodies is sound.
use Rattle.std.proofs.Common.{◌≡◌, ◌∙◌, ◌+◌, ◌<◌, ◌&&◌, ◌||◌, ◌++◌, ℕ, zero, suc, Bool, true, false, List, [], ◌∷◌, refl, sym, ap, subst, length, arith}
use Rattle.std.specs.Prelude.{IsTrue, is_some, slice_get, slice_index_or, Option, Some, None, Ok, Err}
use Rattle.std.specs.List.{list_all, list_any}
use Rattle.std.proofs.lemmas.Bool.{and_parts, eqb-true, false≢true}
use Rattle.std.proofs.lemmas.Option.{slice_get_within}
use Rattle.pm_design.specs.declared.body.Block.{Block}
use Rattle.pm_design.specs.declared.body.Ex.{Ex}
use Rattle.pm_design.specs.declared.body.Method.{Method}
use Rattle.pm_design.specs.declared.body.St.{St}
use Rattle.pm_design.specs.declared.design.Design.{Design}
use Rattle.pm_design.specs.declared.design.Kind.{Kind}
use Rattle.pm_design.specs.declared.signal.Shape.{Shape}
use Rattle.pm_design.specs.Elaborated.{IsElaborated, IsElaboratedKind, is_good_method, is_width_or_none}
use Rattle.pm_design.specs.Lookups.{kind_of, no_kind}
use Rattle.pm_design.specs.Settings.{progress_of}
use Rattle.pm_design.specs.Sound.{IsSound, block_sight, is_sound_block, is_sound_guard, is_sound_method, method_sight}
use Rattle.pm_design.specs.Typing.{is_sound}
use Rattle.pm_design.specs.Widths.{is_width}
use Rattle.pm_syn.specs.declared.statement.Node.{Node}
use Rattle.pm_elab.specs.declared.body.RawBody.{RawBody}
use Rattle.pm_elab.specs.declared.elaboration.RawDesign.{RawDesign}
use Rattle.pm_elab.specs.declared.elaboration.RawKind.{RawKind}
use Rattle.pm_elab.specs.declared.parameter.Param.{Param}
use Rattle.pm_elab.specs.Files.{build}
use Rattle.pm_elab_laws.specs.Soundness.{are_good_params, declares_proper_names}
use Rattle.pm_elab_laws.specs.Bodies.{IsUntyped, are_lines, is_empty, is_of_method, is_unguarded, is_untyped_block}
use Rattle.pm_elab_laws.proofs.Kept.{code_fits, signal_fits}
use Rattle.pm_elab_laws.proofs.Given.{designs_sound}
use Rattle.pm_elab_laws.proofs.Untyped.{kinds_untyped}
use Rattle.pm_typing.specs.declared.tally.Tally.{Tally}
use Rattle.pm_typing.specs.Counted.{Checked}
use Rattle.pm_types.specs.declared.bodies.TypedBody.{TypedBody}
use Rattle.pm_types.specs.declared.bodies.TypedBody.TheVariants as typed
use Rattle.pm_types.specs.declared.filling.Filling.{Filling}
use Rattle.pm_types.specs.Bodies.{whole_body}
use Rattle.pm_types.specs.ByLine.{by_line}
use Rattle.pm_types.specs.Designs.{all_bodies_from, bodies_from, kind_bodies, no_nodes, typed_design}
use Rattle.pm_types.specs.Filled.{block_in, filled, filled_block, filled_kind, filled_kinds, guard_in, method_in, slots_of, with_filling, with_guard}
use Rattle.pm_type_laws.specs.Views.{Each}
use Rattle.pm_type_laws.proofs.Yields.{On, Where, Yields, and_on, bind, done}
use Rattle.pm_type_laws.proofs.Values.{both, find_in}
use Rattle.pm_made_laws.proofs.KeptKinds.{kinds_noted_of}
use Rattle.pm_made_laws.proofs.MadeScopes.{scopes_made}
use Rattle.pm_body_laws.specs.Wholes.{BodiesOfDesignsAreSound, HasSoundLines, IsSoundFor, TypedDesignsAreSound}
use Rattle.pm_body_laws.proofs.Called.{Fits, are_called, at_both, kinds_fit}
use Rattle.pm_body_laws.proofs.Frames.{weaken}
use Rattle.pm_body_laws.proofs.Numbers.{all_by_rank, any_by_rank, block_found, blocks_filled, guard_found, is_method, method_found, method_there, methods_filled}
use Rattle.pm_body_laws.proofs.Places.{whole_placed}
use Rattle.pm_body_laws.proofs.Sights.{block_kept, kind_elaborated, kinds_counted, shape_kept, sound_method_kept}

-- ---- the bodies of a kind

-- the lines of a method of a number
abbrev of_number : ℕ → RawBody → Bool
of_number m b = is_of_method m b.place && are_lines b.code

-- bodies that are typed one after the other
record AreTyped (P : TypedBody → Type 0) (before : List TypedBody) (bs : List RawBody) (ts : List TypedBody) : Type 0 where
  each : Each P ts
  kept : (m : ℕ) → IsTrue (list_any (is_method m) before) → IsTrue (list_any (is_method m) ts)
  made : (m : ℕ) → IsTrue (list_any (of_number m) bs) → IsTrue (list_any (is_method m) ts)

each_more : (P : TypedBody → Type 0) (ts : List TypedBody) (t : TypedBody) → Each P ts → P t → Each P (ts ++ t ∷ [])
each_more P [] t each is = (is, tt)
each_more P (x ∷ ts) t each is = (each.0, each_more P ts t each.1 is)

any_first : (test : TypedBody → Bool) (ts : List TypedBody) (t : TypedBody) → IsTrue (list_any test ts) → IsTrue (list_any test (ts ++ t ∷ []))
any_first test [] t any = absurd (false≢true any)
any_first test (x ∷ ts) t any = by (test x) any (λ any. any_first test ts t any)
  where
    by : (b : Bool) → IsTrue (b || list_any test ts) → (IsTrue (list_any test ts) → IsTrue (list_any test (ts ++ t ∷ [])))
        → IsTrue (b || list_any test (ts ++ t ∷ []))
    by true any later = refl
    by false any later = later any

any_last : (test : TypedBody → Bool) (ts : List TypedBody) (t : TypedBody) → IsTrue (test t) → IsTrue (list_any test (ts ++ t ∷ []))
any_last test [] t is = by (test t) is
  where
    by : (b : Bool) → IsTrue b → IsTrue (b || false)
    by true is = refl
    by false is = is
any_last test (x ∷ ts) t is = by (test x) (any_last test ts t is)
  where
    by : (b : Bool) → IsTrue (list_any test (ts ++ t ∷ [])) → IsTrue (b || list_any test (ts ++ t ∷ []))
    by true later = refl
    by false later = later

module _ (P : TypedBody → Type 0) (design : RawDesign) (kind : Kind) (raw : RawKind) (good : RawBody → Bool)
    (step : (b : RawBody) → IsTrue (good b)
    → Yields (λ (t : TypedBody). P t × ((m : ℕ) → IsTrue (of_number m b) → IsTrue (is_method m t))) (whole_body design kind raw b)) where
  bodies_typed : (bs : List RawBody) (before : List TypedBody) → IsTrue (list_all good bs) → Each P before
      → Yields (AreTyped P before bs) (bodies_from before design kind raw bs)
  unfolding bodies_from
  bodies_typed [] before all each =
      done (AreTyped P before []) before (record { each = each; kept = λ m is. is; made = λ m is. absurd (false≢true is) })
  bodies_typed (b ∷ bs) before all each =
      let parts = and_parts (good b) (list_all good bs) all in
      bind (λ (t : TypedBody). P t × ((m : ℕ) → IsTrue (of_number m b) → IsTrue (is_method m t))) (AreTyped P before (b ∷ bs))
      (whole_body design kind raw b) (λ t. bodies_from (before ++ t ∷ []) design kind raw bs) (step b parts.0)
      (λ t is. weaken (AreTyped P (before ++ t ∷ []) bs) (AreTyped P before (b ∷ bs)) (bodies_from (before ++ t ∷ []) design kind raw bs)
      (λ ts so. record {
        each = so.each;
        kept = λ m any. so.kept m (any_first (is_method m) before t any);
        made = λ m any. one_of (of_number m b) (list_any (of_number m) bs) (IsTrue (list_any (is_method m) ts)) any
            (λ this. so.kept m (any_last (is_method m) before t (is.1 m this))) (λ other. so.made m other);
      })
      (bodies_typed bs (before ++ t ∷ []) parts.1 (each_more P before t each is.0)))
    where
      one_of : (a c : Bool) (A : Type 0) → IsTrue (a || c) → (IsTrue a → A) → (IsTrue c → A) → A
      one_of true c A any first second = first refl
      one_of false c A any first second = second any

-- ---- a kind with its bodies

-- nothing is in it
nothing_in : {A : Type 0} (xs : List A) → IsTrue (is_empty xs) → xs ≡ []
nothing_in [] is = refl
nothing_in (x ∷ xs) is = absurd (some_in x xs (eqb-true _ _ is))
  where
    some_in : {A : Type 0} (x : A) (xs : List A) → length (x ∷ xs) ≡ 0 → ⊥
    some_in x xs is = omega (arith, is)

-- a kind of a design is sound with these bodies
record IsSoundKind (d : Design) (kind : Kind) (ts : List TypedBody) : Type 0 where
  blocks : IsTrue (list_all (is_sound_block d kind) (filled_kind kind ts).blocks)
  methods : IsTrue (list_all (is_sound_method d kind) (filled_kind kind ts).methods)
  block_temps : IsTrue (list_all (λ (b : Block). list_all is_width b.temps) (filled_kind kind ts).blocks)
  good_methods : IsTrue (list_all is_good_method (filled_kind kind ts).methods)

module _ (d : Design) (kind : Kind) (raw : RawKind) (untyped : IsUntyped kind raw) (good : list_all is_good_method kind.methods ≡ true)
    (ts : List TypedBody) (so : AreTyped (IsSoundFor d kind) [] (by_line raw.bodies) ts) where
  -- ---- blocks

  untyped_at : (i : ℕ) (b : Block) → slice_get kind.blocks i ≡ Some b → IsTrue (is_untyped_block b)
  untyped_at i b at = subst (Where (λ (b : Block). IsTrue (is_untyped_block b))) at (find_in is_untyped_block kind.blocks i untyped.blocks)

  block_filled : (i : ℕ) (b : Block) → slice_get kind.blocks i ≡ Some b
      → IsTrue (is_sound_block d kind (filled_block b (block_in ts i))) × IsTrue (list_all is_width (filled_block b (block_in ts i)).temps)
  block_filled i b at = by (block_in ts i) (block_found (IsSoundFor d kind) ts i so.each)
    where
      by : (f : Option Filling) → Where (λ (f : Filling). IsSoundFor d kind (typed.Block i f.out f.temps)) f
          → IsTrue (is_sound_block d kind (filled_block b f)) × IsTrue (list_all is_width (filled_block b f).temps)
      by (Some f) is = is b at
      by None is =
          let parts = and_parts (is_empty b.body) (is_empty b.temps) (untyped_at i b at) in (
            subst (λ (body : List St). IsTrue (list_all (is_sound (block_sight d kind b)) body && (progress_of 0 body).fine)) (sym (nothing_in b.body parts.0)) refl,
            subst (λ (ws : List ℕ). IsTrue (list_all is_width ws)) (sym (nothing_in b.temps parts.1)) refl,
          )

  -- ---- methods

  method_some : (m : ℕ) (method : Method) → slice_get kind.methods m ≡ Some method → IsTrue (is_some (method_in ts m))
  method_some m method at =
      method_there ts m (so.made m (any_by_rank (of_number m) (λ (b : RawBody). b.line) raw.bodies
      ∙ untyped.lines m (slice_get_within kind.methods m method at)))

  unguarded_at : (m : ℕ) (method : Method) → slice_get kind.methods m ≡ Some method → IsTrue (is_unguarded method)
  unguarded_at m method at = subst (Where (λ (m : Method). IsTrue (is_unguarded m))) at (find_in is_unguarded kind.methods m untyped.guards)

  no_guard : (g : Option Ex) → IsTrue (elim g as (λ _. Bool) [ Some e ↦ false | None ↦ true ]) → IsTrue (is_sound_guard d kind g)
  no_guard None is = refl
  no_guard (Some e) is = absurd (false≢true is)

  -- a method and its guard
  method_sound : (m : Method) (f : Filling) (g : Option Ex) → HasSoundLines d kind m f.out f.temps f.answer → IsTrue (is_unguarded m)
      → Where (λ (e : Ex). IsTrue (is_sound_guard d kind (Some e))) g → IsTrue (is_good_method m)
      → IsTrue (is_sound_method d kind (with_guard (with_filling m (Some f)) g)) × IsTrue (is_good_method (with_guard (with_filling m (Some f)) g))
  method_sound m f g is none guard good = by g guard
    where
      all : (g : Option Ex) → IsTrue (is_sound_guard d kind g)
          → IsTrue (is_sound_method d kind (record m { guard = g; body = f.out; temps = f.temps; answer = f.answer }))
      all g guard =
          both _ _ is.arguments (both (list_all (is_sound (method_sight d kind f.temps)) f.out) _ is.sound
          (both (progress_of (length m.arguments) f.out).fine _ is.fine (both (is_sound_guard d kind g) _ guard is.answer)))

      wide : IsTrue (list_all is_width m.arguments && (is_width_or_none m.result && list_all is_width f.temps))
      wide =
          let parts = and_parts (list_all is_width m.arguments) (is_width_or_none m.result && list_all is_width m.temps) good in
          let result = and_parts (is_width_or_none m.result) (list_all is_width m.temps) parts.1 in
          both (list_all is_width m.arguments) _ parts.0 (both (is_width_or_none m.result) _ result.0 is.wide)

      by : (g : Option Ex) → Where (λ (e : Ex). IsTrue (is_sound_guard d kind (Some e))) g
          → IsTrue (is_sound_method d kind (with_guard (with_filling m (Some f)) g)) × IsTrue (is_good_method (with_guard (with_filling m (Some f)) g))
      by (Some e) guard = (all (Some e) guard, wide)
      by None guard = (all m.guard (no_guard m.guard none), wide)

  method_filled : (i : ℕ) (m : Method) → slice_get kind.methods i ≡ Some m
      → IsTrue (is_sound_method d kind (with_guard (with_filling m (method_in ts i)) (guard_in ts i)))
      × IsTrue (is_good_method (with_guard (with_filling m (method_in ts i)) (guard_in ts i)))
  method_filled i m at = by (method_in ts i) (method_found (IsSoundFor d kind) ts i so.each) (method_some i m at)
    where
      by : (f : Option Filling) → Where (λ (f : Filling). IsSoundFor d kind (typed.Method i f.out f.temps f.answer)) f → IsTrue (is_some f)
          → IsTrue (is_sound_method d kind (with_guard (with_filling m f) (guard_in ts i)))
          × IsTrue (is_good_method (with_guard (with_filling m f) (guard_in ts i)))
      by None is there = absurd (false≢true there)
      by (Some f) is there =
          method_sound m f (guard_in ts i) (is m at) (unguarded_at i m at) (guard_found (IsSoundFor d kind) ts i so.each)
          (subst (Where (λ (m : Method). IsTrue (is_good_method m))) at (find_in is_good_method kind.methods i good))

  from_start : (i : ℕ) → 0 + i ≡ i
  from_start i = omega arith

  kind_sound : IsSoundKind d kind ts
  unfolding filled_kind slots_of
  kind_sound = record {
    blocks = blocks_filled (is_sound_block d kind) (block_in ts) kind.blocks 0
        (λ i b at. subst (λ (k : ℕ). IsTrue (is_sound_block d kind (filled_block b (block_in ts k)))) (sym (from_start i)) (block_filled i b at).0);
    block_temps = blocks_filled (λ (b : Block). list_all is_width b.temps) (block_in ts) kind.blocks 0
        (λ i b at. subst (λ (k : ℕ). IsTrue (list_all is_width (filled_block b (block_in ts k)).temps)) (sym (from_start i)) (block_filled i b at).1);
    methods = methods_filled (is_sound_method d kind) (method_in ts) (guard_in ts) kind.methods 0
        (λ i m at. subst (λ (k : ℕ). IsTrue (is_sound_method d kind (with_guard (with_filling m (method_in ts k)) (guard_in ts k)))) (sym (from_start i)) (method_filled i m at).0);
    good_methods = methods_filled is_good_method (method_in ts) (guard_in ts) kind.methods 0
        (λ i m at. subst (λ (k : ℕ). IsTrue (is_good_method (with_guard (with_filling m (method_in ts k)) (guard_in ts k)))) (sym (from_start i)) (method_filled i m at).1);
  }

-- ---- all kinds

-- each kind with its bodies
abbrev pub Paired : (Kind → List TypedBody → Type 0) → List Kind → List (List TypedBody) → Type 0
Paired G [] [] = Unit {0}
Paired G (k ∷ ks) (ts ∷ rest) = G k ts × Paired G ks rest
Paired G [] (ts ∷ rest) = ⊥
Paired G (k ∷ ks) [] = ⊥

on_weaken : {A : Type 0} (P Q : A → Type 0) (r : Checked A) → ((a : A) → P a → Q a) → On P r → On Q r
on_weaken P Q (Ok a) next is = next a is
on_weaken P Q (Err e) next is = tt

append_none : (xs : List (List TypedBody)) → xs ++ [] ≡ xs
append_none [] = refl
append_none (x ∷ xs) = ap (λ (ys : List (List TypedBody)). x ∷ ys) (append_none xs)

append_one : (xs : List (List TypedBody)) (y : List TypedBody) (ys : List (List TypedBody)) → (xs ++ y ∷ []) ++ ys ≡ xs ++ (y ∷ ys)
append_one [] y ys = refl
append_one (x ∷ xs) y ys = ap (λ (zs : List (List TypedBody)). x ∷ zs) (append_one xs y ys)

module _ (G : Kind → List TypedBody → Type 0) where
  -- the bodies of kinds behind those that stand
  record AreBehind (ks : List Kind) (before bodies : List (List TypedBody)) : Type 0 where
    new : List (List TypedBody)
    same : bodies ≡ before ++ new
    paired : Paired G ks new

  all_typed : (design : RawDesign) (ks : List Kind) (rs : List RawKind) → length ks ≡ length rs
      → ((i : ℕ) (k : Kind) (r : RawKind) → slice_get ks i ≡ Some k → slice_get rs i ≡ Some r → On (G k) (kind_bodies design k r))
      → (before : List (List TypedBody)) → On (AreBehind ks before) (all_bodies_from before design ks rs)
  unfolding all_bodies_from
  all_typed design [] rs same each before = record { new = []; same = sym (append_none before); paired = tt }
  all_typed design (k ∷ ks) [] same each before = absurd (some_many k ks same)
    where
      some_many : (k : Kind) (ks : List Kind) → length (k ∷ ks) ≡ 0 → ⊥
      some_many k ks is = omega (arith, is)
  all_typed design (k ∷ ks) (r ∷ rs) same each before =
      and_on (G k) (AreBehind (k ∷ ks) before) (kind_bodies design k r) (λ ts. all_bodies_from (before ++ ts ∷ []) design ks rs) (each 0 k r refl refl)
      (λ ts is. on_weaken (AreBehind ks (before ++ ts ∷ [])) (AreBehind (k ∷ ks) before) (all_bodies_from (before ++ ts ∷ []) design ks rs)
      (λ bodies so. record { new = ts ∷ so.new; same = so.same ∙ append_one before ts so.new; paired = (is, so.paired) })
      (all_typed design ks rs (omega (arith, same)) (λ i k r first second. each (suc i) k r first second) (before ++ ts ∷ [])))

  pass_all : (test : Kind → Bool) → ((k : Kind) (ts : List TypedBody) → G k ts → IsTrue (test (filled_kind k ts)))
      → (ks : List Kind) (bodies : List (List TypedBody)) → Paired G ks bodies → IsTrue (list_all test (filled_kinds ks bodies))
  unfolding filled_kinds
  pass_all test passes [] [] paired = refl
  pass_all test passes [] (ts ∷ rest) paired = absurd paired
  pass_all test passes (k ∷ ks) [] paired = absurd paired
  pass_all test passes (k ∷ ks) (ts ∷ rest) paired = both (test (filled_kind k ts)) _ (passes k ts paired.0) (pass_all test passes ks rest paired.1)

  -- a kind of a number with its bodies
  record HasBodies (ks : List Kind) (bodies : List (List TypedBody)) (i : ℕ) : Type 0 where
    ts : List TypedBody
    same : slice_index_or (filled_kinds ks bodies) i no_kind ≡ filled_kind (slice_index_or ks i no_kind) ts
    holds : G (slice_index_or ks i no_kind) ts

  paired_at : (ks : List Kind) (bodies : List (List TypedBody)) → Paired G ks bodies → (i : ℕ) → i < length ks → HasBodies ks bodies i
  unfolding filled_kinds
  paired_at [] bodies paired i less = absurd (omega (arith, less))
  paired_at (k ∷ ks) [] paired i less = absurd paired
  paired_at (k ∷ ks) (ts ∷ rest) paired zero less = record { ts = ts; same = refl; holds = paired.0 }
  paired_at (k ∷ ks) (ts ∷ rest) paired (suc i) less =
      let found = paired_at ks rest paired.1 i (omega (arith, less)) in
      record { ts = found.ts; same = found.same; holds = found.holds }

-- ---- a design with its bodies

module _ (d : Design) (bodies : List (List TypedBody)) (paired : Paired (IsSoundKind d) d.kinds bodies) where
  whole_elaborated : IsElaborated d → IsElaborated (filled d bodies)
  whole_elaborated is = record {
    top = subst (λ (n : ℕ). d.top < n) (sym (kinds_counted d.kinds bodies)) is.top;
    shapes = subst (λ (shape : Option ℕ → Bool). IsTrue (list_all (λ (s : Shape). is_width s.width && list_all (λ f. is_width f.width && shape f.shape) s.fields) d.shapes))
        (sym (shape_kept d bodies)) is.shapes;
    kinds = λ k less.
        let within : k < length d.kinds = subst (λ (n : ℕ). k < n) (kinds_counted d.kinds bodies) less in
        let found = paired_at (IsSoundKind d) d.kinds bodies paired k within in
        subst (IsElaboratedKind (filled d bodies) k) (sym found.same)
        (kind_elaborated d bodies (kind_of d k) found.ts k (is.kinds k within) found.holds.block_temps found.holds.good_methods);
  }

  whole_sound : IsElaborated d → IsSound (filled d bodies)
  whole_sound is = record {
    elaborated = whole_elaborated is;
    blocks = pass_all (IsSoundKind d) (λ (kind : Kind). list_all (is_sound_block (filled d bodies) kind) kind.blocks)
        (λ k ts so. subst (λ (test : Block → Bool). IsTrue (list_all test (filled_kind k ts).blocks)) (sym (block_kept d bodies k ts)) so.blocks)
        d.kinds bodies paired;
    methods = pass_all (IsSoundKind d) (λ (kind : Kind). list_all (is_sound_method (filled d bodies) kind) kind.methods)
        (λ k ts so. subst (λ (test : Method → Bool). IsTrue (list_all test (filled_kind k ts).methods)) (sym (sound_method_kept d bodies k ts)) so.methods)
        d.kinds bodies paired;
  }

-- ---- a design that is given

module _ (nodes : List Node) (name : List ℕ) (params : List Param) (given : RawDesign) (names : IsTrue (declares_proper_names nodes))
    (types : IsTrue (are_good_params params)) (built : build nodes name params ≡ Ok given) where
  abbrev d : Design
  d = given.design

  many : length d.kinds ≡ length given.kinds
  many = kinds_noted_of nodes name params given built

  fits : (k : ℕ) (kind : Kind) (raw : RawKind) → slice_get d.kinds k ≡ Some kind → slice_get given.kinds k ≡ Some raw → Fits d kind raw
  fits = kinds_fit nodes name params given names types built

  signals : (i : ℕ) (k : Kind) → slice_get d.kinds i ≡ Some k → list_all (signal_fits d) k.signals ≡ true
  signals i k at =
      let found = at_both given.kinds d.kinds (sym many) i k at in
      (fits i k found.0 at found.1).kept.signals

  module _ (k : ℕ) (kind : Kind) (raw : RawKind) (first : slice_get d.kinds k ≡ Some kind) (second : slice_get given.kinds k ≡ Some raw) where
    -- a body of a kind is sound in its place
    body_sound : (b : RawBody) → code_fits d kind b.place b.code ≡ true
        → Yields (λ (t : TypedBody). IsSoundFor d kind t × ((m : ℕ) → IsTrue (of_number m b) → IsTrue (is_method m t))) (whole_body given kind raw b)
    body_sound b good =
        whole_placed given kind raw (fits k kind raw first second) signals
        (λ own of. scopes_made nodes name params given names types built k kind raw own of first second)
        (λ own of. are_called given many fits kind raw own of (fits k kind raw first second)) b good

    kind_typed : On (IsSoundKind d kind) (kind_bodies given kind raw)
    unfolding kind_bodies
    kind_typed =
        and_on (λ (r : List TypedBody × Tally). AreTyped (IsSoundFor d kind) [] (by_line raw.bodies) r.0) (IsSoundKind d kind)
        (bodies_from [] given kind raw (by_line raw.bodies) no_nodes) (λ r. Ok r.0)
        (bodies_typed (IsSoundFor d kind) given kind raw (λ (b : RawBody). code_fits d kind b.place b.code) body_sound (by_line raw.bodies) []
        (all_by_rank (λ (b : RawBody). code_fits d kind b.place b.code) (λ (b : RawBody). b.line) raw.bodies (fits k kind raw first second).kept.typed.bodies_fit)
        tt no_nodes)
        (λ r so. kind_sound d kind raw (kinds_untyped nodes name params given built k kind raw first second) (fits k kind raw first second).kept.methods r.0 so)

  design_typed : On IsSound (typed_design given)
  unfolding typed_design
  design_typed =
      and_on (AreBehind (IsSoundKind d) d.kinds []) IsSound (all_bodies_from [] given d.kinds given.kinds) (λ bodies. Ok (filled d bodies))
      (all_typed (IsSoundKind d) given d.kinds given.kinds many kind_typed [])
      (λ bodies so. whole_sound d bodies (subst (λ (bs : List (List TypedBody)). Paired (IsSoundKind d) d.kinds bs) (sym so.same) so.paired)
      (designs_sound nodes name params given names types built))

-- each body of a design that is given is sound
pub bodies_of_designs : BodiesOfDesignsAreSound
bodies_of_designs nodes name params given names types built k i kind raw body before after made first second at is =
    let good = subst (Where (λ (b : RawBody). IsTrue (code_fits given.design kind b.place b.code))) at
    (find_in (λ (b : RawBody). code_fits given.design kind b.place b.code) raw.bodies i
    (fits nodes name params given names types built k kind raw first second).kept.typed.bodies_fit) in
    (subst (On (λ (r : TypedBody × Tally). IsSoundFor given.design kind r.0 × ((m : ℕ) → IsTrue (of_number m body) → IsTrue (is_method m r.0)))) is
    (body_sound nodes name params given names types built k kind raw first second body good before)).0

-- a design with typed bodies is sound
pub typed_designs : TypedDesignsAreSound
typed_designs nodes name params given design names types built is =
    subst (On IsSound) is (design_typed nodes name params given names types built)
