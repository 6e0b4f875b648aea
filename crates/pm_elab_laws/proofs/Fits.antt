-- What names, types and widths must be for a design and for one of its kinds, and that they stay so while both grow.
use Rattle.std.proofs.Common.{◌≡◌, ◌∙◌, ◌+◌, ◌==◌, ◌&&◌, ◌||◌, ℕ, zero, suc, Bool, true, false, not, List, [], ◌∷◌}
use Rattle.std.proofs.Common.{◌++◌, refl, sym, subst, ap}
use Rattle.std.specs.Prelude.{Option, Some, None, nat_lt, nat_le, nat_eq, is_some, slice_get, bytes_eq}
use Rattle.std.specs.List.{list_all}
use Rattle.std.specs.Option.{option_map, option_eq}
use Rattle.std.proofs.lemmas.Bool.{and_parts}
use Rattle.pm_design.specs.declared.body.Method.{Method}
use Rattle.pm_design.specs.declared.connection.Bind.{Bind}
use Rattle.pm_design.specs.declared.connection.Callee.{Callee}
use Rattle.pm_design.specs.declared.connection.Callee.TheVariants as callee
use Rattle.pm_design.specs.declared.connection.Caller.{Caller}
use Rattle.pm_design.specs.declared.connection.Join.{Join}
use Rattle.pm_design.specs.declared.connection.Part.{Part}
use Rattle.pm_design.specs.declared.connection.Rule.{Rule}
use Rattle.pm_design.specs.declared.connection.Term.{Term}
use Rattle.pm_design.specs.declared.connection.Term.TheVariants as term
use Rattle.pm_design.specs.declared.design.Child.{Child}
use Rattle.pm_design.specs.declared.design.Design.{Design}
use Rattle.pm_design.specs.declared.design.Kind.{Kind}
use Rattle.pm_design.specs.declared.signal.Shape.{Shape}
use Rattle.pm_design.specs.declared.signal.Signal.{Signal}
use Rattle.pm_design.specs.Lookups.{listed}
use Rattle.pm_design.specs.Widths.{is_width}
use Rattle.pm_values.specs.declared.reference.Reference.{Reference}
use Rattle.pm_values.specs.declared.reference.ValueType.{ValueType}
use Rattle.pm_values.specs.declared.value.New.{New}
use Rattle.pm_values.specs.declared.value.New.TheVariants as new
use Rattle.pm_values.specs.declared.value.Taken.{Taken}
use Rattle.pm_values.specs.declared.value.Taken.TheVariants as taken
use Rattle.pm_values.specs.declared.value.Value.{Value}
use Rattle.pm_elab.specs.Views.{is_port}
use Rattle.pm_elab_laws.specs.Told.{is_told_of}
use Rattle.pm_elab_laws.proofs.EqualValues.{both}
use Rattle.pm_elab_laws.proofs.Tests.{Level, Tests, Good, never}
use Rattle.pm_elab_laws.proofs.Moves.{more}

-- ---- tests

abbrev pub has_width : ℕ → Option Shape → Bool
has_width w None = false
has_width w (Some shape) = shape.width == w

-- the bitstruct of this width, if one is named
abbrev pub shape_fits : Design → ℕ → Option ℕ → Bool
shape_fits d w None = true
shape_fits d w (Some s) = has_width w (slice_get d.shapes s)

abbrev pub type_fits : Design → ValueType → Bool
type_fits d t = is_width t.width && shape_fits d t.width t.shape

abbrev pub type_fits_if : Design → Option ValueType → Bool
type_fits_if d None = true
type_fits_if d (Some t) = type_fits d t

abbrev pub child_kind : Design → Option Child → Option Kind
child_kind d None = None
child_kind d (Some c) = slice_get d.kinds c.kind

-- the kind whose signals a part may name
abbrev pub owner_of : Design → Kind → ℕ → Option Kind
owner_of d kind zero = Some kind
owner_of d kind (suc c) = child_kind d (slice_get kind.children c)

abbrev pub bits_in : Part → Option Signal → Bool
bits_in part None = false
bits_in part (Some s) = nat_lt 0 part.width && nat_le (part.lo + part.width) s.width

abbrev pub signal_in : Part → Option Kind → Bool
signal_in part None = false
signal_in part (Some k) = bits_in part (slice_get k.signals part.signal)

abbrev pub part_fits : Design → Kind → Part → Bool
part_fits d kind part = signal_in part (owner_of d kind part.owner)

-- the widths that a call hands over and gets back
pub record CallWidths : Type 0 where
  pub arguments : List ℕ
  pub answer : Option ℕ

abbrev pub method_widths : Method → CallWidths
method_widths m = record { arguments = m.arguments; answer = m.result }

abbrev pub caller_widths : Caller → CallWidths
caller_widths c = record { arguments = listed c.argument; answer = c.result }

abbrev pub of_methods : ℕ → Option Kind → Option CallWidths
of_methods m None = None
of_methods m (Some k) = option_map method_widths (slice_get k.methods m)

abbrev pub of_callers : ℕ → Option Kind → Option CallWidths
of_callers p None = None
of_callers p (Some k) = option_map caller_widths (slice_get k.callers p)

abbrev pub callee_widths : Design → Kind → Callee → Option CallWidths
callee_widths d kind (callee.Own m) = of_methods m (Some kind)
callee_widths d kind (callee.Child c m) = of_methods m (child_kind d (slice_get kind.children c))
callee_widths d kind (callee.Port p) = of_callers p (Some kind)
callee_widths d kind (callee.ChildPort c p) = of_callers p (child_kind d (slice_get kind.children c))

abbrev pub callee_fits : Design → Kind → Callee → Bool
callee_fits d kind c = is_some (callee_widths d kind c)

abbrev pub new_fits : Design → Kind → New → Bool
new_fits d kind (new.Signal role t) = type_fits d t
new_fits d kind (new.Child c) = is_some (slice_get d.kinds c)
new_fits d kind (new.Deque n) = nat_le n 64
new_fits d kind (new.Caller types) = type_fits_if d types.argument && type_fits_if d types.result
new_fits d kind (new.Callee c) = callee_fits d kind c

-- a signal that the component sees, as this tells: its own or a port
abbrev pub sees : (Signal → Bool) → Bool → Option Signal → Bool
sees told own None = false
sees told own (Some s) = told s && (own || is_port s.role)

abbrev pub sees_in : (Signal → Bool) → Bool → ℕ → Option Kind → Bool
sees_in told own signal None = false
sees_in told own signal (Some k) = sees told own (slice_get k.signals signal)

-- a reference to an own signal or a port, as it is
abbrev pub role_fits : Design → Kind → Reference → Bool
role_fits d kind r = sees_in (is_told_of r) (r.part.owner == 0) r.part.signal (owner_of d kind r.part.owner)

abbrev pub taken_fits : Design → Kind → Taken → Bool
taken_fits d kind (taken.Signal r) =
    part_fits d kind r.part && (shape_fits d r.part.width r.shape && role_fits d kind r)
taken_fits d kind (taken.State s) = is_some (slice_get kind.states s)
taken_fits d kind (taken.Child c) = is_some (slice_get kind.children c)
taken_fits d kind (taken.Method c) = callee_fits d kind c
taken_fits d kind _ = true

abbrev pub term_fits : Design → Kind → Term → Bool
term_fits d kind (term.Block b) = is_some (slice_get kind.blocks b)
term_fits d kind (term.Reads part) = part_fits d kind part
term_fits d kind (term.Writes part) = part_fits d kind part
term_fits d kind (term.Calls c) = callee_fits d kind c
term_fits d kind term.Wrong = true

-- a value that a kind's `construct` may have
abbrev pub tests : Design → Kind → Tests
tests d kind = record { type = type_fits d; new = new_fits d kind; taken = taken_fits d kind; term = term_fits d kind }

-- a value that any may have
abbrev pub type_tests : Design → Tests
type_tests d = record { type = type_fits d; new = λ n. false; taken = λ t. false; term = λ t. false }

abbrev pub join_fits : Design → Kind → Join → Bool
join_fits d kind j = part_fits d kind j.a && (part_fits d kind j.b && (not j.equal_types || j.a.width == j.b.width))

abbrev pub alike : Bool → Option CallWidths → Option CallWidths → Bool
alike same (Some a) (Some b) = not same || (bytes_eq a.arguments b.arguments && option_eq nat_eq a.answer b.answer)
alike same _ _ = false

abbrev pub bind_fits : Design → Kind → Bind → Bool
bind_fits d kind b = alike b.equal_types (callee_widths d kind b.a) (callee_widths d kind b.b)

abbrev pub rule_fits : Design → Kind → Rule → Bool
rule_fits d kind r = term_fits d kind r.before && term_fits d kind r.after

-- ---- growth

-- what is at a place stays there
abbrev pub Keeps : {A : Type 0} → List A → List A → Type 0
Keeps {A = A} xs ys = (i : ℕ) (a : A) → slice_get xs i ≡ Some a → slice_get ys i ≡ Some a

pub record Extends (d e : Design) (j k : Kind) : Type 0 where
  pub kinds : Keeps d.kinds e.kinds
  pub shapes : Keeps d.shapes e.shapes
  pub signals : Keeps j.signals k.signals
  pub children : Keeps j.children k.children
  pub methods : Keeps j.methods k.methods
  pub callers : Keeps j.callers k.callers
  pub blocks : Keeps j.blocks k.blocks
  pub states : Keeps j.states k.states

pub keeps_same : {A : Type 0} (xs : List A) → Keeps xs xs
keeps_same xs i a is = is

pub keeps_more : {A : Type 0} (xs ys : List A) → Keeps xs (xs ++ ys)
keeps_more [] ys i a is = absurd (subst (λ o. elim o as (λ _. Type 0) [ Some a ↦ ⊥ | None ↦ Unit {0} ]) is tt)
keeps_more (x ∷ xs) ys zero a is = is
keeps_more (x ∷ xs) ys (suc i) a is = keeps_more xs ys i a is

pub option_more : {A : Type 0} (t : Option A → Bool) (x y : Option A) → t None ≡ false → ((a : A) → x ≡ Some a
    → y ≡ Some a) → t x ≡ true → t y ≡ true
option_more t None y none so is = never (sym none ∙ is)
option_more t (Some a) y none so is = ap t (so a refl) ∙ is

pub some_more : {A : Type 0} (t : Option A → Bool) (xs ys : List A) (i : ℕ) → t None ≡ false → Keeps xs ys
    → t (slice_get xs i) ≡ true → t (slice_get ys i) ≡ true
some_more t xs ys i none keeps is = option_more t (slice_get xs i) (slice_get ys i) none (keeps i) is

pub all_more : {A : Type 0} (p q : A → Bool) (xs : List A) → ((a : A) → p a ≡ true → q a ≡ true)
    → list_all p xs ≡ true → list_all q xs ≡ true
all_more p q [] so is = refl
all_more p q (x ∷ xs) so is = let parts = and_parts (p x) (list_all p xs) is in both (q x) (list_all q xs)
    (so x parts.0) (all_more p q xs so parts.1)

pub all_last : {A : Type 0} (p : A → Bool) (xs : List A) (x : A) → list_all p xs ≡ true → p x ≡ true
    → list_all p (xs ++ x ∷ []) ≡ true
all_last p [] x is here = both (p x) true here refl
all_last p (y ∷ xs) x is here = let parts = and_parts (p y) (list_all p xs) is in both (p y)
    (list_all p (xs ++ x ∷ [])) parts.0 (all_last p xs x parts.1 here)

mapped_more : {A B : Type 0} (f : A → B) (x y : Option A) → ((a : A) → x ≡ Some a → y ≡ Some a) → (b : B)
    → option_map f x ≡ Some b → option_map f y ≡ Some b
mapped_more f None y so b is = absurd (subst (λ o. elim o as (λ _. Type 0) [ Some a ↦ ⊥ | None ↦ Unit {0} ]) is tt)
mapped_more f (Some a) y so b is = ap (option_map f) (so a refl) ∙ is

module _ (d e : Design) (j k : Kind) (grows : Extends d e j k) where
  pub shape_more : (w : ℕ) (s : Option ℕ) → shape_fits d w s ≡ true → shape_fits e w s ≡ true
  shape_more w None is = refl
  shape_more w (Some s) is = some_more (has_width w) d.shapes e.shapes s refl grows.shapes is

  pub type_more : (t : ValueType) → type_fits d t ≡ true → type_fits e t ≡ true
  type_more t is =
      let parts = and_parts (is_width t.width) (shape_fits d t.width t.shape) is in
      both (is_width t.width) (shape_fits e t.width t.shape) parts.0 (shape_more t.width t.shape parts.1)

  pub type_if_more : (t : Option ValueType) → type_fits_if d t ≡ true → type_fits_if e t ≡ true
  type_if_more None is = refl
  type_if_more (Some t) is = type_more t is

  child_more : (t : Option Kind → Bool) (c : Option Child) → t None ≡ false → t (child_kind d c) ≡ true
      → t (child_kind e c) ≡ true
  child_more t None none is = is
  child_more t (Some c) none is = some_more t d.kinds e.kinds c.kind none grows.kinds is

  pub part_more : (part : Part) → part_fits d j part ≡ true → part_fits e k part ≡ true
  part_more part is = by part.owner is
    where
      by : (o : ℕ) → signal_in part (owner_of d j o) ≡ true → signal_in part (owner_of e k o) ≡ true
      by zero is = some_more (bits_in part) j.signals k.signals part.signal refl grows.signals is
      by (suc c) is = child_more (signal_in part) (slice_get k.children c) refl (some_more (λ x. signal_in part
          (child_kind d x)) j.children k.children c refl grows.children is)

  pub role_more : (r : Reference) → role_fits d j r ≡ true → role_fits e k r ≡ true
  role_more r is = by (is_told_of r) (r.part.owner == 0) r.part.owner is
    where
      by : (told : Signal → Bool) (own : Bool) (o : ℕ) → sees_in told own r.part.signal (owner_of d j o) ≡ true
          → sees_in told own r.part.signal (owner_of e k o) ≡ true
      by told own zero is = some_more (sees told own) j.signals k.signals r.part.signal refl grows.signals is
      by told own (suc c) is = child_more (sees_in told own r.part.signal) (slice_get k.children c) refl
          (some_more (λ x. sees_in told own r.part.signal (child_kind d x)) j.children k.children c refl
          grows.children is)

  widths_of : (t : Option Kind → Option CallWidths) (c : ℕ) → t None ≡ None → (w : CallWidths)
      → t (child_kind d (slice_get j.children c)) ≡ Some w → t (child_kind e (slice_get k.children c)) ≡ Some w
  widths_of t c none w is = by (slice_get j.children c) refl is
    where
      by : (x : Option Child) → slice_get j.children c ≡ x → t (child_kind d x) ≡ Some w
          → t (child_kind e (slice_get k.children c)) ≡ Some w
      by None at is = absurd (subst (λ o. elim o as (λ _. Type 0) [ Some a ↦ ⊥ | None ↦ Unit {0} ]) (sym none ∙ is) tt)
      by (Some x) at is = ap (λ y. t (child_kind e y)) (grows.children c x at) ∙ next (slice_get d.kinds x.kind) refl is
        where
          next : (y : Option Kind) → slice_get d.kinds x.kind ≡ y → t y ≡ Some w → t (slice_get e.kinds x.kind) ≡ Some w
          next None at is = absurd (subst (λ o. elim o as (λ _. Type 0) [ Some a ↦ ⊥ | None ↦ Unit {0} ])
              (sym none ∙ is) tt)
          next (Some y) at is = ap t (grows.kinds x.kind y at) ∙ is

  pub widths_more : (c : Callee) (w : CallWidths) → callee_widths d j c ≡ Some w → callee_widths e k c ≡ Some w
  widths_more (callee.Own m) w is = mapped_more method_widths (slice_get j.methods m) (slice_get k.methods m)
      (grows.methods m) w is
  widths_more (callee.Port p) w is = mapped_more caller_widths (slice_get j.callers p) (slice_get k.callers p)
      (grows.callers p) w is
  widths_more (callee.Child c m) w is = widths_of (of_methods m) c refl w is
  widths_more (callee.ChildPort c p) w is = widths_of (of_callers p) c refl w is

  pub callee_more : (c : Callee) → callee_fits d j c ≡ true → callee_fits e k c ≡ true
  callee_more c is = option_more is_some (callee_widths d j c) (callee_widths e k c) refl (widths_more c) is

  pub new_more : (n : New) → new_fits d j n ≡ true → new_fits e k n ≡ true
  new_more (new.Signal role t) is = type_more t is
  new_more (new.Child c) is = some_more is_some d.kinds e.kinds c refl grows.kinds is
  new_more (new.Deque n) is = is
  new_more (new.Caller types) is =
      let parts = and_parts (type_fits_if d types.argument) (type_fits_if d types.result) is in
      both (type_fits_if e types.argument) (type_fits_if e types.result) (type_if_more types.argument parts.0)
      (type_if_more types.result parts.1)
  new_more (new.Callee c) is = callee_more c is

  pub taken_more : (t : Taken) → taken_fits d j t ≡ true → taken_fits e k t ≡ true
  taken_more (taken.Signal r) is =
      let first = and_parts (part_fits d j r.part) (shape_fits d r.part.width r.shape && role_fits d j r) is in
      let second = and_parts (shape_fits d r.part.width r.shape) (role_fits d j r) first.1 in
      both (part_fits e k r.part) _ (part_more r.part first.0)
      (both (shape_fits e r.part.width r.shape) (role_fits e k r) (shape_more r.part.width r.shape second.0)
      (role_more r second.1))
  taken_more (taken.Child c) is = some_more is_some j.children k.children c refl grows.children is
  taken_more (taken.Method c) is = callee_more c is
  taken_more (taken.State s) is = some_more is_some j.states k.states s refl grows.states is
  taken_more (taken.Descendant c) is = refl
  taken_more (taken.FarSignal r) is = refl
  taken_more taken.FarState is = refl
  taken_more taken.FarMethod is = refl

  pub term_more : (t : Term) → term_fits d j t ≡ true → term_fits e k t ≡ true
  term_more (term.Block b) is = some_more is_some j.blocks k.blocks b refl grows.blocks is
  term_more (term.Reads part) is = part_more part is
  term_more (term.Writes part) is = part_more part is
  term_more (term.Calls c) is = callee_more c is
  term_more term.Wrong is = refl

  -- what fits goes on fitting
  pub good_more : (v : Value) (l : Level) → Good (tests d j) l v → Good (tests e k) l v
  good_more v l is = more (tests d j) (tests e k) type_more new_more taken_more term_more v l is

  pub type_good_more : (v : Value) (l : Level) → Good (type_tests d) l v → Good (type_tests e) l v
  type_good_more v l is = more (type_tests d) (type_tests e) type_more (λ n no. never no) (λ t no. never no)
      (λ t no. never no) v l is

  -- what any kind may have
  pub type_good_here : (v : Value) (l : Level) → Good (type_tests d) l v → Good (tests e k) l v
  type_good_here v l is = more (type_tests d) (tests e k) type_more (λ n no. never no) (λ t no. never no)
      (λ t no. never no) v l is

  pub join_more : (x : Join) → join_fits d j x ≡ true → join_fits e k x ≡ true
  join_more x is =
      let first = and_parts (part_fits d j x.a) (part_fits d j x.b && (not x.equal_types || x.a.width == x.b.width))
      is in
      let second = and_parts (part_fits d j x.b) (not x.equal_types || x.a.width == x.b.width) first.1 in
      both (part_fits e k x.a) _ (part_more x.a first.0) (both (part_fits e k x.b) _ (part_more x.b second.0) second.1)

  pub bind_more : (b : Bind) → bind_fits d j b ≡ true → bind_fits e k b ≡ true
  bind_more b is =
      option_more (λ y. alike b.equal_types (callee_widths e k b.a) y) (callee_widths d j b.b) (callee_widths e k
      b.b) (unlike b.equal_types (callee_widths e k b.a)) (widths_more b.b)
      (option_more (λ x. alike b.equal_types x (callee_widths d j b.b)) (callee_widths d j b.a) (callee_widths e k
      b.a) refl (widths_more b.a) is)
    where
      unlike : (same : Bool) (x : Option CallWidths) → alike same x None ≡ false
      unlike same None = refl
      unlike same (Some a) = refl

  pub rule_more : (r : Rule) → rule_fits d j r ≡ true → rule_fits e k r ≡ true
  rule_more r is =
      let parts = and_parts (term_fits d j r.before) (term_fits d j r.after) is in
      both (term_fits e k r.before) (term_fits e k r.after) (term_more r.before parts.0) (term_more r.after parts.1)
