-- Attributes and elements hold components of kinds that are there.
use Rattle.std.proofs.Common.{◌≡◌, ◌∙◌, ℕ, zero, suc, ℤ, Bool, true, List, [], ◌∷◌, sym, map, ap}
use Rattle.std.specs.Prelude.{Option, Some, None, Ok, Err, codes, pos, negsuc, slice_get}
use Rattle.std.specs.List.{list_all}
use Rattle.std.specs.Str.{bytes_eq}
use Rattle.std.proofs.lemmas.Bool.{and_parts}
use Rattle.pm_values.specs.declared.fault.BuildFault.TheVariants.{IntRange, WrongKind, Unbound}
use Rattle.pm_values.specs.declared.reference.Reference.{Reference}
use Rattle.pm_values.specs.declared.value.Member.{Member}
use Rattle.pm_values.specs.declared.value.Taken.{Taken}
use Rattle.pm_values.specs.declared.value.Taken.TheVariants as taken
use Rattle.pm_values.specs.declared.value.Value.{Value, Value-F, out-Value, roll-out-Value}
use Rattle.pm_values.specs.declared.value.Value.TheFolds.{map-Value}
use Rattle.pm_values.specs.declared.value.Value.TheVariants as value
use Rattle.pm_values.specs.Tables.{Names, get, put}
use Rattle.pm_elab.specs.declared.class.ConstructedClass.{ConstructedClass}
use Rattle.pm_elab.specs.declared.class.ConstructedClass.TheVariants as class
use Rattle.pm_elab.specs.declared.elaboration.Elaboration.{Elaboration}
use Rattle.pm_elab.specs.declared.elaboration.MadeKind.{MadeKind}
use Rattle.pm_elab.specs.declared.frame.Frame.{Frame}
use Rattle.pm_elab.specs.Attributes.{member_named, kind_attribute, child_attribute, taken_attribute, field_named}
use Rattle.pm_elab.specs.Attributes.{component_attribute, interface_attribute, attribute_of_own, own_attribute_in}
use Rattle.pm_elab.specs.Attributes.{own_attribute, attribute_at, attribute, bit, bits_between, element_at, element}
use Rattle.pm_elab.specs.Attributes.{slice_at, slice, signal_value, far_value}
use Rattle.pm_elab.specs.Elab.{Checked, and_then}
use Rattle.pm_elab.specs.Sites.{Site}
use Rattle.pm_elab.specs.Values.{item}
use Rattle.pm_elab.specs.Views.{View, viewed, member_seen, kind_of_child}
use Rattle.pm_elab_laws.specs.MadeValues.{made_of, is_made}
use Rattle.pm_elab_laws.proofs.Keeping.{On, Each, Where}
use Rattle.pm_elab_laws.proofs.Places.{chosen, found}
use Rattle.pm_elab_laws.proofs.MadeValues.{made_member, member_is, rolled, made_taken, made_int, made_viewed}
use Rattle.pm_elab_laws.proofs.SeenMembers.{made_seen}

-- what is put is what is there, or what was
pub put_each : {T : Type 0} (P : T → Type 0) (names : Names T) (name : List ℕ) (v : T)
    → Each (λ (p : List ℕ × T). P p.1) names → P v → Each (λ (p : List ℕ × T). P p.1) (put names name v)
put_each P [] name v each is = (is, tt)
put_each {T = T} P (p ∷ ps) name v each is = chosen (Each (λ (p : List ℕ × T). P p.1)) (bytes_eq name p.0)
    ((p.0, v) ∷ ps) (p ∷ put ps name v) (is, each.1) (each.0, put_each P ps name v each.1 is)

pub get_each : {T : Type 0} (P : T → Type 0) (names : Names T) (name : List ℕ)
    → Each (λ (p : List ℕ × T). P p.1) names → Where P (get names name)
get_each P [] name each = tt
get_each P (p ∷ ps) name each = chosen (Where P) (bytes_eq name p.0) (Some p.1) (get ps name) each.0 (get_each P ps
    name each.1)

module _ (n : ℕ) where
  abbrev Made : Value → Type 0
  Made v = is_made n v ≡ true

  abbrev AreMade : Names Value → Type 0
  AreMade names = Each (λ (p : List ℕ × Value). is_made n p.1 ≡ true) names

  pub opened : (v : Value) → is_made n v ≡ true
      → made_of n (map-Value Value Member Bool Bool (is_made n) (made_member n) (out-Value v)) ≡ true
  opened v is = sym (rolled n (out-Value v)) ∙ (ap (is_made n) (roll-out-Value v) ∙ is)

  pub each_item : (vs : List Value) → list_all (λ b. b) (map (is_made n) vs) ≡ true → Each Made vs
  each_item [] all = tt
  each_item (v ∷ vs) all = let parts = and_parts (is_made n v) (list_all (λ b. b) (map (is_made n) vs)) all in
      (parts.0, each_item vs parts.1)

  pub each_member : (ms : List Member) → list_all (λ b. b) (map (made_member n) ms) ≡ true
      → Each (λ (m : Member). is_made n m.value ≡ true) ms
  each_member [] all = tt
  each_member (m ∷ ms) all = let parts = and_parts (made_member n m) (list_all (λ b. b) (map (made_member n) ms))
      all in (sym (member_is n m) ∙ parts.0, each_member ms parts.1)

  item_got : (vs : List Value) (i : ℕ) → Each Made vs → Where Made (slice_get vs i)
  item_got [] zero each = tt
  item_got [] (suc i) each = tt
  item_got (v ∷ vs) zero each = each.0
  item_got (v ∷ vs) (suc i) each = item_got vs i each.1

  item_on : (line : ℕ) (vs : List Value) (i : ℤ) → Each Made vs → On (item line vs i) Made
  unfolding item
  item_on line vs (pos i) each = found Made (slice_get vs i) (IntRange line) (item_got vs i each)
  item_on line vs (negsuc i) each = tt

  signal_on : (r : Checked Reference) → On (and_then r signal_value) Made
  signal_on (Ok r) = made_taken n (taken.Signal r)
  signal_on (Err e) = tt

  far_on : (r : Checked Reference) → On (and_then r far_value) Made
  far_on (Ok r) = made_taken n (taken.FarSignal r)
  far_on (Err e) = tt

  element_by : (line : ℕ) (i : ℤ) (w : Value-F Value Member)
      → made_of n (map-Value Value Member Bool Bool (is_made n) (made_member n) w) ≡ true
      → On (element_at line i w) Made
  element_by line i (Value-F.Items vs) is = item_on line vs i (each_item vs is)
  element_by line i (Value-F.Taken (taken.Signal r)) is = signal_on (bit line r i)
  element_by line i (Value-F.Taken (taken.FarSignal r)) is = far_on (bit line r i)
  element_by line i _ is = tt

  pub element_made : (line : ℕ) (v : Value) (i : ℤ) → Made v → On (element line v i) Made
  unfolding element
  element_made line v i is = element_by line i (out-Value v) (opened v is)

  slice_by : (line : ℕ) (lo hi : ℤ) (w : Value-F Value Member) → On (slice_at line lo hi w) Made
  slice_by line lo hi (Value-F.Taken (taken.Signal r)) = signal_on (bits_between line r lo hi)
  slice_by line lo hi (Value-F.Taken (taken.FarSignal r)) = far_on (bits_between line r lo hi)
  slice_by line lo hi _ = tt

  pub slice_made : (line : ℕ) (v : Value) (lo hi : ℤ) → On (slice line v lo hi) Made
  unfolding slice
  slice_made line v lo hi = slice_by line lo hi (out-Value v)

  -- ---- attributes

  abbrev KindMade : MadeKind → Type 0
  KindMade k = AreMade k.raw.attributes

  view_got : (view : View) (v : Option Value) → Where Made v
      → Where Made (elim v as (λ _. Option Value) [ Some v ↦ Some (viewed view v) | None ↦ None ])
  view_got view (Some v) is = made_viewed n view v ∙ is
  view_got view None is = tt

  seen_got : (v : Option Value) → Where Made v
      → Where Made (elim v as (λ _. Option Value) [ Some v ↦ Some (member_seen v) | None ↦ None ])
  seen_got (Some v) is = made_seen n v ∙ is
  seen_got None is = tt

  kind_got : (ks : List MadeKind) (i : ℕ) → Each KindMade ks → Where KindMade (slice_get ks i)
  kind_got [] zero each = tt
  kind_got [] (suc i) each = tt
  kind_got (k ∷ ks) zero each = each.0
  kind_got (k ∷ ks) (suc i) each = kind_got ks i each.1

  of_kind : (child : Option ℕ) (k : Option MadeKind) (name : List ℕ) → Where KindMade k
      → Where Made (kind_attribute child k name)
  of_kind child None name is = tt
  of_kind child (Some k) name is = view_got (record { child = child; children = k.kind.children })
      (get k.raw.attributes name) (get_each Made k.raw.attributes name is)

  of_child : (ks : List MadeKind) (fr : Option Frame) (c : ℕ) (name : List ℕ) → Each KindMade ks
      → Where Made (child_attribute ks fr c name)
  of_child ks None c name each = tt
  of_child ks (Some f) c name each = of_kind (Some c) (slice_get ks (kind_of_child f.kind.children c)) name
      (kind_got ks (kind_of_child f.kind.children c) each)

  field_got : (r : Option Reference)
      → Where Made (elim r as (λ _. Option Value) [ Some f ↦ Some (value.Taken (taken.Signal f)) | None ↦ None ])
  field_got (Some f) = made_taken n (taken.Signal f)
  field_got None = tt

  far_got : (r : Option Reference)
      → Where Made (elim r as (λ _. Option Value) [ Some f ↦ Some (value.Taken (taken.FarSignal f)) | None ↦ None ])
  far_got (Some f) = made_taken n (taken.FarSignal f)
  far_got None = tt

  of_taken : (m : Elaboration) (fr : Option Frame) (t : Taken) (name : List ℕ) → Each KindMade m.kinds
      → Where Made (taken_attribute m fr t name)
  unfolding taken_attribute
  of_taken m fr (taken.Signal r) name each = field_got (field_named m.shapes r name)
  of_taken m fr (taken.FarSignal r) name each = far_got (field_named m.shapes r name)
  of_taken m fr (taken.Child c) name each = of_child m.kinds fr c name each
  of_taken m fr (taken.Descendant c) name each = of_kind None (slice_get m.kinds c) name (kind_got m.kinds c each)
  of_taken m fr (taken.State s) name each = tt
  of_taken m fr (taken.Method c) name each = tt
  of_taken m fr taken.FarState name each = tt
  of_taken m fr taken.FarMethod name each = tt

  of_own : (s : ConstructedClass) (line : ℕ) (f : Frame) (name : List ℕ) → AreMade f.raw.attributes
      → On (attribute_of_own s line f name) Made
  unfolding component_attribute interface_attribute
  of_own class.Component line f name is = chosen (λ r. On r Made) (bytes_eq name (codes "clk"))
      (Err (WrongKind line)) _ tt (found Made (get f.raw.attributes name) (Unbound line) (get_each Made
      f.raw.attributes name is))
  of_own class.Interface line f name is = found Made _ (Unbound line) (seen_got (get f.raw.attributes name)
      (get_each Made f.raw.attributes name is))

  own_in : (line : ℕ) (fr : Option Frame) (name : List ℕ) → Where (λ (f : Frame). AreMade f.raw.attributes) fr
      → On (own_attribute_in line fr name) Made
  own_in line None name is = tt
  own_in line (Some f) name is = of_own f.class line f name is

  member_got : (ms : List Member) (name : List ℕ) → Each (λ (m : Member). is_made n m.value ≡ true) ms
      → Where Made (member_named ms name)
  unfolding member_named
  member_got [] name each = tt
  member_got (m ∷ ms) name each = chosen (Where Made) (bytes_eq m.name name) (Some m.value) (member_named ms name)
      each.0 (member_got ms name each.1)

  attribute_by : (m : Elaboration) (site : Site) (name : List ℕ) (w : Value-F Value Member) → Each KindMade m.kinds
      → Where (λ (f : Frame). AreMade f.raw.attributes) site.frame
      → made_of n (map-Value Value Member Bool Bool (is_made n) (made_member n) w) ≡ true
      → On (attribute_at m site name w) Made
  unfolding own_attribute
  attribute_by m site name Value-F.Own kinds frame is = own_in site.line site.frame name frame
  attribute_by m site name (Value-F.Type t) kinds frame is = chosen (λ r. On r Made) (bytes_eq name (codes "nbits"))
      _ (Err (Unbound site.line)) (made_int n (pos t.width)) tt
  attribute_by m site name (Value-F.Taken t) kinds frame is = found Made (taken_attribute m site.frame t name)
      (Unbound site.line) (of_taken m site.frame t name kinds)
  attribute_by m site name (Value-F.Interface ms) kinds frame is = found Made (member_named ms name)
      (Unbound site.line) (member_got ms name (each_member ms is))
  attribute_by m site name _ kinds frame is = tt

  -- an attribute
  pub attribute_made : (m : Elaboration) (site : Site) (name : List ℕ) (v : Value) → Each KindMade m.kinds
      → Where (λ (f : Frame). AreMade f.raw.attributes) site.frame → Made v → On (attribute m site name v) Made
  unfolding attribute
  attribute_made m site name v kinds frame is = attribute_by m site name (out-Value v) kinds frame (opened v is)
