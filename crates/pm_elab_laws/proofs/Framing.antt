-- What a component keeps while values are placed in it and connected.
use Rattle.std.proofs.Common.{◌≡◌, ◌+◌, ℕ, suc, Bool, true, false, List, [], ◌∷◌, ◌++◌, refl, sym, subst, map, ap}
use Rattle.std.proofs.Common.{length, arith}
use Rattle.std.specs.Prelude.{Ok, Err}
use Rattle.pm_values.specs.declared.value.Member.{Member, Member-F, fold-roll-Member, roll-Member}
use Rattle.pm_values.specs.declared.value.New.{New}
use Rattle.pm_values.specs.declared.value.Value.{Value, Value-F, fold-roll-Value, roll-Value}
use Rattle.pm_values.specs.declared.value.Value.TheFolds.{ind-Value, map-Value, map-Member}
use Rattle.pm_values.specs.declared.value.Value.TheVariants as value
use Rattle.pm_elab.specs.declared.elaboration.MadeKind.{MadeKind}
use Rattle.pm_elab.specs.declared.frame.Frame.{Frame}
use Rattle.pm_elab.specs.Elab.{Checked, and_then}
use Rattle.pm_elab.specs.Placing.{Placing, MemberPlacing, element_name, member_name, place_new, place_items}
use Rattle.pm_elab.specs.Placing.{place_members, placing_of, member_placing, place, place_member}
use Rattle.pm_elab_laws.proofs.Keeping.{On, Each}

-- the second after the first
pub chain : {A B : Type 0} (P : A → Type 0) (Q : B → Type 0) (r : Checked A) (f : A → Checked B) → On r P
    → ((a : A) → P a → On (f a) Q) → On (and_then r f) Q
chain P Q (Ok a) f is next = next a is
chain P Q (Err e) f is next = tt

-- nothing in the value takes a name, and it has no parts
abbrev pub is_left : Value-F Value Member → Bool
is_left (Value-F.New n) = false
is_left (Value-F.NewInterface ms) = false
is_left (Value-F.Interface ms) = false
is_left (Value-F.Items vs) = false
is_left _ = true

-- facts of a frame and of values in it
pub record Framing : Type 1 where
  pub IsFine : Frame → Type 0
  pub Grows : Frame → Frame → Type 0
  -- a value before it is placed
  pub IsGood : Frame → Value → Type 0
  -- what it is from then on
  pub IsHeld : Frame → Value → Type 0
  pub stays : (f : Frame) → Grows f f
  pub on : (f g h : Frame) → Grows f g → Grows g h → Grows f h
  pub good_on : (f g : Frame) (v : Value) → Grows f g → IsGood f v → IsGood g v
  pub held_on : (f g : Frame) (v : Value) → Grows f g → IsHeld f v → IsHeld g v
  pub items : (f : Frame) (vs : List Value) → IsGood f (value.Items vs) → Each (IsGood f) vs
  -- how many elements a list may have, and which names members
  pub Long : ℕ → Type 0
  pub Names : List (List ℕ) → Type 0
  pub items_long : (f : Frame) (vs : List Value) → IsGood f (value.Items vs) → Long (length vs)
  pub news_names : (f : Frame) (ms : List Member) → IsGood f (value.NewInterface ms)
      → Names (map (λ (m : Member). m.name) ms)
  pub members_names : (f : Frame) (ms : List Member) → IsGood f (value.Interface ms)
      → Names (map (λ (m : Member). m.name) ms)
  pub items_held : (f : Frame) (vs : List Value) → Long (length vs) → Each (IsHeld f) vs → IsHeld f (value.Items vs)
  pub news : (f : Frame) (ms : List Member) → IsGood f (value.NewInterface ms)
      → Each (λ (m : Member). IsGood f m.value) ms
  pub members : (f : Frame) (ms : List Member) → IsGood f (value.Interface ms)
      → Each (λ (m : Member). IsGood f m.value) ms
  pub members_held : (f : Frame) (ms : List Member) → Names (map (λ (m : Member). m.name) ms)
      → Each (λ (m : Member). IsHeld f m.value) ms → IsHeld f (value.Interface ms)
  pub left : (f : Frame) (x : Value-F Value Member) → is_left x ≡ true → IsGood f (roll-Value x)
      → IsHeld f (roll-Value x)

-- a frame and a value in it, after a change of a frame
pub record IsPlaced (k : Framing) (f : Frame) (r : Frame × Value) : Type 0 where
  pub fine : k.IsFine r.0
  pub grows : k.Grows f r.0
  pub held : k.IsHeld r.0 r.1

-- so are a frame and a member of an interface, which keeps its name
pub record IsMember (k : Framing) (f : Frame) (name : List ℕ) (r : Frame × Member) : Type 0 where
  pub same_name : r.1.name ≡ name
  pub fine : k.IsFine r.0
  pub grows : k.Grows f r.0
  pub held : k.IsHeld r.0 r.1.value

module _ (k : Framing) (kinds : List MadeKind) (line : ℕ)
    (news : (n : New) (name : List ℕ) (f : Frame) → k.IsFine f → k.IsGood f (value.New n)
    → On (place_new kinds n name line f) (IsPlaced k f)) where
  abbrev Places : Value → Type 0
  Places v = (name : List ℕ) (f : Frame) → k.IsFine f → k.IsGood f v → On (place v kinds name line f) (IsPlaced k f)

  abbrev PlacesMember : Member → Type 0
  PlacesMember m = (name : List ℕ) (f : Frame) → k.IsFine f → k.IsGood f m.value
      → On (place_member m kinds name line f) (IsMember k f m.name)

  further : (f g : Frame) (r : Checked (Frame × Value)) → k.Grows f g → On r (IsPlaced k g) → On r (IsPlaced k f)
  further f g (Ok x) grows is = record { fine = is.fine; grows = k.on f g x.0 grows is.grows; held = is.held }
  further f g (Err e) grows is = tt

  each_good : (f g : Frame) (vs : List Value) → k.Grows f g → Each (k.IsGood f) vs → Each (k.IsGood g) vs
  each_good f g [] grows each = tt
  each_good f g (v ∷ vs) grows each = (k.good_on f g v grows each.0, each_good f g vs grows each.1)

  members_on : (f g : Frame) (ms : List Member) → k.Grows f g → Each (λ (m : Member). k.IsGood f m.value) ms
      → Each (λ (m : Member). k.IsGood g m.value) ms
  members_on f g [] grows each = tt
  members_on f g (m ∷ ms) grows each = (k.good_on f g m.value grows each.0, members_on f g ms grows each.1)

  each_held : (f g : Frame) (vs : List Value) → k.Grows f g → Each (k.IsHeld f) vs → Each (k.IsHeld g) vs
  each_held f g [] grows each = tt
  each_held f g (v ∷ vs) grows each = (k.held_on f g v grows each.0, each_held f g vs grows each.1)

  held_members : (f g : Frame) (ms : List Member) → k.Grows f g → Each (λ (m : Member). k.IsHeld f m.value) ms
      → Each (λ (m : Member). k.IsHeld g m.value) ms
  held_members f g [] grows each = tt
  held_members f g (m ∷ ms) grows each = (k.held_on f g m.value grows each.0, held_members f g ms grows each.1)

  end : {A : Type 0} (P : A → Type 0) (xs : List A) (x : A) → Each P xs → P x → Each P (xs ++ x ∷ [])
  end P [] x each is = (is, tt)
  end P (y ∷ xs) x each is = (each.0, end P xs x each.1 is)

  one_more : {A : Type 0} (done : List A) (x : A) (n : ℕ) → length done + suc n ≡ length (done ++ x ∷ []) + n
  one_more [] x n = omega arith
  one_more (y ∷ done) x n = let rest = one_more done x n in omega (arith, rest)

  more_names : (done : List Member) (x : Member) (name : List ℕ) (names : List (List ℕ)) → x.name ≡ name
      → map (λ (m : Member). m.name) done ++ name ∷ names ≡ map (λ (m : Member). m.name) (done ++ x ∷ []) ++ names
  more_names [] x name names is = ap (λ (n : List ℕ). n ∷ names) (sym is)
  more_names (y ∷ done) x name names is = ap (λ (ns : List (List ℕ)). y.name ∷ ns) (more_names done x name names is)

  no_more : (names : List (List ℕ)) → names ++ [] ≡ names
  no_more [] = refl
  no_more (n ∷ names) = ap (λ (ns : List (List ℕ)). n ∷ ns) (no_more names)

  items_placed : (vs : List ((v : Value) × Places v)) (i : ℕ) (done : List Value) (name : List ℕ) (f : Frame)
      → k.Long (length done + length vs) → k.IsFine f → Each (k.IsHeld f) done
      → Each (k.IsGood f) (map (λ v. v.0) vs)
      → On (place_items i done (map place (map (λ v. v.0) vs)) kinds name line f) (IsPlaced k f)
  unfolding place_items
  items_placed [] i done name f long fine first second =
      record { fine = fine; grows = k.stays f; held = k.items_held f done (subst k.Long (omega arith) long) first }
  items_placed (v ∷ vs) i done name f long fine first second =
      chain (IsPlaced k f) (IsPlaced k f) (place v.0 kinds (element_name name i) line f) _
      (v.1 (element_name name i) f fine second.0) (λ r is.
      further f r.0 _ is.grows (items_placed vs (i + 1) (done ++ r.1 ∷ []) name r.0 (subst k.Long (one_more done r.1
      (length vs)) long) is.fine (end (k.IsHeld r.0) done r.1 (each_held f r.0 done is.grows first) is.held)
      (each_good f r.0 (map (λ v. v.0) vs) is.grows second.1)))

  members_placed : (ms : List ((m : Member) × PlacesMember m)) (done : List Member) (name : List ℕ) (f : Frame)
      → k.Names (map (λ (m : Member). m.name) done ++ map (λ (m : Member). m.name) (map (λ m. m.0) ms)) → k.IsFine f
      → Each (λ (m : Member). k.IsHeld f m.value) done
      → Each (λ (m : Member). k.IsGood f m.value) (map (λ m. m.0) ms)
      → On (place_members done (map place_member (map (λ m. m.0) ms)) kinds name line f) (IsPlaced k f)
  unfolding place_members
  members_placed [] done name f names fine first second =
      record {
        fine = fine;
        grows = k.stays f;
        held = k.members_held f done (subst k.Names
            (no_more (map (λ (m : Member). m.name) done)) names) first;
      }
  members_placed (m ∷ ms) done name f names fine first second =
      chain (IsMember k f m.0.name) (IsPlaced k f) (place_member m.0 kinds name line f) _ (m.1 name f fine second.0)
      (λ r is.
      further f r.0 _ is.grows (members_placed ms (done ++ r.1 ∷ []) name r.0
      (subst k.Names (more_names done r.1 m.0.name (map (λ (m : Member). m.name) (map (λ m. m.0) ms)) is.same_name)
      names) is.fine
      (end (λ (m : Member). k.IsHeld r.0 m.value) done r.1 (held_members f r.0 done is.grows first) is.held)
      (members_on f r.0 (map (λ m. m.0) ms) is.grows second.1)))

  all_down : (vs : List ((v : Value) × Places v)) → length (map (λ v. v.0) vs) ≡ 0 + length vs
  all_down [] = refl
  all_down (v ∷ vs) = let rest = all_down vs in omega (arith, rest)

  abbrev Down : Value-F ((v : Value) × Places v) ((m : Member) × PlacesMember m) → Value-F Value Member
  Down y = map-Value ((v : Value) × Places v) ((m : Member) × PlacesMember m) Value Member (λ v. v.0) (λ m. m.0) y

  same : (f : Frame) (x : Value-F Value Member) (v : Value) → roll-Value x ≡ v → is_left x ≡ true → k.IsFine f
      → k.IsGood f (roll-Value x) → IsPlaced k f (f, v)
  same f x v is single fine good = record {
    fine = fine;
    grows = k.stays f;
    held = subst (k.IsHeld f) is
        (k.left f x single good);
  }

  layer : (y : Value-F ((v : Value) × Places v) ((m : Member) × PlacesMember m)) (name : List ℕ) (f : Frame)
      → k.IsFine f → k.IsGood f (roll-Value (Down y))
      → On (placing_of (map-Value Value Member Placing MemberPlacing place place_member (Down y)) kinds name line f)
      (IsPlaced k f)
  layer (Value-F.New n) name f fine good = news n name f fine (subst (k.IsGood f) (value.rolls-New n) good)
  layer (Value-F.NewInterface ms) name f fine good =
      let whole = subst (k.IsGood f) (value.rolls-NewInterface _) good in
      members_placed ms [] name f (k.news_names f (map (λ m. m.0) ms) whole) fine tt (k.news f (map (λ m. m.0) ms)
      whole)
  layer (Value-F.Interface ms) name f fine good =
      let whole = subst (k.IsGood f) (value.rolls-Interface _) good in
      members_placed ms [] name f (k.members_names f (map (λ m. m.0) ms) whole) fine tt (k.members f (map (λ m. m.0)
      ms) whole)
  layer (Value-F.Items vs) name f fine good =
      let whole = subst (k.IsGood f) (value.rolls-Items _) good in
      items_placed vs 0 [] name f (subst k.Long (all_down vs) (k.items_long f (map (λ v. v.0) vs) whole)) fine tt
      (k.items f (map (λ v. v.0) vs) whole)
  layer (Value-F.Int n) name f fine good = same f (Value-F.Int n) _ (value.rolls-Int n) refl fine good
  layer (Value-F.Type t) name f fine good = same f (Value-F.Type t) _ (value.rolls-Type t) refl fine good
  layer (Value-F.Const w) name f fine good = same f (Value-F.Const w) _ (value.rolls-Const w) refl fine good
  layer (Value-F.Class n) name f fine good = same f (Value-F.Class n) _ (value.rolls-Class n) refl fine good
  layer Value-F.Own name f fine good = same f Value-F.Own _ value.rolls-Own refl fine good
  layer (Value-F.Taken t) name f fine good = same f (Value-F.Taken t) _ (value.rolls-Taken t) refl fine good
  layer (Value-F.Term t) name f fine good = same f (Value-F.Term t) _ (value.rolls-Term t) refl fine good
  layer (Value-F.Rule t u) name f fine good = same f (Value-F.Rule t u) _ (value.rolls-Rule t u) refl fine good

  whole : (x : Value-F Value Member) (y : Value-F ((v : Value) × Places v) ((m : Member) × PlacesMember m))
      → Down y ≡ x → Places (roll-Value x)
  unfolding place place_member
  whole x y is name f fine good =
      let step : Value-F Value Member → Type 0 = λ z. k.IsGood f (roll-Value z)
      → On (placing_of (map-Value Value Member Placing MemberPlacing place place_member z) kinds name line f)
      (IsPlaced k f) in
      subst (λ (p : Placing). On (p kinds name line f) (IsPlaced k f)) (sym (fold-roll-Value Placing MemberPlacing
      placing_of member_placing x)) (subst step is (layer y name f fine) good)

  whole_member : (x : Member-F Value Member) (y : Member-F ((v : Value) × Places v) ((m : Member) × PlacesMember m))
      → map-Member ((v : Value) × Places v) ((m : Member) × PlacesMember m) Value Member (λ v. v.0) (λ m. m.0) y ≡ x
      → PlacesMember (roll-Member x)
  unfolding place place_member
  whole_member x y is name f fine good =
      let step : Member-F Value Member → Type 0 = λ z. k.IsGood f z.value
      → On (member_placing (map-Member Value Member Placing MemberPlacing place place_member z) kinds name line
      f) (IsMember k f z.name) in
      subst (λ (p : MemberPlacing). On (p kinds name line f) (IsMember k f x.name)) (sym (fold-roll-Member Placing
      MemberPlacing placing_of member_placing x)) (subst step is (λ good.
      chain (IsPlaced k f) (IsMember k f y.name) (place y.value.0 kinds (member_name name y.name) line f) _
      (y.value.1 (member_name name y.name) f fine good) (λ r is. record {
        same_name = refl;
        fine = is.fine;
        grows = is.grows;
        held = is.held;
      })) good)

  -- a value is placed
  pub places : (v : Value) → Places v
  places v = ind-Value Places PlacesMember whole whole_member v
