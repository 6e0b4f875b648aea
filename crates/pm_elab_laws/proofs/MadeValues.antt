-- Values whose components are of kinds that are there.
use Rattle.std.proofs.Common.{◌≡◌, ◌∙◌, ◌≤◌, ◌<◌, ◌&&◌, ℕ, ℤ, Bool, true, false, List, [], ◌∷◌, refl, sym, subst, map}
use Rattle.std.proofs.Common.{ap, ap₂, arith, ltb-true}
use Rattle.std.specs.List.{list_all}
use Rattle.std.proofs.lemmas.Bool.{and_parts}
use Rattle.pm_values.specs.declared.value.Member.{Member, Member-F, fold-Member, fold-roll-Member, fold_out-Member}
use Rattle.pm_values.specs.declared.value.Member.{roll-Member}
use Rattle.pm_values.specs.declared.value.New.{New}
use Rattle.pm_values.specs.declared.value.New.TheVariants as new
use Rattle.pm_values.specs.declared.value.Taken.{Taken}
use Rattle.pm_values.specs.declared.value.Value.{Value, Value-F, fold-roll-Value, roll-Value}
use Rattle.pm_values.specs.declared.value.Value.TheFolds.{ind-Value, map-Value, map-Member}
use Rattle.pm_values.specs.declared.value.Value.TheVariants as value
use Rattle.pm_elab.specs.Values.{member_sort}
use Rattle.pm_elab.specs.Views.{View, viewed, viewed_of, taken_viewed}
use Rattle.pm_elab_laws.specs.MadeValues.{new_made, made_of, is_made}

abbrev pub made_member : ℕ → Member → Bool
made_member n = fold-Member Bool Bool (made_of n) member_sort

pub member_is : (n : ℕ) (m : Member) → made_member n m ≡ is_made n m.value
unfolding is_made
member_is n m = fold_out-Member Bool Bool (made_of n) member_sort m

pub rolled : (n : ℕ) (x : Value-F Value Member) → is_made n (roll-Value x) ≡ made_of n (map-Value Value Member Bool
    Bool (is_made n) (made_member n) x)
unfolding is_made
rolled n x = fold-roll-Value Bool Bool (made_of n) member_sort x

pub made_items : (n : ℕ) (vs : List Value) → is_made n (value.Items vs) ≡ list_all (λ b. b) (map (is_made n) vs)
made_items n vs = ap (is_made n) (sym (value.rolls-Items vs)) ∙ rolled n (Value-F.Items vs)

pub made_news : (n : ℕ) (ms : List Member) → is_made n (value.NewInterface ms) ≡ list_all (λ b. b)
    (map (made_member n) ms)
made_news n ms = ap (is_made n) (sym (value.rolls-NewInterface ms)) ∙ rolled n (Value-F.NewInterface ms)

pub made_interface : (n : ℕ) (ms : List Member) → is_made n (value.Interface ms) ≡ list_all (λ b. b)
    (map (made_member n) ms)
made_interface n ms = ap (is_made n) (sym (value.rolls-Interface ms)) ∙ rolled n (Value-F.Interface ms)

pub made_new : (n : ℕ) (x : New) → is_made n (value.New x) ≡ new_made n x
made_new n x = ap (is_made n) (sym (value.rolls-New x)) ∙ rolled n (Value-F.New x)

pub made_taken : (n : ℕ) (t : Taken) → is_made n (value.Taken t) ≡ true
made_taken n t = ap (is_made n) (sym (value.rolls-Taken t)) ∙ rolled n (Value-F.Taken t)

pub made_int : (n : ℕ) (i : ℤ) → is_made n (value.Int i) ≡ true
made_int n i = ap (is_made n) (sym (value.rolls-Int i)) ∙ rolled n (Value-F.Int i)

pub made_own : (n : ℕ) → is_made n value.Own ≡ true
made_own n = ap (is_made n) (sym value.rolls-Own) ∙ rolled n Value-F.Own

-- ---- more kinds

new_more : (n m : ℕ) (x : New) → n ≤ m → new_made n x ≡ true → new_made m x ≡ true
new_more n m (new.Child c) le is = let less : c < n = ltb-true _ _ is in grind (arith, less, le)
new_more n m (new.Signal role t) le is = refl
new_more n m (new.Deque d) le is = refl
new_more n m (new.Caller types) le is = refl
new_more n m (new.Callee c) le is = refl

module _ (n m : ℕ) (le : n ≤ m) where
  abbrev More : Value → Type 0
  More v = is_made n v ≡ true → is_made m v ≡ true

  abbrev MoreMember : Member → Type 0
  MoreMember x = made_member n x ≡ true → made_member m x ≡ true

  abbrev Down : Value-F ((v : Value) × More v) ((x : Member) × MoreMember x) → Value-F Value Member
  Down y = map-Value ((v : Value) × More v) ((x : Member) × MoreMember x) Value Member (λ v. v.0) (λ x. x.0) y

  both_true : (a b : Bool) → a ≡ true → b ≡ true → (a && b) ≡ true
  both_true true b first second = second
  both_true false b first second = first

  more_items : (vs : List ((v : Value) × More v)) → list_all (λ b. b) (map (is_made n) (map (λ v. v.0) vs)) ≡ true
      → list_all (λ b. b) (map (is_made m) (map (λ v. v.0) vs)) ≡ true
  more_items [] is = refl
  more_items (v ∷ vs) is =
      let parts = and_parts (is_made n v.0) (list_all (λ b. b) (map (is_made n) (map (λ v. v.0) vs))) is in
      both_true (is_made m v.0) _ (v.1 parts.0) (more_items vs parts.1)

  more_members : (xs : List ((x : Member) × MoreMember x))
      → list_all (λ b. b) (map (made_member n) (map (λ x. x.0) xs)) ≡ true
      → list_all (λ b. b) (map (made_member m) (map (λ x. x.0) xs)) ≡ true
  more_members [] is = refl
  more_members (x ∷ xs) is =
      let parts = and_parts (made_member n x.0) (list_all (λ b. b) (map (made_member n) (map (λ x. x.0) xs))) is in
      both_true (made_member m x.0) _ (x.1 parts.0) (more_members xs parts.1)

  more_layer : (y : Value-F ((v : Value) × More v) ((x : Member) × MoreMember x))
      → made_of n (map-Value Value Member Bool Bool (is_made n) (made_member n) (Down y)) ≡ true
      → made_of m (map-Value Value Member Bool Bool (is_made m) (made_member m) (Down y)) ≡ true
  more_layer (Value-F.New x) is = new_more n m x le is
  more_layer (Value-F.Items vs) is = more_items vs is
  more_layer (Value-F.NewInterface xs) is = more_members xs is
  more_layer (Value-F.Interface xs) is = more_members xs is
  more_layer _ is = refl

  more_whole : (x : Value-F Value Member) (y : Value-F ((v : Value) × More v) ((x : Member) × MoreMember x))
      → Down y ≡ x → More (roll-Value x)
  more_whole x y down is =
      let step : Value-F Value Member → Type 0 = λ z. made_of n (map-Value Value Member Bool Bool (is_made n)
      (made_member n) z) ≡ true → made_of m (map-Value Value Member Bool Bool (is_made m) (made_member m) z) ≡
      true in
      rolled m x ∙ subst step down (more_layer y) (sym (rolled n x) ∙ is)

  more_member : (x : Member-F Value Member) (y : Member-F ((v : Value) × More v) ((x : Member) × MoreMember x))
      → map-Member ((v : Value) × More v) ((x : Member) × MoreMember x) Value Member (λ v. v.0) (λ x. x.0) y ≡ x
      → MoreMember (roll-Member x)
  unfolding is_made
  more_member x y down is =
      let step : Member-F Value Member → Type 0 = λ z. is_made n z.value ≡ true → is_made m z.value ≡ true in
      fold-roll-Member Bool Bool (made_of m) member_sort x ∙ subst step down y.value.1 (sym (fold-roll-Member Bool
      Bool (made_of n) member_sort x) ∙ is)

  pub made_more : (v : Value) → is_made n v ≡ true → is_made m v ≡ true
  made_more v = ind-Value More MoreMember more_whole more_member v

-- ---- seen from elsewhere

module _ (n : ℕ) (view : View) where
  abbrev viewed_member : Member → Member
  viewed_member = fold-Member Value Member (viewed_of view) roll-Member

  abbrev Same : Value → Type 0
  Same v = is_made n (viewed view v) ≡ is_made n v

  abbrev SameMember : Member → Type 0
  SameMember x = made_member n (viewed_member x) ≡ made_member n x

  abbrev DownSame : Value-F ((v : Value) × Same v) ((x : Member) × SameMember x) → Value-F Value Member
  DownSame y = map-Value ((v : Value) × Same v) ((x : Member) × SameMember x) Value Member (λ v. v.0) (λ x. x.0) y

  same_items : (vs : List ((v : Value) × Same v)) → map (is_made n) (map (viewed view) (map (λ v. v.0) vs)) ≡ map
      (is_made n) (map (λ v. v.0) vs)
  same_items [] = refl
  same_items (v ∷ vs) = ap₂ (λ (b : Bool) (bs : List Bool). b ∷ bs) v.1 (same_items vs)

  same_members : (xs : List ((x : Member) × SameMember x))
      → map (made_member n) (map viewed_member (map (λ x. x.0) xs)) ≡ map (made_member n) (map (λ x. x.0) xs)
  same_members [] = refl
  same_members (x ∷ xs) = ap₂ (λ (b : Bool) (bs : List Bool). b ∷ bs) x.1 (same_members xs)

  same_layer : (y : Value-F ((v : Value) × Same v) ((x : Member) × SameMember x))
      → is_made n (viewed_of view (map-Value Value Member Value Member (viewed view) viewed_member (DownSame y))) ≡
      made_of n (map-Value Value Member Bool Bool (is_made n) (made_member n) (DownSame y))
  same_layer (Value-F.Taken t) = made_taken n (taken_viewed view t)
  same_layer (Value-F.Items vs) = rolled n (Value-F.Items (map (viewed view) (map (λ v. v.0) vs))) ∙ ap
      (list_all (λ b. b)) (same_items vs)
  same_layer (Value-F.NewInterface xs) = rolled n (Value-F.NewInterface (map viewed_member (map (λ x. x.0) xs))) ∙
      ap (list_all (λ b. b)) (same_members xs)
  same_layer (Value-F.Interface xs) = rolled n (Value-F.Interface (map viewed_member (map (λ x. x.0) xs))) ∙ ap
      (list_all (λ b. b)) (same_members xs)
  same_layer (Value-F.New x) = rolled n (Value-F.New x)
  same_layer (Value-F.Int i) = rolled n (Value-F.Int i)
  same_layer (Value-F.Type t) = rolled n (Value-F.Type t)
  same_layer (Value-F.Const w) = rolled n (Value-F.Const w)
  same_layer (Value-F.Class c) = rolled n (Value-F.Class c)
  same_layer Value-F.Own = rolled n Value-F.Own
  same_layer (Value-F.Term t) = rolled n (Value-F.Term t)
  same_layer (Value-F.Rule t u) = rolled n (Value-F.Rule t u)

  same_whole : (x : Value-F Value Member) (y : Value-F ((v : Value) × Same v) ((x : Member) × SameMember x))
      → DownSame y ≡ x → Same (roll-Value x)
  unfolding viewed
  same_whole x y down =
      let step : Value-F Value Member → Type 0 = λ z. is_made n (viewed_of view (map-Value Value Member Value Member
      (viewed view) viewed_member z)) ≡ made_of n (map-Value Value Member Bool Bool (is_made n) (made_member n)
      z) in
      ap (is_made n) (fold-roll-Value Value Member (viewed_of view) roll-Member x) ∙ (subst step down (same_layer y)
      ∙ sym (rolled n x))

  same_member : (x : Member-F Value Member) (y : Member-F ((v : Value) × Same v) ((x : Member) × SameMember x))
      → map-Member ((v : Value) × Same v) ((x : Member) × SameMember x) Value Member (λ v. v.0) (λ x. x.0) y ≡ x
      → SameMember (roll-Member x)
  unfolding is_made viewed
  same_member x y down =
      let step : Member-F Value Member → Type 0 = λ z. is_made n (viewed view z.value) ≡ is_made n z.value in
      ap (made_member n) (fold-roll-Member Value Member (viewed_of view) roll-Member x)
      ∙ (fold-roll-Member Bool Bool (made_of n) member_sort (map-Member Value Member Value Member (viewed view)
      viewed_member x)
      ∙ (subst step down y.value.1 ∙ sym (fold-roll-Member Bool Bool (made_of n) member_sort x)))

  pub made_viewed : (v : Value) → is_made n (viewed view v) ≡ is_made n v
  made_viewed v = ind-Value Same SameMember same_whole same_member v
