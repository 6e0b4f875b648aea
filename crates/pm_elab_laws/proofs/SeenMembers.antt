-- Members of an interface, as its own `construct` sees them.
use Rattle.std.proofs.Common.{◌≡◌, ◌∙◌, ℕ, Bool, List, [], ◌∷◌, refl, sym, subst, map, ap, ap₂}
use Rattle.std.specs.List.{list_all}
use Rattle.pm_values.specs.declared.value.Member.{Member, Member-F, fold-Member, fold-roll-Member, roll-Member}
use Rattle.pm_values.specs.declared.value.New.{New}
use Rattle.pm_values.specs.declared.value.New.TheVariants as new
use Rattle.pm_values.specs.declared.value.Value.{Value, Value-F, fold-roll-Value, roll-Value}
use Rattle.pm_values.specs.declared.value.Value.TheFolds.{ind-Value, map-Value, map-Member}
use Rattle.pm_elab.specs.Values.{member_sort}
use Rattle.pm_elab.specs.Views.{member_seen, member_seen_of, new_seen}
use Rattle.pm_elab_laws.specs.MadeValues.{new_made, made_of, is_made}
use Rattle.pm_elab_laws.proofs.MadeValues.{made_member, rolled, made_new, made_taken, made_interface}

module _ (n : ℕ) where
  abbrev seen_one : Member → Member
  seen_one = fold-Member Value Member member_seen_of roll-Member

  abbrev Same : Value → Type 0
  Same v = is_made n (member_seen v) ≡ is_made n v

  abbrev SameMember : Member → Type 0
  SameMember x = made_member n (seen_one x) ≡ made_member n x

  abbrev Down : Value-F ((v : Value) × Same v) ((x : Member) × SameMember x) → Value-F Value Member
  Down y = map-Value ((v : Value) × Same v) ((x : Member) × SameMember x) Value Member (λ v. v.0) (λ x. x.0) y

  same_items : (vs : List ((v : Value) × Same v)) → map (is_made n) (map member_seen (map (λ v. v.0) vs)) ≡ map
      (is_made n) (map (λ v. v.0) vs)
  same_items [] = refl
  same_items (v ∷ vs) = ap₂ (λ (b : Bool) (bs : List Bool). b ∷ bs) v.1 (same_items vs)

  same_members : (xs : List ((x : Member) × SameMember x)) → map (made_member n) (map seen_one (map (λ x. x.0) xs))
      ≡ map (made_member n) (map (λ x. x.0) xs)
  same_members [] = refl
  same_members (x ∷ xs) = ap₂ (λ (b : Bool) (bs : List Bool). b ∷ bs) x.1 (same_members xs)

  same_new : (x : New) → is_made n (new_seen x) ≡ new_made n x
  same_new (new.Signal role t) = made_taken n _
  same_new (new.Child c) = made_new n (new.Child c)
  same_new (new.Deque d) = made_new n (new.Deque d)
  same_new (new.Caller types) = made_new n (new.Caller types)
  same_new (new.Callee c) = made_new n (new.Callee c)

  layer : (y : Value-F ((v : Value) × Same v) ((x : Member) × SameMember x))
      → is_made n (member_seen_of (map-Value Value Member Value Member member_seen seen_one (Down y))) ≡ made_of n
      (map-Value Value Member Bool Bool (is_made n) (made_member n) (Down y))
  layer (Value-F.New x) = same_new x
  layer (Value-F.NewInterface xs) = made_interface n (map seen_one (map (λ x. x.0) xs)) ∙ ap (list_all (λ b. b))
      (same_members xs)
  layer (Value-F.Items vs) = rolled n (Value-F.Items (map member_seen (map (λ v. v.0) vs))) ∙ ap (list_all (λ b. b))
      (same_items vs)
  layer (Value-F.Interface xs) = rolled n (Value-F.Interface (map seen_one (map (λ x. x.0) xs))) ∙ ap
      (list_all (λ b. b)) (same_members xs)
  layer (Value-F.Taken t) = rolled n (Value-F.Taken t)
  layer (Value-F.Int i) = rolled n (Value-F.Int i)
  layer (Value-F.Type t) = rolled n (Value-F.Type t)
  layer (Value-F.Const w) = rolled n (Value-F.Const w)
  layer (Value-F.Class c) = rolled n (Value-F.Class c)
  layer Value-F.Own = rolled n Value-F.Own
  layer (Value-F.Term t) = rolled n (Value-F.Term t)
  layer (Value-F.Rule t u) = rolled n (Value-F.Rule t u)

  whole : (x : Value-F Value Member) (y : Value-F ((v : Value) × Same v) ((x : Member) × SameMember x)) → Down y ≡ x
      → Same (roll-Value x)
  unfolding member_seen
  whole x y down =
      let step : Value-F Value Member → Type 0 = λ z. is_made n (member_seen_of (map-Value Value Member Value Member
      member_seen seen_one z)) ≡ made_of n (map-Value Value Member Bool Bool (is_made n) (made_member n) z) in
      ap (is_made n) (fold-roll-Value Value Member member_seen_of roll-Member x) ∙ (subst step down (layer y) ∙ sym
      (rolled n x))

  whole_member : (x : Member-F Value Member) (y : Member-F ((v : Value) × Same v) ((x : Member) × SameMember x))
      → map-Member ((v : Value) × Same v) ((x : Member) × SameMember x) Value Member (λ v. v.0) (λ x. x.0) y ≡ x
      → SameMember (roll-Member x)
  unfolding is_made member_seen
  whole_member x y down =
      let step : Member-F Value Member → Type 0 = λ z. is_made n (member_seen z.value) ≡ is_made n z.value in
      ap (made_member n) (fold-roll-Member Value Member member_seen_of roll-Member x)
      ∙ (fold-roll-Member Bool Bool (made_of n) member_sort (map-Member Value Member Value Member member_seen
      seen_one x)
      ∙ (subst step down y.value.1 ∙ sym (fold-roll-Member Bool Bool (made_of n) member_sort x)))

  pub made_seen : (v : Value) → is_made n (member_seen v) ≡ is_made n v
  made_seen v = ind-Value Same SameMember whole whole_member v
