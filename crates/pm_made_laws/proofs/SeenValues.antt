-- Values that fit are good where a body sees them.
use Rattle.std.proofs.Common.{◌≡◌, ◌∙◌, ℕ, Bool, true, List, [], ◌∷◌, refl}
use Rattle.std.proofs.Common.{map}
use Rattle.std.specs.List.{list_all}
use Rattle.pm_values.specs.declared.reference.ValueType.{ValueType}
use Rattle.pm_values.specs.declared.value.Member.{Member, fold-Member, fold_out-Member}
use Rattle.pm_values.specs.declared.value.Taken.{Taken}
use Rattle.pm_values.specs.declared.value.Value.{Value, Value-F, fold-roll-Value, roll-Value}
use Rattle.pm_values.specs.declared.value.Value.TheFolds.{map-Value}
use Rattle.std.specs.Prelude.{Option}
use Rattle.pm_elab.specs.Values.{member_sort}
use Rattle.pm_elab_laws.proofs.EqualValues.{both}
use Rattle.pm_elab_laws.proofs.Keeping.{Each}
use Rattle.pm_elab_laws.proofs.Tests.{Good, GoodLayer, GoodMember, Level, Parts, Tests, each_value, never}
use Rattle.pm_elab_laws.proofs.Tests.{element, free, fresh, held, opened_layer, plain}
use Rattle.pm_typing.specs.Sites.{Scope}
use Rattle.pm_type_laws.specs.Good.{is_taken, is_type, is_value, is_value_of}

module _ (k : Tests) (scope : Scope) (whose : Option ℕ)
    (types : (t : ValueType) → k.type t ≡ true → is_type scope.design.design.shapes t ≡ true)
    (takens : (t : Taken) → k.taken t ≡ true → is_taken scope whose t ≡ true) where
  -- a value that fits anywhere is good
  abbrev Seen : Value → Type 0
  Seen v = (l : Level) → Good k l v → is_value scope whose v ≡ true

  items_seen : (l : Level) (vs : List Value) → Each Seen vs → Each (Good k l) vs
      → list_all (λ b. b) (map (is_value scope whose) vs) ≡ true
  items_seen l [] seen good = refl
  items_seen l (v ∷ vs) seen good =
      both (is_value scope whose v) _ (seen.0 l good.0) (items_seen l vs seen.1 good.1)

  abbrev member_is : Member → Bool
  member_is = fold-Member Bool Bool (is_value_of scope whose) member_sort

  member_same : (m : Member) → member_is m ≡ is_value scope whose m.value
  unfolding is_value
  member_same m = fold_out-Member Bool Bool (is_value_of scope whose) member_sort m

  members_seen : (ms : List Member) → Each (λ (m : Member). Seen m.value) ms → Each (GoodMember k held) ms
      → list_all (λ b. b) (map member_is ms) ≡ true
  members_seen [] seen good = refl
  members_seen (m ∷ ms) seen good =
      both (member_is m) _ (member_same m ∙ seen.0 held good.0) (members_seen ms seen.1 good.1)

  taken_seen : (t : Taken) (l : Level) → GoodLayer k l (Value-F.Taken t) → is_taken scope whose t ≡ true
  taken_seen t free is = takens t is
  taken_seen t element is = takens t is
  taken_seen t fresh is = never is
  taken_seen t held is = takens t is
  taken_seen t plain is = never is

  interface_seen : (ms : List Member) (l : Level) → Each (λ (m : Member). Seen m.value) ms
      → GoodLayer k l (Value-F.Interface ms) → list_all (λ b. b) (map member_is ms) ≡ true
  interface_seen ms free seen is = members_seen ms seen is.1
  interface_seen ms element seen is = members_seen ms seen is.1
  interface_seen ms fresh seen is = absurd is
  interface_seen ms held seen is = members_seen ms seen is.1
  interface_seen ms plain seen is = absurd is

  layer_seen : (x : Value-F Value Member) (l : Level) → Parts Seen x → GoodLayer k l x
      → is_value_of scope whose (map-Value Value Member Bool Bool (is_value scope whose) member_is x) ≡ true
  layer_seen (Value-F.Int n) l parts is = refl
  layer_seen (Value-F.Type t) l parts is = types t is
  layer_seen (Value-F.Const w) l parts is = is
  layer_seen (Value-F.Class n) l parts is = refl
  layer_seen Value-F.Own l parts is = refl
  layer_seen (Value-F.New n) l parts is = refl
  layer_seen (Value-F.NewInterface ms) l parts is = refl
  layer_seen (Value-F.Taken t) l parts is = taken_seen t l is
  layer_seen (Value-F.Interface ms) l parts is = interface_seen ms l parts is
  layer_seen (Value-F.Items vs) l parts is = items_seen l vs parts is.1
  layer_seen (Value-F.Term t) l parts is = refl
  layer_seen (Value-F.Rule t u) l parts is = refl

  step_seen : (x : Value-F Value Member) → Parts Seen x → Seen (roll-Value x)
  unfolding is_value
  step_seen x parts l good =
      fold-roll-Value Bool Bool (is_value_of scope whose) member_sort x
      ∙ layer_seen x l parts (opened_layer k x l good)

  pub value_seen : (v : Value) → Seen v
  value_seen v = each_value Seen step_seen v
