-- What types, new things, attributes and terms in a value must be, by where the value stands.
use Rattle.std.proofs.Common.{◌≡◌, ◌∙◌, ◌^◌, ◌&&◌, ℕ, suc, Bool, true, false, List, [], ◌∷◌, refl, sym, subst, map, ap}
use Rattle.std.proofs.Common.{ap₂, length}
use Rattle.std.specs.Prelude.{nat_lt}
use Rattle.std.specs.List.{list_all}
use Rattle.pm_design.specs.Names.{all_differ}
use Rattle.pm_syn.specs.Names.{is_proper_name}
use Rattle.std.proofs.lemmas.Bool.{and_parts}
use Rattle.pm_design.specs.declared.connection.Term.{Term}
use Rattle.pm_values.specs.declared.reference.ValueType.{ValueType}
use Rattle.pm_values.specs.declared.value.Member.{Member, Member-F, fold-Member, fold_out-Member, roll-Member}
use Rattle.pm_values.specs.declared.value.New.{New}
use Rattle.pm_values.specs.declared.value.New.TheVariants as new
use Rattle.pm_values.specs.declared.value.Taken.{Taken}
use Rattle.pm_values.specs.declared.value.Value.{Value, Value-F, fold-Value, fold-roll-Value, roll-Value, out-Value}
use Rattle.pm_values.specs.declared.value.Value.{roll-out-Value}
use Rattle.pm_values.specs.declared.value.Value.TheFolds.{ind-Value, map-Value, map-Member}
use Rattle.pm_elab_laws.proofs.Keeping.{Each}
use Rattle.pm_elab_laws.proofs.Constants.{is_constant}
use Rattle.pm_elab_laws.proofs.EqualValues.{both}

-- ---- induction over values

-- each part of a value has the property
abbrev pub Parts : (Value → Type 0) → Value-F Value Member → Type 0
Parts P (Value-F.Items vs) = Each P vs
Parts P (Value-F.NewInterface ms) = Each (λ (m : Member). P m.value) ms
Parts P (Value-F.Interface ms) = Each (λ (m : Member). P m.value) ms
Parts P _ = Unit {0}

module _ (P : Value → Type 0) (step : (x : Value-F Value Member) → Parts P x → P (roll-Value x)) where
  abbrev Q : Member → Type 0
  Q m = P m.value

  abbrev Down : Value-F ((v : Value) × P v) ((m : Member) × Q m) → Value-F Value Member
  Down y = map-Value ((v : Value) × P v) ((m : Member) × Q m) Value Member (λ v. v.0) (λ m. m.0) y

  items : (vs : List ((v : Value) × P v)) → Each P (map (λ v. v.0) vs)
  items [] = tt
  items (v ∷ vs) = (v.1, items vs)

  members : (ms : List ((m : Member) × Q m)) → Each (λ (m : Member). P m.value) (map (λ m. m.0) ms)
  members [] = tt
  members (m ∷ ms) = (m.1, members ms)

  parts : (y : Value-F ((v : Value) × P v) ((m : Member) × Q m)) → Parts P (Down y)
  parts (Value-F.Items vs) = items vs
  parts (Value-F.NewInterface ms) = members ms
  parts (Value-F.Interface ms) = members ms
  parts _ = tt

  whole : (x : Value-F Value Member) (y : Value-F ((v : Value) × P v) ((m : Member) × Q m)) → Down y ≡ x
      → P (roll-Value x)
  whole x y is = step x (subst (Parts P) is (parts y))

  whole_member : (x : Member-F Value Member) (y : Member-F ((v : Value) × P v) ((m : Member) × Q m))
      → map-Member ((v : Value) × P v) ((m : Member) × Q m) Value Member (λ v. v.0) (λ m. m.0) y ≡ x → Q (roll-Member x)
  whole_member x y is = subst (λ (z : Member-F Value Member). P z.value) is y.value.1

  -- what its parts lead to holds of every value
  pub each_value : (v : Value) → P v
  each_value v = ind-Value P Q whole whole_member v

-- ---- tests

-- where a value stands: anywhere, before it is an attribute, in a new interface, in an attribute of a component, or
-- among the arguments of a class
pub data Level : Type 0 where
  free : Level
  element : Level
  fresh : Level
  held : Level
  plain : Level

-- what is asked of what stands in a value
pub record Tests : Type 0 where
  pub type : ValueType → Bool
  pub new : New → Bool
  pub taken : Taken → Bool
  pub term : Term → Bool

-- a new interface has new signals alone
abbrev pub fresh_new : Tests → New → Bool
fresh_new k (new.Signal role t) = k.type t
fresh_new k _ = false

abbrev pub new_at : Tests → New → Level → Bool
new_at k n free = k.new n
new_at k n element = k.new n
new_at k n fresh = fresh_new k n
new_at k n held = false
new_at k n plain = false

abbrev pub taken_at : Bool → Level → Bool
taken_at b free = b
taken_at b element = b
taken_at b fresh = false
taken_at b held = b
taken_at b plain = false

abbrev pub term_at : Bool → Level → Bool
term_at b free = b
term_at b _ = false

abbrev pub newly_at : Bool → Level → Bool
newly_at b free = b
newly_at b element = b
newly_at b fresh = b
newly_at b _ = false

-- each is a proper name, and they differ
abbrev pub good_names : List (List ℕ) → Bool
good_names names = list_all is_proper_name names && all_differ names

-- a member's name, and what is asked of its value
abbrev pub Entry : Type 0
Entry = List ℕ × (Level → Bool)

-- an interface's members
abbrev pub good_members : Level → List Entry → Bool
good_members l bs = good_names (map (λ (b : Entry). b.0) bs) && list_all (λ (b : Entry). b.1 l) bs

abbrev pub tested_of : Tests → Value-F (Level → Bool) Entry → Level → Bool
tested_of k (Value-F.Type t) l = k.type t
tested_of k (Value-F.Const w) l = is_constant w
tested_of k (Value-F.New n) l = new_at k n l
tested_of k (Value-F.Taken t) l = taken_at (k.taken t) l
tested_of k (Value-F.Term t) l = term_at (k.term t) l
tested_of k (Value-F.Rule t u) l = term_at (k.term t && k.term u) l
tested_of k (Value-F.NewInterface bs) l = newly_at (good_members fresh bs) l
tested_of k (Value-F.Interface bs) l = taken_at (good_members held bs) l
tested_of k (Value-F.Items bs) l = nat_lt (length bs) (2 ^ 64) && list_all (λ b. b l) bs
tested_of k _ l = true

abbrev pub member_of : Member-F (Level → Bool) Entry → Entry
member_of m = (m.name, m.value)

-- a value at its place is as the tests ask
unfoldable pub is_tested : Tests → Value → Level → Bool
is_tested k = fold-Value (Level → Bool) Entry (tested_of k) member_of

abbrev pub tested_member : Tests → Member → Entry
tested_member k = fold-Member (Level → Bool) Entry (tested_of k) member_of

abbrev pub Good : Tests → Level → Value → Type 0
Good k l v = is_tested k v l ≡ true

abbrev pub GoodMember : Tests → Level → Member → Type 0
GoodMember k l m = is_tested k m.value l ≡ true

-- the members of an interface have proper names that differ, and are as the tests ask
abbrev pub GoodMembers : Tests → Level → List Member → Type 0
GoodMembers k l ms = (good_names (map (λ (m : Member). m.name) ms) ≡ true) × Each (λ (m : Member). is_tested k
    m.value l ≡ true) ms

-- what is asked of one layer of a value
abbrev pub GoodLayer : Tests → Level → Value-F Value Member → Type 0
GoodLayer k l (Value-F.Type t) = k.type t ≡ true
GoodLayer k l (Value-F.New n) = new_at k n l ≡ true
GoodLayer k l (Value-F.Taken t) = taken_at (k.taken t) l ≡ true
GoodLayer k l (Value-F.Term t) = term_at (k.term t) l ≡ true
GoodLayer k l (Value-F.Rule t u) = term_at (k.term t && k.term u) l ≡ true
GoodLayer k free (Value-F.NewInterface ms) = GoodMembers k fresh ms
GoodLayer k element (Value-F.NewInterface ms) = GoodMembers k fresh ms
GoodLayer k fresh (Value-F.NewInterface ms) = GoodMembers k fresh ms
GoodLayer k held (Value-F.NewInterface ms) = ⊥
GoodLayer k plain (Value-F.NewInterface ms) = ⊥
GoodLayer k free (Value-F.Interface ms) = GoodMembers k held ms
GoodLayer k element (Value-F.Interface ms) = GoodMembers k held ms
GoodLayer k fresh (Value-F.Interface ms) = ⊥
GoodLayer k held (Value-F.Interface ms) = GoodMembers k held ms
GoodLayer k plain (Value-F.Interface ms) = ⊥
GoodLayer k l (Value-F.Items vs) = (nat_lt (length vs) (2 ^ 64) ≡ true) × Each (λ (v : Value). is_tested k v l ≡
    true) vs
GoodLayer k l (Value-F.Int n) = Unit {0}
GoodLayer k l (Value-F.Const w) = is_constant w ≡ true
GoodLayer k l (Value-F.Class n) = Unit {0}
GoodLayer k l Value-F.Own = Unit {0}

-- a test that fails doesn't hold
pub never : {A : Type 0} → false ≡ true → A
never {A = A} e = absurd (subst (λ (b : Bool). elim b as (λ _. Type 0) [ true ↦ ⊥ | false ↦ Unit {0} ]) e tt)

module _ (k : Tests) where
  rolled : (x : Value-F Value Member) (l : Level)
      → is_tested k (roll-Value x) l ≡ tested_of k (map-Value Value Member (Level
      → Bool) Entry (is_tested k) (tested_member k) x) l
  unfolding is_tested
  rolled x l = ap (λ (t : Level → Bool). t l) (fold-roll-Value (Level → Bool) Entry (tested_of k) member_of x)

  member_is : (m : Member) → tested_member k m ≡ (m.name, is_tested k m.value)
  unfolding is_tested
  member_is m = fold_out-Member (Level → Bool) Entry (tested_of k) member_of m

  all_members_are : (ms : List Member)
      → map (tested_member k) ms ≡ map (λ (m : Member). (m.name, is_tested k m.value)) ms
  all_members_are [] = refl
  all_members_are (m ∷ ms) = ap₂ (λ (b : Entry) (bs : List Entry). b ∷ bs) (member_is m) (all_members_are ms)

  each_item : (l : Level) (vs : List Value) → list_all (λ b. b l) (map (is_tested k) vs) ≡ true → Each (Good k l) vs
  each_item l [] all = tt
  each_item l (v ∷ vs) all = let parts = and_parts (is_tested k v l) (list_all (λ b. b l) (map (is_tested k) vs))
      all in (parts.0, each_item l vs parts.1)

  all_items : (l : Level) (vs : List Value) → Each (Good k l) vs → list_all (λ b. b l) (map (is_tested k) vs) ≡ true
  all_items l [] each = refl
  all_items l (v ∷ vs) each = both (is_tested k v l) (list_all (λ b. b l) (map (is_tested k) vs)) each.0
      (all_items l vs each.1)

  names_are : (ms : List Member) → map (λ (b : Entry). b.0) (map (λ (m : Member). (m.name, is_tested k m.value)) ms)
      ≡ map (λ (m : Member). m.name) ms
  names_are [] = refl
  names_are (m ∷ ms) = ap (λ (ns : List (List ℕ)). m.name ∷ ns) (names_are ms)

  each_member : (l : Level) (ms : List Member)
      → list_all (λ (b : Entry). b.1 l) (map (λ (m : Member). (m.name, is_tested k m.value)) ms) ≡ true
      → Each (GoodMember k l) ms
  each_member l [] all = tt
  each_member l (m ∷ ms) all =
      let parts = and_parts (is_tested k m.value l) (list_all (λ (b : Entry). b.1 l)
      (map (λ (m : Member). (m.name, is_tested k m.value)) ms)) all in
      (parts.0, each_member l ms parts.1)

  all_members : (l : Level) (ms : List Member) → Each (GoodMember k l) ms
      → list_all (λ (b : Entry). b.1 l) (map (λ (m : Member). (m.name, is_tested k m.value)) ms) ≡ true
  all_members l [] each = refl
  all_members l (m ∷ ms) each =
      both (is_tested k m.value l) (list_all (λ (b : Entry). b.1 l) (map (λ (m : Member). (
        m.name,
        is_tested k
            m.value,
      )) ms)) each.0 (all_members l ms each.1)

  members_good : (l : Level) (ms : List Member) → good_members l (map (tested_member k) ms) ≡ true → GoodMembers k l ms
  members_good l ms is =
      let plainly : List Entry = map (λ (m : Member). (m.name, is_tested k m.value)) ms in
      let parts = and_parts (good_names (map (λ (b : Entry). b.0) plainly)) (list_all (λ (b : Entry). b.1 l)
      plainly) (ap (good_members l) (sym (all_members_are ms)) ∙ is) in
      (ap good_names (sym (names_are ms)) ∙ parts.0, each_member l ms parts.1)

  good_members_so : (l : Level) (ms : List Member) → GoodMembers k l ms
      → good_members l (map (tested_member k) ms) ≡ true
  good_members_so l ms is =
      ap (good_members l) (all_members_are ms) ∙ both (good_names (map (λ (b : Entry). b.0)
      (map (λ (m : Member). (m.name, is_tested k m.value)) ms))) _ (ap good_names (names_are ms) ∙ is.0)
      (all_members l ms is.1)

  same_length : (vs : List Value) → length (map (is_tested k) vs) ≡ length vs
  same_length [] = refl
  same_length (v ∷ vs) = ap (λ (n : ℕ). suc n) (same_length vs)

  items_good : (l : Level) (vs : List Value) → (nat_lt (length (map (is_tested k) vs)) (2 ^ 64) && list_all
      (λ b. b l) (map (is_tested k) vs)) ≡ true
      → (nat_lt (length vs) (2 ^ 64) ≡ true) × Each (Good k l) vs
  items_good l vs is =
      let parts = and_parts (nat_lt (length (map (is_tested k) vs)) (2 ^ 64)) (list_all (λ b. b l)
      (map (is_tested k) vs)) is in
      (ap (λ (n : ℕ). nat_lt n (2 ^ 64)) (sym (same_length vs)) ∙ parts.0, each_item l vs parts.1)

  good_items_so : (l : Level) (vs : List Value) → (nat_lt (length vs) (2 ^ 64) ≡ true) × Each (Good k l) vs
      → (nat_lt (length (map (is_tested k) vs)) (2 ^ 64) && list_all (λ b. b l) (map (is_tested k) vs)) ≡ true
  good_items_so l vs is = both (nat_lt (length (map (is_tested k) vs)) (2 ^ 64)) _ (ap (λ (n : ℕ). nat_lt n
      (2 ^ 64)) (same_length vs) ∙ is.0) (all_items l vs is.1)

  layer : (x : Value-F Value Member) (l : Level) → tested_of k (map-Value Value Member (Level
      → Bool) Entry (is_tested k) (tested_member k) x) l ≡ true → GoodLayer k l x
  layer (Value-F.Type t) l is = is
  layer (Value-F.New n) l is = is
  layer (Value-F.Taken t) l is = is
  layer (Value-F.Term t) l is = is
  layer (Value-F.Rule t u) l is = is
  layer (Value-F.NewInterface ms) free is = members_good fresh ms is
  layer (Value-F.NewInterface ms) element is = members_good fresh ms is
  layer (Value-F.NewInterface ms) fresh is = members_good fresh ms is
  layer (Value-F.NewInterface ms) held is = never is
  layer (Value-F.NewInterface ms) plain is = never is
  layer (Value-F.Interface ms) free is = members_good held ms is
  layer (Value-F.Interface ms) element is = members_good held ms is
  layer (Value-F.Interface ms) fresh is = never is
  layer (Value-F.Interface ms) held is = members_good held ms is
  layer (Value-F.Interface ms) plain is = never is
  layer (Value-F.Items vs) l is = items_good l vs is
  layer (Value-F.Int n) l is = tt
  layer (Value-F.Const w) l is = is
  layer (Value-F.Class n) l is = tt
  layer Value-F.Own l is = tt

  unlayer : (x : Value-F Value Member) (l : Level) → GoodLayer k l x → tested_of k (map-Value Value Member (Level
      → Bool) Entry (is_tested k) (tested_member k) x) l ≡ true
  unlayer (Value-F.Type t) l is = is
  unlayer (Value-F.New n) l is = is
  unlayer (Value-F.Taken t) l is = is
  unlayer (Value-F.Term t) l is = is
  unlayer (Value-F.Rule t u) l is = is
  unlayer (Value-F.NewInterface ms) free is = good_members_so fresh ms is
  unlayer (Value-F.NewInterface ms) element is = good_members_so fresh ms is
  unlayer (Value-F.NewInterface ms) fresh is = good_members_so fresh ms is
  unlayer (Value-F.NewInterface ms) held is = absurd is
  unlayer (Value-F.NewInterface ms) plain is = absurd is
  unlayer (Value-F.Interface ms) free is = good_members_so held ms is
  unlayer (Value-F.Interface ms) element is = good_members_so held ms is
  unlayer (Value-F.Interface ms) fresh is = absurd is
  unlayer (Value-F.Interface ms) held is = good_members_so held ms is
  unlayer (Value-F.Interface ms) plain is = absurd is
  unlayer (Value-F.Items vs) l is = good_items_so l vs is
  unlayer (Value-F.Int n) l is = refl
  unlayer (Value-F.Const w) l is = is
  unlayer (Value-F.Class n) l is = refl
  unlayer Value-F.Own l is = refl

  -- what is asked of a value is asked of its outermost layer
  pub opened_layer : (x : Value-F Value Member) (l : Level) → Good k l (roll-Value x) → GoodLayer k l x
  opened_layer x l is = layer x l (sym (rolled x l) ∙ is)

  pub rolled_layer : (x : Value-F Value Member) (l : Level) → GoodLayer k l x → Good k l (roll-Value x)
  rolled_layer x l is = rolled x l ∙ unlayer x l is

  pub opened_value : (v : Value) (l : Level) → Good k l v → GoodLayer k l (out-Value v)
  opened_value v l is = opened_layer (out-Value v) l (subst (Good k l) (sym (roll-out-Value v)) is)

  -- the same of a value that is written
  pub closed : (x : Value-F Value Member) (v : Value) (l : Level) → roll-Value x ≡ v → GoodLayer k l x → Good k l v
  closed x v l is good = subst (Good k l) is (rolled_layer x l good)
