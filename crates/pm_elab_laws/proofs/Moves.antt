-- What is known of a value, elsewhere and by other tests.
use Rattle.std.proofs.Common.{◌≡◌, ◌∙◌, ◌^◌, ℕ, suc, Bool, true, List, [], ◌∷◌, refl, sym, subst, map, ap, ap₂, length}
use Rattle.std.specs.Prelude.{nat_lt}
use Rattle.std.specs.List.{list_all}
use Rattle.std.proofs.lemmas.Bool.{and_parts}
use Rattle.pm_design.specs.declared.connection.Term.{Term}
use Rattle.pm_design.specs.declared.signal.Role.{Role}
use Rattle.pm_values.specs.declared.reference.ValueType.{ValueType}
use Rattle.pm_values.specs.declared.value.Member.{Member, fold-Member, fold_out-Member, roll-Member}
use Rattle.pm_values.specs.declared.value.New.{New}
use Rattle.pm_values.specs.declared.value.New.TheVariants as new
use Rattle.pm_values.specs.declared.value.Taken.{Taken}
use Rattle.pm_values.specs.declared.value.Value.{Value, Value-F, fold-Value, fold-roll-Value, roll-Value}
use Rattle.pm_values.specs.declared.value.Value.TheFolds.{map-Value}
use Rattle.pm_values.specs.declared.value.Value.TheVariants as value
use Rattle.pm_elab.specs.Values.{is_plain, plain_of, is_member, member_of, new_member, is_element, element_of}
use Rattle.pm_elab.specs.Values.{member_sort}
use Rattle.pm_elab.specs.Views.{View, viewed, viewed_of, taken_viewed, member_seen, member_seen_of, new_seen}
use Rattle.pm_elab.specs.Views.{signal_made}
use Rattle.pm_elab_laws.proofs.EqualValues.{both}
use Rattle.pm_elab_laws.proofs.Keeping.{Each}
use Rattle.pm_elab_laws.proofs.Tests.{Parts, each_value, Level, free, element, fresh, held, plain, Tests, Good}
use Rattle.pm_elab_laws.proofs.Tests.{GoodLayer, GoodMember, GoodMembers, good_names, fresh_new, never, opened_layer}
use Rattle.pm_elab_laws.proofs.Tests.{rolled_layer, closed}

-- two facts of each
pub with_each : {A : Type 0} (P Q R : A → Type 0) (xs : List A) → ((a : A) → P a → Q a → R a) → Each P xs
    → Each Q xs → Each R xs
with_each P Q R [] so first second = tt
with_each P Q R (x ∷ xs) so first second = (so x first.0 second.0, with_each P Q R xs so first.1 second.1)

-- the members of an interface, by other tests or at another place
pub with_members : (P : Member → Type 0) (j k : Tests) (a b : Level) (ms : List Member) → ((m : Member) → P m
    → GoodMember j a m → GoodMember k b m) → Each P ms
    → GoodMembers j a ms → GoodMembers k b ms
with_members P j k a b ms so parts is = (is.0, with_each P (GoodMember j a) (GoodMember k b) ms so parts is.1)

-- ---- other tests

module _ (j k : Tests)
    (types : (t : ValueType) → j.type t ≡ true → k.type t ≡ true)
    (news : (n : New) → j.new n ≡ true → k.new n ≡ true)
    (takens : (t : Taken) → j.taken t ≡ true → k.taken t ≡ true)
    (terms : (t : Term) → j.term t ≡ true → k.term t ≡ true) where
  abbrev More : Value → Type 0
  More v = (l : Level) → Good j l v → Good k l v

  more_new : (n : New) (l : Level) → GoodLayer j l (Value-F.New n) → GoodLayer k l (Value-F.New n)
  more_new n free is = news n is
  more_new n element is = news n is
  more_new (new.Signal role t) fresh is = types t is
  more_new (new.Child c) fresh is = never is
  more_new (new.Deque d) fresh is = never is
  more_new (new.Caller c) fresh is = never is
  more_new (new.Callee c) fresh is = never is
  more_new n held is = never is
  more_new n plain is = never is

  more_taken : (t : Taken) (l : Level) → GoodLayer j l (Value-F.Taken t) → GoodLayer k l (Value-F.Taken t)
  more_taken t free is = takens t is
  more_taken t element is = takens t is
  more_taken t fresh is = never is
  more_taken t held is = takens t is
  more_taken t plain is = never is

  more_term : (t : Term) (l : Level) → GoodLayer j l (Value-F.Term t) → GoodLayer k l (Value-F.Term t)
  more_term t free is = terms t is
  more_term t element is = never is
  more_term t fresh is = never is
  more_term t held is = never is
  more_term t plain is = never is

  more_rule : (t u : Term) (l : Level) → GoodLayer j l (Value-F.Rule t u) → GoodLayer k l (Value-F.Rule t u)
  more_rule t u free is = let parts = and_parts (j.term t) (j.term u) is in both (k.term t) (k.term u)
      (terms t parts.0) (terms u parts.1)
  more_rule t u element is = never is
  more_rule t u fresh is = never is
  more_rule t u held is = never is
  more_rule t u plain is = never is

  more_each : (l : Level) (ms : List Member) → Each (λ (m : Member). More m.value) ms → GoodMembers j l ms
      → GoodMembers k l ms
  more_each l ms parts each = with_members (λ (m : Member). More m.value) j k l l ms (λ m more is. more l is) parts each

  more_layer : (x : Value-F Value Member) (l : Level) → Parts More x → GoodLayer j l x → GoodLayer k l x
  more_layer (Value-F.Type t) l parts is = types t is
  more_layer (Value-F.New n) l parts is = more_new n l is
  more_layer (Value-F.Taken t) l parts is = more_taken t l is
  more_layer (Value-F.Term t) l parts is = more_term t l is
  more_layer (Value-F.Rule t u) l parts is = more_rule t u l is
  more_layer (Value-F.NewInterface ms) free parts is = more_each fresh ms parts is
  more_layer (Value-F.NewInterface ms) element parts is = more_each fresh ms parts is
  more_layer (Value-F.NewInterface ms) fresh parts is = more_each fresh ms parts is
  more_layer (Value-F.NewInterface ms) held parts is = is
  more_layer (Value-F.NewInterface ms) plain parts is = is
  more_layer (Value-F.Interface ms) free parts is = more_each held ms parts is
  more_layer (Value-F.Interface ms) element parts is = more_each held ms parts is
  more_layer (Value-F.Interface ms) fresh parts is = is
  more_layer (Value-F.Interface ms) held parts is = more_each held ms parts is
  more_layer (Value-F.Interface ms) plain parts is = is
  more_layer (Value-F.Items vs) l parts is = (
    is.0,
    with_each More (Good j l) (Good k l) vs (λ v more is. more l is)
        parts is.1,
  )
  more_layer (Value-F.Int n) l parts is = tt
  more_layer (Value-F.Const w) l parts is = is
  more_layer (Value-F.Class n) l parts is = tt
  more_layer Value-F.Own l parts is = tt

  -- tests that ask less
  pub more : (v : Value) (l : Level) → Good j l v → Good k l v
  more v = each_value More (λ x parts l is. rolled_layer k x l (more_layer x l parts (opened_layer j x l is))) v

-- a member of a new interface has types alone
module _ (j k : Tests) (types : (t : ValueType) → j.type t ≡ true → k.type t ≡ true) where
  abbrev Same : Value → Type 0
  Same v = Good j fresh v → Good k fresh v

  same_layer : (x : Value-F Value Member) → Parts Same x → GoodLayer j fresh x → GoodLayer k fresh x
  same_layer (Value-F.Type t) parts is = types t is
  same_layer (Value-F.New (new.Signal role t)) parts is = types t is
  same_layer (Value-F.New (new.Child c)) parts is = never is
  same_layer (Value-F.New (new.Deque d)) parts is = never is
  same_layer (Value-F.New (new.Caller c)) parts is = never is
  same_layer (Value-F.New (new.Callee c)) parts is = never is
  same_layer (Value-F.Taken t) parts is = never is
  same_layer (Value-F.Term t) parts is = never is
  same_layer (Value-F.Rule t u) parts is = never is
  same_layer (Value-F.NewInterface ms) parts is =
      with_members (λ (m : Member). Same m.value) j k fresh fresh ms (λ m more is. more is) parts is
  same_layer (Value-F.Interface ms) parts is = is
  same_layer (Value-F.Items vs) parts is = (
    is.0,
    with_each Same (Good j fresh) (Good k fresh) vs (λ v more is. more
        is) parts is.1,
  )
  same_layer (Value-F.Int n) parts is = tt
  same_layer (Value-F.Const w) parts is = is
  same_layer (Value-F.Class n) parts is = tt
  same_layer Value-F.Own parts is = tt

  pub fresh_same : (v : Value) → Good j fresh v → Good k fresh v
  fresh_same v = each_value Same (λ x parts is. rolled_layer k x fresh (same_layer x parts (opened_layer j x fresh
      is))) v

-- ---- other places

pub data Below : Level → Level → Type 0 where
  held_free : Below held free
  plain_free : Below plain free
  held_element : Below held element
  fresh_element : Below fresh element

module _ (k : Tests) (signals : (role : Role) (t : ValueType) → k.type t ≡ true
    → k.new (new.Signal role t) ≡ true) where
  abbrev Lower : Value → Type 0
  Lower v = (a b : Level) → Below a b → Good k a v → Good k b v

  lower_new : (n : New) → fresh_new k n ≡ true → k.new n ≡ true
  lower_new (new.Signal role t) is = signals role t is
  lower_new (new.Child c) is = never is
  lower_new (new.Deque d) is = never is
  lower_new (new.Caller c) is = never is
  lower_new (new.Callee c) is = never is

  lower_layer : (x : Value-F Value Member) (a b : Level) → Below a b → Parts Lower x → GoodLayer k a x → GoodLayer k b x
  lower_layer (Value-F.Type t) a b below parts is = is
  lower_layer (Value-F.New n) _ _ held_free parts is = never is
  lower_layer (Value-F.New n) _ _ plain_free parts is = never is
  lower_layer (Value-F.New n) _ _ held_element parts is = never is
  lower_layer (Value-F.New n) _ _ fresh_element parts is = lower_new n is
  lower_layer (Value-F.Taken t) _ _ held_free parts is = is
  lower_layer (Value-F.Taken t) _ _ plain_free parts is = never is
  lower_layer (Value-F.Taken t) _ _ held_element parts is = is
  lower_layer (Value-F.Taken t) _ _ fresh_element parts is = never is
  lower_layer (Value-F.Term t) _ _ held_free parts is = never is
  lower_layer (Value-F.Term t) _ _ plain_free parts is = never is
  lower_layer (Value-F.Term t) _ _ held_element parts is = never is
  lower_layer (Value-F.Term t) _ _ fresh_element parts is = never is
  lower_layer (Value-F.Rule t u) _ _ held_free parts is = never is
  lower_layer (Value-F.Rule t u) _ _ plain_free parts is = never is
  lower_layer (Value-F.Rule t u) _ _ held_element parts is = never is
  lower_layer (Value-F.Rule t u) _ _ fresh_element parts is = never is
  lower_layer (Value-F.NewInterface ms) _ _ held_free parts is = absurd is
  lower_layer (Value-F.NewInterface ms) _ _ plain_free parts is = absurd is
  lower_layer (Value-F.NewInterface ms) _ _ held_element parts is = absurd is
  lower_layer (Value-F.NewInterface ms) _ _ fresh_element parts is = is
  lower_layer (Value-F.Interface ms) _ _ held_free parts is = is
  lower_layer (Value-F.Interface ms) _ _ plain_free parts is = absurd is
  lower_layer (Value-F.Interface ms) _ _ held_element parts is = is
  lower_layer (Value-F.Interface ms) _ _ fresh_element parts is = absurd is
  lower_layer (Value-F.Items vs) a b below parts is = (
    is.0,
    with_each Lower (Good k a) (Good k b) vs (λ v lower is.
        lower a b below is) parts is.1,
  )
  lower_layer (Value-F.Int n) a b below parts is = tt
  lower_layer (Value-F.Const w) a b below parts is = is
  lower_layer (Value-F.Class n) a b below parts is = tt
  lower_layer Value-F.Own a b below parts is = tt

  -- what stands at one place may stand at another
  pub lower : (v : Value) (a b : Level) → Below a b → Good k a v → Good k b v
  lower v = each_value Lower (λ x parts a b below is. rolled_layer k x b (lower_layer x a b below parts
      (opened_layer k x a is))) v

-- ---- values that are sorted

module _ (of : Value-F Bool Bool → Bool) where
  sorted : Value → Bool
  sorted = fold-Value Bool Bool of member_sort

  sorted_member : Member → Bool
  sorted_member = fold-Member Bool Bool of member_sort

  unfolded : (x : Value-F Value Member) → fold-Value Bool Bool of member_sort (roll-Value x)
      ≡ of (map-Value Value Member Bool Bool (fold-Value Bool Bool of member_sort) (fold-Member Bool Bool of
      member_sort) x)
  unfolded x = fold-roll-Value Bool Bool of member_sort x

  each_sorted : (vs : List Value) → list_all (λ b. b) (map (fold-Value Bool Bool of member_sort) vs) ≡ true
      → Each (λ (v : Value). fold-Value Bool Bool of member_sort v ≡ true) vs
  each_sorted [] all = tt
  each_sorted (v ∷ vs) all =
      let parts = and_parts (fold-Value Bool Bool of member_sort v) (list_all (λ b. b) (map (fold-Value Bool Bool of
      member_sort) vs)) all in
      (parts.0, each_sorted vs parts.1)

module _ (j k : Tests) (types : (t : ValueType) → j.type t ≡ true → k.type t ≡ true) where
  abbrev Plain : Value → Type 0
  Plain v = is_plain v ≡ true → Good j free v → Good k plain v

  plain_layer : (x : Value-F Value Member) → Parts Plain x
      → plain_of (map-Value Value Member Bool Bool (fold-Value Bool Bool plain_of member_sort) (fold-Member Bool
      Bool plain_of member_sort) x) ≡ true
      → GoodLayer j free x → GoodLayer k plain x
  unfolding is_plain
  plain_layer (Value-F.Type t) parts sort is = types t is
  plain_layer (Value-F.Items vs) parts sort is = (
    is.0,
    with_each (λ (v : Value). Good j free v × (is_plain v ≡ true)) Plain (Good k plain) vs (λ v both plain. plain
        both.1 both.0)
        (with_each (Good j free) (λ (v : Value). is_plain v ≡ true) (λ (v : Value). Good j free v × (is_plain v ≡
        true)) vs (λ v a b. (a, b)) is.1 (each_sorted plain_of vs sort)) parts,
  )
  plain_layer (Value-F.Int n) parts sort is = tt
  plain_layer (Value-F.Const w) parts sort is = is
  plain_layer (Value-F.Class n) parts sort is = tt
  plain_layer Value-F.Own parts sort is = never sort
  plain_layer (Value-F.New n) parts sort is = never sort
  plain_layer (Value-F.NewInterface ms) parts sort is = never sort
  plain_layer (Value-F.Taken t) parts sort is = never sort
  plain_layer (Value-F.Interface ms) parts sort is = never sort
  plain_layer (Value-F.Term t) parts sort is = never sort
  plain_layer (Value-F.Rule t u) parts sort is = never sort

  -- a value that may be an argument
  pub plain_good : (v : Value) → is_plain v ≡ true → Good j free v → Good k plain v
  unfolding is_plain
  plain_good v = each_value Plain (λ x parts sort is. rolled_layer k x plain (plain_layer x parts
      (sym (unfolded plain_of x) ∙ sort) (opened_layer j x free is))) v

  abbrev Fresh : Value → Type 0
  Fresh v = is_member v ≡ true → Good j free v → Good k fresh v

  fresh_sort : (n : New) → (signals : (role : Role) (t : ValueType) → j.new (new.Signal role t) ≡ true
      → j.type t ≡ true) → new_member n ≡ true → j.new n ≡ true → fresh_new k n ≡ true
  fresh_sort (new.Signal role t) signals sort is = types t (signals role t is)
  fresh_sort (new.Child c) signals sort is = never sort
  fresh_sort (new.Deque d) signals sort is = never sort
  fresh_sort (new.Caller c) signals sort is = never sort
  fresh_sort (new.Callee c) signals sort is = never sort

  module _ (signals : (role : Role) (t : ValueType) → j.new (new.Signal role t) ≡ true → j.type t ≡ true) where
    fresh_layer : (x : Value-F Value Member) → Parts Fresh x
        → member_of (map-Value Value Member Bool Bool (fold-Value Bool Bool member_of member_sort) (fold-Member Bool
        Bool member_of member_sort) x) ≡ true
        → GoodLayer j free x → GoodLayer k fresh x
    unfolding is_member
    fresh_layer (Value-F.New n) parts sort is = fresh_sort n signals sort is
    fresh_layer (Value-F.NewInterface ms) parts sort is =
        with_members (GoodMember j fresh) j k fresh fresh ms (λ m _ is. fresh_same j k types m.value is) is.1 is
    fresh_layer (Value-F.Items vs) parts sort is = (
      is.0,
      with_each (λ (v : Value). Good j free v × (is_member v ≡ true)) Fresh (Good k fresh) vs (λ v both fresh. fresh
          both.1 both.0)
          (with_each (Good j free) (λ (v : Value). is_member v ≡ true) (λ (v : Value). Good j free v × (is_member v
          ≡ true)) vs (λ v a b. (a, b)) is.1 (each_sorted member_of vs sort)) parts,
    )
    fresh_layer (Value-F.Int n) parts sort is = tt
    fresh_layer (Value-F.Type t) parts sort is = never sort
    fresh_layer (Value-F.Const w) parts sort is = is
    fresh_layer (Value-F.Class n) parts sort is = tt
    fresh_layer Value-F.Own parts sort is = tt
    fresh_layer (Value-F.Taken t) parts sort is = never sort
    fresh_layer (Value-F.Interface ms) parts sort is = never sort
    fresh_layer (Value-F.Term t) parts sort is = never sort
    fresh_layer (Value-F.Rule t u) parts sort is = never sort

    -- a member of an interface
    pub fresh_good : (v : Value) → is_member v ≡ true → Good j free v → Good k fresh v
    unfolding is_member
    fresh_good v = each_value Fresh (λ x parts sort is. rolled_layer k x fresh (fresh_layer x parts
        (sym (unfolded member_of x) ∙ sort) (opened_layer j x free is))) v

module _ (k : Tests) where
  abbrev Elements : Value → Type 0
  Elements v = is_element v ≡ true → Good k free v → Good k element v

  element_layer : (x : Value-F Value Member) → Parts Elements x
      → element_of (map-Value Value Member Bool Bool (fold-Value Bool Bool element_of member_sort) (fold-Member Bool
      Bool element_of member_sort) x) ≡ true
      → GoodLayer k free x → GoodLayer k element x
  unfolding is_element
  element_layer (Value-F.New n) parts sort is = is
  element_layer (Value-F.NewInterface ms) parts sort is = is
  element_layer (Value-F.Items vs) parts sort is = (
    is.0,
    with_each (λ (v : Value). Good k free v × (is_element v ≡ true)) Elements (Good k element) vs (λ v both next.
        next both.1 both.0)
        (with_each (Good k free) (λ (v : Value). is_element v ≡ true) (λ (v : Value). Good k free v × (is_element v
        ≡ true)) vs (λ v a b. (a, b)) is.1 (each_sorted element_of vs sort)) parts,
  )
  element_layer (Value-F.Int n) parts sort is = tt
  element_layer (Value-F.Type t) parts sort is = is
  element_layer (Value-F.Const w) parts sort is = is
  element_layer (Value-F.Class n) parts sort is = tt
  element_layer Value-F.Own parts sort is = tt
  element_layer (Value-F.Taken t) parts sort is = is
  element_layer (Value-F.Interface ms) parts sort is = is
  element_layer (Value-F.Term t) parts sort is = never sort
  element_layer (Value-F.Rule t u) parts sort is = never sort

  -- an element of an attribute
  pub element_good : (v : Value) → is_element v ≡ true → Good k free v → Good k element v
  unfolding is_element
  element_good v = each_value Elements (λ x parts sort is. rolled_layer k x element (element_layer x parts
      (sym (unfolded element_of x) ∙ sort) (opened_layer k x free is))) v

-- ---- seen from elsewhere

module _ (j k : Tests) (view : View)
    (types : (t : ValueType) → j.type t ≡ true → k.type t ≡ true)
    (takens : (t : Taken) → j.taken t ≡ true → k.taken (taken_viewed view t) ≡ true) where
  abbrev viewed_member : Member → Member
  viewed_member = fold-Member Value Member (viewed_of view) roll-Member

  abbrev Viewed : Value → Type 0
  Viewed v = Good j held v → Good k held (viewed view v)

  viewed_members : (ms : List Member) → Each (λ (m : Member). Viewed m.value) ms → Each (GoodMember j held) ms
      → Each (GoodMember k held) (map viewed_member ms)
  unfolding viewed
  viewed_members [] parts each = tt
  viewed_members (m ∷ ms) parts each = (
    subst (λ (x : Member). GoodMember k held x) (sym (fold_out-Member Value Member (viewed_of view) roll-Member
        m)) (parts.0 each.0),
    viewed_members ms parts.1 each.1,
  )

  viewed_names : (ms : List Member) → map (λ (m : Member). m.name) (map viewed_member ms) ≡ map (λ (m : Member).
      m.name) ms
  viewed_names [] = refl
  viewed_names (m ∷ ms) = ap₂ (λ (n : List ℕ) (ns : List (List ℕ)). n ∷ ns) (ap (λ (x : Member). x.name)
      (fold_out-Member Value Member (viewed_of view) roll-Member m)) (viewed_names ms)

  viewed_length : (vs : List Value) → length (map (viewed view) vs) ≡ length vs
  viewed_length [] = refl
  viewed_length (v ∷ vs) = ap (λ (n : ℕ). suc n) (viewed_length vs)

  viewed_items : (vs : List Value) → Each Viewed vs → Each (Good j held) vs → Each (Good k held) (map (viewed view) vs)
  viewed_items [] parts each = tt
  viewed_items (v ∷ vs) parts each = (parts.0 each.0, viewed_items vs parts.1 each.1)

  viewed_layer : (x : Value-F Value Member) → Parts Viewed x → GoodLayer j held x
      → Good k held (viewed_of view (map-Value Value Member Value Member (viewed view) viewed_member x))
  viewed_layer (Value-F.Taken t) parts is = closed k (Value-F.Taken (taken_viewed view t)) _ held (value.rolls-Taken
      _) (takens t is)
  viewed_layer (Value-F.Items vs) parts is = rolled_layer k (Value-F.Items (map (viewed view) vs)) held
      (ap (λ (n : ℕ). nat_lt n (2 ^ 64)) (viewed_length vs) ∙ is.0, viewed_items vs parts is.1)
  viewed_layer (Value-F.Interface ms) parts is = rolled_layer k (Value-F.Interface (map viewed_member ms)) held
      (ap good_names (viewed_names ms) ∙ is.0, viewed_members ms parts is.1)
  viewed_layer (Value-F.NewInterface ms) parts is = absurd is
  viewed_layer (Value-F.New n) parts is = never is
  viewed_layer (Value-F.Term t) parts is = never is
  viewed_layer (Value-F.Rule t u) parts is = never is
  viewed_layer (Value-F.Type t) parts is = rolled_layer k (Value-F.Type t) held (types t is)
  viewed_layer (Value-F.Int n) parts is = rolled_layer k (Value-F.Int n) held tt
  viewed_layer (Value-F.Const w) parts is = rolled_layer k (Value-F.Const w) held is
  viewed_layer (Value-F.Class n) parts is = rolled_layer k (Value-F.Class n) held tt
  viewed_layer Value-F.Own parts is = rolled_layer k Value-F.Own held tt

  viewed_step : (x : Value-F Value Member) → Parts Viewed x → Viewed (roll-Value x)
  unfolding viewed
  viewed_step x parts is = subst (Good k held) (sym (fold-roll-Value Value Member (viewed_of view) roll-Member x))
      (viewed_layer x parts (opened_layer j x held is))

  -- an attribute of another component
  pub viewed_good : (v : Value) → Good j held v → Good k held (viewed view v)
  viewed_good v = each_value Viewed viewed_step v

module _ (j k : Tests) (types : (t : ValueType) → j.type t ≡ true → k.type t ≡ true)
    (takens : (role : Role) (t : ValueType) → k.taken (signal_made role t) ≡ true) where
  abbrev seen_member : Member → Member
  seen_member = fold-Member Value Member member_seen_of roll-Member

  abbrev Seen : Value → Type 0
  Seen v = Good j fresh v → Good k held (member_seen v)

  seen_members : (ms : List Member) → Each (λ (m : Member). Seen m.value) ms → Each (GoodMember j fresh) ms
      → Each (GoodMember k held) (map seen_member ms)
  unfolding member_seen
  seen_members [] parts each = tt
  seen_members (m ∷ ms) parts each = (
    subst (λ (x : Member). GoodMember k held x) (sym (fold_out-Member Value Member member_seen_of roll-Member m))
        (parts.0 each.0),
    seen_members ms parts.1 each.1,
  )

  seen_names : (ms : List Member) → map (λ (m : Member). m.name) (map seen_member ms) ≡ map (λ (m : Member). m.name) ms
  seen_names [] = refl
  seen_names (m ∷ ms) = ap₂ (λ (n : List ℕ) (ns : List (List ℕ)). n ∷ ns) (ap (λ (x : Member). x.name)
      (fold_out-Member Value Member member_seen_of roll-Member m)) (seen_names ms)

  seen_length : (vs : List Value) → length (map member_seen vs) ≡ length vs
  seen_length [] = refl
  seen_length (v ∷ vs) = ap (λ (n : ℕ). suc n) (seen_length vs)

  seen_items : (vs : List Value) → Each Seen vs → Each (Good j fresh) vs → Each (Good k held) (map member_seen vs)
  seen_items [] parts each = tt
  seen_items (v ∷ vs) parts each = (parts.0 each.0, seen_items vs parts.1 each.1)

  seen_new : (n : New) → fresh_new j n ≡ true → Good k held (new_seen n)
  seen_new (new.Signal role t) is = closed k (Value-F.Taken (signal_made role t)) _ held (value.rolls-Taken _)
      (takens role t)
  seen_new (new.Child c) is = never is
  seen_new (new.Deque d) is = never is
  seen_new (new.Caller c) is = never is
  seen_new (new.Callee c) is = never is

  seen_layer : (x : Value-F Value Member) → Parts Seen x → GoodLayer j fresh x
      → Good k held (member_seen_of (map-Value Value Member Value Member member_seen seen_member x))
  seen_layer (Value-F.New n) parts is = seen_new n is
  seen_layer (Value-F.NewInterface ms) parts is = closed k (Value-F.Interface (map seen_member ms)) _ held
      (value.rolls-Interface _) (ap good_names (seen_names ms) ∙ is.0, seen_members ms parts is.1)
  seen_layer (Value-F.Items vs) parts is = rolled_layer k (Value-F.Items (map member_seen vs)) held
      (ap (λ (n : ℕ). nat_lt n (2 ^ 64)) (seen_length vs) ∙ is.0, seen_items vs parts is.1)
  seen_layer (Value-F.Taken t) parts is = never is
  seen_layer (Value-F.Interface ms) parts is = absurd is
  seen_layer (Value-F.Term t) parts is = never is
  seen_layer (Value-F.Rule t u) parts is = never is
  seen_layer (Value-F.Type t) parts is = rolled_layer k (Value-F.Type t) held (types t is)
  seen_layer (Value-F.Int n) parts is = rolled_layer k (Value-F.Int n) held tt
  seen_layer (Value-F.Const w) parts is = rolled_layer k (Value-F.Const w) held is
  seen_layer (Value-F.Class n) parts is = rolled_layer k (Value-F.Class n) held tt
  seen_layer Value-F.Own parts is = rolled_layer k Value-F.Own held tt

  seen_step : (x : Value-F Value Member) → Parts Seen x → Seen (roll-Value x)
  unfolding member_seen
  seen_step x parts is = subst (Good k held) (sym (fold-roll-Value Value Member member_seen_of roll-Member x))
      (seen_layer x parts (opened_layer j x fresh is))

  -- a member of an interface, as its own `construct` sees it
  pub seen_good : (v : Value) → Good j fresh v → Good k held (member_seen v)
  seen_good v = each_value Seen seen_step v
