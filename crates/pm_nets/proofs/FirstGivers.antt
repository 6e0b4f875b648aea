-- The first giver of each set, and the least number of a set with two.
use Rattle.std.specs.Prelude.{unwrap_or}
use Rattle.std.proofs.Common.{◌≡◌, ◌⊎◌, ◌<◌, ◌≤◌, ℕ, List, [], ◌∷◌, ◌++◌, length, get_or, set, Contains}
use Rattle.std.proofs.Common.{Option, Some, None, min, replicate}
use Rattle.std.proofs.Common.{refl, sym, ap, subst, ◌∙◌, inl, inr, arith}
use Rattle.std.proofs.Common.{get_or-set_same, get_or-set_other}
use Rattle.std.proofs.lemmas.Option.{none-some}
use Rattle.std.proofs.lemmas.Bool.{cases_eq, cases_lt}
use Rattle.std.proofs.lemmas.List.{append_assoc, append-nil, length-set, length-replicate, get_or-replicate}
use Rattle.std.proofs.lemmas.List.Elements.{Contains-push, Contains-append_left, Contains-push_cases}
use Rattle.disjoint_sets.specs.Connected.{Connected}
use Rattle.disjoint_sets.specs.Partitions.{IsPartition}
use Rattle.disjoint_sets.proofs.Chains.{connected_sym}
use Rattle.pm_nets.specs.declared.giver.Giver.{Giver}
use Rattle.pm_nets.specs.Givers.{HasTwo, IsLeastTwo, Two, AreGiven, Gives}
use Rattle.pm_nets.specs.Drivers.{IsLow}
use Rattle.pm_nets.specs.Faults.{lesser_of}

pub some_same : {X : Type 0} (x y : X) → Some x ≡ Some y → x ≡ y
some_same x y e = ap (λ (o : Option _). unwrap_or o x) e

none_some : {X : Type 0} (x : X) → None ≡ Some x → ⊥
none_some x e = none-some x e

pub given_none : (leasts : List ℕ) (n : ℕ) → n ≡ length leasts → AreGiven leasts [] (replicate n None) None
given_none leasts n e = record {
  size = length-replicate n None ∙ e;
  below = λ g h. let l : h.0 < 0 = h.1 in absurd (omega arith);
  held = λ r g l is. let empty : get_or (replicate n None) r None ≡ None =
      get_or-replicate n r None None (subst (λ (k : ℕ). r < k) (length-replicate n None) l) in
      absurd (none_some g (sym empty ∙ is));
  each = λ g h. let l : h.0 < 0 = h.1 in absurd (omega arith);
  two = λ l is. absurd (none_some l is);
}

pushed_below : (leasts : List ℕ) (gs : List Giver) (g : Giver) → ((h : Giver) → Contains gs h → h.end < length leasts)
    → g.end < length leasts → (h : Giver) → Contains gs h ⊎ (g ≡ h) → h.end < length leasts
pushed_below leasts gs g before here h (inl has) = before h has
pushed_below leasts gs g before here h (inr e) = subst (λ (k : Giver). k.end < length leasts) e here

two_more : (leasts : List ℕ) (gs : List Giver) (g : Giver) (l : ℕ) → Two leasts gs l → Two leasts (gs ++ g ∷ []) l
two_more leasts gs g l two = record {
  first = two.first;
  second = two.second;
  differ = two.differ;
  one = Contains-append_left gs (g ∷ []) two.first two.one;
  other = Contains-append_left gs (g ∷ []) two.second two.other;
  first_at = two.first_at;
  second_at = two.second_at;
}

-- the first giver of its net
pub given_first : (leasts : List ℕ) (gs : List Giver) (first : List (Option Giver)) (least : Option ℕ) (g : Giver)
    (r : ℕ) → AreGiven leasts gs first least → g.end < length leasts → r ≡ get_or leasts g.end 0 → r < length first
    → get_or first r None ≡ None → AreGiven leasts (gs ++ g ∷ []) (set first r (Some g)) least
given_first leasts gs first least g r given known root lt free = record {
  below = λ h has. pushed_below leasts gs g given.below known h (Contains-push_cases gs g h has);
  size = length-set first r (Some g) ∙ given.size;
  held = λ q h l is. held q h (subst (λ (n : ℕ). q < n) (length-set first r (Some g)) l) is (cases_eq q r);
  each = λ h has. each h (Contains-push_cases gs g h has);
  two = λ l is. two_more leasts gs g l (given.two l is);
}
  where
    held : (q : ℕ) (h : Giver) → q < length first → get_or (set first r (Some g)) q None ≡ Some h
        → (q ≡ r) ⊎ (q ≡ r → ⊥) → Contains (gs ++ g ∷ []) h × (get_or leasts h.end 0 ≡ q)
    held q h l is (inl e) = let same : g ≡ h =
        some_same g h
        (sym (get_or-set_same first r (Some g) None lt)
        ∙ (ap (λ (i : ℕ). get_or (set first r (Some g)) i None) (sym e) ∙ is)) in (
          subst (λ (k : Giver). Contains (gs ++ g ∷ []) k) same (Contains-push gs g),
          ap
              (λ (k : Giver). get_or leasts k.end 0) (sym same) ∙ (sym root ∙ sym e),
        )
    held q h l is (inr ne) = let old = given.held q h l (sym (get_or-set_other first r q (Some g) None ne) ∙ is) in
        (Contains-append_left gs (g ∷ []) h old.0, old.1)

    each : (h : Giver) → Contains gs h ⊎ (g ≡ h) → (k : Giver)
        × (get_or (set first r (Some g)) (get_or leasts h.end 0) None ≡ Some k)
        × ((h ≡ k) ⊎ IsLow least (get_or leasts h.end 0))
    each h (inl has) = let old = given.each h has in go old.0 old.1 old.2 (cases_eq (get_or leasts h.end 0) r)
      where
        go : (k : Giver) → get_or first (get_or leasts h.end 0) None ≡ Some k
            → (h ≡ k) ⊎ IsLow least (get_or leasts h.end 0)
            → (get_or leasts h.end 0 ≡ r) ⊎ (get_or leasts h.end 0 ≡ r → ⊥) → (k : Giver)
            × (get_or (set first r (Some g)) (get_or leasts h.end 0) None ≡ Some k)
            × ((h ≡ k) ⊎ IsLow least (get_or leasts h.end 0))
        go k at known (inl e) = let taken : get_or first r None ≡ Some k = ap (λ (i : ℕ). get_or first i None) (sym e)
            ∙ at in absurd (none_some k (sym free ∙ taken))
        go k at known (inr ne) = (k, get_or-set_other first r (get_or leasts h.end 0) (Some g) None ne ∙ at, known)
    each h (inr e) = (
      g,
      ap (λ (i : ℕ). get_or (set first r (Some g)) i None)
          (ap (λ (k : Giver). get_or leasts k.end 0) (sym e) ∙ sym root)
          ∙ get_or-set_same first r (Some g) None lt,
      inl (sym e),
    )

-- the giver that is known
pub given_again : (leasts : List ℕ) (gs : List Giver) (first : List (Option Giver)) (least : Option ℕ) (g : Giver)
    (r : ℕ) → AreGiven leasts gs first least → g.end < length leasts → r ≡ get_or leasts g.end 0
    → get_or first r None ≡ Some g → AreGiven leasts (gs ++ g ∷ []) first least
given_again leasts gs first least g r given known root at = record {
  below = λ h has. pushed_below leasts gs g given.below known h (Contains-push_cases gs g h has);
  size = given.size;
  held = λ q h l is. let old = given.held q h l is in (Contains-append_left gs (g ∷ []) h old.0, old.1);
  each = λ h has. each h (Contains-push_cases gs g h has);
  two = λ l is. two_more leasts gs g l (given.two l is);
}
  where
    each : (h : Giver) → Contains gs h ⊎ (g ≡ h) → (k : Giver) × (get_or first (get_or leasts h.end 0) None ≡ Some k)
        × ((h ≡ k) ⊎ IsLow least (get_or leasts h.end 0))
    each h (inl has) = given.each h has
    each h (inr e) = (
      g,
      ap (λ (i : ℕ). get_or first i None) (ap (λ (k : Giver). get_or leasts k.end 0) (sym e) ∙ sym root)
          ∙ at,
      inl (sym e),
    )

lesser_cases : (least : Option ℕ) (r : ℕ) → (lesser_of least r ≡ r) ⊎ (least ≡ Some (lesser_of least r))
lesser_cases None r = inl refl
lesser_cases (Some o) r = go (cases_lt o r)
  where
    go : (o < r) ⊎ (r ≤ o) → (min o r ≡ r) ⊎ (Some o ≡ Some (min o r))
    go (inl l) = inr (ap Some (omega arith))
    go (inr l) = inl (omega arith)

lesser_le : (least : Option ℕ) (r : ℕ) → lesser_of least r ≤ r
lesser_le None r = omega arith
lesser_le (Some o) r = omega arith

lesser_known : (least : Option ℕ) (r l : ℕ) → least ≡ Some l → lesser_of least r ≤ l
lesser_known least r l e = subst (λ (o : Option ℕ). lesser_of o r ≤ l) (sym e) (omega arith)

-- a second giver of a net
pub given_second : (leasts : List ℕ) (gs : List Giver) (first : List (Option Giver)) (least : Option ℕ)
    (g known : Giver) (r : ℕ) → AreGiven leasts gs first least → g.end < length leasts → r ≡ get_or leasts g.end 0
    → r < length first → get_or first r None ≡ Some known → (known ≡ g → ⊥)
    → AreGiven leasts (gs ++ g ∷ []) first (Some (lesser_of least r))
given_second leasts gs first least g known r given there root lt at differ = record {
  below = λ h has. pushed_below leasts gs g given.below there h (Contains-push_cases gs g h has);
  size = given.size;
  held = λ q h l is. (Contains-append_left gs (g ∷ []) h (given.held q h l is).0, (given.held q h l is).1);
  each = λ h has. each h (Contains-push_cases gs g h has);
  two = λ l is. two l (some_same (lesser_of least r) l is) (lesser_cases least r);
}
  where
    each : (h : Giver) → Contains gs h ⊎ (g ≡ h) → (k : Giver) × (get_or first (get_or leasts h.end 0) None ≡ Some k)
        × ((h ≡ k) ⊎ IsLow (Some (lesser_of least r)) (get_or leasts h.end 0))
    each h (inl has) = let old = given.each h has in (old.0, old.1, go old.0 old.2)
      where
        go : (k : Giver) → (h ≡ k) ⊎ IsLow least (get_or leasts h.end 0)
            → (h ≡ k) ⊎ IsLow (Some (lesser_of least r)) (get_or leasts h.end 0)
        go k (inl e) = inl e
        go k (inr low) = let less : lesser_of least r ≤ low.0 = lesser_known least r low.0 low.1 in
            let more : low.0 ≤ get_or leasts h.end 0 = low.2 in inr (lesser_of least r, refl, omega arith)
    each h (inr e) = let here : r ≡ get_or leasts h.end 0 = root ∙ ap (λ (k : Giver). get_or leasts k.end 0) e in (
      known,
      ap (λ (i : ℕ). get_or first i None) (sym here)
          ∙ at,
      inr (lesser_of least r, refl, subst (λ (i : ℕ). lesser_of least r ≤ i) here (lesser_le least r)),
    )

    two : (l : ℕ) → lesser_of least r ≡ l → (lesser_of least r ≡ r) ⊎ (least ≡ Some (lesser_of least r))
        → Two leasts (gs ++ g ∷ []) l
    two l e (inl here) = let held = given.held r known lt at in record {
      first = known;
      second = g;
      differ = differ;
      one = Contains-append_left gs (g ∷ []) known held.0;
      other = Contains-push gs g;
      first_at = held.1 ∙ (sym here ∙ e);
      second_at = sym root ∙ (sym here ∙ e);
    }
    two l e (inr before) = two_more leasts gs g l (given.two l (before ∙ ap Some e))

-- where a net has two givers, a bit at most its least is known
pub low_of : (n : ℕ) (links : List (ℕ × ℕ)) (leasts : List ℕ) (gs : List Giver) (first : List (Option Giver))
    (least : Option ℕ) (x : ℕ) → IsPartition n links leasts → AreGiven leasts gs first least → HasTwo links gs x
    → IsLow least x
low_of n links leasts gs first least x are given two =
    go (given.each two.first two.one) (given.each two.second two.other)
  where
    a : get_or leasts x 0 ≡ get_or leasts two.first.end 0
    a = are.one x two.first.end two.first_in

    b : get_or leasts x 0 ≡ get_or leasts two.second.end 0
    b = are.one x two.second.end two.second_in

    low : (y : ℕ) → get_or leasts x 0 ≡ y → IsLow least y → IsLow least x
    low y e known = let l : known.0 ≤ y = known.2 in let m : get_or leasts x 0 ≤ x = are.least x in
        (known.0, known.1, omega arith)

    go : (k : Giver) × (get_or first (get_or leasts two.first.end 0) None ≡ Some k)
        × ((two.first ≡ k) ⊎ IsLow least (get_or leasts two.first.end 0)) → (k : Giver)
        × (get_or first (get_or leasts two.second.end 0) None ≡ Some k)
        × ((two.second ≡ k) ⊎ IsLow least (get_or leasts two.second.end 0)) → IsLow least x
    go (k, p, inr known) (j, q, v) = low (get_or leasts two.first.end 0) a known
    go (k, p, inl e) (j, q, inr known) = low (get_or leasts two.second.end 0) b known
    go (k, p, inl e) (j, q, inl f) = let same : k ≡ j =
        some_same k j (sym p ∙ (ap (λ (i : ℕ). get_or first i None) (sym a ∙ b) ∙ q)) in
        absurd (two.differ (e ∙ (same ∙ sym f)))

pub least_two : (n : ℕ) (links : List (ℕ × ℕ)) (leasts : List ℕ) (gs : List Giver) (first : List (Option Giver))
    (least : Option ℕ) (bit : ℕ) → IsPartition n links leasts → AreGiven leasts gs first least
    → ((g : Giver) → Contains gs g → g.end < n) → least ≡ Some bit → IsLeastTwo links gs bit
least_two n links leasts gs first least bit are given known e = record {
  two = record {
    first = two.first;
    second = two.second;
    differ = two.differ;
    one = two.one;
    other = two.other;
    first_in = within two.first two.one two.first_at;
    second_in = within two.second two.other two.second_at;
  };
  least = λ y has. let low = low_of n links leasts gs first least y are given has in let same : bit ≡ low.0 =
      some_same bit low.0 (sym e ∙ low.1) in let l : low.0 ≤ y = low.2 in omega arith;
}
  where
    two : Two leasts gs bit
    two = given.two bit e

    within : (g : Giver) → Contains gs g → get_or leasts g.end 0 ≡ bit → Connected links bit g.end
    within g has at =
        connected_sym links g.end bit (subst (λ (y : ℕ). Connected links g.end y) at (are.member g.end (known g has)))

pub no_two : (n : ℕ) (links : List (ℕ × ℕ)) (leasts : List ℕ) (gs : List Giver) (first : List (Option Giver))
    (least : Option ℕ) → IsPartition n links leasts → AreGiven leasts gs first least → least ≡ None → (x : ℕ)
    → HasTwo links gs x → ⊥
no_two n links leasts gs first least are given e x has = let low =
    low_of n links leasts gs first least x are given has in none_some low.0 (sym e ∙ low.1)

pub gives_first : (leasts : List ℕ) (first now : List (Option Giver)) (least : Option ℕ) (g : Giver) (r : ℕ)
    → g.end < length leasts →
    r ≡ get_or leasts g.end 0 → r < length first → get_or first r None ≡ None → now ≡ set first r (Some g) →
    Gives leasts first now least least (g ∷ [])
gives_first leasts first now least g r known root lt free is =
    subst (λ (l : List (Option Giver)). Gives leasts first l least least (g ∷ [])) (sym is) (record {
      size = length-set first r (Some g);
      given = λ gs given. given_first leasts gs first least g r given known root lt free;
    })

pub gives_again : (leasts : List ℕ) (first : List (Option Giver)) (least : Option ℕ) (g : Giver) (r : ℕ)
    → g.end < length leasts →
    r ≡ get_or leasts g.end 0 → get_or first r None ≡ Some g → Gives leasts first first least least (g ∷ [])
gives_again leasts first least g r known root at = record {
  size = refl;
  given = λ gs given. given_again leasts gs first least g r given known root at;
}

pub gives_second : (leasts : List ℕ) (first : List (Option Giver)) (least : Option ℕ) (g known : Giver) (r : ℕ)
    → g.end < length leasts →
    r ≡ get_or leasts g.end 0 → r < length first → get_or first r None ≡ Some known → (known ≡ g → ⊥) →
    Gives leasts first first least (Some (lesser_of least r)) (g ∷ [])
gives_second leasts first least g known r there root lt at differ = record {
  size = refl;
  given = λ gs given. given_second leasts gs first least g known r given there root lt at differ;
}

pub gives_none : (leasts : List ℕ) (first : List (Option Giver)) (least : Option ℕ)
    → Gives leasts first first least least []
gives_none leasts first least = record {
  size = refl;
  given = λ gs given. subst (λ (l : List Giver). AreGiven leasts l first least) (sym (append-nil gs)) given;
}

pub gives_append : (leasts : List ℕ) (first now new : List (Option Giver)) (least found last : Option ℕ)
    (some more : List Giver) →
    Gives leasts first now least found some → Gives leasts now new found last more
    → Gives leasts first new least last (some ++ more)
gives_append leasts first now new least found last some more one two = record {
  size = two.size ∙ one.size;
  given = λ gs given. subst (λ (l : List Giver). AreGiven leasts l new last) (append_assoc gs some more)
      (two.given (gs ++ some) (one.given gs given));
}
