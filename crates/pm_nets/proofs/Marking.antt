-- Marks of sets that have a driver.
use Rattle.std.proofs.Common.{◌≡◌, ◌∙◌, ◌⊎◌, ◌+◌, ◌<◌, ◌≤◌, ◌++◌, ℕ, List, [], ◌∷◌, length, get_or, set}
use Rattle.std.proofs.Common.{Contains, Bool, true, false, refl, sym, ap, subst, inl, inr, ⊎_elim, arith}
use Rattle.std.proofs.Common.{get_or-set_same, get_or-set_other, flat_map, take}
use Rattle.std.proofs.Common.{◌^◌, zero, suc, Option, replicate}
use Rattle.std.proofs.lemmas.List.{length-replicate, get_or-replicate}
use Rattle.std.specs.Prelude.{IsTrue}
use Rattle.pm_design.specs.declared.design.Design.{Design}
use Rattle.pm_design.specs.declared.design.Kind.{Kind}
use Rattle.pm_design.specs.declared.plan.Instance.{Instance}
use Rattle.pm_design.specs.Elaborated.{IsElaborated}
use Rattle.pm_design.specs.Instances.{Place, instances_at, instances_of}
use Rattle.pm_design.specs.Layout.{instance_of}
use Rattle.pm_design.specs.Lookups.{kind_of, lies_within, no_kind}
use Rattle.pm_design.specs.Runnable.{kind_at}
use Rattle.pm_design.specs.Sound.{IsSound, is_sound_block}
use Rattle.pm_instances.specs.Laid.{laid_out}
use Rattle.pm_instances.proofs.Placed.{is_laid}
use Rattle.pm_nets.specs.declared.site.Site.{Site}
use Rattle.pm_nets.specs.Sites.{IsSite}
use Rattle.pm_nets.proofs.DrivenParts.{inputs_within}
use Rattle.pm_nets.proofs.Joined.{range_more}
use Rattle.std.proofs.lemmas.Grind.{flat_map-append}
use Rattle.pm_design.specs.declared.connection.Part.{Part}
use Rattle.pm_instances.proofs.Numbers.{item_passes}
use Rattle.std.specs.List.{list_all, range_with_len}
use Rattle.std.proofs.lemmas.Bool.{cases_eq}
use Rattle.std.proofs.lemmas.List.{append_assoc, append-nil, get_or_default, length-set, take_more, take_all}
use Rattle.std.proofs.lemmas.List.Elements.{Contains-push, Contains-append_left, Contains-push_cases}
use Rattle.std.proofs.lemmas.List.FromFn.{map-range_with_len_more}
use Rattle.pm_nets.specs.Drivers.{AreDriven, Marks, bits_from, drivers_in, drivers_of, inputs_from, part_bits}

-- one driver more
driven_more : (leasts ds : List ℕ) (driven : List Bool) (d r : ℕ) → AreDriven leasts ds driven → d < length leasts →
    r ≡ get_or leasts d 0 → r < length driven → AreDriven leasts (ds ++ d ∷ []) (set driven r true)
driven_more leasts ds driven d r are known root within = record {
  size = length-set driven r true ∙ are.size;
  below = λ e has. below e (Contains-push_cases ds d e has);
  marked = λ e has. marked e (Contains-push_cases ds d e has);
  meant = λ q l is. meant q (subst (λ (n : ℕ). q < n) (length-set driven r true) l) is (cases_eq q r);
}
  where
    below : (e : ℕ) → Contains ds e ⊎ (d ≡ e) → e < length leasts
    below e (inl has) = are.below e has
    below e (inr same) = subst (λ (k : ℕ). k < length leasts) same known

    mark : (q : ℕ) → get_or driven q false ≡ true → get_or (set driven r true) q false ≡ true
    mark q is = ⊎_elim
        (λ (e : q ≡ r). ap (λ (k : ℕ). get_or (set driven r true) k false) e ∙
        get_or-set_same driven r true false within)
        (λ (ne : q ≡ r → ⊥). get_or-set_other driven r q true false ne ∙ is) (cases_eq q r)

    marked : (e : ℕ) → Contains ds e ⊎ (d ≡ e) → get_or (set driven r true) (get_or leasts e 0) false ≡ true
    marked e (inl has) = mark (get_or leasts e 0) (are.marked e has)
    marked e (inr same) =
        ap (λ (k : ℕ). get_or (set driven r true) k false) (ap (λ (k : ℕ). get_or leasts k 0) (sym same) ∙ sym root)
        ∙ get_or-set_same driven r true false within

    meant : (q : ℕ) → q < length driven → get_or (set driven r true) q false ≡ true → (q ≡ r) ⊎ (q ≡ r → ⊥) →
        (e : ℕ) × Contains (ds ++ d ∷ []) e × (get_or leasts e 0 ≡ q)
    meant q l is (inl e) = (d, Contains-push ds d, sym root ∙ sym e)
    meant q l is (inr ne) =
        let old = are.meant q l (sym (get_or-set_other driven r q true false ne) ∙ is) in
        (old.0, Contains-append_left ds (d ∷ []) old.0 old.1, old.2)

pub one_marked : (leasts : List ℕ) (driven now : List Bool) (d r : ℕ) → d < length leasts → r ≡ get_or leasts d 0 →
    r < length driven → now ≡ set driven r true → Marks leasts driven now (d ∷ [])
one_marked leasts driven now d r known root within is =
    subst (λ (l : List Bool). Marks leasts driven l (d ∷ [])) (sym is) (record {
      size = length-set driven r true;
      driven = λ ds are. driven_more leasts ds driven d r are known root within;
    })

pub marks_none : (leasts : List ℕ) (driven : List Bool) → Marks leasts driven driven []
marks_none leasts driven = record {
  size = refl;
  driven = λ ds are. subst (λ (l : List ℕ). AreDriven leasts l driven) (sym (append-nil ds)) are;
}

pub marks_append : (leasts : List ℕ) (old now new : List Bool) (some more : List ℕ) → Marks leasts old now some
    → Marks leasts now new more →
    Marks leasts old new (some ++ more)
marks_append leasts old now new some more first second = record {
  size = second.size ∙ first.size;
  driven = λ ds are. subst (λ (l : List ℕ). AreDriven leasts l new) (append_assoc ds some more)
      (second.driven (ds ++ some) (first.driven ds are));
}

pub bits_marked : (leasts : List ℕ) (old now new : List Bool) (first t : ℕ) → Marks leasts old now (bits_from first t) →
    Marks leasts now new ((first + t) ∷ []) → Marks leasts old new (bits_from first (t + 1))
bits_marked leasts old now new first t some one =
    subst (λ (l : List ℕ). Marks leasts old new l) (sym (map-range_with_len_more (λ s. first + s) 0 t t (omega arith)))
    (marks_append leasts old now new (bits_from first t) ((first + t) ∷ []) some one)

pub bits_done : (leasts : List ℕ) (old now : List Bool) (first t width : ℕ) → width ≤ t → t ≤ width
    → Marks leasts old now (bits_from first t) →
    Marks leasts old now (bits_from first width)
bits_done leasts old now first t width le ge marks =
    let e : t ≡ width = omega arith in subst (λ (n : ℕ). Marks leasts old now (bits_from first n)) e marks

pub part_marked : (leasts : List ℕ) (old new : List Bool) (a b width : ℕ) → a ≡ b
    → Marks leasts old new (bits_from a width) →
    Marks leasts old new (bits_from b width)
part_marked leasts old new a b width is marks = subst (λ (n : ℕ). Marks leasts old new (bits_from n width)) is marks

pub element_marked : {X : Type 0} (f : X → List ℕ) (leasts : List ℕ) (old now new : List Bool) (xs : List X) (i : ℕ)
    (d : X) → i < length xs →
    Marks leasts old now (flat_map f (take i xs)) → Marks leasts now new (f (get_or xs i d))
    → Marks leasts old new (flat_map f (take (i + 1) xs))
element_marked f leasts old now new xs i d lt some one =
    subst (λ (l : List ℕ). Marks leasts old new l)
    (sym (ap (flat_map f) (take_more xs i d lt)
    ∙ (flat_map-append f (take i xs) (get_or xs i d ∷ [])
    ∙ ap (λ (l : List ℕ). flat_map f (take i xs) ++ l) (append-nil (f (get_or xs i d))))))
    (marks_append leasts old now new (flat_map f (take i xs)) (f (get_or xs i d)) some one)

pub next_marked : {X : Type 0} (f : X → List ℕ) (leasts same : List ℕ) (old now new : List Bool) (xs : List X) (i : ℕ)
    (d : X) → same ≡ leasts →
    i < length xs → Marks leasts old now (flat_map f (take i xs)) → Marks same now new (f (get_or xs i d)) →
    Marks leasts old new (flat_map f (take (i + 1) xs))
next_marked f leasts same old now new xs i d is lt some one =
    element_marked f leasts old now new xs i d lt some
    (subst (λ (l : List ℕ). Marks l now new (f (get_or xs i d))) is one)

pub elements_marked : {X : Type 0} (f : X → List ℕ) (leasts : List ℕ) (old now : List Bool) (xs : List X) (i : ℕ)
    → length xs ≤ i →
    Marks leasts old now (flat_map f (take i xs)) → Marks leasts old now (flat_map f xs)
elements_marked f leasts old now xs i le marks =
    subst (λ (l : List _). Marks leasts old now (flat_map f l)) (take_all i xs le) marks

pub part_passes : (test : Part → Bool) (xs : List Part) (i : ℕ) (x : Part) → IsTrue (list_all test xs) → i < length xs
    → x ≡ get_or xs i x → IsTrue (test x)
part_passes test xs i x all lt is = item_passes test xs i x all lt is

pub ruleset parts_marked = (elements_marked, marks_none, part_passes)

-- one instance more
pub range_marked : (f : ℕ → List ℕ) (leasts same : List ℕ) (old now new : List Bool) (i : ℕ) → same ≡ leasts →
    Marks leasts old now (flat_map f (range_with_len 0 i)) → Marks same now new (f i) →
    Marks leasts old new (flat_map f (range_with_len 0 (i + 1)))
range_marked f leasts same old now new i is some one =
    subst (λ (l : List ℕ). Marks leasts old new l) (sym (range_more f i))
    (marks_append leasts old now new (flat_map f (range_with_len 0 i)) (f i) some
    (subst (λ (l : List ℕ). Marks l now new (f i)) is one))

pub range_done : (f : ℕ → List ℕ) (leasts : List ℕ) (old now : List Bool) (i n count : ℕ) → n ≤ i → i ≤ n → n ≡ count →
    Marks leasts old now (flat_map f (range_with_len 0 i)) → Marks leasts old now (flat_map f (range_with_len 0 count))
range_done f leasts old now i n count le ge is marks =
    let e : i ≡ count = omega arith in
    subst (λ (k : ℕ). Marks leasts old now (flat_map f (range_with_len 0 k))) e marks

pub true_false : true ≡ false → ⊥
true_false e = subst (λ (b : Bool). elim b as (λ _. Type 0) [ true ↦ Unit {0} | false ↦ ⊥ ]) e tt

-- no mark yet
pub none_driven : (leasts : List ℕ) (n : ℕ) → n ≡ length leasts → AreDriven leasts [] (replicate n false)
none_driven leasts n is = record {
  size = length-replicate n false ∙ is;
  below = λ d has. let l : has.0 < 0 = has.1 in absurd (omega arith);
  marked = λ d has. let l : has.0 < 0 = has.1 in absurd (omega arith);
  meant = λ q lt marked. absurd (true_false (sym marked ∙ get_or-replicate n q false false
      (subst (λ (k : ℕ). q < k) (length-replicate n false) lt)));
}

-- the marks of all drivers
pub all_driven : (design : Design) (leasts : List ℕ) (start middle end : List Bool) (count : ℕ) →
    count ≡ length (instances_of design) → AreDriven leasts [] start →
    Marks leasts start middle
    (flat_map (part_bits (laid_out design) 0) (inputs_from 0 (kind_at (laid_out design) 0).signals)) →
    Marks leasts middle end (flat_map (drivers_in (laid_out design)) (range_with_len 0 count)) →
    AreDriven leasts (drivers_of (laid_out design)) end
all_driven design leasts start middle end count is none first second =
    subst (λ (k : ℕ). AreDriven leasts (flat_map (part_bits (laid_out design) 0)
    (inputs_from 0 (kind_at (laid_out design) 0).signals)
    ++ flat_map (drivers_in (laid_out design)) (range_with_len 0 k)) end) is
    (second.driven _ (first.driven [] none))

-- the top is an instance
some_at : (levels : ℕ) (design : Design) (parent : Option ℕ) (path : List ℕ) (at : Place) (k : ℕ) → 0 < levels →
    0 < length (instances_at levels design parent path at k)
some_at zero design parent path at k lt = absurd (omega arith)
some_at (suc levels) design parent path at k lt = omega arith

pub top_there : (design : Design) (site : Site) → IsElaborated design → IsSite design site → 0 < length site.instances
top_there design site elaborated is =
    let top : design.top < length design.kinds = elaborated.top in
    let some : 0 < length design.kinds = omega arith in
    subst (λ (l : List Instance). 0 < length l) (sym is.instances)
    (some_at (length design.kinds) design _ _ _ design.top some)

-- the parts that are marked lie within the kinds of instances
pub instance_parts : (design : Design) (site : Site) → IsSound design → IsSite design site
    → (i : ℕ) (kind : Kind) (parts : List Part) →
    i < length site.instances → kind ≡ kind_at (laid_out design) i →
    ((d : Design) → IsTrue (list_all (λ t. lies_within d kind t.part) kind.ties) →
    IsTrue (list_all (is_sound_block d kind) kind.blocks) → IsTrue (list_all (lies_within d kind) parts)) →
    IsTrue (list_all (lies_within design (kind_at (laid_out design) i)) parts)
instance_parts design site sound is i kind parts lt at each =
    subst (λ (k : Kind). IsTrue (list_all (lies_within design k) parts)) at
    (each design
    (subst (λ (k : Kind). IsTrue (list_all (λ t. lies_within design k t.part) k.ties)) (sym at)
    (sound.elaborated.kinds number known).ties)
    (subst (λ (k : Kind). IsTrue (list_all (is_sound_block design k) k.blocks)) (sym at)
    (item_passes (λ k. list_all (is_sound_block design k) k.blocks) design.kinds number
    (kind_of design number) sound.blocks
    known (get_or_default design.kinds number no_kind (kind_of design number) known))))
  where
    number : ℕ
    number = (instance_of (laid_out design) i).kind

    there : i < length (instances_of design)
    there = subst (λ (l : List Instance). i < length l) is.instances lt

    known : number < length design.kinds
    known = (is_laid design sound.elaborated).kinds i there

pub top_inputs : (design : Design) (site : Site) → IsElaborated design → IsSite design site
    → (kind : Kind) (parts : List Part) →
    kind ≡ kind_at (laid_out design) 0 → parts ≡ inputs_from 0 kind.signals →
    IsTrue (list_all (lies_within design (kind_at (laid_out design) 0)) parts)
top_inputs design site elaborated is kind parts at are =
    subst (λ (l : List Part). IsTrue (list_all (lies_within design (kind_at (laid_out design) 0)) l))
    (sym (are ∙ ap (λ (k : Kind). inputs_from 0 k.signals) at))
    (inputs_within design (kind_at (laid_out design) 0)
    (elaborated.kinds (instance_of (laid_out design) 0).kind ((is_laid design elaborated).kinds 0 there)).signals)
  where
    there : 0 < length (instances_of design)
    there = subst (λ (l : List Instance). 0 < length l) is.instances (top_there design site elaborated is)

pub few_signals : (design : Design) (site : Site) → IsElaborated design → IsSite design site → (kind : Kind) →
    kind ≡ kind_at (laid_out design) 0 → length kind.signals ≤ 2 ^ 21
few_signals design site elaborated is kind at =
    let there : 0 < length (instances_of design) =
    subst (λ (l : List Instance). 0 < length l) is.instances (top_there design site elaborated is) in
    subst (λ (k : Kind). length k.signals ≤ 2 ^ 21) (sym at)
    (elaborated.kinds (instance_of (laid_out design) 0).kind
    ((is_laid design elaborated).kinds 0 there)).sized.signals
