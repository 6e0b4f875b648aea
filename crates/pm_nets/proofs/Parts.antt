-- The flat bits of parts that lie within a signal.
use Rattle.std.proofs.Common.{◌≡◌, ◌∙◌, ◌⊎◌, ◌+◌, ◌-◌, ◌<◌, ◌≤◌, ℕ, zero, suc, List, [], ◌∷◌, length, map, get_or}
use Rattle.std.proofs.Common.{refl, sym, ap, ap₂, subst, arith, inl, inr, ltb-true, leb-true}
use Rattle.std.specs.Prelude.{IsTrue, nat_lt, nat_le}
use Rattle.std.proofs.lemmas.Bool.{and_parts, cases_lt}
use Rattle.std.proofs.lemmas.List.{get_or_past, get_or_default, get_or-map, length-map}
use Rattle.pm_design.specs.declared.connection.Part.{Part}
use Rattle.pm_design.specs.declared.design.Child.{Child}
use Rattle.pm_design.specs.declared.design.Design.{Design}
use Rattle.pm_design.specs.declared.design.Kind.{Kind}
use Rattle.pm_design.specs.declared.plan.Instance.{Instance}
use Rattle.pm_design.specs.declared.signal.Signal.{Signal}
use Rattle.pm_design.specs.Calls.{child_of}
use Rattle.pm_design.specs.Elaborated.{IsElaborated}
use Rattle.pm_design.specs.Instances.{first_bits_from, first_bits_of, flat_bits, instances_of, own_bits}
use Rattle.pm_design.specs.Layout.{instance_of, no_instance, scope_of}
use Rattle.pm_design.specs.Lookups.{kind_of, lies_within, no_child, no_kind, no_signal, owner_kind_of, signal_of}
use Rattle.pm_design.specs.Runnable.{kind_at}
use Rattle.pm_design.specs.Widths.{total}
use Rattle.pm_instances.specs.Laid.{IsLaid, laid_out}
use Rattle.pm_instances.proofs.Placed.{is_laid}
use Rattle.pm_nets.specs.declared.site.Site.{Site}
use Rattle.pm_nets.specs.Sites.{IsSite, first_of, owner_of}

-- a signal's first bit, after a first one
pub bit_from : (ss : List Signal) (b s : ℕ) → s < length ss → get_or (first_bits_from b ss) s 0 ≡ b + get_or
    (first_bits_from 0 ss) s 0
bit_from [] b s lt = absurd (omega arith)
bit_from (x ∷ xs) b zero lt = omega arith
bit_from (x ∷ xs) b (suc s) lt =
    let one : get_or (first_bits_from (b + x.width) xs) s 0 ≡ b + x.width + get_or (first_bits_from 0 xs) s 0 =
    bit_from xs (b + x.width) s (omega arith) in
    let other : get_or (first_bits_from (0 + x.width) xs) s 0 ≡ 0 + x.width + get_or (first_bits_from 0 xs) s 0 =
    bit_from xs (0 + x.width) s (omega arith) in
    omega arith

-- a signal's bits are among those of all signals
pub bits_within : (ss : List Signal) (b s : ℕ) (d : Signal) → s < length ss →
    get_or (first_bits_from b ss) s 0 + (get_or ss s d).width ≤ b + total (map (λ x. x.width) ss)
bits_within [] b s d lt = absurd (omega arith)
bits_within (x ∷ xs) b zero d lt = omega arith
bits_within (x ∷ xs) b (suc s) d lt =
    let e : get_or (first_bits_from (b + x.width) xs) s 0 + (get_or xs s d).width ≤ b + x.width + total
    (map (λ y. y.width) xs) =
    bits_within xs (b + x.width) s d (omega arith) in
    omega arith

pub length-first_bits : (ss : List Signal) (b : ℕ) → length (first_bits_from b ss) ≡ length ss
length-first_bits [] b = refl
length-first_bits (x ∷ xs) b = ap (λ (n : ℕ). suc n) (length-first_bits xs (b + x.width))

-- the signal of a part that lies within it
pub signal_there : (design : Design) (kind : Kind) (part : Part) → IsTrue (lies_within design kind part) →
    part.signal < length (owner_kind_of design kind part.owner).signals
signal_there design kind part within = go (cases_lt part.signal (length ss))
  where
    ss : List Signal
    ss = (owner_kind_of design kind part.owner).signals

    both : IsTrue (nat_lt 0 part.width) × IsTrue (nat_le (part.lo + part.width) (signal_of design kind part).width)
    both = and_parts (nat_lt 0 part.width) (nat_le (part.lo + part.width) (signal_of design kind part).width) within

    go : (part.signal < length ss) ⊎ (length ss ≤ part.signal) → part.signal < length ss
    go (inl lt) = lt
    go (inr le) =
        let some : 0 < part.width = ltb-true 0 part.width both.0 in
        let fits : part.lo + part.width ≤ (signal_of design kind part).width =
        leb-true (part.lo + part.width) (signal_of design kind part).width both.1 in
        let none : (signal_of design kind part).width ≡ 0 = ap (λ (s : Signal). s.width)
        (get_or_past ss part.signal no_signal le) in
        absurd (omega arith)

-- the child whose signal there is
pub child_there : (design : Design) (kind : Kind) (c s : ℕ) → s < length (owner_kind_of design kind (suc c)).signals →
    c < length kind.children
child_there design kind c s lt = go (cases_lt c (length kind.children))
  where
    go : (c < length kind.children) ⊎ (length kind.children ≤ c) → c < length kind.children
    go (inl there) = there
    go (inr le) =
        let past : get_or kind.children c (no_child design.kinds) ≡ no_child design.kinds =
        get_or_past kind.children c (no_child design.kinds) le in
        let none : kind_of design (length design.kinds) ≡ no_kind =
        get_or_past design.kinds (length design.kinds) no_kind (omega arith) in
        let empty : length (owner_kind_of design kind (suc c)).signals ≡ 0 =
        ap (λ (x : Child). length (kind_of design x.kind).signals) past ∙
        ap (λ (k : Kind). length k.signals) none in
        absurd (omega arith)

-- where the signals of an owner are
pub record HasOwner (design : Design) (i owner : ℕ) : Type 0 where
  pub there : owner_of (laid_out design) i owner < length (instances_of design)
  pub kind : kind_at (laid_out design) (owner_of (laid_out design) i owner) ≡ owner_kind_of design
      (kind_at (laid_out design) i) owner
  pub scope : get_or (scope_of (laid_out design) i) owner [] ≡ first_bits_of design
      (instance_of (laid_out design) (owner_of (laid_out design) i owner))

-- a child is one of the instance's
pub child_listed : (design : Design) (i c : ℕ) → child_of (laid_out design) i c < length (instances_of design) →
    c < length (instance_of (laid_out design) i).children
child_listed design i c lt = go (cases_lt c (length cs))
  where
    cs : List ℕ
    cs = (instance_of (laid_out design) i).children

    go : (c < length cs) ⊎ (length cs ≤ c) → c < length cs
    go (inl there) = there
    go (inr le) =
        let past : child_of (laid_out design) i c ≡ length (instances_of design) =
        get_or_past cs c (length (instances_of design)) le in
        absurd (omega arith)

pub has_owner : (design : Design) → IsElaborated design → (i owner s : ℕ) → i < length (instances_of design) →
    s < length (owner_kind_of design (kind_at (laid_out design) i) owner).signals → HasOwner design i owner
has_owner design elaborated i zero s lt there = record { there = lt; kind = refl; scope = refl }
has_owner design elaborated i (suc c) s lt there =
    let laid = is_laid design elaborated in
    let child = laid.children i c lt (child_there design (kind_at (laid_out design) i) c s there) in
    record {
      there = child.0;
      kind = ap (kind_of design) child.1;
      scope = get_or-map (λ (o : ℕ). first_bits_of design (instance_of (laid_out design) o))
          (instance_of (laid_out design) i).children
          c (length (instances_of design)) [] (child_listed design i c child.0);
    }

pub owner_found : (design : Design) → IsElaborated design → (i : ℕ) (part : Part) → i < length (instances_of design) →
    IsTrue (lies_within design (kind_at (laid_out design) i) part) → HasOwner design i part.owner
owner_found design elaborated i part lt within =
    has_owner design elaborated i part.owner part.signal lt (signal_there design
    (kind_at (laid_out design) i) part within)

-- where a part's flat bits are, once the instance of its owner is known
pub record Found (design : Design) (site : Site) (i : ℕ) (part : Part) (x : Instance) : Type 0 where
  pub kind : x.kind < length site.offsets
  pub signal : part.signal < length (get_or site.offsets x.kind [])
  pub value : x.first_bit + get_or (get_or site.offsets x.kind []) part.signal 0 + part.lo ≡ first_of
      (laid_out design) i part
  pub fits : first_of (laid_out design) i part + part.width ≤ flat_bits design

pub part_found : (design : Design) (site : Site) → IsElaborated design → IsSite design site →
    (i o : ℕ) (part : Part) (x : Instance) →
    i < length site.instances → IsTrue (lies_within design (kind_at (laid_out design) i) part) →
    o ≡ owner_of (laid_out design) i part.owner →
    x ≡ get_or site.instances o x → Found design site i part x
part_found design site elaborated is i o part x lt within names at =
    record {
      kind = subst (λ (n : ℕ). x.kind < n) (sym size) known;
      signal = subst (λ (n : ℕ). part.signal < n) (sym (ap length listed ∙ length-first_bits ss 0)) there;
      value = begins;
      fits = fits;
    }
  where
    laid : IsLaid (laid_out design)
    laid = is_laid design elaborated

    within_list : i < length (instances_of design)
    within_list = subst (λ (l : List Instance). i < length l) is.instances lt

    found : HasOwner design i part.owner
    found = owner_found design elaborated i part within_list within

    owner : ℕ
    owner = owner_of (laid_out design) i part.owner

    here : x ≡ instance_of (laid_out design) owner
    here = at ∙ (ap₂ (λ (l : List Instance) (n : ℕ). get_or l n x) is.instances names
        ∙ get_or_default (instances_of design) owner x (no_instance (laid_out design)) found.there)

    known : x.kind < length design.kinds
    known = subst (λ (y : Instance). y.kind < length design.kinds) (sym here) (laid.kinds owner found.there)

    size : length site.offsets ≡ length design.kinds
    size = ap length is.offsets ∙ length-map design.kinds (λ (k : Kind). first_bits_from 0 k.signals)

    ss : List Signal
    ss = (kind_of design x.kind).signals

    listed : get_or site.offsets x.kind [] ≡ first_bits_from 0 ss
    listed = ap (λ (l : List (List ℕ)). get_or l x.kind []) is.offsets
        ∙ get_or-map (λ (k : Kind). first_bits_from 0 k.signals) design.kinds x.kind no_kind [] known

    own : kind_of design x.kind ≡ owner_kind_of design (kind_at (laid_out design) i) part.owner
    own = ap (λ (y : Instance). kind_of design y.kind) here ∙ found.kind

    there : part.signal < length ss
    there = subst (λ (k : Kind). part.signal < length k.signals) (sym own)
        (signal_there design (kind_at (laid_out design) i) part within)

    scope : get_or (scope_of (laid_out design) i) part.owner [] ≡ first_bits_from x.first_bit ss
    scope = found.scope ∙ ap (λ (y : Instance). first_bits_of design y) (sym here)

    first : get_or (get_or (scope_of (laid_out design) i) part.owner []) part.signal 0 ≡ x.first_bit + get_or
        (first_bits_from 0 ss) part.signal 0
    first = ap (λ (l : List ℕ). get_or l part.signal 0) scope ∙ bit_from ss x.first_bit part.signal there

    begins : x.first_bit + get_or (get_or site.offsets x.kind []) part.signal 0 + part.lo ≡ first_of
        (laid_out design) i part
    begins = ap (λ (l : List ℕ). x.first_bit + get_or l part.signal 0 + part.lo) listed ∙
        ap (λ (n : ℕ). n + part.lo) (sym first)

    fits : first_of (laid_out design) i part + part.width ≤ flat_bits design
    fits =
        let own_part : IsTrue (nat_le (part.lo + part.width) (signal_of design
        (kind_at (laid_out design) i) part).width) =
        (and_parts (nat_lt 0 part.width) (nat_le (part.lo + part.width)
        (signal_of design (kind_at (laid_out design) i) part).width) within).1 in
        let inner : part.lo + part.width ≤ (signal_of design (kind_at (laid_out design) i) part).width =
        leb-true (part.lo + part.width) (signal_of design (kind_at (laid_out design) i) part).width own_part in
        let same : (signal_of design (kind_at (laid_out design) i) part).width ≡
        (get_or ss part.signal no_signal).width =
        ap (λ (k : Kind). (get_or k.signals part.signal no_signal).width) (sym own) in
        let middle : get_or (first_bits_from x.first_bit ss) part.signal 0 + (get_or ss part.signal no_signal).width
        ≤ x.first_bit + total (map (λ s. s.width) ss) = bits_within ss x.first_bit part.signal no_signal there in
        let place : get_or (get_or (scope_of (laid_out design) i) part.owner []) part.signal 0 ≡ get_or
        (first_bits_from x.first_bit ss) part.signal 0 =
        ap (λ (l : List ℕ). get_or l part.signal 0) scope in
        let outer : x.first_bit + own_bits (kind_of design x.kind) ≤ flat_bits design =
        subst (λ (y : Instance). y.first_bit + own_bits (kind_of design y.kind) ≤ flat_bits design) (sym here)
        (laid.bits owner found.there) in
        omega arith

-- the child that an owner's number names
pub child_bound : (design : Design) (site : Site) → IsElaborated design → IsSite design site →
    (i : ℕ) (part : Part) (x : Instance) →
    i < length site.instances → IsTrue (lies_within design (kind_at (laid_out design) i) part) →
    (part.owner ≡ 0 → ⊥) →
    x ≡ get_or site.instances i x → part.owner - 1 < length x.children
child_bound design site elaborated is i part x lt within other at = go part.owner refl
  where
    within_list : i < length (instances_of design)
    within_list = subst (λ (l : List Instance). i < length l) is.instances lt

    here : x ≡ instance_of (laid_out design) i
    here = at ∙ (ap (λ (l : List Instance). get_or l i x) is.instances
        ∙ get_or_default (instances_of design) i x (no_instance (laid_out design)) within_list)

    go : (o : ℕ) → part.owner ≡ o → part.owner - 1 < length x.children
    go zero e = absurd (other e)
    go (suc c) e =
        let found : HasOwner design i (suc c) = subst (HasOwner design i) e
        (owner_found design elaborated i part within_list within) in
        let there : c < length (instance_of (laid_out design) i).children = child_listed design i c found.there in
        let same : length x.children ≡ length (instance_of (laid_out design) i).children =
        ap (λ (y : Instance). length y.children) here in
        omega arith

pub child_value : (design : Design) (site : Site) → IsElaborated design → IsSite design site →
    (i : ℕ) (part : Part) (x : Instance) →
    i < length site.instances → IsTrue (lies_within design (kind_at (laid_out design) i) part) →
    (part.owner ≡ 0 → ⊥) →
    x ≡ get_or site.instances i x → get_or x.children (part.owner - 1) 0 ≡ owner_of (laid_out design) i part.owner
child_value design site elaborated is i part x lt within other at = go part.owner refl
  where
    within_list : i < length (instances_of design)
    within_list = subst (λ (l : List Instance). i < length l) is.instances lt

    here : x ≡ instance_of (laid_out design) i
    here = at ∙ (ap (λ (l : List Instance). get_or l i x) is.instances
        ∙ get_or_default (instances_of design) i x (no_instance (laid_out design)) within_list)

    go : (o : ℕ) → part.owner ≡ o → get_or x.children (part.owner - 1) 0 ≡ owner_of (laid_out design) i part.owner
    go zero e = absurd (other e)
    go (suc c) e =
        let found : HasOwner design i (suc c) = subst (HasOwner design i) e
        (owner_found design elaborated i part within_list within) in
        let there : c < length (instance_of (laid_out design) i).children = child_listed design i c found.there in
        let less : part.owner - 1 ≡ c = ap (λ (n : ℕ). n - 1) e ∙ omega arith in
        ap (λ (n : ℕ). get_or x.children n 0) less
        ∙ (ap (λ (y : Instance). get_or y.children c 0) here
        ∙ (get_or_default (instance_of (laid_out design) i).children c 0 (length (instances_of design)) there
        ∙ ap (owner_of (laid_out design) i) (sym e)))

pub owner_there : (design : Design) (site : Site) → IsElaborated design → IsSite design site →
    (i o : ℕ) (part : Part) →
    i < length site.instances → IsTrue (lies_within design (kind_at (laid_out design) i) part) →
    o ≡ owner_of (laid_out design) i part.owner →
    o < length site.instances
owner_there design site elaborated is i o part lt within names =
    let found = owner_found design elaborated i part (subst (λ (l : List Instance). i < length l) is.instances lt)
    within in
    let there : owner_of (laid_out design) i part.owner < length (instances_of design) = found.there in
    let size : length site.instances ≡ length (instances_of design) = ap length is.instances in
    let same : o ≡ owner_of (laid_out design) i part.owner = names in
    omega arith
