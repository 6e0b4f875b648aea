-- The names of flat bits.
use Rattle.std.proofs.Common.{◌≡◌, ◌∙◌, ◌⊎◌, ◌+◌, ◌-◌, ◌<◌, ◌≤◌, ◌∷◌, ℕ, zero, suc, List, [], length, map}
use Rattle.std.proofs.Common.{take, drop, get_or, sym, ap, subst, max, arith, inl, inr}
use Rattle.std.proofs.lemmas.Bool.{cases_lt}
use Rattle.std.proofs.lemmas.List.{drop_all, get_or_default}
use Rattle.pm_design.specs.declared.design.Design.{Design}
use Rattle.pm_design.specs.declared.plan.Instance.{Instance}
use Rattle.pm_design.specs.declared.signal.Signal.{Signal}
use Rattle.pm_design.specs.Elaborated.{IsElaborated}
use Rattle.pm_design.specs.Instances.{first_bits_from, flat_bits, instances_of, own_bits}
use Rattle.pm_design.specs.Layout.{instance_of, no_instance}
use Rattle.pm_design.specs.Runnable.{kind_at}
use Rattle.pm_design.specs.Widths.{total}
use Rattle.pm_instances.specs.Laid.{laid_out}
use Rattle.pm_instances.proofs.Placed.{ends_well, top_begins}
use Rattle.pm_instances.proofs.Sums.{total_more}
use Rattle.pm_nets.specs.declared.site.Site.{Site}
use Rattle.pm_nets.specs.Sites.{IsSite}
use Rattle.pm_nets.proofs.Marking.{top_there}

-- the top has begun
pub first_begun : (design : Design) (site : Site) → IsElaborated design → IsSite design site → (flat : ℕ) →
    (instance_of (laid_out design) 0).first_bit ≤ flat
first_begun design site elaborated is flat =
    let some : 0 < length (instances_of design) =
    subst (λ (l : List Instance). 0 < length l) is.instances (top_there design site elaborated is) in
    let zero_bit : (instance_of (laid_out design) 0).first_bit ≡ 0 = top_begins design elaborated some in
    omega arith

-- an instance of the site is one of the design
pub same_instance : (design : Design) (site : Site) → IsSite design site → (i : ℕ) (x : Instance)
    → i < length site.instances →
    x ≡ get_or site.instances i x → x ≡ instance_of (laid_out design) i
same_instance design site is i x lt at =
    let there : i < length (instances_of design) = subst (λ (l : List Instance). i < length l) is.instances lt in
    at ∙ (ap (λ (l : List Instance). get_or l i x) is.instances
    ∙ get_or_default (instances_of design) i x (no_instance (laid_out design)) there)

-- the next one has begun
pub next_begun : (design : Design) (site : Site) → IsSite design site → (next flat : ℕ) (x : Instance)
    → next < length site.instances →
    x ≡ get_or site.instances next x → x.first_bit ≤ flat
    → (instance_of (laid_out design) ((next + 1) - 1)).first_bit ≤ flat
next_begun design site is next flat x lt at le =
    let e : next ≡ (next + 1) - 1 = omega arith in
    subst (λ (k : ℕ). (instance_of (laid_out design) k).first_bit ≤ flat) e
    (subst (λ (y : Instance). y.first_bit ≤ flat) (same_instance design site is next x lt at) le)

-- the last that has begun has the bit: the next one hasn't begun
pub ends_before : (design : Design) (site : Site) → IsElaborated design → IsSite design site
    → (next flat : ℕ) (x : Instance) →
    1 ≤ next → next < length site.instances → x ≡ get_or site.instances next x → flat < x.first_bit →
    flat < (instance_of (laid_out design) (next - 1)).first_bit + own_bits (kind_at (laid_out design) (next - 1))
ends_before design site elaborated is next flat x some lt at low =
    let size : length site.instances ≡ length (instances_of design) = ap length is.instances in
    let one : (next - 1) + 1 ≡ next = omega arith in
    let begins : (instance_of (laid_out design) ((next - 1) + 1)).first_bit
    ≡ (instance_of (laid_out design) (next - 1)).first_bit + own_bits (kind_at (laid_out design) (next - 1)) =
    (ends_well design elaborated (next - 1)).next (omega arith) in
    let same : x.first_bit ≡ (instance_of (laid_out design) ((next - 1) + 1)).first_bit =
    ap (λ (y : Instance). y.first_bit) (same_instance design site is next x lt at)
    ∙ ap (λ (k : ℕ). (instance_of (laid_out design) k).first_bit) (sym one) in
    omega arith

-- or there is no next one
pub ends_last : (design : Design) (site : Site) → IsElaborated design → IsSite design site → (n flat : ℕ) →
    n ≡ length site.instances → flat < flat_bits design →
    flat < (instance_of (laid_out design) (n - 1)).first_bit + own_bits (kind_at (laid_out design) (n - 1))
ends_last design site elaborated is n flat count few =
    let size : length site.instances ≡ length (instances_of design) = ap length is.instances in
    let some : 0 < length site.instances = top_there design site elaborated is in
    let ends : flat_bits design ≡ (instance_of (laid_out design) (n - 1)).first_bit + own_bits
    (kind_at (laid_out design) (n - 1)) =
    (ends_well design elaborated (n - 1)).last (omega arith) in
    omega arith

pub last_begun : (design : Design) (n next flat : ℕ) → n ≤ next → 1 ≤ next → next ≤ max 1 n → 0 < n →
    (instance_of (laid_out design) (next - 1)).first_bit ≤ flat
    → (instance_of (laid_out design) (n - 1)).first_bit ≤ flat
last_begun design n next flat le some ge more begun =
    let e : next - 1 ≡ n - 1 = omega arith in
    subst (λ (k : ℕ). (instance_of (laid_out design) k).first_bit ≤ flat) e begun

-- there is a signal as long as bits are left
pub signal_left : (ss : List Signal) (i rest : ℕ) → rest < total (map (λ s. s.width) (drop i ss)) → i < length ss
signal_left ss i rest lt = go (cases_lt i (length ss))
  where
    go : (i < length ss) ⊎ (length ss ≤ i) → i < length ss
    go (inl more) = more
    go (inr le) =
        let none : total (map (λ s. s.width) (drop i ss)) ≡ 0 =
        ap (λ (l : List Signal). total (map (λ s. s.width) l)) (drop_all i ss le) in
        absurd (omega arith)

-- the bits of signals behind one
pub bits_left : (ss : List Signal) (i rest w : ℕ) (d : Signal) → i < length ss → w ≡ (get_or ss i d).width → w ≤ rest →
    rest < total (map (λ s. s.width) (drop i ss)) → rest - w < total (map (λ s. s.width) (drop (i + 1) ss))
bits_left ss i rest w d lt is le few =
    let e : total (map (λ s. s.width) (drop i ss)) ≡ (get_or ss i d).width + total
    (map (λ s. s.width) (drop (i + 1) ss)) =
    total_more (λ (s : Signal). s.width) ss i (get_or ss i d) lt (get_or_default ss i d (get_or ss i d) lt) in
    omega arith

-- the bits of one signal more
bits_taken : (ss : List Signal) (i : ℕ) (d : Signal) → i < length ss →
    total (map (λ s. s.width) (take (i + 1) ss)) ≡ total (map (λ s. s.width) (take i ss)) + (get_or ss i d).width
bits_taken [] i d lt = absurd (omega arith)
bits_taken (x ∷ xs) zero d lt = omega arith
bits_taken (x ∷ xs) (suc i) d lt =
    let e : total (map (λ s. s.width) (take (i + 1) xs)) ≡ total (map (λ s. s.width) (take i xs)) +
    (get_or xs i d).width =
    bits_taken xs i d (omega arith) in
    let next : suc (i + 1) ≡ suc i + 1 = omega arith in
    subst (λ (k : ℕ). total (map (λ s. s.width) (take k (x ∷ xs))) ≡ total
    (map (λ s. s.width) (take (suc i) (x ∷ xs))) + (get_or xs i d).width)
    next (omega arith)

pub place_more : (ss : List Signal) (i bit rest w : ℕ) (d : Signal) → i < length ss → w ≡ (get_or ss i d).width
    → w ≤ rest →
    bit ≡ total (map (λ s. s.width) (take i ss)) + rest
    → bit ≡ total (map (λ s. s.width) (take (i + 1) ss)) + (rest - w)
place_more ss i bit rest w d lt is le so_far =
    let e : total (map (λ s. s.width) (take (i + 1) ss)) ≡ total (map (λ s. s.width) (take i ss)) +
    (get_or ss i d).width =
    bits_taken ss i d lt in
    omega arith

-- where a signal's bits begin
pub begins_behind : (ss : List Signal) (b s : ℕ) → s < length ss →
    get_or (first_bits_from b ss) s 0 ≡ b + total (map (λ x. x.width) (take s ss))
begins_behind [] b s lt = absurd (omega arith)
begins_behind (x ∷ xs) b zero lt = omega arith
begins_behind (x ∷ xs) b (suc s) lt =
    let e : get_or (first_bits_from (b + x.width) xs) s 0 ≡ b + x.width + total (map (λ y. y.width) (take s xs)) =
    begins_behind xs (b + x.width) s (omega arith) in
    omega arith
