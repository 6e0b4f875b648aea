-- The ends of connections.
use Rattle.std.proofs.Common.{◌≡◌, ◌∙◌, ◌+◌, ◌*◌, ◌<◌, ◌≤◌, ◌++◌, ℕ, zero, suc, List, [], ◌∷◌, length, map}
use Rattle.std.proofs.Common.{flat_map}
use Rattle.std.proofs.Common.{refl, sym, ap, ap₂, subst, min, arith}
use Rattle.std.specs.List.{range_with_len}
use Rattle.std.proofs.lemmas.List.FromFn.{map-range_with_len_more}
use Rattle.disjoint_sets.specs.Partitions.{IsPartition, Joins}
use Rattle.disjoint_sets.proofs.Joining.{joins_none, joins_append}
use Rattle.pm_design.specs.declared.connection.Join.{Join}
use Rattle.pm_design.specs.declared.design.Design.{Design}
use Rattle.pm_design.specs.declared.plan.Plan.{Plan}
use Rattle.pm_design.specs.Instances.{flat_bits, instances_of}
use Rattle.pm_design.specs.Runnable.{kind_at}
use Rattle.pm_instances.specs.Laid.{laid_out}
use Rattle.pm_nets.specs.declared.site.Site.{Site}
use Rattle.pm_nets.specs.Ends.{end_at, ends_in, ends_joined, join_ends, reset_ends}
use Rattle.pm_nets.specs.Links.{reset_part}
use Rattle.pm_nets.specs.Sites.{IsSite, first_of}

pub own_end : (owner bit : ℕ) → owner ≡ 0 → 2 * bit ≡ end_at owner bit
own_end zero bit e = refl
own_end (suc c) bit e = absurd (omega arith)

pub child_end : (owner bit : ℕ) → (owner ≡ 0 → ⊥) → 2 * bit + 1 ≡ end_at owner bit
child_end zero bit ne = absurd (ne refl)
child_end (suc c) bit ne = refl

pub ruleset ends = (own_end, child_end)

-- an end is below twice a bound on flat bits
pub end_below : (owner bit n : ℕ) → bit < n → end_at owner bit < 2 * n
end_below zero bit n lt = omega arith
end_below (suc c) bit n lt = omega arith

pub end_bit_below : (old now : List ℕ) (more : List (ℕ × ℕ)) (owner a width t e : ℕ) → Joins old now more → t < width →
    2 * (a + width) ≤ length old → e ≡ end_at owner (a + t) → e < length now
end_bit_below old now more owner a width t e joins lt le is =
    let size : length now ≡ length old = joins.size in
    let low : end_at owner (a + t) < 2 * (a + width) = end_below owner (a + t) (a + width) (omega arith) in
    omega arith

pub end_bits_more : (f : ℕ → ℕ × ℕ) (old now new : List ℕ) (t : ℕ) (link : ℕ × ℕ) → link ≡ f t →
    Joins old now (map f (range_with_len 0 t)) → Joins now new (link ∷ [])
    → Joins old new (map f (range_with_len 0 (t + 1)))
end_bits_more f old now new t link is some one =
    subst (λ (l : List (ℕ × ℕ)). Joins old new l) (sym (map-range_with_len_more f 0 t t (omega arith)))
    (joins_append old now new (map f (range_with_len 0 t)) (f t ∷ []) some
    (subst (λ (p : ℕ × ℕ). Joins now new (p ∷ [])) is one))

pub end_bits_all : (f : ℕ → ℕ × ℕ) (old now : List ℕ) (t width : ℕ) → width ≤ t → t ≤ width →
    Joins old now (map f (range_with_len 0 t)) → Joins old now (map f (range_with_len 0 width))
end_bits_all f old now t width le ge joins =
    let e : t ≡ width = omega arith in
    subst (λ (n : ℕ). Joins old now (map f (range_with_len 0 n))) e joins

pub no_end_bits : (f : ℕ → ℕ × ℕ) (old : List ℕ) → Joins old old (map f (range_with_len 0 0))
no_end_bits f old = joins_none old

pub ruleset end_bits = (no_end_bits, end_bits_all, end_bit_below)

pub instance_ends : (plan : Plan) (i : ℕ) (old now : List ℕ) →
    Joins old now (flat_map (join_ends plan i) (kind_at plan i).joins ++
    map (reset_ends plan i) (range_with_len 0 (length (kind_at plan i).children))) →
    Joins old now (ends_in plan i)
unfolding ends_in
instance_ends plan i old now joins = joins

pub ends_all : (design : Design) (site : Site) → IsSite design site → (i n : ℕ) (now : List ℕ) → n ≤ i → i ≤ n →
    n ≡ length site.instances →
    IsPartition (2 * flat_bits design) (flat_map (ends_in (laid_out design)) (range_with_len 0 i)) now →
    IsPartition (2 * flat_bits design) (ends_joined (laid_out design)) now
unfolding ends_joined
ends_all design site is i n now le ge size are =
    let count : length site.instances ≡ length (instances_of design) = ap length is.instances in
    let e : i ≡ length (instances_of design) = omega arith in
    subst (λ (k : ℕ). IsPartition (2 * flat_bits design)
    (flat_map (ends_in (laid_out design)) (range_with_len 0 k)) now)
    e are

pub parts_ended : (plan : Plan) (i : ℕ) (join : Join) (old new : List ℕ) (a b w : ℕ) → a ≡ first_of plan i join.a →
    b ≡ first_of plan i join.b → w ≡ min join.a.width join.b.width →
    Joins old new (map (λ t. (end_at join.a.owner (a + t), end_at join.b.owner (b + t))) (range_with_len 0 w)) →
    Joins old new (join_ends plan i join)
parts_ended plan i join old new a b w first second width joins =
    subst (λ (x : ℕ). Joins old new
    (map (λ t. (end_at join.a.owner (x + t), end_at join.b.owner (first_of plan i join.b + t)))
    (range_with_len 0 (min join.a.width join.b.width)))) first
    (subst (λ (y : ℕ). Joins old new (map (λ t. (end_at join.a.owner (a + t), end_at join.b.owner (y + t)))
    (range_with_len 0 (min join.a.width join.b.width)))) second
    (subst (λ (n : ℕ). Joins old new (map (λ t. (end_at join.a.owner (a + t), end_at join.b.owner (b + t)))
    (range_with_len 0 n))) width joins))

pub reset_ended : (plan : Plan) (i c : ℕ) (old new : List ℕ) (x y a b : ℕ) → x ≡ end_at 0 a → y ≡ end_at (c + 1) b →
    a ≡ first_of plan i (reset_part 0) → b ≡ first_of plan i (reset_part (suc c)) → Joins old new ((x, y) ∷ []) →
    Joins old new (reset_ends plan i c ∷ [])
reset_ended plan i c old new x y a b own other first second joins =
    let one : a ≡ first_of plan i (reset_part 0) + 0 = first ∙ omega arith in
    let two : b ≡ first_of plan i (reset_part (suc c)) + 0 = second ∙ omega arith in
    let next : c + 1 ≡ suc c = omega arith in
    subst (λ (l : List (ℕ × ℕ)). Joins old new l)
    (ap₂ (λ (p q : ℕ). (p, q) ∷ []) (own ∙ ap (end_at 0) one)
    (other ∙ (ap (λ (n : ℕ). end_at n b) next ∙ ap (end_at (suc c)) two))) joins
