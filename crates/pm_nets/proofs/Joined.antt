-- Links that are joined one after another.
use Rattle.std.proofs.Common.{◌≡◌, ◌∙◌, ◌+◌, ◌<◌, ◌≤◌, ◌++◌, ℕ, List, [], ◌∷◌, length, take, get_or}
use Rattle.std.proofs.Common.{map, flat_map, sym, ap, subst, arith}
use Rattle.std.specs.Prelude.{IsTrue}
use Rattle.std.specs.List.{range_with_len}
use Rattle.std.proofs.lemmas.Bool.{and_parts}
use Rattle.std.proofs.lemmas.Grind.{flat_map-append}
use Rattle.std.proofs.lemmas.List.{append_assoc, append-nil, map-id, take_more, take_all, get_or_default}
use Rattle.std.proofs.lemmas.List.FromFn.{map-range_with_len_more}
use Rattle.disjoint_sets.specs.Partitions.{IsNumbering, IsPartition, Joins}
use Rattle.disjoint_sets.proofs.Chains.{connected_itself, connected_sym, connected_trans}
use Rattle.disjoint_sets.proofs.Joining.{joins_none, joins_append}
use Rattle.pm_design.specs.declared.connection.Join.{Join}
use Rattle.pm_design.specs.declared.design.Design.{Design}
use Rattle.pm_design.specs.declared.design.Kind.{Kind}
use Rattle.pm_design.specs.Elaborated.{is_good_join}
use Rattle.pm_design.specs.Lookups.{lies_within}
use Rattle.pm_design.specs.declared.plan.Nets.{Nets}
use Rattle.pm_design.specs.declared.plan.Plan.{Plan}
use Rattle.pm_design.specs.Instances.{flat_bits, instances_of}
use Rattle.pm_design.specs.Runnable.{kind_at}
use Rattle.pm_instances.specs.Laid.{laid_out}
use Rattle.pm_nets.specs.declared.site.Site.{Site}
use Rattle.pm_nets.specs.Links.{AreNets, AreOneNet, join_links, links_between, links_in, links_of, reset_link}
use Rattle.pm_nets.specs.Sites.{IsSite}

-- one bit more
pub bits_more : (old now new : List ℕ) (a b t : ℕ) → Joins old now (links_between a b t) →
    Joins now new ((a + t, b + t) ∷ []) →
    Joins old new (links_between a b (t + 1))
bits_more old now new a b t some one =
    subst (λ (l : List (ℕ × ℕ)). Joins old new l) (sym (map-range_with_len_more (λ s. (a + s, b + s)) 0 t t
    (omega arith)))
    (joins_append old now new (links_between a b t) ((a + t, b + t) ∷ []) some one)

pub bits_all : (old now : List ℕ) (a b t width : ℕ) → width ≤ t → t ≤ width → Joins old now (links_between a b t) →
    Joins old now (links_between a b width)
bits_all old now a b t width le ge joins = subst (λ (n : ℕ). Joins old now (links_between a b n)) (omega arith) joins

pub bit_below : (old now : List ℕ) (more : List (ℕ × ℕ)) (a width t : ℕ) → Joins old now more → t < width →
    a + width ≤ length old → a + t < length now
bit_below old now more a width t joins lt le = let size : length now ≡ length old = joins.size in omega arith

pub no_bits : (old : List ℕ) (a b : ℕ) → Joins old old (links_between a b 0)
no_bits old a b = joins_none old

pub ruleset bit_by_bit = (no_bits, bits_more, bits_all, bit_below)

-- one element's links more
pub elements_more : {X : Type 0} (f : X → List (ℕ × ℕ)) (old now new : List ℕ) (xs : List X) (i : ℕ) (x : X) →
    i < length xs →
    x ≡ get_or xs i x → Joins old now (flat_map f (take i xs)) → Joins now new (f x) →
    Joins old new (flat_map f (take (i + 1) xs))
elements_more f old now new xs i x lt is some one =
    subst (λ (l : List (ℕ × ℕ)). Joins old new l)
    (sym (ap (flat_map f) (take_more xs i x lt)
    ∙ (flat_map-append f (take i xs) (get_or xs i x ∷ [])
    ∙ (ap (λ (l : List (ℕ × ℕ)). flat_map f (take i xs) ++ l) (append-nil (f (get_or xs i x)))
    ∙ ap (λ (y : _). flat_map f (take i xs) ++ f y) (sym is)))))
    (joins_append old now new (flat_map f (take i xs)) (f x) some one)

pub element_more : {X : Type 0} (f : X → List (ℕ × ℕ)) (old now new : List ℕ) (xs : List X) (i : ℕ) (d : X) →
    i < length xs →
    Joins old now (flat_map f (take i xs)) → Joins now new (f (get_or xs i d)) →
    Joins old new (flat_map f (take (i + 1) xs))
element_more f old now new xs i d lt some one =
    elements_more f old now new xs i (get_or xs i d) lt (get_or_default xs i d (get_or xs i d) lt) some one

pub elements_all : {X : Type 0} (f : X → List (ℕ × ℕ)) (old now : List ℕ) (xs : List X) (i : ℕ) → length xs ≤ i →
    Joins old now (flat_map f (take i xs)) → Joins old now (flat_map f xs)
elements_all f old now xs i le joins = subst (λ (l : List _). Joins old now (flat_map f l)) (take_all i xs le) joins

-- both ends of a good connection
pub join_ends_a : (design : Design) (kind : Kind) (join : Join) → IsTrue (is_good_join design kind join) →
    IsTrue (lies_within design kind join.a)
join_ends_a design kind join good = (and_parts (lies_within design kind join.a) _ good).0

pub join_ends_b : (design : Design) (kind : Kind) (join : Join) → IsTrue (is_good_join design kind join) →
    IsTrue (lies_within design kind join.b)
join_ends_b design kind join good = (and_parts (lies_within design kind join.b) _
    (and_parts (lies_within design kind join.a) _ good).1).0

pub ruleset join_ends = (join_ends_a, join_ends_b)

pub ruleset resets = (join_ends_a)

-- what one number more gives
pub range_more : {X : Type 0} (f : ℕ → List X) (i : ℕ) → flat_map f (range_with_len 0 (i + 1)) ≡ flat_map f
    (range_with_len 0 i) ++ f i
range_more f i =
    ap (flat_map f) next
    ∙ (flat_map-append f (range_with_len 0 i) (i ∷ [])
    ∙ ap (λ (l : List _). flat_map f (range_with_len 0 i) ++ l) (append-nil (f i)))
  where
    next : range_with_len 0 (i + 1) ≡ range_with_len 0 i ++ i ∷ []
    next =
        sym (map-id (range_with_len 0 (i + 1)))
        ∙ (map-range_with_len_more (λ (x : ℕ). x) 0 i i (omega arith) ∙
        ap (λ (l : List ℕ). l ++ i ∷ []) (map-id (range_with_len 0 i)))

-- one `reset` more
pub reset_more : (f : ℕ → ℕ × ℕ) (links : List (ℕ × ℕ)) (old now new : List ℕ) (c : ℕ) →
    Joins old now (links ++ map f (range_with_len 0 c)) → Joins now new (f c ∷ []) →
    Joins old new (links ++ map f (range_with_len 0 (c + 1)))
reset_more f links old now new c some one =
    subst (λ (l : List (ℕ × ℕ)). Joins old new l)
    (append_assoc links (map f (range_with_len 0 c)) (f c ∷ [])
    ∙ ap (λ (l : List (ℕ × ℕ)). links ++ l) (sym (map-range_with_len_more f 0 c c (omega arith))))
    (joins_append old now new (links ++ map f (range_with_len 0 c)) (f c ∷ []) some one)

pub reset_none : (f : ℕ → ℕ × ℕ) (links : List (ℕ × ℕ)) (old now : List ℕ) → Joins old now links →
    Joins old now (links ++ map f (range_with_len 0 0))
reset_none f links old now joins = subst (λ (l : List (ℕ × ℕ)). Joins old now l) (sym (append-nil links)) joins

pub reset_all : (f : ℕ → ℕ × ℕ) (links : List (ℕ × ℕ)) (old now : List ℕ) (c n count : ℕ) → n ≤ c → c ≤ n →
    n ≡ count →
    Joins old now (links ++ map f (range_with_len 0 c)) → Joins old now (links ++ map f (range_with_len 0 count))
reset_all f links old now c n count le ge is joins =
    let e : c ≡ count = omega arith in
    subst (λ (k : ℕ). Joins old now (links ++ map f (range_with_len 0 k))) e joins

pub instance_links : (plan : Plan) (i : ℕ) (old now : List ℕ) →
    Joins old now (flat_map (join_links plan i) (kind_at plan i).joins ++
    map (reset_link plan i) (range_with_len 0 (length (kind_at plan i).children))) →
    Joins old now (links_in plan i)
unfolding links_in
instance_links plan i old now joins = joins

-- more links of a partition
pub partition_more : (n i : ℕ) (f : ℕ → List (ℕ × ℕ)) (now new : List ℕ) →
    IsPartition n (flat_map f (range_with_len 0 i)) now → Joins now new (f i) →
    IsPartition n (flat_map f (range_with_len 0 (i + 1))) new
partition_more n i f now new are joins =
    subst (λ (l : List (ℕ × ℕ)). IsPartition n l new) (sym (range_more f i))
    (subst (λ (k : ℕ). IsPartition k (flat_map f (range_with_len 0 i) ++ f i) new) are.size
    (joins.sets (flat_map f (range_with_len 0 i)) (subst (λ (k : ℕ). IsPartition k
    (flat_map f (range_with_len 0 i)) now) (sym are.size) are)))

pub partition_all : (design : Design) (site : Site) → IsSite design site → (i n : ℕ) (now : List ℕ) → n ≤ i → i ≤ n →
    n ≡ length site.instances →
    IsPartition (flat_bits design) (flat_map (links_in (laid_out design)) (range_with_len 0 i)) now →
    IsPartition (flat_bits design) (links_of (laid_out design)) now
unfolding links_of
partition_all design site is i n now le ge size are =
    let count : length site.instances ≡ length (instances_of design) = ap length is.instances in
    let e : i ≡ length (instances_of design) = omega arith in
    subst (λ (k : ℕ). IsPartition (flat_bits design) (flat_map (links_in (laid_out design)) (range_with_len 0 k)) now)
    e are

pub ruleset elements = (elements_all, reset_none)

-- the numbers of the sets are those of the nets
pub nets_numbered : (design : Design) (sets : List ℕ) (nets : Nets) →
    ((links : List (ℕ × ℕ)) → IsPartition (length sets) links sets →
    IsNumbering (length sets) links nets.net_of nets.count) →
    IsPartition (flat_bits design) (links_of (laid_out design)) sets → AreNets (laid_out design) nets
nets_numbered design sets nets each are =
    subst (λ (n : ℕ). IsNumbering n (links_of (laid_out design)) nets.net_of nets.count) are.size
    (each (links_of (laid_out design)) (subst (λ (n : ℕ). IsPartition n (links_of (laid_out design)) sets)
    (sym are.size) are))

pub one_net_itself : (plan : Plan) (a : ℕ) → AreOneNet plan a a
one_net_itself plan a = connected_itself (links_of plan) a

pub one_net_sym : (plan : Plan) (a b : ℕ) → AreOneNet plan a b → AreOneNet plan b a
one_net_sym plan a b = connected_sym (links_of plan) a b

pub one_net_trans : (plan : Plan) (a b c : ℕ) → AreOneNet plan a b → AreOneNet plan b c → AreOneNet plan a c
one_net_trans plan a b c = connected_trans (links_of plan) a b c

pub ruleset one_net = (one_net_itself, one_net_sym, one_net_trans)
