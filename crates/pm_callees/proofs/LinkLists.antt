-- What connections join, instance by instance.
use Rattle.std.proofs.Common.{◌≡◌, ◌∙◌, ◌+◌, ◌<◌, ◌≤◌, ◌++◌, ℕ, zero, suc, List, [], ◌∷◌, length, map, take, get_or}
use Rattle.std.proofs.Common.{sym, ap, subst, arith, Contains}
use Rattle.std.specs.Prelude.{IsTrue}
use Rattle.std.specs.List.{All, list_all}
use Rattle.std.proofs.lemmas.Bool.{and_parts}
use Rattle.std.proofs.lemmas.List.{append_assoc, append-nil, map-append, take_more, take_all, length-map, length-take-le}
use Rattle.std.proofs.lemmas.List.Elements.{All-append, All-contains}
use Rattle.std.proofs.lemmas.Simd.{map-map}
use Rattle.disjoint_sets.specs.Partitions.{IsPartition, Joins}
use Rattle.disjoint_sets.proofs.Joining.{joins_append}
use Rattle.pm_design.specs.declared.connection.Bind.{Bind}
use Rattle.pm_design.specs.declared.design.Design.{Design}
use Rattle.pm_design.specs.declared.plan.Instance.{Instance}
use Rattle.pm_design.specs.declared.plan.Plan.{Plan}
use Rattle.pm_design.specs.Calls.{Link, links_from, links_of}
use Rattle.pm_design.specs.Elaborated.{IsElaborated, is_good_bind}
use Rattle.pm_design.specs.Instances.{instances_of}
use Rattle.pm_design.specs.Layout.{instance_of, no_instance}
use Rattle.pm_design.specs.Lookups.{kind_of, signature_of}
use Rattle.pm_design.specs.Runnable.{kind_at}
use Rattle.pm_instances.specs.Laid.{laid_out}
use Rattle.pm_instances.proofs.Placed.{is_laid}
use Rattle.pm_callees.specs.Ends.{IsThere}
use Rattle.pm_callees.specs.Joining.{joined_in, link_of}
use Rattle.pm_callees.specs.Numbers.{numbered}
use Rattle.pm_callees.proofs.There.{callee_there}

-- the connections of an instance's kind
abbrev pub binds_of : Plan → Instance → List Bind
binds_of plan x = (kind_of plan.design x.kind).binds

-- what the connections of the first instances join
abbrev pub first_links : Plan → ℕ → List Link
first_links plan i = links_from plan 0 (map (binds_of plan) (take i plan.instances))

links_push : (plan : Plan) (i : ℕ) (lists : List (List Bind)) (binds : List Bind) →
    links_from plan i (lists ++ binds ∷ []) ≡ links_from plan i lists ++ map (link_of plan (i + length lists)) binds
links_push plan i [] binds =
    append-nil (map (link_of plan i) binds) ∙ ap (λ (n : ℕ). map (link_of plan n) binds) (omega arith)
links_push plan i (own ∷ lists) binds =
    let next : i + 1 + length lists ≡ i + length (own ∷ lists) = omega arith in
    ap (λ (l : List Link). map (link_of plan i) own ++ l) (links_push plan (i + 1) lists binds)
    ∙ (sym (append_assoc (map (link_of plan i) own) (links_from plan (i + 1) lists)
    (map (link_of plan (i + 1 + length lists)) binds))
    ∙ ap (λ (n : ℕ). (map (link_of plan i) own ++ links_from plan (i + 1) lists) ++ map (link_of plan n) binds) next)

-- one instance more
links_more : (plan : Plan) (i : ℕ) → i < length plan.instances →
    first_links plan (i + 1) ≡ first_links plan i ++ map (link_of plan i) (kind_at plan i).binds
links_more plan i lt =
    let place : 0 + length (map (binds_of plan) (take i plan.instances)) ≡ i =
    (let size : length (map (binds_of plan) (take i plan.instances)) ≡ i =
    length-map (take i plan.instances) (binds_of plan) ∙ length-take-le i plan.instances (omega arith) in
    omega arith) in
    ap (λ (xs : List Instance). links_from plan 0 (map (binds_of plan) xs))
    (take_more plan.instances i (no_instance plan) lt)
    ∙ (ap (links_from plan 0) (map-append (binds_of plan) (take i plan.instances) (instance_of plan i ∷ []))
    ∙ (links_push plan 0 (map (binds_of plan) (take i plan.instances)) (kind_at plan i).binds
    ∙ ap (λ (n : ℕ). first_links plan i ++ map (link_of plan n) (kind_at plan i).binds) place))

-- the sets, once what one more instance's connections join is joined
pub instance_joined : (plan : Plan) (n i : ℕ) (now new : List ℕ) → i < length plan.instances →
    IsPartition n (map (numbered plan) (first_links plan i)) now → Joins now new (joined_in plan i) →
    IsPartition n (map (numbered plan) (first_links plan (i + 1))) new
instance_joined plan n i now new lt are joins =
    subst (λ (l : List (ℕ × ℕ)). IsPartition n l new) (sym more)
    (subst (λ (k : ℕ). IsPartition k (map (numbered plan) (first_links plan i) ++ joined_in plan i) new) are.size
    (joins.sets (map (numbered plan) (first_links plan i)) (subst (λ (k : ℕ). IsPartition k
    (map (numbered plan) (first_links plan i)) now) (sym are.size) are)))
  where
    more : map (numbered plan) (first_links plan (i + 1)) ≡ map (numbered plan) (first_links plan i) ++ joined_in plan i
    more =
        ap (map (numbered plan)) (links_more plan i lt)
        ∙ (map-append (numbered plan) (first_links plan i) (map (link_of plan i) (kind_at plan i).binds)
        ∙ ap (λ (l : List (ℕ × ℕ)). map (numbered plan) (first_links plan i) ++ l)
        (map-map (numbered plan) (link_of plan i) (kind_at plan i).binds))

pub all_joined : (plan : Plan) (n i : ℕ) (now : List ℕ) → length plan.instances ≤ i →
    IsPartition n (map (numbered plan) (first_links plan i)) now →
    IsPartition n (map (numbered plan) (links_of plan)) now
all_joined plan n i now le are =
    subst (λ (xs : List Instance). IsPartition n (map (numbered plan) (links_from plan 0 (map (binds_of plan) xs))) now)
    (take_all i plan.instances le) are

-- one connection more
pub bind_joined : (plan : Plan) (i : ℕ) (old now new : List ℕ) (binds : List Bind) (k : ℕ) (d : Bind) (a b : ℕ) →
    k < length binds → (a, b) ≡ numbered plan (link_of plan i (get_or binds k d)) →
    Joins old now (map (λ bind. numbered plan (link_of plan i bind)) (take k binds)) → Joins now new ((a, b) ∷ []) →
    Joins old new (map (λ bind. numbered plan (link_of plan i bind)) (take (k + 1) binds))
bind_joined plan i old now new binds k d a b lt is some one =
    subst (λ (l : List (ℕ × ℕ)). Joins old new l) (sym more)
    (joins_append old now new (map f (take k binds)) ((a, b) ∷ []) some one)
  where
    f : Bind → ℕ × ℕ
    f bind = numbered plan (link_of plan i bind)

    more : map f (take (k + 1) binds) ≡ map f (take k binds) ++ (a, b) ∷ []
    more =
        ap (map f) (take_more binds k d lt)
        ∙ (map-append f (take k binds) (get_or binds k d ∷ [])
        ∙ ap (λ (p : ℕ × ℕ). map f (take k binds) ++ p ∷ []) (sym is))

-- a link of two ends that are there
abbrev pub AreThere : Plan → Link → Type 0
AreThere plan l = IsThere plan l.a × IsThere plan l.b

-- both ends of a good connection
pub bind_there : (design : Design) → IsElaborated design → (i : ℕ) (bind : Bind) → i < length (instances_of design) →
    IsTrue (is_good_bind design (kind_at (laid_out design) i) bind) →
    AreThere (laid_out design) (link_of (laid_out design) i bind)
bind_there design elaborated i bind lt good =
    let kind = kind_at (laid_out design) i in
    let first = and_parts (signature_of design kind bind.a).there _ good in
    let second = and_parts (signature_of design kind bind.b).there _ first.1 in
    (callee_there design elaborated i bind.a lt first.0, callee_there design elaborated i bind.b lt second.0)

binds_there : (design : Design) → IsElaborated design → (i : ℕ) (binds : List Bind) → i < length (instances_of design) →
    IsTrue (list_all (is_good_bind design (kind_at (laid_out design) i)) binds) →
    All (AreThere (laid_out design)) (map (link_of (laid_out design) i) binds)
binds_there design elaborated i [] lt good = λ k d l. absurd (omega arith)
binds_there design elaborated i (b ∷ bs) lt good =
    let parts = and_parts (is_good_bind design (kind_at (laid_out design) i) b) _ good in
    let rest = binds_there design elaborated i bs lt parts.1 in
    λ k d l. go parts.0 rest k d l
  where
    go : IsTrue (is_good_bind design (kind_at (laid_out design) i) b) →
        All (AreThere (laid_out design)) (map (link_of (laid_out design) i) bs) → (k : ℕ) (d : Link) →
        k < length (map (link_of (laid_out design) i) (b ∷ bs)) →
        AreThere (laid_out design) (get_or (map (link_of (laid_out design) i) (b ∷ bs)) k d)
    go own rest zero d l = bind_there design elaborated i b lt own
    go own rest (suc k) d l = rest k d (omega arith)

all_links : (P : Link → Type 0) (plan : Plan) (d : Instance) (xs : List Instance) (i : ℕ) →
    ((j : ℕ) → j < length xs → All P (map (link_of plan (i + j)) (binds_of plan (get_or xs j d)))) →
    All P (links_from plan i (map (binds_of plan) xs))
all_links P plan d [] i each = λ k e l. absurd (omega arith)
all_links P plan d (x ∷ xs) i each =
    All-append P (map (link_of plan i) (binds_of plan x)) (links_from plan (i + 1) (map (binds_of plan) xs)) own
    (all_links P plan d xs (i + 1) rest)
  where
    own : All P (map (link_of plan i) (binds_of plan x))
    own =
        let here : i + 0 ≡ i = omega arith in
        subst (λ (n : ℕ). All P (map (link_of plan n) (binds_of plan x))) here (each 0 (omega arith))

    rest : (j : ℕ) → j < length xs → All P (map (link_of plan (i + 1 + j)) (binds_of plan (get_or xs j d)))
    rest j lt =
        let next : i + suc j ≡ i + 1 + j = omega arith in
        subst (λ (n : ℕ). All P (map (link_of plan n) (binds_of plan (get_or xs j d)))) next
        (each (suc j) (omega arith))

-- connections join ends that are there
pub links_there : (design : Design) → IsElaborated design → (l : Link) → Contains (links_of (laid_out design)) l →
    AreThere (laid_out design) l
links_there design elaborated l has =
    All-contains (AreThere plan) (links_of plan) l
    (all_links (AreThere plan) plan (no_instance plan) (instances_of design) 0 each) has
  where
    plan : Plan
    plan = laid_out design

    each : (j : ℕ) → j < length (instances_of design) →
        All (AreThere plan) (map (link_of plan (0 + j)) (binds_of plan (get_or (instances_of design) j
        (no_instance plan))))
    each j lt =
        let here : j ≡ 0 + j = omega arith in
        subst (λ (n : ℕ). All (AreThere plan) (map (link_of plan n) (kind_at plan j).binds)) here
        (binds_there design elaborated j (kind_at plan j).binds lt
        (elaborated.kinds (instance_of plan j).kind ((is_laid design elaborated).kinds j lt)).binds)

pub binds_joined : (plan : Plan) (i : ℕ) (old now : List ℕ) (binds : List Bind) (k : ℕ) → length binds ≤ k →
    binds ≡ (kind_at plan i).binds →
    Joins old now (map (λ bind. numbered plan (link_of plan i bind)) (take k binds)) →
    Joins old now (joined_in plan i)
binds_joined plan i old now binds k le are joins =
    subst (λ (l : List Bind). Joins old now (map (λ bind. numbered plan (link_of plan i bind)) l))
    (take_all k binds le ∙ are) joins
