-- The `reset` of components, and what kinds of instances are.
use Rattle.std.proofs.Common.{◌≡◌, ◌∙◌, ◌+◌, ◌<◌, ◌≤◌, ℕ, suc, List, [], ◌∷◌, length, map, get_or, refl}
use Rattle.std.proofs.Common.{sym, ap, subst, arith, ltb-true, eqb-true}
use Rattle.std.specs.Prelude.{IsTrue, nat_lt, nat_le, bytes_eq, codes, ◌==◌}
use Rattle.std.specs.List.{list_all}
use Rattle.std.proofs.lemmas.Bool.{and_parts, and_from, le-leb}
use Rattle.std.proofs.lemmas.List.{get_or_default}
use Rattle.pm_design.specs.declared.connection.Join.{Join}
use Rattle.pm_design.specs.declared.design.Child.{Child}
use Rattle.pm_design.specs.declared.design.Design.{Design}
use Rattle.pm_design.specs.declared.design.Kind.{Kind}
use Rattle.pm_design.specs.declared.plan.Instance.{Instance}
use Rattle.pm_design.specs.declared.signal.Signal.{Signal}
use Rattle.pm_design.specs.Elaborated.{IsElaborated, is_before, is_good_join}
use Rattle.pm_design.specs.Instances.{instances_of}
use Rattle.pm_design.specs.Layout.{instance_of, no_instance}
use Rattle.pm_design.specs.Lookups.{is_input, kind_of, lies_within, no_child, no_kind, no_signal, owner_kind_of}
use Rattle.pm_design.specs.Lookups.{signal_of}
use Rattle.pm_design.specs.Runnable.{kind_at}
use Rattle.pm_design.specs.Widths.{total}
use Rattle.pm_instances.specs.Laid.{laid_out}
use Rattle.pm_instances.proofs.EachKind.{ordered}
use Rattle.pm_instances.proofs.Numbers.{item_passes}
use Rattle.pm_instances.proofs.Placed.{is_laid}
use Rattle.pm_nets.specs.declared.site.Site.{Site}
use Rattle.pm_nets.specs.Links.{reset_part}
use Rattle.pm_nets.specs.Sites.{IsSite}

-- the first signal of a kind has one bit
reset_bit : (design : Design) → IsElaborated design → (k : ℕ) → k < length design.kinds →
    (get_or (kind_of design k).signals 0 no_signal).width ≡ 1
reset_bit design elaborated k lt =
    let s : Signal = get_or (kind_of design k).signals 0 no_signal in
    let more = (and_parts (bytes_eq s.name (codes "reset")) _ (elaborated.kinds k lt).reset).1 in
    eqb-true s.width 1 (and_parts (s.width == 1) (is_input s.role) more).0

-- so its bit lies within it
pub reset_lies : (design : Design) → IsElaborated design → (kind : Kind) (owner k : ℕ) → k < length design.kinds →
    owner_kind_of design kind owner ≡ kind_of design k → IsTrue (lies_within design kind (reset_part owner))
reset_lies design elaborated kind owner k lt is =
    let w : (signal_of design kind (reset_part owner)).width ≡ 1 =
    ap (λ (x : Kind). (get_or x.signals 0 no_signal).width) is ∙ reset_bit design elaborated k lt in
    and_from (nat_lt 0 1) (nat_le (0 + 1) (signal_of design kind (reset_part owner)).width) refl
    (le-leb (0 + 1) (signal_of design kind (reset_part owner)).width (omega arith))

pub own_reset : (design : Design) (site : Site) → IsElaborated design → IsSite design site → (i : ℕ) →
    i < length site.instances →
    IsTrue (lies_within design (kind_at (laid_out design) i) (reset_part 0))
own_reset design site elaborated is i lt =
    let laid = is_laid design elaborated in
    let there : i < length (instances_of design) = subst (λ (l : List Instance). i < length l) is.instances lt in
    reset_lies design elaborated (kind_at (laid_out design) i) 0 (instance_of (laid_out design) i).kind
    (laid.kinds i there) refl

pub child_reset : (design : Design) (site : Site) → IsElaborated design → IsSite design site → (i c : ℕ) →
    i < length site.instances →
    c < length (kind_at (laid_out design) i).children → IsTrue
    (lies_within design (kind_at (laid_out design) i) (reset_part (c + 1)))
child_reset design site elaborated is i c lt ct =
    let laid = is_laid design elaborated in
    let there : i < length (instances_of design) = subst (λ (l : List Instance). i < length l) is.instances lt in
    let child = laid.children i c there ct in
    let k : ℕ = (get_or (kind_at (laid_out design) i).children c (no_child design.kinds)).kind in
    let known : k < length design.kinds = subst (λ (n : ℕ). n < length design.kinds) child.1 (laid.kinds _ child.0) in
    let next : suc c ≡ c + 1 = omega arith in
    subst (λ (n : ℕ). IsTrue (lies_within design (kind_at (laid_out design) i) (reset_part n))) next
    (reset_lies design elaborated (kind_at (laid_out design) i) (suc c) k known refl)

-- an instance of the site has a kind
pub kind_known : (design : Design) (site : Site) → IsElaborated design → IsSite design site → (i : ℕ) (x : Instance) →
    i < length site.instances →
    x ≡ get_or site.instances i x → x.kind < length design.kinds
kind_known design site elaborated is i x lt at =
    let there : i < length (instances_of design) = subst (λ (l : List Instance). i < length l) is.instances lt in
    let here : x ≡ instance_of (laid_out design) i =
    at ∙ (ap (λ (l : List Instance). get_or l i x) is.instances ∙
    get_or_default (instances_of design) i x (no_instance (laid_out design)) there) in
    subst (λ (y : Instance). y.kind < length design.kinds) (sym here) ((is_laid design elaborated).kinds i there)

pub kind_found : (design : Design) (site : Site) → IsElaborated design → IsSite design site →
    (i : ℕ) (x : Instance) (kind : Kind) → i < length site.instances →
    x ≡ get_or site.instances i x → kind ≡ get_or design.kinds x.kind kind → kind ≡ kind_at (laid_out design) i
kind_found design site elaborated is i x kind lt at is_kind =
    let there : i < length (instances_of design) = subst (λ (l : List Instance). i < length l) is.instances lt in
    let here : x ≡ instance_of (laid_out design) i =
    at ∙ (ap (λ (l : List Instance). get_or l i x) is.instances ∙
    get_or_default (instances_of design) i x (no_instance (laid_out design)) there) in
    is_kind ∙ (get_or_default design.kinds x.kind kind no_kind (kind_known design site elaborated is i x lt at)
    ∙ ap (λ (y : Instance). kind_of design y.kind) here)

-- a kind has no more children than instances
count_children : (design : Design) → IsElaborated design → (k : ℕ) (cs : List Child) → k < length design.kinds →
    IsTrue (list_all (is_before k) cs) →
    length cs ≤ total (map (λ c. (kind_of design c.kind).instances) cs)
count_children design elaborated k [] known all = omega arith
count_children design elaborated k (c ∷ cs) known all =
    let both = and_parts (is_before k c) (list_all (is_before k) cs) all in
    let less : c.kind < k = ltb-true c.kind k both.0 in
    let one : (kind_of design c.kind).instances ≡ 1 + total (map (λ d. (kind_of design d.kind).instances)
    (kind_of design c.kind).children) =
    (elaborated.kinds c.kind (omega arith)).sized.instances in
    let rest : length cs ≤ total (map (λ d. (kind_of design d.kind).instances) cs) =
    count_children design elaborated k cs known both.1 in
    omega arith

pub few_children : (design : Design) (site : Site) → IsElaborated design → IsSite design site → (i : ℕ) →
    i < length site.instances →
    length (kind_at (laid_out design) i).children ≤ 4095
few_children design site elaborated is i lt =
    let there : i < length (instances_of design) = subst (λ (l : List Instance). i < length l) is.instances lt in
    let k : ℕ = (instance_of (laid_out design) i).kind in
    let known : (instance_of (laid_out design) i).kind < length design.kinds =
    (is_laid design elaborated).kinds i there in
    let size : (kind_at (laid_out design) i).instances ≡ 1 + total
    (map (λ c. (kind_of design c.kind).instances) (kind_at (laid_out design) i).children) =
    (elaborated.kinds k known).sized.instances in
    let few : (kind_at (laid_out design) i).instances ≤ 4096 = (elaborated.kinds k known).sized.few_instances in
    let count : length (kind_at (laid_out design) i).children ≤ total
    (map (λ c. (kind_of design c.kind).instances) (kind_at (laid_out design) i).children) =
    count_children design elaborated k (kind_of design k).children known (ordered design elaborated k known) in
    omega arith

-- the connections of an instance's kind are good
pub join_good : (design : Design) (site : Site) → IsElaborated design → IsSite design site →
    (i j : ℕ) (joins : List Join) (join : Join) → i < length site.instances →
    joins ≡ (kind_at (laid_out design) i).joins → j < length joins → join ≡ get_or joins j join →
    IsTrue (is_good_join design (kind_at (laid_out design) i) join)
join_good design site elaborated is i j joins join lt are jt at =
    let there : i < length (instances_of design) = subst (λ (l : List Instance). i < length l) is.instances lt in
    let known = (is_laid design elaborated).kinds i there in
    item_passes (is_good_join design (kind_at (laid_out design) i)) joins j join
    (subst (λ (l : List Join). IsTrue (list_all (is_good_join design (kind_at (laid_out design) i)) l)) (sym are)
    (elaborated.kinds (instance_of (laid_out design) i).kind known).joins) jt at
