-- The nodes of the blocks of instances.
use Rattle.std.proofs.Common.{◌≡◌, ◌∙◌, ◌<◌, ℕ, List, length, map, get_or, sym, ap, subst}
use Rattle.std.proofs.lemmas.List.{get_or-map, get_or_default, length-map}
use Rattle.pm_design.specs.declared.design.Design.{Design}
use Rattle.pm_design.specs.declared.design.Kind.{Kind}
use Rattle.pm_design.specs.declared.plan.Instance.{Instance}
use Rattle.pm_design.specs.Elaborated.{IsElaborated}
use Rattle.pm_design.specs.Instances.{instances_of}
use Rattle.pm_design.specs.Layout.{no_instance}
use Rattle.pm_design.specs.Lookups.{kind_of, no_kind}
use Rattle.pm_instances.specs.Laid.{laid_out}
use Rattle.pm_instances.proofs.Placed.{is_laid}
use Rattle.pm_work.specs.Work.{counted, kind_nodes}

-- an instance's kind is one of the design
pub kind_known : (design : Design) (is : List Instance) → IsElaborated design → is ≡ instances_of design →
    (i : ℕ) (x : Instance) → i < length is → x ≡ get_or is i x → x.kind < length design.kinds
kind_known design is elaborated same i x lt at =
    let there : i < length (instances_of design) = subst (λ (l : List Instance). i < length l) same lt in
    let here : x ≡ get_or (instances_of design) i (no_instance (laid_out design)) =
    at ∙ (ap (λ (l : List Instance). get_or l i x) same ∙
    get_or_default (instances_of design) i x (no_instance (laid_out design)) there) in
    subst (λ (y : Instance). y.kind < length design.kinds) (sym here) ((is_laid design elaborated).kinds i there)

-- the count of a kind
pub kind_counted : (design : Design) (counts : List ℕ) (k : ℕ) →
    counts ≡ map (λ kind. counted (kind_nodes kind)) design.kinds → k < length design.kinds →
    get_or counts k 0 ≡ counted (kind_nodes (kind_of design k))
kind_counted design counts k is lt =
    ap (λ (l : List ℕ). get_or l k 0) is ∙ get_or-map (λ (kind : Kind). counted (kind_nodes kind)) design.kinds k no_kind 0 lt

pub counts_long : (design : Design) (counts : List ℕ) → counts ≡ map (λ kind. counted (kind_nodes kind)) design.kinds →
    length counts ≡ length design.kinds
counts_long design counts is = ap length is ∙ length-map design.kinds (λ (kind : Kind). counted (kind_nodes kind))

-- what is read there
pub count_read : (design : Design) (counts : List ℕ) (k read : ℕ) →
    counts ≡ map (λ kind. counted (kind_nodes kind)) design.kinds → k < length design.kinds →
    read ≡ get_or counts k read → read ≡ counted (kind_nodes (kind_of design k))
count_read design counts k read is lt at =
    at ∙ (get_or_default counts k read 0 (subst (λ (n : ℕ). k < n) (sym (counts_long design counts is)) lt) ∙
    kind_counted design counts k is lt)
