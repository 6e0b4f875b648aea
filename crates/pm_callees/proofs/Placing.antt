-- The instances of a site.
use Rattle.std.proofs.Common.{◌≡◌, ◌∙◌, ◌<◌, ◌≤◌, ◌⊎◌, ℕ, List, length, get_or, sym, ap, subst, inl, inr, arith}
use Rattle.std.proofs.lemmas.Bool.{cases_lt}
use Rattle.std.proofs.lemmas.List.{get_or_default, get_or_past}
use Rattle.std.proofs.lemmas.List.FromFn.{get_or-map-range_with_len, length-map-range_with_len}
use Rattle.pm_design.specs.declared.design.Design.{Design}
use Rattle.pm_design.specs.declared.design.Kind.{Kind}
use Rattle.pm_design.specs.declared.plan.Instance.{Instance}
use Rattle.pm_design.specs.Calls.{child_of}
use Rattle.pm_design.specs.Elaborated.{IsElaborated}
use Rattle.pm_design.specs.Instances.{instances_of}
use Rattle.pm_design.specs.Layout.{instance_of, no_instance}
use Rattle.pm_design.specs.Lookups.{kind_of, no_kind}
use Rattle.pm_design.specs.Runnable.{kind_at}
use Rattle.pm_instances.specs.Laid.{laid_out}
use Rattle.pm_instances.proofs.Placed.{is_laid}
use Rattle.pm_callees.specs.declared.site.Site.{Site}
use Rattle.pm_callees.specs.Numbers.{IsSite, first_of}

pub instance_there : (design : Design) (site : Site) → IsSite design site → (i : ℕ) → i < length site.instances →
    i < length (instances_of design)
instance_there design site is i lt = subst (λ (l : List Instance). i < length l) is.instances lt

pub there_instance : (design : Design) (site : Site) → IsSite design site → (i : ℕ) → i < length (instances_of design)
    → i < length site.instances
there_instance design site is i lt = subst (λ (l : List Instance). i < length l) (sym is.instances) lt

pub same_instance : (design : Design) (site : Site) → IsSite design site → (i : ℕ) (x : Instance) →
    i < length site.instances → x ≡ get_or site.instances i x → x ≡ instance_of (laid_out design) i
same_instance design site is i x lt at =
    at ∙ (ap (λ (l : List Instance). get_or l i x) is.instances
    ∙ get_or_default (instances_of design) i x (no_instance (laid_out design)) (instance_there design site is i lt))

pub kind_known : (design : Design) (site : Site) → IsElaborated design → IsSite design site → (i : ℕ) (x : Instance) →
    i < length site.instances → x ≡ get_or site.instances i x → x.kind < length design.kinds
kind_known design site elaborated is i x lt at =
    subst (λ (y : Instance). y.kind < length design.kinds) (sym (same_instance design site is i x lt at))
    ((is_laid design elaborated).kinds i (instance_there design site is i lt))

pub kind_found : (design : Design) (site : Site) → IsElaborated design → IsSite design site →
    (i : ℕ) (x : Instance) (kind : Kind) → i < length site.instances →
    x ≡ get_or site.instances i x → kind ≡ get_or design.kinds x.kind kind → kind ≡ kind_at (laid_out design) i
kind_found design site elaborated is i x kind lt at found =
    found ∙ (get_or_default design.kinds x.kind kind no_kind (kind_known design site elaborated is i x lt at)
    ∙ ap (λ (y : Instance). kind_of design y.kind) (same_instance design site is i x lt at))

-- a child is one of the instance's
pub child_listed : (design : Design) → IsElaborated design → (i c : ℕ) → i < length (instances_of design) →
    c < length (kind_at (laid_out design) i).children → c < length (instance_of (laid_out design) i).children
child_listed design elaborated i c lt within = go (cases_lt c (length cs))
  where
    cs : List ℕ
    cs = (instance_of (laid_out design) i).children

    there : child_of (laid_out design) i c < length (instances_of design)
    there = ((is_laid design elaborated).children i c lt within).0

    go : (c < length cs) ⊎ (length cs ≤ c) → c < length cs
    go (inl less) = less
    go (inr le) =
        let past : child_of (laid_out design) i c ≡ length (instances_of design) =
        get_or_past cs c (length (instances_of design)) le in
        let here : child_of (laid_out design) i c < length (instances_of design) = there in
        absurd (omega arith)

pub child_within : (design : Design) (site : Site) → IsElaborated design → IsSite design site →
    (i c : ℕ) (x : Instance) → i < length site.instances → x ≡ get_or site.instances i x →
    c < length (kind_at (laid_out design) i).children → c < length x.children
child_within design site elaborated is i c x lt at within =
    subst (λ (y : Instance). c < length y.children) (sym (same_instance design site is i x lt at))
    (child_listed design elaborated i c (instance_there design site is i lt) within)

pub child_value : (design : Design) (site : Site) → IsElaborated design → IsSite design site →
    (i c d : ℕ) (x : Instance) → i < length site.instances → x ≡ get_or site.instances i x →
    c < length (kind_at (laid_out design) i).children → get_or x.children c d ≡ child_of (laid_out design) i c
child_value design site elaborated is i c d x lt at within =
    get_or_default x.children c d (length (instances_of design))
    (child_within design site elaborated is i c x lt at within)
    ∙ ap (λ (y : Instance). get_or y.children c (length (instances_of design)))
    (same_instance design site is i x lt at)

-- the first number of an instance
pub first_within : (design : Design) (site : Site) → IsSite design site → (i : ℕ) → i < length (instances_of design) →
    i < length site.firsts
first_within design site is i lt =
    subst (λ (l : List ℕ). i < length l) (sym is.firsts)
    (subst (λ (n : ℕ). i < n)
    (sym (length-map-range_with_len (first_of (laid_out design)) 0 (length (instances_of design)))) lt)

pub first_value : (design : Design) (site : Site) → IsSite design site → (i d : ℕ) → i < length (instances_of design) →
    get_or site.firsts i d ≡ first_of (laid_out design) i
first_value design site is i d lt =
    ap (λ (l : List ℕ). get_or l i d) is.firsts
    ∙ get_or-map-range_with_len (first_of (laid_out design)) 0 (length (instances_of design)) i i d lt (omega arith)

-- an instance of a list of all of them
pub item_is : (design : Design) (xs : List Instance) → xs ≡ instances_of design → (i : ℕ) (x : Instance) →
    i < length xs → x ≡ get_or xs i x → x ≡ instance_of (laid_out design) i
item_is design xs are i x lt at =
    at ∙ (ap (λ (l : List Instance). get_or l i x) are
    ∙ get_or_default (instances_of design) i x (no_instance (laid_out design))
    (subst (λ (l : List Instance). i < length l) are lt))

pub item_known : (design : Design) → IsElaborated design → (xs : List Instance) → xs ≡ instances_of design →
    (i : ℕ) (x : Instance) → i < length xs → x ≡ get_or xs i x → x.kind < length design.kinds
item_known design elaborated xs are i x lt at =
    subst (λ (y : Instance). y.kind < length design.kinds) (sym (item_is design xs are i x lt at))
    ((is_laid design elaborated).kinds i (subst (λ (l : List Instance). i < length l) are lt))
