-- The numbers that a site gives to methods and caller ports.
use Rattle.std.proofs.Common.{◌≡◌, ◌∙◌, ◌+◌, ◌<◌, ◌≤◌, ◌++◌, ℕ, List, [], ◌∷◌, length, map, get_or, true, false, sym}
use Rattle.std.proofs.Common.{ap, arith}
use Rattle.std.specs.List.{range_with_len}
use Rattle.std.proofs.lemmas.List.FromFn.{map-range_with_len_more}
use Rattle.pm_design.specs.declared.design.Design.{Design}
use Rattle.pm_design.specs.declared.plan.Instance.{Instance}
use Rattle.pm_design.specs.declared.plan.Plan.{Plan}
use Rattle.pm_design.specs.Instances.{instances_of}
use Rattle.pm_design.specs.Layout.{instance_of}
use Rattle.pm_design.specs.Runnable.{kind_at}
use Rattle.pm_instances.specs.Laid.{laid_out}
use Rattle.pm_callees.specs.declared.site.Site.{Site}
use Rattle.pm_callees.specs.Ends.{IsThere}
use Rattle.pm_callees.specs.Numbers.{IsSite, end_at, ends_in, first_of, number_of}
use Rattle.pm_callees.proofs.EndNumbers.{end_counted, first_le, first_more}
use Rattle.pm_callees.proofs.Placing.{first_value}

pub method_value : (design : Design) (site : Site) → IsSite design site → (i m : ℕ) →
    IsThere (laid_out design) (end_at i false m) →
    get_or site.firsts i 0 + m ≡ number_of (laid_out design) (end_at i false m)
method_value design site is i m there =
    let first : get_or site.firsts i 0 ≡ first_of (laid_out design) i = first_value design site is i 0 there.0 in
    omega arith

pub method_bound : (design : Design) (site : Site) → IsSite design site → (i m : ℕ) →
    IsThere (laid_out design) (end_at i false m) → get_or site.firsts i 0 + m < site.count
method_bound design site is i m there =
    let value : get_or site.firsts i 0 + m ≡ number_of (laid_out design) (end_at i false m) =
    method_value design site is i m there in
    let low : number_of (laid_out design) (end_at i false m) < first_of (laid_out design)
    (length (instances_of design)) =
    end_counted (laid_out design) (end_at i false m) there in
    let all : site.count ≡ first_of (laid_out design) (length (instances_of design)) = is.count in
    omega arith

pub port_value : (design : Design) (site : Site) → IsSite design site → (i methods p : ℕ) →
    methods ≡ length (kind_at (laid_out design) i).methods → IsThere (laid_out design) (end_at i true p) →
    get_or site.firsts i 0 + methods + p ≡ number_of (laid_out design) (end_at i true p)
port_value design site is i methods p size there =
    let first : get_or site.firsts i 0 ≡ first_of (laid_out design) i = first_value design site is i 0 there.0 in
    omega arith

pub port_bound : (design : Design) (site : Site) → IsSite design site → (i methods p : ℕ) →
    methods ≡ length (kind_at (laid_out design) i).methods → IsThere (laid_out design) (end_at i true p) →
    get_or site.firsts i 0 + methods + p < site.count
port_bound design site is i methods p size there =
    let value : get_or site.firsts i 0 + methods + p ≡ number_of (laid_out design) (end_at i true p) =
    port_value design site is i methods p size there in
    let low : number_of (laid_out design) (end_at i true p) < first_of (laid_out design)
    (length (instances_of design)) =
    end_counted (laid_out design) (end_at i true p) there in
    let all : site.count ≡ first_of (laid_out design) (length (instances_of design)) = is.count in
    omega arith

-- an instance's methods and caller ports are among those counted
pub few_ends : (design : Design) (site : Site) → IsSite design site → (i : ℕ) → i < length (instances_of design) →
    length (kind_at (laid_out design) i).methods + length (kind_at (laid_out design) i).callers ≤ site.count
few_ends design site is i lt =
    let next : first_of (laid_out design) (i + 1) ≡ first_of (laid_out design) i
    + (length (kind_at (laid_out design) i).methods + length (kind_at (laid_out design) i).callers) =
    first_more (laid_out design) i lt in
    let last : first_of (laid_out design) (i + 1) ≤ first_of (laid_out design) (length (instances_of design)) =
    first_le (laid_out design) (i + 1) (length (instances_of design)) (omega arith) in
    let all : site.count ≡ first_of (laid_out design) (length (instances_of design)) = is.count in
    omega arith

-- the first numbers, with one instance's more
pub firsts_more : (plan : Plan) (i count : ℕ) (firsts : List ℕ) →
    firsts ≡ map (first_of plan) (range_with_len 0 i) → count ≡ first_of plan i →
    firsts ++ count ∷ [] ≡ map (first_of plan) (range_with_len 0 (i + 1))
firsts_more plan i count firsts are is =
    ap (λ (l : List ℕ). l ++ count ∷ []) are
    ∙ (ap (λ (n : ℕ). map (first_of plan) (range_with_len 0 i) ++ n ∷ []) is
    ∙ sym (map-range_with_len_more (first_of plan) 0 i i (omega arith)))

pub count_more : (plan : Plan) (i count next : ℕ) (x : Instance) → i < length plan.instances →
    x ≡ instance_of plan i → count ≡ first_of plan i → next ≡ count + ends_in plan.design x →
    next ≡ first_of plan (i + 1)
count_more plan i count next x lt at is more =
    let here : first_of plan (i + 1) ≡ first_of plan i + ends_in plan.design (instance_of plan i) =
    first_more plan i lt in
    let own : ends_in plan.design x ≡ ends_in plan.design (instance_of plan i) = ap (ends_in plan.design) at in
    omega arith
