-- Numbers of methods and caller ports: each has its own.
use Rattle.std.proofs.Common.{◌≡◌, ◌∙◌, ◌+◌, ◌-◌, ◌<◌, ◌≤◌, ◌++◌, ◌⊎◌, ℕ, zero, suc, List, [], ◌∷◌, length, map, take}
use Rattle.std.proofs.Common.{Bool, true, false, sym, ap, subst, inl, inr, arith}
use Rattle.std.proofs.lemmas.Bool.{cases_lt, cases_order}
use Rattle.std.proofs.lemmas.List.{take_more, take_all, map-append}
use Rattle.pm_design.specs.declared.design.Kind.{Kind}
use Rattle.pm_design.specs.declared.plan.Instance.{Instance}
use Rattle.pm_design.specs.declared.plan.Plan.{Plan}
use Rattle.pm_design.specs.Calls.{End}
use Rattle.pm_design.specs.Layout.{instance_of, no_instance}
use Rattle.pm_design.specs.Runnable.{kind_at}
use Rattle.pm_design.specs.Widths.{total}
use Rattle.pm_callees.specs.Ends.{IsThere, ends_of}
use Rattle.pm_callees.specs.Numbers.{end_at, ends_in, first_of, number_of, offset_of}

total_push : (ns : List ℕ) (n : ℕ) → total (ns ++ n ∷ []) ≡ total ns + n
total_push [] n = omega arith
total_push (m ∷ ns) n = let e : total (ns ++ n ∷ []) ≡ total ns + n = total_push ns n in omega arith

-- one instance more
pub first_more : (plan : Plan) (i : ℕ) → i < length plan.instances →
    first_of plan (i + 1) ≡ first_of plan i + ends_in plan.design (instance_of plan i)
first_more plan i lt =
    ap (λ (xs : List Instance). total (map (ends_in plan.design) xs))
    (take_more plan.instances i (no_instance plan) lt)
    ∙ (ap total (map-append (ends_in plan.design) (take i plan.instances) (instance_of plan i ∷ []))
    ∙ total_push (map (ends_in plan.design) (take i plan.instances)) (ends_in plan.design (instance_of plan i)))

first_step : (plan : Plan) (i : ℕ) → first_of plan i ≤ first_of plan (i + 1)
first_step plan i = go (cases_lt i (length plan.instances))
  where
    go : (i < length plan.instances) ⊎ (length plan.instances ≤ i) → first_of plan i ≤ first_of plan (i + 1)
    go (inl lt) =
        let e : first_of plan (i + 1) ≡ first_of plan i + ends_in plan.design (instance_of plan i) =
        first_more plan i lt in
        omega arith
    go (inr le) =
        let low : first_of plan i ≡ first_of plan (length plan.instances) =
        ap (λ (xs : List Instance). total (map (ends_in plan.design) xs))
        (take_all i plan.instances le ∙ sym (take_all (length plan.instances) plan.instances (omega arith))) in
        let high : first_of plan (i + 1) ≡ first_of plan (length plan.instances) =
        ap (λ (xs : List Instance). total (map (ends_in plan.design) xs))
        (take_all (i + 1) plan.instances (omega arith)
        ∙ sym (take_all (length plan.instances) plan.instances (omega arith))) in
        omega arith

first_up : (plan : Plan) (i k : ℕ) → first_of plan i ≤ first_of plan (i + k)
first_up plan i zero =
    subst (λ (n : ℕ). first_of plan i ≤ first_of plan n) (omega arith) same
  where
    same : first_of plan i ≤ first_of plan i
    same = omega arith
first_up plan i (suc k) =
    let low : first_of plan i ≤ first_of plan (i + k) = first_up plan i k in
    let up : first_of plan (i + k) ≤ first_of plan (i + k + 1) = first_step plan (i + k) in
    let both : first_of plan i ≤ first_of plan (i + k + 1) = omega arith in
    let next : i + k + 1 ≡ i + suc k = omega arith in
    subst (λ (n : ℕ). first_of plan i ≤ first_of plan n) next both

pub first_le : (plan : Plan) (i j : ℕ) → i ≤ j → first_of plan i ≤ first_of plan j
first_le plan i j le =
    let reach : i + (j - i) ≡ j = omega arith in
    subst (λ (n : ℕ). first_of plan i ≤ first_of plan n) reach (first_up plan i (j - i))

offset_fits : (kind : Kind) (port : Bool) (n : ℕ) → n < ends_of kind port →
    offset_of kind port + n < length kind.methods + length kind.callers
offset_fits kind false n lt = omega arith
offset_fits kind true n lt = omega arith

-- an end's number is below the next instance's first one
end_fits : (plan : Plan) (e : End) → IsThere plan e → number_of plan e < first_of plan (e.instance + 1)
end_fits plan e there =
    let fits : offset_of (kind_at plan e.instance) e.port + e.number < length (kind_at plan e.instance).methods
    + length (kind_at plan e.instance).callers =
    offset_fits (kind_at plan e.instance) e.port e.number there.1 in
    let next : first_of plan (e.instance + 1) ≡ first_of plan e.instance
    + (length (kind_at plan e.instance).methods + length (kind_at plan e.instance).callers) =
    first_more plan e.instance there.0 in
    omega arith

-- an end's number is one of those counted
pub end_counted : (plan : Plan) (e : End) → IsThere plan e → number_of plan e < first_of plan (length plan.instances)
end_counted plan e there =
    let own : number_of plan e < first_of plan (e.instance + 1) = end_fits plan e there in
    let last : first_of plan (e.instance + 1) ≤ first_of plan (length plan.instances) =
    first_le plan (e.instance + 1) (length plan.instances) (let l : e.instance < length plan.instances = there.0 in
    omega arith) in
    omega arith

within_instance : (plan : Plan) (i : ℕ) (p q : Bool) (m n : ℕ) → m < ends_of (kind_at plan i) p →
    n < ends_of (kind_at plan i) q →
    first_of plan i + offset_of (kind_at plan i) p + m ≡ first_of plan i + offset_of (kind_at plan i) q + n →
    end_at i p m ≡ end_at i q n
within_instance plan i false false m n lm ln e = ap (end_at i false) (omega arith)
within_instance plan i false true m n lm ln e = absurd (omega arith)
within_instance plan i true false m n lm ln e = absurd (omega arith)
within_instance plan i true true m n lm ln e = ap (end_at i true) (omega arith)

same_place : (plan : Plan) (i j : ℕ) (p q : Bool) (m n : ℕ) → i ≡ j → m < ends_of (kind_at plan i) p →
    n < ends_of (kind_at plan j) q →
    first_of plan i + offset_of (kind_at plan i) p + m ≡ first_of plan j + offset_of (kind_at plan j) q + n →
    end_at i p m ≡ end_at j q n
same_place plan i j p q m n same lm =
    subst (λ (k : ℕ). n < ends_of (kind_at plan k) q →
    first_of plan i + offset_of (kind_at plan i) p + m ≡ first_of plan k + offset_of (kind_at plan k) q + n →
    end_at i p m ≡ end_at k q n) same (within_instance plan i p q m n lm)

earlier_less : (plan : Plan) (a b : End) → IsThere plan a → a.instance < b.instance →
    number_of plan a < number_of plan b
earlier_less plan a b there lt =
    let own : number_of plan a < first_of plan (a.instance + 1) = end_fits plan a there in
    let up : first_of plan (a.instance + 1) ≤ first_of plan b.instance =
    first_le plan (a.instance + 1) b.instance (omega arith) in
    omega arith

-- ends of one number are one
pub ends_apart : (plan : Plan) (a b : End) → IsThere plan a → IsThere plan b → number_of plan a ≡ number_of plan b →
    a ≡ b
ends_apart plan a b at bt same = go (cases_order a.instance b.instance)
  where
    go : (a.instance ≡ b.instance) ⊎ ((a.instance < b.instance) ⊎ (b.instance < a.instance)) → a ≡ b
    go (inl e) = same_place plan a.instance b.instance a.port b.port a.number b.number e at.1 bt.1 same
    go (inr (inl lt)) = let less : number_of plan a < number_of plan b = earlier_less plan a b at lt in
        absurd (omega arith)
    go (inr (inr lt)) = let less : number_of plan b < number_of plan a = earlier_less plan b a bt lt in
        absurd (omega arith)
