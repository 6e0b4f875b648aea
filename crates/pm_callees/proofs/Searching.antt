-- Caller ports looked at one by one.
use Rattle.std.proofs.Common.{◌≡◌, ◌∙◌, ◌+◌, ◌<◌, ◌≤◌, ◌⊎◌, ℕ, List, length, Bool, true, sym, ap, subst, inl, inr, arith}
use Rattle.std.proofs.lemmas.Bool.{cases_lt}
use Rattle.pm_design.specs.declared.plan.Plan.{Plan}
use Rattle.pm_design.specs.Calls.{End}
use Rattle.pm_design.specs.Runnable.{kind_at}
use Rattle.pm_callees.specs.declared.tally.Methods.{Methods}
use Rattle.pm_callees.specs.Ends.{IsPort, ends_of}
use Rattle.pm_callees.specs.Numbers.{end_at}
use Rattle.pm_callees.specs.Search.{NoneBefore, methods_at}

-- one port more
pub none_more : (plan : Plan) (leasts : List ℕ) (tally : List Methods) (wanted found : Methods) (i n : ℕ) →
    found ≡ methods_at plan leasts tally (end_at i true n) → (found ≡ wanted → ⊥) →
    NoneBefore plan leasts tally wanted i n → NoneBefore plan leasts tally wanted i (n + 1)
none_more plan leasts tally wanted found i n is ne none q port (inl lt) = none q port (inl lt)
none_more plan leasts tally wanted found i n is ne none q port (inr here) = go (cases_lt q.number n)
  where
    go : (q.number < n) ⊎ (n ≤ q.number) → methods_at plan leasts tally q ≡ wanted → ⊥
    go (inl lt) at = none q port (inr (here.0, lt)) at
    go (inr le) at =
        let high : q.number < n + 1 = here.1 in
        let number : q.number ≡ n = omega arith in
        let same : q ≡ end_at i true n =
        ap (λ (p : Bool). end_at q.instance p q.number) port.0
        ∙ (ap (λ (j : ℕ). end_at j true q.number) here.0 ∙ ap (end_at i true) number) in
        ne (is ∙ (sym (ap (methods_at plan leasts tally) same) ∙ at))

-- all ports of an instance
pub none_next : (plan : Plan) (leasts : List ℕ) (tally : List Methods) (wanted : Methods) (i n : ℕ) →
    length (kind_at plan i).callers ≤ n → NoneBefore plan leasts tally wanted i n →
    NoneBefore plan leasts tally wanted (i + 1) 0
none_next plan leasts tally wanted i n le none q port (inr here) = let lt : q.number < 0 = here.1 in
    absurd (omega arith)
none_next plan leasts tally wanted i n le none q port (inl lt) = go (cases_lt q.instance i)
  where
    ends : Bool → ℕ
    ends p = ends_of (kind_at plan q.instance) p

    go : (q.instance < i) ⊎ (i ≤ q.instance) → methods_at plan leasts tally q ≡ wanted → ⊥
    go (inl less) = none q port (inl less)
    go (inr more) =
        let same : q.instance ≡ i = omega arith in
        let number : q.number < length (kind_at plan q.instance).callers =
        subst (λ (p : Bool). q.number < ends p) port.0 port.1.1 in
        let here : length (kind_at plan q.instance).callers ≡ length (kind_at plan i).callers =
        ap (λ (j : ℕ). length (kind_at plan j).callers) same in
        none q port (inr (same, omega arith))

-- no port is before the first one
pub none_first : (plan : Plan) (leasts : List ℕ) (tally : List Methods) (wanted : Methods) →
    NoneBefore plan leasts tally wanted 0 0
none_first plan leasts tally wanted q port (inl lt) = absurd (omega arith)
none_first plan leasts tally wanted q port (inr here) = let lt : q.number < 0 = here.1 in absurd (omega arith)

-- all ports of all instances
pub none_all : (plan : Plan) (leasts : List ℕ) (tally : List Methods) (wanted : Methods) (i : ℕ) →
    length plan.instances ≤ i → NoneBefore plan leasts tally wanted i 0 → (q : End) → IsPort plan q →
    methods_at plan leasts tally q ≡ wanted → ⊥
none_all plan leasts tally wanted i le none q port =
    none q port (inl (let lt : q.instance < length plan.instances = port.1.0 in omega arith))
