-- What elaboration promises of kinds.
use Rattle.std.proofs.Common.{◌≡◌, ◌⊎◌, ◌+◌, ◌*◌, ◌<◌, ◌≤◌, ◌^◌, ℕ, List, [], ◌∷◌, length, map}
use Rattle.std.proofs.Common.{sym, subst, arith, inl, inr, leb-true, ltb-true, lt-ltb}
use Rattle.std.specs.Prelude.{IsTrue, nat_le}
use Rattle.std.specs.List.{list_all}
use Rattle.std.proofs.lemmas.Bool.{and_parts, and_from, cases_lt}
use Rattle.std.proofs.lemmas.List.{get_or_past}
use Rattle.pm_design.specs.declared.design.Child.{Child}
use Rattle.pm_design.specs.declared.design.Design.{Design}
use Rattle.pm_design.specs.declared.design.Kind.{Kind}
use Rattle.pm_design.specs.declared.signal.Signal.{Signal}
use Rattle.pm_design.specs.Elaborated.{IsElaborated, is_before, is_good_signal, is_shape_or_none}
use Rattle.pm_design.specs.Instances.{own_bits}
use Rattle.pm_design.specs.Lookups.{kind_of, no_kind}
use Rattle.pm_design.specs.Widths.{total, is_width}

-- what holds of each kind and of the one that is nowhere holds of each number's kind
pub of_each : (P : Kind → Type 0) (design : Design) → ((k : ℕ) → k < length design.kinds → P (kind_of design k)) →
    P no_kind →
    (k : ℕ) → P (kind_of design k)
of_each P design each none k = go (cases_lt k (length design.kinds))
  where
    go : (k < length design.kinds) ⊎ (length design.kinds ≤ k) → P (kind_of design k)
    go (inl lt) = each k lt
    go (inr le) = subst P (sym (get_or_past design.kinds k no_kind le)) none

-- a kind's children are before it
pub ordered : (design : Design) → IsElaborated design → (k : ℕ) → k < length design.kinds →
    IsTrue (list_all (is_before k) (kind_of design k).children)
ordered design elaborated k lt = (elaborated.kinds k lt).children

-- so many states
pub few_states : (design : Design) → IsElaborated design → (k : ℕ) → length (kind_of design k).states ≤ 2 ^ 20
few_states design elaborated =
    of_each (λ kind. length kind.states ≤ 2 ^ 20) design (λ k lt. (elaborated.kinds k lt).sized.states) (omega arith)

-- widths are at most 128
widths_fit : (design : Design) (ss : List Signal) → IsTrue (list_all (is_good_signal design) ss) →
    total (map (λ s. s.width) ss) ≤ 128 * length ss
widths_fit design [] all = omega arith
widths_fit design (s ∷ ss) all =
    let both = and_parts (is_good_signal design s) (list_all (is_good_signal design) ss) all in
    let width = (and_parts (is_width s.width) (is_shape_or_none design s.shape) both.0).0 in
    let fits : s.width ≤ 128 = leb-true s.width 128 (and_parts (nat_le 1 s.width) (nat_le s.width 128) width).1 in
    let rest : total (map (λ s. s.width) ss) ≤ 128 * length ss = widths_fit design ss both.1 in
    omega arith

-- so many bits
pub few_bits : (design : Design) → IsElaborated design → (k : ℕ) → own_bits (kind_of design k) ≤ 2 ^ 28
few_bits design elaborated = of_each (λ kind. own_bits kind ≤ 2 ^ 28) design each (omega arith)
  where
    each : (k : ℕ) → k < length design.kinds → own_bits (kind_of design k) ≤ 2 ^ 28
    each k lt =
        let some : length (kind_of design k).signals ≤ 2 ^ 21 = (elaborated.kinds k lt).sized.signals in
        let fits : own_bits (kind_of design k) ≤ 128 * length (kind_of design k).signals =
        widths_fit design (kind_of design k).signals (elaborated.kinds k lt).signals in
        omega arith

pub before_more : (cs : List Child) (k n : ℕ) → k ≤ n → IsTrue (list_all (is_before k) cs) →
    IsTrue (list_all (is_before n) cs)
before_more [] k n le all = all
before_more (c ∷ cs) k n le all =
    let both = and_parts (is_before k c) (list_all (is_before k) cs) all in
    let less : c.kind < k = ltb-true c.kind k both.0 in
    and_from (is_before n c) (list_all (is_before n) cs) (lt-ltb c.kind n (omega arith))
    (before_more cs k n le both.1)

-- a kind's children have kinds of the design
pub children_known : (design : Design) → IsElaborated design → (k : ℕ) (cs : List Child) → k < length design.kinds →
    cs ≡ (kind_of design k).children → IsTrue (list_all (is_before (length design.kinds)) cs)
children_known design elaborated k cs known is =
    subst (λ (l : List Child). IsTrue (list_all (is_before (length design.kinds)) l)) (sym is)
    (before_more (kind_of design k).children k (length design.kinds) (omega arith)
    (ordered design elaborated k known))

-- the numbers of a component's instances
pub few_numbers : (design : Design) → IsElaborated design → (k : ℕ) (cs : List Child) (number : ℕ) →
    k < length design.kinds →
    cs ≡ (kind_of design k).children → number < 4096 →
    number + 1 + total (map (λ c. (kind_of design c.kind).instances) cs) < 2 ^ 32
few_numbers design elaborated k cs number known is low =
    subst (λ (l : List Child). number + 1 + total (map (λ c. (kind_of design c.kind).instances) l) < 2 ^ 32) (sym is)
    (let size : (kind_of design k).instances ≡ 1 + total (map (λ c. (kind_of design c.kind).instances)
    (kind_of design k).children) =
    (elaborated.kinds k known).sized.instances in
    let few : (kind_of design k).instances ≤ 4096 = (elaborated.kinds k known).sized.few_instances in
    omega arith)
