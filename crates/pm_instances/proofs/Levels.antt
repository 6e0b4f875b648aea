-- Instances through some levels: what hangs on how many, and how many instances and bits there are.
use Rattle.std.proofs.Common.{◌≡◌, ◌∙◌, ◌+◌, ◌*◌, ◌<◌, ◌≤◌, ◌^◌, ◌++◌, ℕ, zero, suc, List, [], ◌∷◌, length, map, refl}
use Rattle.std.proofs.Common.{sym, ap, ap₂, arith, Option, Some, codes, ltb-true}
use Rattle.std.specs.Prelude.{IsTrue}
use Rattle.std.specs.List.{list_all}
use Rattle.std.proofs.lemmas.Bool.{and_parts}
use Rattle.std.proofs.lemmas.List.{length-append}
use Rattle.pm_design.specs.declared.design.Child.{Child}
use Rattle.pm_design.specs.declared.design.Design.{Design}
use Rattle.pm_design.specs.declared.plan.Instance.{Instance}
use Rattle.pm_design.specs.Elaborated.{IsElaborated, is_before}
use Rattle.pm_design.specs.Instances.{Place, behind, behind_one, instances_at, of_children, own_bits}
use Rattle.pm_design.specs.Lookups.{kind_of}
use Rattle.pm_design.specs.Widths.{total}
use Rattle.pm_instances.specs.Adding.{instance_here}
use Rattle.pm_instances.specs.BitsBelow.{bits_to}
use Rattle.pm_instances.proofs.EachKind.{ordered, few_bits}

-- the instances of a child, through so many levels
abbrev pub child_at : ℕ → Design → ℕ → List ℕ → Place → Child → List Instance
child_at levels design number path here c = instances_at levels design (Some number) (path ++ codes "." ++
    c.name) here c.kind

-- children have the same instances where each child has
pub of_children_same : (design : Design) (f g : Place → Child →
    List Instance) (k : ℕ) (at : Place) (cs : List Child) →
    IsTrue (list_all (is_before k) cs) → ((here : Place) (c : Child) → c.kind < k → f here c ≡ g here c) →
    of_children design f at cs ≡ of_children design g at cs
of_children_same design f g k at [] all same = refl
of_children_same design f g k at (c ∷ cs) all same =
    let both = and_parts (is_before k c) (list_all (is_before k) cs) all in
    let here : f at c ≡ g at c = same at c (ltb-true c.kind k both.0) in
    ap₂ (λ (xs ys : List Instance). xs ++ ys) here
    (of_children_same design f g k (behind design (f at c) at) cs both.1 same
    ∙ ap (λ (xs : List Instance). of_children design g (behind design xs at) cs) here)

-- more levels than the kind's number change nothing
pub same_levels : (n m : ℕ) (design : Design) → IsElaborated design →
    (parent : Option ℕ) (path : List ℕ) (at : Place) (k : ℕ) →
    k < n → k < m → k < length design.kinds → instances_at n design parent path at k ≡ instances_at m design parent
    path at k
same_levels zero m design elaborated parent path at k l r known = absurd (omega arith)
same_levels (suc n) zero design elaborated parent path at k l r known = absurd (omega arith)
same_levels (suc n) (suc m) design elaborated parent path at k l r known =
    ap (λ (is : List Instance). instance_here design parent path at k ∷ is)
    (of_children_same design (child_at n design at.instance path) (child_at m design at.instance path) k
    (behind_one (kind_of design k) at) (kind_of design k).children (ordered design elaborated k known)
    (λ here c less. same_levels n m design elaborated (Some at.instance) (path ++ codes "." ++ c.name) here c.kind
    (omega arith) (omega arith) (omega arith)))

-- a sum over the instances of children is the sum over the children
children_total : (design : Design) (g : Instance → ℕ) (h : Child → ℕ) (f : Place → Child →
    List Instance) (at : Place) (cs : List Child) →
    ((here : Place) (c : Child) → total (map g (f here c)) ≡ h c) →
    total (map g (of_children design f at cs)) ≡ total (map h cs)
children_total design g h f at [] each = refl
children_total design g h f at (c ∷ cs) each =
    let one : total (map g (f at c)) ≡ h c = each at c in
    let rest : total (map g (of_children design f (behind design (f at c) at) cs)) ≡ total (map h cs) =
    children_total design g h f (behind design (f at c) at) cs each in
    total-append g (f at c) (of_children design f (behind design (f at c) at) cs) ∙ omega arith
  where
    total-append : (g : Instance → ℕ) (xs ys : List Instance) →
        total (map g (xs ++ ys)) ≡ total (map g xs) + total (map g ys)
    total-append g [] ys = omega arith
    total-append g (x ∷ xs) ys = let e : total (map g (xs ++ ys)) ≡ total (map g xs) + total (map g ys) =
        total-append g xs ys in omega arith

-- the bits of a component's instances
pub bits_total : (n : ℕ) (design : Design) (parent : Option ℕ) (path : List ℕ) (at : Place) (k : ℕ) →
    total (map (λ i. own_bits (kind_of design i.kind)) (instances_at n design parent path at k)) ≡ bits_to n design k
unfolding bits_to
bits_total zero design parent path at k = refl
bits_total (suc n) design parent path at k =
    ap (λ (b : ℕ). own_bits (kind_of design k) + b)
    (children_total design (λ i. own_bits (kind_of design i.kind)) (λ c. bits_to n design c.kind)
    (child_at n design at.instance path) (behind_one (kind_of design k) at) (kind_of design k).children
    (λ here c. bits_total n design (Some at.instance) (path ++ codes "." ++ c.name) here c.kind))

-- more levels than the kind's number don't change the bits
pub same_bits : (n m : ℕ) (design : Design) → IsElaborated design → (k : ℕ) → k < n → k < m →
    k < length design.kinds →
    bits_to n design k ≡ bits_to m design k
same_bits n m design elaborated k l r known =
    let at : Place = record { instance = 0; bit = 0; state = 0 } in
    sym (bits_total n design (Some 0) [] at k)
    ∙ (ap (λ (is : List Instance). total (map (λ i. own_bits (kind_of design i.kind)) is))
    (same_levels n m design elaborated (Some 0) [] at k l r known)
    ∙ bits_total m design (Some 0) [] at k)

-- where each kind's is at most so many times another number, so are the sums over children
children_fit : (f g : ℕ → ℕ) (k : ℕ) (cs : List Child) → IsTrue (list_all (is_before k) cs) →
    ((j : ℕ) → j < k → f j ≤ g j * 2 ^ 28) → total (map (λ c. f c.kind) cs) ≤ total (map (λ c. g c.kind) cs) * 2 ^ 28
children_fit f g k [] all each = omega arith
children_fit f g k (c ∷ cs) all each =
    let both = and_parts (is_before k c) (list_all (is_before k) cs) all in
    let one : f c.kind ≤ g c.kind * 2 ^ 28 = each c.kind (ltb-true c.kind k both.0) in
    let rest : total (map (λ c. f c.kind) cs) ≤ total (map (λ c. g c.kind) cs) * 2 ^ 28 =
    children_fit f g k cs both.1 each in
    omega arith

-- a design has few bits for its instances
pub bits_fit : (n : ℕ) (design : Design) → IsElaborated design → (k : ℕ) → k < length design.kinds →
    bits_to n design k ≤ (kind_of design k).instances * 2 ^ 28
unfolding bits_to
bits_fit zero design elaborated k known = omega arith
bits_fit (suc n) design elaborated k known =
    let own : own_bits (kind_of design k) ≤ 2 ^ 28 = few_bits design elaborated k in
    let size : (kind_of design k).instances ≡ 1 + total (map (λ c. (kind_of design c.kind).instances)
    (kind_of design k).children) =
    (elaborated.kinds k known).sized.instances in
    let rest : total (map (λ c. bits_to n design c.kind) (kind_of design k).children)
    ≤ total (map (λ c. (kind_of design c.kind).instances) (kind_of design k).children) * 2 ^ 28 =
    children_fit (bits_to n design) (λ j. (kind_of design j).instances) k (kind_of design k).children
    (ordered design elaborated k known) (λ j less. bits_fit n design elaborated j (omega arith)) in
    omega arith

-- the instances of children are as many as those of each child in all
children_length : (design : Design) (f : Place → Child → List Instance) (g : ℕ →
    ℕ) (k : ℕ) (here : Place) (cs : List Child) →
    IsTrue (list_all (is_before k) cs) → ((at : Place) (c : Child) → c.kind < k → length (f at c) ≡ g c.kind) →
    length (of_children design f here cs) ≡ total (map (λ c. g c.kind) cs)
children_length design f g k here [] all each = refl
children_length design f g k here (c ∷ cs) all each =
    let both = and_parts (is_before k c) (list_all (is_before k) cs) all in
    let one : length (f here c) ≡ g c.kind = each here c (ltb-true c.kind k both.0) in
    let rest : length (of_children design f (behind design (f here c) here) cs) ≡ total (map (λ c. g c.kind) cs) =
    children_length design f g k (behind design (f here c) here) cs both.1 each in
    length-append (f here c) (of_children design f (behind design (f here c) here) cs) ∙ omega arith

-- a component has as many instances as its kind says
pub instances_total : (n : ℕ) (design : Design) → IsElaborated design →
    (parent : Option ℕ) (path : List ℕ) (at : Place) (k : ℕ) →
    k < n → k < length design.kinds → length (instances_at n design parent path at k) ≡ (kind_of design k).instances
instances_total zero design elaborated parent path at k l known = absurd (omega arith)
instances_total (suc n) design elaborated parent path at k l known =
    let size : (kind_of design k).instances ≡ 1 + total (map (λ c. (kind_of design c.kind).instances)
    (kind_of design k).children) =
    (elaborated.kinds k known).sized.instances in
    let rest : length (of_children design (child_at n design at.instance path) (behind_one (kind_of design k) at)
    (kind_of design k).children)
    ≡ total (map (λ c. (kind_of design c.kind).instances) (kind_of design k).children) =
    children_length design (child_at n design at.instance path) (λ j. (kind_of design j).instances) k
    (behind_one (kind_of design k) at) (kind_of design k).children (ordered design elaborated k known)
    (λ here c less. instances_total n design elaborated (Some at.instance) (path ++ codes "." ++
    c.name) here c.kind
    (omega arith) (omega arith)) in
    omega arith
