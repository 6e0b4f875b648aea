-- The bits of each kind, from those of its children's kinds.
use Rattle.std.proofs.Common.{◌≡◌, ◌∙◌, ◌⊎◌, ◌+◌, ◌*◌, ◌<◌, ◌≤◌, ◌^◌, ◌++◌, ℕ, suc, List, [], ◌∷◌, length}
use Rattle.std.proofs.Common.{get_or, map, refl, sym, ap, ap₂, subst, arith, inl, inr, ltb-true}
use Rattle.std.specs.Prelude.{IsTrue}
use Rattle.std.specs.List.{list_all}
use Rattle.std.proofs.lemmas.Bool.{and_parts, cases_lt}
use Rattle.std.proofs.lemmas.List.{get_or_push, get_or_append_left, get_or_default, length-append}
use Rattle.pm_design.specs.declared.design.Child.{Child}
use Rattle.pm_design.specs.declared.design.Design.{Design}
use Rattle.pm_design.specs.declared.design.Kind.{Kind}
use Rattle.pm_design.specs.Elaborated.{IsElaborated, is_before}
use Rattle.pm_design.specs.Instances.{flat_bits, own_bits}
use Rattle.pm_design.specs.Lookups.{kind_of, no_kind}
use Rattle.pm_design.specs.Widths.{total}
use Rattle.pm_instances.specs.BitsBelow.{AreBits, bits_to}
use Rattle.pm_instances.proofs.EachKind.{ordered, few_bits}
use Rattle.pm_instances.proofs.Levels.{bits_total, bits_fit, same_bits}

-- an element of a list of kinds is the kind of its number
is_kind : (design : Design) (k : ℕ) (kind : Kind) → k < length design.kinds → kind ≡ get_or design.kinds k kind →
    kind ≡ kind_of design k
is_kind design k kind known is = is ∙ get_or_default design.kinds k kind no_kind known

pub own_fits : (design : Design) (k : ℕ) (kind : Kind) → IsElaborated design → k < length design.kinds →
    kind ≡ get_or design.kinds k kind → own_bits kind < 2 ^ 32
own_fits design k kind elaborated known is =
    let few : own_bits (kind_of design k) ≤ 2 ^ 28 = few_bits design elaborated k in
    subst (λ (x : Kind). own_bits x < 2 ^ 32) (sym (is_kind design k kind known is)) (omega arith)

pub own_children : (design : Design) (k : ℕ) (kind : Kind) → IsElaborated design → k < length design.kinds →
    kind ≡ get_or design.kinds k kind → IsTrue (list_all (is_before k) kind.children)
own_children design k kind elaborated known is =
    subst (λ (x : Kind). IsTrue (list_all (is_before k) x.children)) (sym (is_kind design k kind known is))
    (ordered design elaborated k known)

-- the bits within children are those that the list has
listed : (design : Design) (below : List ℕ) (n : ℕ) (cs : List Child) → IsElaborated design → AreBits design below →
    length below ≤ n → n ≤ length design.kinds → IsTrue (list_all (is_before (length below)) cs) →
    total (map (λ c. get_or below c.kind 0) cs) ≡ total (map (λ c. bits_to n design c.kind) cs)
listed design below n [] elaborated are le known all = refl
listed design below n (c ∷ cs) elaborated are le known all =
    let both = and_parts (is_before (length below) c) (list_all (is_before (length below)) cs) all in
    let less : c.kind < length below = ltb-true c.kind (length below) both.0 in
    ap₂ (λ (a b : ℕ). a + b)
    (are c.kind less ∙ same_bits (suc c.kind) n design elaborated c.kind (omega arith) (omega arith) (omega arith))
    (listed design below n cs elaborated are le known both.1)

-- a kind's bits are its own and those of its children
bits_more : (n : ℕ) (design : Design) (k : ℕ) →
    bits_to (suc n) design k ≡ own_bits (kind_of design k) + total
    (map (λ c. bits_to n design c.kind) (kind_of design k).children)
unfolding bits_to
bits_more n design k = refl

pub bits_of_kind : (design : Design) (below : List ℕ) (kind : Kind) → IsElaborated design → AreBits design below →
    length below < length design.kinds → kind ≡ get_or design.kinds (length below) kind →
    own_bits kind + total (map (λ c. get_or below c.kind 0) kind.children) ≡ bits_to (suc (length below)) design
    (length below)
bits_of_kind design below kind elaborated are known is =
    ap₂ (λ (a b : ℕ). a + b) (ap own_bits (is_kind design (length below) kind known is))
    (listed design below (length below) kind.children elaborated are (omega arith) (omega arith)
    (own_children design (length below) kind elaborated known is)
    ∙ ap (λ (x : Kind). total (map (λ c. bits_to (length below) design c.kind) x.children))
    (is_kind design (length below) kind known is))
    ∙ sym (bits_more (length below) design (length below))

pub within_fits : (design : Design) (below : List ℕ) (kind : Kind) → IsElaborated design → AreBits design below →
    length below < length design.kinds → kind ≡ get_or design.kinds (length below) kind →
    total (map (λ c. get_or below c.kind 0) kind.children) < 2 ^ 63
within_fits design below kind elaborated are known is =
    let k : ℕ = length below in
    let e : own_bits kind + total (map (λ c. get_or below c.kind 0) kind.children) ≡ bits_to
    (suc (length below)) design (length below) =
    bits_of_kind design below kind elaborated are known is in
    let fits : bits_to (suc (length below)) design (length below) ≤
    (kind_of design (length below)).instances * 2 ^ 28 =
    bits_fit (suc (length below)) design elaborated (length below) known in
    let few : (kind_of design (length below)).instances ≤ 4096 =
    (elaborated.kinds (length below) known).sized.few_instances in
    omega arith

pub ruleset kind_bits = (own_fits, own_children, bits_of_kind, within_fits)

pub no_bits : (design : Design) → AreBits design []
no_bits design k less = absurd (omega arith)

-- one kind more
pub more_bits : (design : Design) (below : List ℕ) (bits : ℕ) → AreBits design below →
    bits ≡ bits_to (suc (length below)) design (length below) → AreBits design (below ++ bits ∷ [])
more_bits design below bits are is k less = go (cases_lt k (length below))
  where
    go : (k < length below) ⊎ (length below ≤ k) → get_or (below ++ bits ∷ []) k 0 ≡ bits_to (suc k) design k
    go (inl lt) = get_or_append_left below (bits ∷ []) 0 k lt ∙ are k lt
    go (inr le) =
        let size : length (below ++ bits ∷ []) ≡ length below + 1 = length-append below (bits ∷ []) in
        let here : length below ≡ k = omega arith in
        get_or_push below bits 0 k here ∙ (is ∙ ap (λ (j : ℕ). bits_to (suc j) design j) here)

-- the top's bits are the design's
pub top_bits : (design : Design) (below : List ℕ) → IsElaborated design → AreBits design below →
    length design.kinds ≤ length below →
    get_or below design.top 0 ≡ flat_bits design
top_bits design below elaborated are all =
    let top : design.top < length design.kinds = elaborated.top in
    are design.top (omega arith)
    ∙ (same_bits (suc design.top) (length design.kinds) design elaborated design.top (omega arith) top top
    ∙ sym (bits_total (length design.kinds) design _ _ _ design.top))

pub ruleset design_bits = (no_bits, more_bits, top_bits)
