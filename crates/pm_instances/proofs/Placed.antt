-- Where instances are in the list, and what their numbers name.
use Rattle.std.proofs.Common.{◌≡◌, ◌∙◌, ◌+◌, ◌<◌, ◌≤◌, ◌++◌, ℕ, zero, suc, List, [], ◌∷◌, length, map}
use Rattle.std.proofs.Common.{get_or}
use Rattle.std.proofs.Common.{refl, sym, ap, subst, arith, Option, None, Some, codes, ltb-true}
use Rattle.std.specs.Prelude.{IsTrue}
use Rattle.std.specs.List.{list_all}
use Rattle.std.proofs.lemmas.Bool.{and_parts}
use Rattle.std.proofs.lemmas.List.{get_or_append_left, get_or-append-add, length-append}
use Rattle.pm_design.specs.declared.design.Child.{Child}
use Rattle.pm_design.specs.declared.design.Design.{Design}
use Rattle.pm_design.specs.declared.plan.Instance.{Instance}
use Rattle.pm_design.specs.Elaborated.{IsElaborated, is_before}
use Rattle.pm_design.specs.Instances.{Place, behind, behind_one, instances_at, instances_of, flat_bits, numbers_from}
use Rattle.pm_design.specs.Instances.{of_children, own_bits}
use Rattle.pm_design.specs.Layout.{instance_of, no_instance}
use Rattle.pm_design.specs.Lookups.{kind_of, no_child}
use Rattle.pm_design.specs.Runnable.{kind_at}
use Rattle.pm_design.specs.Widths.{total}
use Rattle.pm_instances.specs.Laid.{IsLaid, laid_out}
use Rattle.pm_instances.proofs.Behind.{bit-behind, instance-behind}
use Rattle.pm_instances.proofs.EachKind.{ordered}
use Rattle.pm_instances.proofs.Levels.{child_at, instances_total}

-- a list that begins with the instance of a number has one of a kind at another number
pub record HasKind (is : List Instance) (first n k : ℕ) : Type 0 where
  pub place : ℕ
  pub number : n ≡ first + place
  pub within : place < length is
  pub kind : (d : Instance) → (get_or is place d).kind ≡ k

-- an instance's children have instances of their kinds in the list
abbrev pub HasChildren : Design → List Instance → ℕ → Instance → Type 0
HasChildren design is first i = (c : ℕ) (d : ℕ) (e : Child) → c < length (kind_of design i.kind).children →
    HasKind is first (get_or i.children c d) (get_or (kind_of design i.kind).children c e).kind

-- each instance of a list has a kind, its bits from its place on, and its children in a longer list
pub AreLaid : Design → List Instance → ℕ → Place → List Instance → Type 0
AreLaid design whole first at [] = Unit {0}
AreLaid design whole first at (i ∷ is) =
    (i.kind < length design.kinds) × (i.first_bit ≡ at.bit) × HasChildren design whole first i
    × AreLaid design whole first (behind_one (kind_of design i.kind) at) is

laid-append : (design : Design) (whole : List Instance) (first : ℕ) (at : Place) (xs ys : List Instance) →
    AreLaid design whole first at xs → AreLaid design whole first (behind design xs at) ys →
    AreLaid design whole first at (xs ++ ys)
unfolding AreLaid
laid-append design whole first at [] ys l r = r
laid-append design whole first at (x ∷ xs) ys l r =
    (l.0, l.1, l.2, laid-append design whole first (behind_one (kind_of design x.kind) at) xs ys l.3 r)

-- what is in a part of a list is in the list
kind_left : (xs ys : List Instance) (first n k : ℕ) → HasKind xs first n k → HasKind (xs ++ ys) first n k
kind_left xs ys first n k has = record {
  place = has.place;
  number = has.number;
  within = let w : has.place < length xs = has.within in let e : length (xs ++ ys) ≡ length xs + length ys =
      length-append xs ys in omega arith;
  kind = λ d. ap (λ (i : Instance). i.kind) (get_or_append_left xs ys d has.place has.within) ∙ has.kind d;
}

kind_right : (xs ys : List Instance) (first next n k : ℕ) → next ≡ first + length xs → HasKind ys next n k →
    HasKind (xs ++ ys) first n k
kind_right xs ys first next n k is has = record {
  place = length xs + has.place;
  number = let e : n ≡ next + has.place = has.number in omega arith;
  within = let w : has.place < length ys = has.within in let e : length (xs ++ ys) ≡ length xs + length ys =
      length-append xs ys in omega arith;
  kind = λ d. ap (λ (i : Instance). i.kind) (get_or-append-add xs ys has.place d) ∙ has.kind d;
}

-- what is laid in a part of a list is laid in the list
laid_in : (design : Design) (some whole : List Instance) (first next : ℕ) (at : Place) (is : List Instance) →
    ((n k : ℕ) → HasKind some first n k → HasKind whole next n k) → AreLaid design some first at is →
    AreLaid design whole next at is
unfolding AreLaid
laid_in design some whole first next at [] more laid = tt
laid_in design some whole first next at (i ∷ is) more laid = (
  laid.0,
  laid.1,
  (λ c d e lt. more (get_or i.children c d) (get_or (kind_of design i.kind).children c e).kind
      (laid.2 c d e lt)),
  laid_in design some whole first next (behind_one (kind_of design i.kind) at) is more laid.3,
)

-- each child's instances are laid, and the first of them is its own
children_laid : (design : Design) (f : Place → Child → List Instance) (k : ℕ) (at : Place) (cs : List Child) →
    IsTrue (list_all (is_before k) cs) →
    ((here : Place) (c : Child) → c.kind < k → AreLaid design (f here c) here.instance here (f here c)) →
    AreLaid design (of_children design f at cs) at.instance at (of_children design f at cs)
unfolding AreLaid
children_laid design f k at [] all each = tt
children_laid design f k at (c ∷ cs) all each =
    let both = and_parts (is_before k c) (list_all (is_before k) cs) all in
    let here : Place = behind design (f at c) at in
    let rest : List Instance = of_children design f (behind design (f at c) at) cs in
    laid-append design (f at c ++ rest) at.instance at (f at c) rest
    (laid_in design (f at c) (f at c ++ rest) at.instance at.instance at (f at c)
    (kind_left (f at c) rest at.instance)
    (each at c (ltb-true c.kind k both.0)))
    (laid_in design rest (f at c ++ rest) here.instance at.instance here rest
    (λ n j. kind_right (f at c) rest at.instance here.instance n j (instance-behind design (f at c) at))
    (children_laid design f k here cs both.1 each))

-- the numbers of children name their instances
numbers_named : (design : Design) (f : Place → Child → List Instance) (k : ℕ) (at : Place) (cs : List Child) →
    IsTrue (list_all (is_before k) cs) →
    ((here : Place) (c : Child) → c.kind < k → HasKind (f here c) here.instance here.instance c.kind) →
    ((here : Place) (c : Child) → c.kind < k → length (f here c) ≡ (kind_of design c.kind).instances) →
    (j d : ℕ) (e : Child) → j < length cs →
    HasKind (of_children design f at cs) at.instance (get_or (numbers_from design at.instance cs) j d)
    (get_or cs j e).kind
numbers_named design f k at [] all each sizes j d e lt = absurd (omega arith)
numbers_named design f k at (c ∷ cs) all each sizes zero d e lt =
    let both = and_parts (is_before k c) (list_all (is_before k) cs) all in
    kind_left (f at c) (of_children design f (behind design (f at c) at) cs) at.instance at.instance c.kind
    (each at c (ltb-true c.kind k both.0))
numbers_named design f k at (c ∷ cs) all each sizes (suc j) d e lt =
    let both = and_parts (is_before k c) (list_all (is_before k) cs) all in
    let here : Place = behind design (f at c) at in
    let rest : List Instance = of_children design f (behind design (f at c) at) cs in
    let count : (behind design (f at c) at).instance ≡ at.instance + length (f at c) =
    instance-behind design (f at c) at in
    let size : length (f at c) ≡ (kind_of design c.kind).instances = sizes at c (ltb-true c.kind k both.0) in
    let next : here.instance ≡ at.instance + (kind_of design c.kind).instances = count ∙
    ap (λ (n : ℕ). at.instance + n) size in
    subst (λ (m : ℕ). HasKind (f at c ++ rest) at.instance (get_or (numbers_from design m cs) j d)
    (get_or cs j e).kind) next
    (kind_right (f at c) rest at.instance here.instance (get_or (numbers_from design here.instance cs) j d)
    (get_or cs j e).kind count
    (numbers_named design f k here cs both.1 each sizes j d e (omega arith)))

-- a component's first instance is its own
first_kind : (n : ℕ) (design : Design) (parent : Option ℕ) (path : List ℕ) (at : Place) (k : ℕ) → k < n →
    HasKind (instances_at n design parent path at k) at.instance at.instance k
first_kind zero design parent path at k l = absurd (omega arith)
first_kind (suc n) design parent path at k l = record {
  place = 0;
  number = omega arith;
  within = omega arith;
  kind =
      λ d. refl;
}

-- a component's instances are laid
below_laid : (n : ℕ) (design : Design) → IsElaborated design →
    (parent : Option ℕ) (path : List ℕ) (at : Place) (k : ℕ) →
    k < n → k < length design.kinds →
    AreLaid design (instances_at n design parent path at k) at.instance at (instances_at n design parent path at k)
unfolding AreLaid
below_laid zero design elaborated parent path at k l known = absurd (omega arith)
below_laid (suc n) design elaborated parent path at k l known =
    let cs : List Child = (kind_of design k).children in
    let f : Place → Child → List Instance = child_at n design at.instance path in
    let here : Place = behind_one (kind_of design k) at in
    let rest : List Instance = of_children design f here cs in
    let own : List Instance = record {
      path = path;
      kind = k;
      parent = parent;
      children = numbers_from design (at.instance + 1) cs;
      first_bit = at.bit;
      first_state = at.state;
    } ∷ [] in
    let more : (m j : ℕ) → HasKind rest (at.instance + 1) m j → HasKind (own ++ rest) at.instance m j =
    λ m j. kind_right own rest at.instance (at.instance + 1) m j (omega arith) in (
      known,
      refl,
      (λ c d e lt. more (get_or (numbers_from design (at.instance + 1) cs) c d) (get_or cs c e).kind
          (numbers_named design f k here cs (ordered design elaborated k known)
          (λ at_child c less. first_kind n design (Some at.instance) (path ++ codes "." ++
          c.name) at_child c.kind (omega arith))
          (λ at_child c less. instances_total n design elaborated (Some at.instance) (path ++ codes "." ++
          c.name) at_child c.kind
          (omega arith) (omega arith)) c d e lt)),
      laid_in design rest (own ++ rest) (at.instance + 1) at.instance here rest more
          (children_laid design f k here cs (ordered design elaborated k known)
          (λ at_child c less. below_laid n design elaborated (Some at.instance) (path ++ codes "." ++
          c.name) at_child c.kind
          (omega arith) (omega arith))),
    )

-- what is laid, element by element
laid_at : (design : Design) (whole : List Instance) (first : ℕ) (at : Place) (is : List Instance) →
    AreLaid design whole first at is →
    (j : ℕ) (d : Instance) → j < length is →
    ((get_or is j d).kind < length design.kinds)
    × ((get_or is j d).first_bit + own_bits (kind_of design (get_or is j d).kind) ≤ (behind design is at).bit)
    × HasChildren design whole first (get_or is j d)
unfolding AreLaid
laid_at design whole first at [] laid j d lt = absurd (omega arith)
laid_at design whole first at (i ∷ is) laid zero d lt =
    let e : (behind design is (behind_one (kind_of design i.kind) at)).bit
    ≡ at.bit + own_bits (kind_of design i.kind) + total (map (λ i. own_bits (kind_of design i.kind)) is) =
    bit-behind design is (behind_one (kind_of design i.kind) at) in
    let b : i.first_bit ≡ at.bit = laid.1 in
    (laid.0, omega arith, laid.2)
laid_at design whole first at (i ∷ is) laid (suc j) d lt =
    laid_at design whole first (behind_one (kind_of design i.kind) at) is laid.3 j d (omega arith)

-- a design's instances are laid out
pub is_laid : (design : Design) → IsElaborated design → IsLaid (laid_out design)
is_laid design elaborated = record {
  kinds = λ i lt. (each i lt).0;
  bits = λ i lt.
      let fits : (get_or all i none).first_bit + own_bits (kind_of design (get_or all i none).kind) ≤
      (behind design all start).bit = (each i lt).1 in
      let e : (behind design all start).bit ≡ 0 + flat_bits design = bit-behind design all start in
      omega arith;
  children = λ i c lt ct.
      let has = (each i lt).2 c (length all) (no_child design.kinds) ct in
      let n : ℕ = get_or (get_or all i none).children c (length all) in
      let is : get_or (get_or all i none).children c (length all) ≡ 0 + has.place = has.number in
      let w : has.place < length all = has.within in
      (omega arith, ap (λ (m : ℕ). (get_or all m none).kind) (is ∙ omega arith) ∙ has.kind none);
}
  where
    all : List Instance
    all = instances_of design

    none : Instance
    none = no_instance (laid_out design)

    start : Place
    start = record { instance = 0; bit = 0; state = 0 }

    each : (i : ℕ) → i < length all →
        ((get_or all i none).kind < length design.kinds)
        × ((get_or all i none).first_bit + own_bits (kind_of design (get_or all i none).kind) ≤
        (behind design all start).bit)
        × HasChildren design all 0 (get_or all i none)
    each i lt = laid_at design all 0 start all
        (below_laid (length design.kinds) design elaborated None
        (codes "s") start design.top elaborated.top elaborated.top) i none lt

-- the bits of laid instances follow one another
first_at : (design : Design) (whole : List Instance) (first : ℕ) (at : Place) (is : List Instance) →
    AreLaid design whole first at is → (d : Instance) → 0 < length is → (get_or is 0 d).first_bit ≡ at.bit
unfolding AreLaid
first_at design whole first at [] laid d lt = absurd (omega arith)
first_at design whole first at (i ∷ is) laid d lt = laid.1

next_at : (design : Design) (whole : List Instance) (first : ℕ) (at : Place) (is : List Instance) →
    AreLaid design whole first at is → (j : ℕ) (d : Instance) → suc j < length is →
    (get_or is (suc j) d).first_bit ≡ (get_or is j d).first_bit + own_bits (kind_of design (get_or is j d).kind)
unfolding AreLaid
next_at design whole first at [] laid j d lt = absurd (omega arith)
next_at design whole first at (i ∷ is) laid zero d lt =
    let here : i.first_bit ≡ at.bit = laid.1 in
    let next : (get_or is 0 d).first_bit ≡ at.bit + own_bits (kind_of design i.kind) =
    first_at design whole first (behind_one (kind_of design i.kind) at) is laid.3 d (omega arith) in
    omega arith
next_at design whole first at (i ∷ is) laid (suc j) d lt =
    next_at design whole first (behind_one (kind_of design i.kind) at) is laid.3 j d (omega arith)

last_at : (design : Design) (whole : List Instance) (first : ℕ) (at : Place) (is : List Instance) →
    AreLaid design whole first at is → (j : ℕ) (d : Instance) → length is ≡ suc j →
    (behind design is at).bit ≡ (get_or is j d).first_bit + own_bits (kind_of design (get_or is j d).kind)
unfolding AreLaid
last_at design whole first at [] laid j d e = absurd (omega arith)
last_at design whole first at (i ∷ []) laid zero d e = let here : i.first_bit ≡ at.bit = laid.1 in omega arith
last_at design whole first at (i ∷ x ∷ is) laid zero d e = absurd (omega arith)
last_at design whole first at (i ∷ is) laid (suc j) d e =
    last_at design whole first (behind_one (kind_of design i.kind) at) is laid.3 j d (omega arith)

all_laid : (design : Design) → IsElaborated design →
    AreLaid design (instances_of design) 0 (record { instance = 0; bit = 0; state = 0 }) (instances_of design)
all_laid design elaborated =
    below_laid (length design.kinds) design elaborated None (codes "s") (record { instance = 0; bit = 0; state = 0 })
    design.top elaborated.top elaborated.top

-- the bits of an instance end where those of the next one begin, or where those of the design end
pub record EndsWell (design : Design) (i : ℕ) : Type 0 where
  pub next : i + 1 < length (instances_of design) → (instance_of (laid_out design) (i + 1)).first_bit
      ≡ (instance_of (laid_out design) i).first_bit + own_bits (kind_at (laid_out design) i)
  pub last : length (instances_of design) ≡ i + 1 →
      flat_bits design ≡ (instance_of (laid_out design) i).first_bit + own_bits (kind_at (laid_out design) i)

pub ends_well : (design : Design) → IsElaborated design → (i : ℕ) → EndsWell design i
ends_well design elaborated i = record {
  next = λ lt. subst (λ (k : ℕ). (get_or all k none).first_bit ≡ (get_or all i none).first_bit +
      own_bits (kind_of design (get_or all i none).kind)) one
      (next_at design all 0 start all (all_laid design elaborated) i none (omega arith));
  last = λ e.
      let same : (behind design all start).bit ≡ 0 + flat_bits design = bit-behind design all start in
      let ends : (behind design all start).bit ≡ (get_or all i none).first_bit +
      own_bits (kind_of design (get_or all i none).kind) =
      last_at design all 0 start all (all_laid design elaborated) i none (e ∙ sym one) in
      omega arith;
}
  where
    all : List Instance
    all = instances_of design

    none : Instance
    none = no_instance (laid_out design)

    start : Place
    start = record { instance = 0; bit = 0; state = 0 }

    one : suc i ≡ i + 1
    one = omega arith

-- the bits of the top begin at 0
pub top_begins : (design : Design) → IsElaborated design → 0 < length (instances_of design) →
    (instance_of (laid_out design) 0).first_bit ≡ 0
top_begins design elaborated some =
    first_at design (instances_of design) 0 (record { instance = 0; bit = 0; state = 0 }) (instances_of design)
    (all_laid design elaborated) (no_instance (laid_out design)) some
