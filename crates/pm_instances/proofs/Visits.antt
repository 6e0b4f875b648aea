-- A component's instances, child by child.
use Rattle.std.proofs.Common.{◌≡◌, ◌∙◌, ◌+◌, ◌*◌, ◌<◌, ◌≤◌, ◌^◌, ◌++◌, ℕ, suc, List, [], ◌∷◌, length, drop}
use Rattle.std.proofs.Common.{get_or, map, refl, sym, ap, ap₂, subst, arith, Option, Some, None, codes}
use Rattle.std.specs.Prelude.{IsTrue}
use Rattle.std.specs.List.{list_all}
use Rattle.std.proofs.lemmas.List.{append_assoc, append-nil, drop_more, drop_all}
use Rattle.pm_design.specs.declared.design.Child.{Child}
use Rattle.pm_design.specs.declared.design.Design.{Design}
use Rattle.pm_design.specs.declared.plan.Instance.{Instance}
use Rattle.pm_design.specs.Elaborated.{IsElaborated, is_before}
use Rattle.pm_design.specs.Instances.{Place, behind, behind_one, instances_at, instances_of, flat_bits, of_children}
use Rattle.pm_design.specs.Instances.{own_bits}
use Rattle.pm_design.specs.Lookups.{kind_of}
use Rattle.pm_design.specs.Widths.{total}
use Rattle.pm_instances.specs.declared.flattening.Progress.{Progress}
use Rattle.pm_instances.specs.Adding.{Adds, HasRoom, below, instance_here, place_of}
use Rattle.pm_instances.proofs.Behind.{behind-append, bit-behind, instance-behind, states-behind}
use Rattle.pm_instances.proofs.EachKind.{ordered}
use Rattle.pm_instances.proofs.Levels.{same_levels, of_children_same, instances_total}
use Rattle.pm_instances.proofs.Numbers.{child_kind}

-- the instances of a child
abbrev pub of_child : Design → ℕ → List ℕ → Place → Child → List Instance
of_child design number path here c = below design (Some number) (path ++ codes "." ++ c.name) here c.kind

-- those of some children from a place on
abbrev pub of_rest : Design → ℕ → List ℕ → Progress → List Child → List Instance
of_rest design number path p cs = of_children design (of_child design number path) (place_of p) cs

-- a component's instances are itself and those of its children
pub below_is : (design : Design) → IsElaborated design → (parent : Option ℕ) (path : List ℕ) (at : Place) (k : ℕ) →
    k < length design.kinds →
    below design parent path at k ≡ instance_here design parent path at k
    ∷ of_children design (of_child design at.instance path) (behind_one (kind_of design k) at)
    (kind_of design k).children
below_is design elaborated parent path at k known =
    ap (λ (is : List Instance). instance_here design parent path at k ∷ is)
    (of_children_same design (λ here c. instances_at k design (Some at.instance) (path ++ codes "." ++
    c.name) here c.kind)
    (of_child design at.instance path) k
    (behind_one (kind_of design k) at) (kind_of design k).children (ordered design elaborated k known)
    (λ here c less. same_levels k (suc c.kind) design elaborated (Some at.instance) (path ++ codes "." ++
    c.name) here c.kind
    less (omega arith) (omega arith)))

-- what is there and the instances of the children that are left make the whole
pub record GoesOn (design : Design) (old now : Progress) (whole rest : List Instance) : Type 0 where
  pub instances : now.instances.items ++ rest ≡ old.instances.items ++ whole
  pub place : behind design rest (place_of now) ≡ behind design whole (place_of old)
  pub states : now.state ≤ length now.instances.items * 2 ^ 20

-- some instances are added, and what was left is these and some more
adds_on : (design : Design) → IsElaborated design → (old now new : Progress) (whole some more : List Instance) →
    GoesOn design old now whole (some ++ more) → Adds design now new some → GoesOn design old new whole more
adds_on design elaborated old now new whole some more goes adds = record {
  instances = ap (λ (is : List Instance). is ++ more) adds.instances ∙
      (append_assoc now.instances.items some more ∙ goes.instances);
  place = ap (behind design more) adds.place ∙ (sym (behind-append design some more (place_of now)) ∙ goes.place);
  states =
      subst (λ (p : Place). p.state ≤ p.instance * 2 ^ 20) (sym adds.place)
      (states-behind design elaborated some (place_of now) goes.states);
}

-- what is to be added has room
room_on : (design : Design) (old now : Progress) (whole some more : List Instance) →
    HasRoom design old whole → GoesOn design old now whole (some ++ more) → HasRoom design now some
room_on design old now whole some more room goes = record {
  instances =
      let all : (behind design whole (place_of old)).instance ≤ 4096 = room.instances in
      let e : (behind design more (behind design some (place_of now))).instance ≡
      (behind design whole (place_of old)).instance =
      ap (λ (p : Place). p.instance) end in
      let f : (behind design more (behind design some (place_of now))).instance ≡
      (behind design some (place_of now)).instance + length more =
      instance-behind design more (behind design some (place_of now)) in
      omega arith;
  bits =
      let all : (behind design whole (place_of old)).bit ≤ 2 ^ 18 = room.bits in
      let e : (behind design more (behind design some (place_of now))).bit ≡
      (behind design whole (place_of old)).bit =
      ap (λ (p : Place). p.bit) end in
      let f : (behind design more (behind design some (place_of now))).bit
      ≡ (behind design some (place_of now)).bit + total (map (λ i. own_bits (kind_of design i.kind)) more) =
      bit-behind design more (behind design some (place_of now)) in
      omega arith;
  states = goes.states;
}
  where
    end : behind design more (behind design some (place_of now)) ≡ behind design whole (place_of old)
    end = sym (behind-append design some more (place_of now)) ∙ goes.place

-- before anything is added
start : (design : Design) (old : Progress) (whole : List Instance) → HasRoom design old whole →
    GoesOn design old old whole whole
start design old whole room = record { instances = refl; place = refl; states = room.states }

-- what the component itself needs
pub own_room : (design : Design) (elaborated : IsElaborated design) (parent : Option ℕ) (path : List ℕ) (k : ℕ)
    (old : Progress) →
    k < length design.kinds → HasRoom design old (below design parent path (place_of old) k) →
    HasRoom design old (instance_here design parent path (place_of old) k ∷ [])
own_room design elaborated parent path k old known room =
    let whole : List Instance = below design parent path (place_of old) k in
    room_on design old old whole (instance_here design parent path (place_of old) k ∷ [])
    (of_children design (of_child design (length old.instances.items) path)
    (behind_one (kind_of design k) (place_of old)) (kind_of design k).children)
    room (subst (GoesOn design old old whole) (below_is design elaborated parent path (place_of old) k known)
    (start design old whole room))

-- the component is added
pub own_added : (design : Design) → IsElaborated design → (parent : Option ℕ) (path : List ℕ) (k number : ℕ)
    (old new : Progress) (cs : List Child) →
    k < length design.kinds → HasRoom design old (below design parent path (place_of old) k) →
    number ≡ length old.instances.items →
    cs ≡ (kind_of design k).children →
    Adds design old new (instance_here design parent path (place_of old) k ∷ []) →
    GoesOn design old new (below design parent path (place_of old) k) (of_rest design number path new (drop 0 cs))
own_added design elaborated parent path k number old new cs known room first is adds =
    let whole : List Instance = below design parent path (place_of old) k in
    let rest : Place → List Instance = λ at. of_children design (of_child design (length old.instances.items) path) at
    (kind_of design k).children in
    let goes : GoesOn design old new whole (rest (behind_one (kind_of design k) (place_of old))) =
    adds_on design elaborated old old new whole (instance_here design parent path (place_of old) k ∷ [])
    (rest (behind_one (kind_of design k) (place_of old)))
    (subst (GoesOn design old old whole) (below_is design elaborated parent path (place_of old) k known)
    (start design old whole room)) adds in
    let there : GoesOn design old new whole (rest (place_of new)) =
    subst (λ (at : Place). GoesOn design old new whole (rest at)) (sym adds.place) goes in
    let here : GoesOn design old new whole (of_rest design number path new (kind_of design k).children) =
    subst (λ (n : ℕ). GoesOn design old new whole (of_rest design n path new (kind_of design k).children))
    (sym first) there in
    subst (λ (l : List Child). GoesOn design old new whole (of_rest design number path new l)) (sym is) here

-- a child's instances and those of the children after it
next_child : (design : Design) (number : ℕ) (path name : List ℕ) (old now : Progress) (whole : List Instance)
    (cs : List Child) (i : ℕ) (c : Child) →
    i < length cs → c ≡ get_or cs i c → name ≡ path ++ codes "." ++ c.name →
    GoesOn design old now whole (of_rest design number path now (drop i cs)) →
    GoesOn design old now whole (below design (Some number) name (place_of now) c.kind
    ++ of_children design (of_child design number path) (behind design
    (below design (Some number) name (place_of now) c.kind) (place_of now)) (drop (i + 1) cs))
next_child design number path name old now whole cs i c lt is named goes =
    let some : List ℕ → List Instance = λ p. below design (Some number) p (place_of now) c.kind in
    let whose : GoesOn design old now whole (of_rest design number path now (get_or cs i c ∷ drop (i + 1) cs)) =
    subst (λ (l : List Child). GoesOn design old now whole (of_rest design number path now l))
    (drop_more cs i c lt) goes in
    let this : GoesOn design old now whole (of_rest design number path now (c ∷ drop (i + 1) cs)) =
    subst (λ (x : Child). GoesOn design old now whole (of_rest design number path now (x ∷ drop (i + 1) cs)))
    (sym is) whose in
    subst (λ (p : List ℕ). GoesOn design old now whole
    (some p ++ of_children design (of_child design number path) (behind design (some p) (place_of now))
    (drop (i + 1) cs))) (sym named) this

-- what a child needs
pub child_room : (design : Design) (number : ℕ) (path name : List ℕ) (old now : Progress) (whole : List Instance)
    (cs : List Child) (i : ℕ) (c : Child) →
    HasRoom design old whole → i < length cs → c ≡ get_or cs i c → name ≡ path ++ codes "." ++ c.name →
    GoesOn design old now whole (of_rest design number path now (drop i cs)) →
    HasRoom design now (below design (Some number) name (place_of now) c.kind)
child_room design number path name old now whole cs i c room lt is named goes =
    room_on design old now whole (below design (Some number) name (place_of now) c.kind)
    (of_children design (of_child design number path) (behind design
    (below design (Some number) name (place_of now) c.kind) (place_of now)) (drop (i + 1) cs))
    room (next_child design number path name old now whole cs i c lt is named goes)

-- a child is added
pub child_added : (design : Design) → IsElaborated design → (number : ℕ) (path name : List ℕ) (old now new : Progress)
    (whole : List Instance) (cs : List Child) (i : ℕ) (c : Child) →
    i < length cs → c ≡ get_or cs i c → name ≡ path ++ codes "." ++ c.name →
    GoesOn design old now whole (of_rest design number path now (drop i cs)) →
    Adds design now new (below design (Some number) name (place_of now) c.kind) →
    GoesOn design old new whole (of_rest design number path new (drop (i + 1) cs))
child_added design elaborated number path name old now new whole cs i c lt is named goes adds =
    let some : List Instance = below design (Some number) name (place_of now) c.kind in
    subst (λ (at : Place). GoesOn design old new whole (of_children design (of_child design number path) at
    (drop (i + 1) cs))) (sym adds.place)
    (adds_on design elaborated old now new whole some
    (of_children design (of_child design number path) (behind design some (place_of now)) (drop (i + 1) cs))
    (next_child design number path name old now whole cs i c lt is named goes) adds)

-- no child is left
pub all_added : (design : Design) (number : ℕ) (path : List ℕ) (old now : Progress) (whole : List Instance)
    (cs : List Child) (i : ℕ) →
    length cs ≤ i → GoesOn design old now whole (of_rest design number path now (drop i cs)) →
    Adds design old now whole
all_added design number path old now whole cs i le goes =
    let none : GoesOn design old now whole [] =
    subst (λ (l : List Child). GoesOn design old now whole (of_rest design number path now l))
    (drop_all i cs le) goes in
    record { instances = sym (append-nil now.instances.items) ∙ none.instances; place = none.place }

pub few_so_far : (design : Design) → IsElaborated design → (parent : Option ℕ) (path : List ℕ) (k : ℕ)
    (old : Progress) →
    k < length design.kinds → HasRoom design old (below design parent path (place_of old) k) →
    length old.instances.items < 4096
few_so_far design elaborated parent path k old known room =
    let own : (behind design (instance_here design parent path (place_of old) k ∷ [])
    (place_of old)).instance ≤ 4096 =
    (own_room design elaborated parent path k old known room).instances in
    omega arith

pub own_bits_fit : (design : Design) → IsElaborated design → (parent : Option ℕ) (path : List ℕ) (k : ℕ)
    (old : Progress) →
    k < length design.kinds → HasRoom design old (below design parent path (place_of old) k) →
    old.bit + own_bits (kind_of design k) ≤ 2 ^ 18
own_bits_fit design elaborated parent path k old known room =
    (own_room design elaborated parent path k old known room).bits

-- a child's kind is before its parent's
pub child_before : (design : Design) → IsElaborated design → (k i : ℕ) (cs : List Child) (c : Child) →
    k < length design.kinds →
    cs ≡ (kind_of design k).children → i < length cs → c ≡ get_or cs i c → c.kind < k
child_before design elaborated k i cs c known is lt at =
    child_kind cs k i c (subst (λ (l : List Child). IsTrue (list_all (is_before k) l)) (sym is)
    (ordered design elaborated k known)) lt at

-- the instances below the top are all instances
pub whole_is : (design : Design) → IsElaborated design → (path : List ℕ) (old : Progress) →
    old.instances.items ≡ [] → old.bit ≡ 0 → old.state ≡ 0 → path ≡ codes "s" →
    below design None path (place_of old) design.top ≡ instances_of design
whole_is design elaborated path old none first zeroth named =
    same_levels (suc design.top) (length design.kinds) design elaborated None path (place_of old) design.top
    (omega arith) elaborated.top elaborated.top
    ∙ ap₂ (λ (p : List ℕ) (at : Place). instances_at (length design.kinds) design None p at design.top) named
    (ap₃ none first zeroth)
  where
    ap₃ : old.instances.items ≡ [] → old.bit ≡ 0 → old.state ≡ 0 →
        place_of old ≡ record { instance = 0; bit = 0; state = 0 }
    ap₃ e f g =
        ap (λ (is : List Instance). record { instance = length is; bit = old.bit; state = old.state }) e
        ∙ ap₂ (λ (b s : ℕ). record { instance = 0; bit = b; state = s }) f g

-- the list of the whole has room
pub whole_room : (design : Design) → IsElaborated design → (path : List ℕ) (old : Progress) →
    flat_bits design ≤ 2 ^ 18 →
    old.instances.items ≡ [] → old.bit ≡ 0 → old.state ≡ 0 → path ≡ codes "s" →
    HasRoom design old (below design None path (place_of old) design.top)
whole_room design elaborated path old few none first zeroth named = record {
  instances =
      let count : length (below design None path (place_of old) design.top) ≡ (kind_of design design.top).instances =
      instances_total (suc design.top) design elaborated None path (place_of old) design.top
      (omega arith) elaborated.top in
      let some : (kind_of design design.top).instances ≤ 4096 =
      (elaborated.kinds design.top elaborated.top).sized.few_instances in
      let e : (behind design (below design None path (place_of old) design.top) (place_of old)).instance
      ≡ length old.instances.items + length (below design None path (place_of old) design.top) =
      instance-behind design (below design None path (place_of old) design.top) (place_of old) in
      let empty : length old.instances.items ≡ 0 = ap length none in
      omega arith;
  bits =
      let e : (behind design (below design None path (place_of old) design.top) (place_of old)).bit
      ≡ old.bit + total (map (λ i. own_bits (kind_of design i.kind))
      (below design None path (place_of old) design.top)) =
      bit-behind design (below design None path (place_of old) design.top) (place_of old) in
      let b : total (map (λ i. own_bits (kind_of design i.kind))
      (below design None path (place_of old) design.top)) ≡ flat_bits design =
      ap (λ (is : List Instance). total (map (λ i. own_bits (kind_of design i.kind)) is))
      (whole_is design elaborated path old none first zeroth named) in
      omega arith;
  states = let e : old.state ≡ 0 = zeroth in omega arith;
}
