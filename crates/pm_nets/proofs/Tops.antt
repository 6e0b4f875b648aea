-- The top's bits stand before those of all other instances.
use Rattle.std.proofs.Common.{◌≡◌, ◌∙◌, ◌+◌, ◌<◌, ◌≤◌, ◌++◌, ℕ, zero, suc, List, [], ◌∷◌, length, get_or}
use Rattle.std.proofs.Common.{Option, Some, None, codes, sym, ap, subst, arith}
use Rattle.std.specs.List.{All}
use Rattle.std.proofs.lemmas.List.Elements.{All-append, All-cons, All-nil}
use Rattle.pm_design.specs.declared.design.Child.{Child}
use Rattle.pm_design.specs.declared.design.Design.{Design}
use Rattle.pm_design.specs.declared.design.Kind.{Kind}
use Rattle.pm_design.specs.declared.plan.Instance.{Instance}
use Rattle.pm_design.specs.Calls.{child_of}
use Rattle.pm_design.specs.Elaborated.{IsElaborated}
use Rattle.pm_design.specs.Instances.{Place, behind, behind_one, instances_at}
use Rattle.pm_design.specs.Instances.{instances_of, numbers_from, of_children, own_bits}
use Rattle.pm_design.specs.Layout.{instance_of, no_instance, scope_of}
use Rattle.pm_design.specs.Lookups.{kind_of, no_signal}
use Rattle.pm_design.specs.Runnable.{kind_at}
use Rattle.pm_instances.specs.Laid.{laid_out}
use Rattle.pm_instances.proofs.Placed.{ends_well, top_begins}
use Rattle.pm_nets.specs.Drivers.{whole_part}
use Rattle.pm_nets.specs.Sites.{first_of}
use Rattle.pm_nets.proofs.Crossings.{IsCrossing}
use Rattle.pm_nets.proofs.Parts.{HasOwner, bit_from, bits_within, child_listed, has_owner}

-- no child of an instance is the top
abbrev pub HasLaterChildren : Instance → Type 0
HasLaterChildren x = (c d : ℕ) → c < length x.children → 0 < get_or x.children c d

numbers_above : (design : Design) (n : ℕ) (cs : List Child) (c d : ℕ) → c < length (numbers_from design n cs) →
    n ≤ get_or (numbers_from design n cs) c d
numbers_above design n [] c d lt = absurd (omega arith)
numbers_above design n (x ∷ xs) zero d lt = omega arith
numbers_above design n (x ∷ xs) (suc c) d lt =
    let next : n + (kind_of design x.kind).instances ≤
    get_or (numbers_from design (n + (kind_of design x.kind).instances) xs) c d =
    numbers_above design (n + (kind_of design x.kind).instances) xs c d (omega arith) in
    omega arith

children_later : (design : Design) (f : Place → Child → List Instance) (at : Place) (cs : List Child) →
    ((here : Place) (c : Child) → All HasLaterChildren (f here c)) →
    All HasLaterChildren (of_children design f at cs)
children_later design f at [] each = All-nil HasLaterChildren
children_later design f at (c ∷ cs) each =
    All-append HasLaterChildren (f at c) (of_children design f (behind design (f at c) at) cs) (each at c)
    (children_later design f (behind design (f at c) at) cs each)

below_later : (n : ℕ) (design : Design) (parent : Option ℕ) (path : List ℕ) (at : Place) (k : ℕ) →
    All HasLaterChildren (instances_at n design parent path at k)
below_later zero design parent path at k = All-nil HasLaterChildren
below_later (suc n) design parent path at k =
    All-cons HasLaterChildren (record {
      path = path;
      kind = k;
      parent = parent;
      children = numbers_from design (at.instance + 1) (kind_of design k).children;
      first_bit = at.bit;
      first_state = at.state;
    }) (of_children design
    (λ here c. instances_at n design (Some at.instance) (path ++ codes "." ++ c.name) here c.kind)
    (behind_one (kind_of design k) at) (kind_of design k).children)
    (λ c d lt. let low : at.instance + 1 ≤
    get_or (numbers_from design (at.instance + 1) (kind_of design k).children) c d =
    numbers_above design (at.instance + 1) (kind_of design k).children c d lt in omega arith)
    (children_later design
    (λ here c. instances_at n design (Some at.instance) (path ++ codes "." ++ c.name) here c.kind)
    (behind_one (kind_of design k) at) (kind_of design k).children
    (λ here c. below_later n design (Some at.instance) (path ++ codes "." ++ c.name) here c.kind))

child_later : (design : Design) (i c : ℕ) → i < length (instances_of design) →
    c < length (instance_of (laid_out design) i).children → 0 < child_of (laid_out design) i c
child_later design i c lt there =
    below_later (length design.kinds) design None (codes "s") (record { instance = 0; bit = 0; state = 0 }) design.top i
    (no_instance (laid_out design)) lt c (length (instances_of design)) there

-- the bits of each other instance stand behind those of the top
behind_top : (design : Design) → IsElaborated design → (j : ℕ) → suc j < length (instances_of design) →
    own_bits (kind_at (laid_out design) 0) ≤ (instance_of (laid_out design) (suc j)).first_bit
behind_top design elaborated zero lt =
    let next : (instance_of (laid_out design) (0 + 1)).first_bit ≡
    (instance_of (laid_out design) 0).first_bit + own_bits (kind_at (laid_out design) 0) =
    (ends_well design elaborated 0).next (omega arith) in
    omega arith
behind_top design elaborated (suc j) lt =
    let low : own_bits (kind_at (laid_out design) 0) ≤ (instance_of (laid_out design) (suc j)).first_bit =
    behind_top design elaborated j (omega arith) in
    let next : (instance_of (laid_out design) (suc j + 1)).first_bit ≡
    (instance_of (laid_out design) (suc j)).first_bit + own_bits (kind_at (laid_out design) (suc j)) =
    (ends_well design elaborated (suc j)).next (omega arith) in
    let one : suc j + 1 ≡ suc (suc j) = omega arith in
    subst (λ (n : ℕ). own_bits (kind_at (laid_out design) 0) ≤ (instance_of (laid_out design) n).first_bit) one
    (omega arith)

later_high : (design : Design) → IsElaborated design → (j : ℕ) → 0 < j → j < length (instances_of design) →
    own_bits (kind_at (laid_out design) 0) ≤ (instance_of (laid_out design) j).first_bit
later_high design elaborated zero some lt = absurd (omega arith)
later_high design elaborated (suc j) some lt = behind_top design elaborated j lt

-- a bit of a child's port is none of the top's
pub crossing_high : (design : Design) → IsElaborated design → (b : ℕ) → IsCrossing design b →
    own_bits (kind_at (laid_out design) 0) ≤ b
crossing_high design elaborated b crossing =
    let i : ℕ = crossing.instance in
    let c : ℕ = crossing.child in
    let owned : HasOwner design crossing.instance (suc crossing.child) =
    has_owner design elaborated crossing.instance (suc crossing.child) crossing.signal crossing.there
    crossing.listed in
    let j : ℕ = child_of (laid_out design) crossing.instance crossing.child in
    let low : own_bits (kind_at (laid_out design) 0) ≤
    (instance_of (laid_out design) (child_of (laid_out design) crossing.instance crossing.child)).first_bit =
    later_high design elaborated j
    (child_later design i c crossing.there (child_listed design i c owned.there)) owned.there in
    let listed : crossing.signal < length
    (kind_at (laid_out design) (child_of (laid_out design) crossing.instance crossing.child)).signals =
    subst (λ (k : Kind). crossing.signal < length k.signals) (sym owned.kind) crossing.listed in
    let from = bit_from (kind_at (laid_out design) j).signals (instance_of (laid_out design) j).first_bit
    crossing.signal listed in
    let same = ap (λ (l : List ℕ). get_or l crossing.signal 0) owned.scope in
    high b (get_or (get_or (scope_of (laid_out design) crossing.instance) (suc crossing.child) []) crossing.signal 0)
    crossing.bit _ _ _ low (same ∙ from) crossing.place
  where
    high : (b place bit own first more : ℕ) → own ≤ first → place ≡ first + more → b ≡ place + 0 + bit → own ≤ b
    high b place bit own first more low is at = omega arith

-- a bit of a signal of the top is one of its own
pub top_low : (design : Design) → IsElaborated design → (s t : ℕ) → 0 < length (instances_of design) →
    s < length (kind_at (laid_out design) 0).signals →
    t < (get_or (kind_at (laid_out design) 0).signals s no_signal).width →
    first_of (laid_out design) 0
    (whole_part s (get_or (kind_at (laid_out design) 0).signals s no_signal).width) + t <
    own_bits (kind_at (laid_out design) 0)
top_low design elaborated s t some listed less =
    let first : (instance_of (laid_out design) 0).first_bit ≡ 0 = top_begins design elaborated some in
    let within = bits_within (kind_at (laid_out design) 0).signals (instance_of (laid_out design) 0).first_bit s no_signal
    listed in
    low _ _ _ _ _ first within less
  where
    low : (place w t first own : ℕ) → first ≡ 0 → place + w ≤ first + own → t < w → place + 0 + t < own
    low place w t first own begins within less = omega arith
