-- The design below an instance.
use Rattle.std.specs.Prelude.{ℕ, ◌≡◌, ◌++◌, ◌⊎◌, List, [], codes, Contains, Option, None, Some}
use Rattle.pm_design.specs.declared.design.Design.{Design}
use Rattle.pm_design.specs.declared.plan.Instance.{Instance}
use Rattle.pm_design.specs.Instances.{instances_of}

-- an instance of a design has a path
pub record IsAt (design : Design) (path : List ℕ) (i : Instance) : Type 0 where
  pub among : Contains (instances_of design) i
  pub named : i.path ≡ path

-- a design with the same kinds and shapes, and another top
abbrev pub with_top : Design → ℕ → Design
with_top design k = record { kinds = design.kinds; shapes = design.shapes; top = k }

-- the top is the kind of the instance that has the path; or there is none, and no instance has it
abbrev pub IsSubtree : Design → List ℕ → Option Design → Type 0
IsSubtree design path None = (i : Instance) → IsAt design path i → ⊥
IsSubtree design path (Some subtree) =
    ((i : Instance) × IsAt design path i) × ((i : Instance) → IsAt design path i → subtree ≡ with_top design i.kind)

-- all instances that have the path are of one kind; or no instance has it
abbrev pub IsKindAt : Design → List ℕ → Option ℕ → Type 0
IsKindAt design path None = (i : Instance) → IsAt design path i → ⊥
IsKindAt design path (Some k) =
    ((i : Instance) × IsAt design path i) × ((i : Instance) → IsAt design path i → i.kind ≡ k)

-- some instance of a kind has a path
pub record HasInstance (design : Design) (path : List ℕ) (kind : ℕ) : Type 0 where
  pub instance : Instance
  pub at : IsAt design path instance
  pub of_kind : instance.kind ≡ kind

-- nothing, or what follows a dot
abbrev pub IsBelow : List ℕ → Type 0
IsBelow rest = (rest ≡ []) ⊎ ((more : List ℕ) × (rest ≡ codes "." ++ more))

-- the instances of the design whose top is an instance's kind are those of the whole design at and below that instance
pub record HasItsInstances (design : Design) (path : List ℕ) (subtree : Design) : Type 0 where
  pub within : (rest : List ℕ) (k : ℕ) → HasInstance subtree (codes "s" ++ rest) k → HasInstance design (path ++ rest) k
  pub below : (rest : List ℕ) (k : ℕ) → IsBelow rest → HasInstance design (path ++ rest) k → HasInstance subtree (codes "s" ++ rest) k
  pub rooted : (p : List ℕ) (k : ℕ) → HasInstance subtree p k → (rest : List ℕ) × IsBelow rest × (p ≡ codes "s" ++ rest)
