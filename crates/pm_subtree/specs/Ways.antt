-- Ways down from a component to one within it.
use Rattle.std.specs.Prelude.{ℕ, ◌≡◌, ◌++◌, List, [], codes, Contains, Option, None, Some}
use Rattle.pm_design.specs.declared.design.Child.{Child}
use Rattle.pm_design.specs.declared.design.Design.{Design}
use Rattle.pm_design.specs.Lookups.{kind_of}

-- the rest of a path leads from a component of one kind to one of another: it is that component, or lies below a child
pub data Leads (design : Design) : ℕ → List ℕ → ℕ → Type 0 where
  Here : (k : ℕ) (rest : List ℕ) → rest ≡ [] → Leads design k rest k
  Down : (k : ℕ) (rest below : List ℕ) (c : Child) (end : ℕ) → Contains (kind_of design k).children c →
      rest ≡ codes "." ++ c.name ++ below → Leads design c.kind below end → Leads design k rest end

-- what the rest of a path leads to, or that it leads nowhere
abbrev pub LeadsTo : Design → ℕ → List ℕ → Option ℕ → Type 0
LeadsTo design k rest None = (end : ℕ) → Leads design k rest end → ⊥
LeadsTo design k rest (Some end) = Leads design k rest end

-- what is behind a dot and a name, or that the text doesn't begin so
abbrev pub IsBehind : List ℕ → List ℕ → Option (List ℕ) → Type 0
IsBehind rest name None = (below : List ℕ) → rest ≡ codes "." ++ name ++ below → ⊥
IsBehind rest name (Some below) = rest ≡ codes "." ++ name ++ below

-- none of some children lies on the way
abbrev pub LeadsByNone : Design → List Child → List ℕ → Type 0
LeadsByNone design cs rest = (c : Child) (below : List ℕ) (end : ℕ) → Contains cs c →
    rest ≡ codes "." ++ c.name ++ below → Leads design c.kind below end → ⊥
