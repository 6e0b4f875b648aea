-- Sets of methods: none, one, or two and more.
use Rattle.std.specs.Prelude.{◌≡◌}
use Rattle.pm_design.specs.Calls.{End}

-- nothing is in the set
abbrev pub IsEmpty : (End → Type 0) → Type 0
IsEmpty In = (m : End) → In m → ⊥

-- one end is in the set, and no other one
pub record IsSingle (In : End → Type 0) : Type 0 where
  pub one : End
  pub within : In one
  pub only : (m : End) → In m → m ≡ one

-- two ends are in the set
pub record IsSeveral (In : End → Type 0) : Type 0 where
  pub one : End
  pub other : End
  pub differ : one ≡ other → ⊥
  pub one_in : In one
  pub other_in : In other
