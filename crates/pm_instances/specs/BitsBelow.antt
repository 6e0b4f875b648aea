-- How many bits a component has with those within it.
use Rattle.std.specs.Prelude.{ℕ, zero, suc, ◌+◌, ◌<◌, ◌≡◌, List, length, get_or, map}
use Rattle.pm_design.specs.declared.design.Design.{Design}
use Rattle.pm_design.specs.Instances.{own_bits}
use Rattle.pm_design.specs.Lookups.{kind_of}
use Rattle.pm_design.specs.Widths.{total}

-- the bits of a component of a kind and of those within it, through so many levels
unfoldable pub bits_to : ℕ → Design → ℕ → ℕ
bits_to zero design k = 0
bits_to (suc levels) design k =
    own_bits (kind_of design k) + total (map (λ c. bits_to levels design c.kind) (kind_of design k).children)

-- the bits of a component of each kind of a list and of those within it
abbrev pub AreBits : Design → List ℕ → Type 0
AreBits design below = (k : ℕ) → k < length below → get_or below k 0 ≡ bits_to (suc k) design k
