-- What elaboration leaves to typing: bodies.
use Rattle.std.specs.Prelude.{ℕ, ◌≡◌, ◌<◌, ◌==◌, ◌&&◌, Bool, true, false, IsTrue, List, length, slice_get, Option, None, Some, Ok}
use Rattle.std.specs.List.{list_all, list_any}
use Rattle.pm_design.specs.declared.body.Block.{Block}
use Rattle.pm_design.specs.declared.body.Method.{Method}
use Rattle.pm_design.specs.declared.design.Kind.{Kind}
use Rattle.pm_syn.specs.declared.statement.Node.{Node}
use Rattle.pm_elab.specs.declared.body.BodyPlace.{BodyPlace}
use Rattle.pm_elab.specs.declared.body.BodyPlace.TheVariants as place
use Rattle.pm_elab.specs.declared.body.Code.{Code}
use Rattle.pm_elab.specs.declared.body.Code.TheVariants as code
use Rattle.pm_elab.specs.declared.body.RawBody.{RawBody}
use Rattle.pm_elab.specs.declared.elaboration.RawDesign.{RawDesign}
use Rattle.pm_elab.specs.declared.elaboration.RawKind.{RawKind}
use Rattle.pm_elab.specs.declared.parameter.Param.{Param}
use Rattle.pm_elab.specs.Files.{build}

-- nothing is there
abbrev pub is_empty : {A : Type 0} → List A → Bool
is_empty xs = length xs == 0

-- a block without statements and temporaries
abbrev pub is_untyped_block : Block → Bool
is_untyped_block block = is_empty block.body && is_empty block.temps

-- no guard
abbrev pub is_unguarded : Method → Bool
is_unguarded method = elim method.guard as (λ _. Bool) [ Some e ↦ false | None ↦ true ]

-- lines, and no condition of a guard and no lambda
abbrev pub are_lines : Code → Bool
are_lines (code.Statements nodes) = true
are_lines _ = false

-- the place of a method's body
abbrev pub is_of_method : ℕ → BodyPlace → Bool
is_of_method m (place.Method n) = n == m
is_of_method m _ = false

-- the lines of a method are among bodies
abbrev pub has_lines : List RawBody → ℕ → Bool
has_lines bodies m = list_any (λ b. is_of_method m b.place && are_lines b.code) bodies

-- blocks and guards are empty, and each method has its lines
pub record IsUntyped (kind : Kind) (raw : RawKind) : Type 0 where
  pub blocks : IsTrue (list_all is_untyped_block kind.blocks)
  pub guards : IsTrue (list_all is_unguarded kind.methods)
  pub lines : (m : ℕ) → m < length kind.methods → IsTrue (has_lines raw.bodies m)

-- so is every kind of a design that is given
abbrev pub KindsAreUntyped : Type 0
KindsAreUntyped =
    (nodes : List Node) (name : List ℕ) (params : List Param) (given : RawDesign)
    → build nodes name params ≡ Ok given
    → (k : ℕ) (kind : Kind) (raw : RawKind)
    → slice_get given.design.kinds k ≡ Some kind
    → slice_get given.kinds k ≡ Some raw
    → IsUntyped kind raw
