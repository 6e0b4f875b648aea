-- What bodies meet in a design that is given.
use Rattle.std.specs.Prelude.{ℕ, ◌≡◌, IsTrue, List, slice_get, Some, Ok}
use Rattle.pm_design.specs.declared.design.Kind.{Kind}
use Rattle.pm_syn.specs.declared.statement.Node.{Node}
use Rattle.pm_values.specs.Tables.{Names}
use Rattle.pm_elab.specs.declared.elaboration.RawDesign.{RawDesign}
use Rattle.pm_elab.specs.declared.elaboration.RawKind.{RawKind}
use Rattle.pm_elab.specs.declared.parameter.Param.{Param}
use Rattle.pm_elab.specs.Files.{build}
use Rattle.pm_elab_laws.specs.Soundness.{are_good_params, declares_proper_names}
use Rattle.pm_typing.specs.declared.scope.BodySort.{BodySort}
use Rattle.pm_type_laws.specs.Good.{IsMade}

-- in a design that is given, what the lines of each body see is as typing asks, whatever names the body has
abbrev pub ScopesAreMade : Type 0
ScopesAreMade =
    (nodes : List Node) (name : List ℕ) (params : List Param) (given : RawDesign)
    → IsTrue (declares_proper_names nodes)
    → IsTrue (are_good_params params)
    → build nodes name params ≡ Ok given
    → (k : ℕ) (kind : Kind) (raw : RawKind) (own : Names ℕ) (sort : BodySort)
    → slice_get given.design.kinds k ≡ Some kind
    → slice_get given.kinds k ≡ Some raw
    → IsMade (record { design = given; kind = kind; raw = raw; own = own; sort = sort })
