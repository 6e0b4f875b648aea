-- Children and their kinds.
use Rattle.std.specs.Prelude.{ℕ, ◌≡◌, ◌<◌, IsTrue, List, Ok, length}
use Rattle.std.specs.List.{list_all}
use Rattle.pm_design.specs.Elaborated.{is_before}
use Rattle.pm_design.specs.Lookups.{kind_of}
use Rattle.pm_syn.specs.declared.statement.Node.{Node}
use Rattle.pm_elab.specs.declared.elaboration.RawDesign.{RawDesign}
use Rattle.pm_elab.specs.declared.parameter.Param.{Param}
use Rattle.pm_elab.specs.Files.{build}

-- in a design that is given, the top is a kind, and the kind of each child stands before that of the component that has it
abbrev pub ChildrenStandBefore : Type 0
ChildrenStandBefore =
    (nodes : List Node) (name : List ℕ) (params : List Param) (given : RawDesign)
    → build nodes name params ≡ Ok given
    → (given.design.top < length given.design.kinds)
    × ((k : ℕ) → k < length given.design.kinds → IsTrue (list_all (is_before k) (kind_of given.design k).children))
