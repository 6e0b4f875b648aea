-- The bitstructs of a design that is given.
use Rattle.std.specs.Prelude.{◌≡◌, ℕ, IsTrue, List, Ok}
use Rattle.std.specs.List.{list_all}
use Rattle.pm_syn.specs.declared.statement.Node.{Node}
use Rattle.pm_elab.specs.declared.elaboration.RawDesign.{RawDesign}
use Rattle.pm_elab.specs.declared.parameter.Param.{Param}
use Rattle.pm_elab.specs.Files.{build}
use Rattle.pm_elab_laws.specs.Soundness.{are_good_params, declares_proper_names}
use Rattle.pm_type_laws.specs.Good.{is_packed}

-- each bitstruct has a field, its fields fill it, and each lies within it and has a type that is there
abbrev pub BitstructsArePacked : Type 0
BitstructsArePacked =
    (nodes : List Node) (name : List ℕ) (params : List Param) (given : RawDesign)
    → IsTrue (declares_proper_names nodes)
    → IsTrue (are_good_params params)
    → build nodes name params ≡ Ok given
    → IsTrue (list_all (is_packed given.design.shapes) given.design.shapes)
