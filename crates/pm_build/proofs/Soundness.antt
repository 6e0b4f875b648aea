-- A design that is given is sound.
use Rattle.std.specs.Prelude.{◌≡◌, ℕ, IsTrue, List, Ok, Err, Result, IfOk}
use Rattle.pm_design.specs.Elaborated.{IsElaborated}
use Rattle.pm_syn.specs.declared.statement.Node.{Node}
use Rattle.pm_values.specs.declared.fault.BuildFault.{BuildFault}
use Rattle.pm_elab.specs.declared.elaboration.RawDesign.{RawDesign}
use Rattle.pm_elab.specs.declared.parameter.Param.{Param}
use Rattle.pm_elab.specs.Elab.{Gives}
use Rattle.pm_elab.specs.Files.{build}
use Rattle.pm_elab_laws.specs.Soundness.{declares_proper_names, are_good_params}
use Rattle.pm_elab_laws.proofs.Given.{designs_sound}

-- an answer that is the definition's has a sound design, if it has one
pub given_sound : (nodes : List Node) (name : List ℕ) (params : List Param) (result : Result RawDesign BuildFault) → Gives (build nodes name params) result
    → IsTrue (declares_proper_names nodes) → IsTrue (are_good_params params) → IfOk result (λ given. IsElaborated given.design)
given_sound nodes name params (Ok given) is names good = designs_sound nodes name params given names good is
given_sound nodes name params (Err e) is names good = tt
