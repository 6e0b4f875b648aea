-- The typed design of a text is sound.
use Rattle.std.specs.Prelude.{ℕ, ◌≡◌, IsTrue, List, Ok}
use Rattle.pm_design.specs.declared.design.Design.{Design}
use Rattle.pm_design.specs.Sound.{IsSound}
use Rattle.pm_elab.specs.declared.elaboration.RawDesign.{RawDesign}
use Rattle.pm_elab.specs.declared.parameter.Param.{Param}
use Rattle.pm_elab_laws.specs.Soundness.{are_good_params}
use Rattle.pm_types.specs.Designs.{typed_design}
use Rattle.pm_file_laws.proofs.TextNames.{files_declare_proper_names}
use Rattle.pm_body_laws.proofs.Wholes.{typed_designs}
use Rattle.show_design.specs.Designs.{IsDesignOf}

pub typed_sound : (text class : List ℕ) (params : List Param) (given : RawDesign) (design : Design)
    → IsTrue (are_good_params params) → IsDesignOf text class params given → typed_design given ≡ Ok design
    → IsSound design
typed_sound text class params given design good is typed =
    typed_designs is.0.nodes class params given design (files_declare_proper_names text is.0 is.1) good is.2 typed
