-- The design of a text.
use Rattle.std.specs.Prelude.{ℕ, ◌≡◌, List, Ok}
use Rattle.pm_syn.specs.declared.statement.File.{File}
use Rattle.pm_elab.specs.declared.elaboration.RawDesign.{RawDesign}
use Rattle.pm_elab.specs.declared.parameter.Param.{Param}
use Rattle.pm_elab.specs.Files.{build}
use Rattle.pm_file_laws.specs.Files.{IsFileOf}

-- what the file of a text gives for a class and its parameters
abbrev pub IsDesignOf : List ℕ → List ℕ → List Param → RawDesign → Type 0
IsDesignOf text class params given =
    (file : File) × IsFileOf text file × (build file.nodes class params ≡ Ok given)
