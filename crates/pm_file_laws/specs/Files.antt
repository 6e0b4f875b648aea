-- The file that a text gives, and the design that it builds.
use Rattle.std.specs.Prelude.{◌≡◌, ℕ, IsTrue, List, Ok}
use Rattle.pm_design.specs.Elaborated.{IsElaborated}
use Rattle.pm_syn.specs.declared.statement.File.{File}
use Rattle.pm_syn.specs.declared.token.Line.{Line}
use Rattle.pm_syn.specs.Answers as text_answers
use Rattle.pm_parse.specs.Answers.{IsFileAnswer}
use Rattle.pm_elab.specs.declared.elaboration.RawDesign.{RawDesign}
use Rattle.pm_elab.specs.declared.parameter.Param.{Param}
use Rattle.pm_elab.specs.Files.{build}
use Rattle.pm_elab_laws.specs.Soundness.{are_good_params, declares_proper_names}

-- the file is the answer to the logical lines that are the answer to the text
pub record IsFileOf (text : List ℕ) (file : File) : Type 0 where
  pub lines : List Line
  pub read : text_answers.IsAnswer text (Ok lines)
  pub parsed : IsFileAnswer lines (Ok file)

-- each name that a statement of a file declares is a proper one
abbrev pub FilesDeclareProperNames : Type 0
FilesDeclareProperNames =
    (text : List ℕ) (file : File) → IsFileOf text file → IsTrue (declares_proper_names file.nodes)

-- a design that such a file gives is sound but for its bodies, which are empty, if each type from the command line
-- has 1 to 128 bits
abbrev pub DesignsOfTextsAreSound : Type 0
DesignsOfTextsAreSound =
    (text : List ℕ) (file : File) (name : List ℕ) (params : List Param) (given : RawDesign)
    → IsFileOf text file
    → IsTrue (are_good_params params)
    → build file.nodes name params ≡ Ok given
    → IsElaborated given.design
