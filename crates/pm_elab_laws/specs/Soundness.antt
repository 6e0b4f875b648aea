-- Designs that are given are sound.
use Rattle.std.specs.Prelude.{◌≡◌, ◌<◌, ℕ, Bool, true, IsTrue, List, Ok, length, map}
use Rattle.std.specs.List.{list_all}
use Rattle.pm_design.specs.Elaborated.{IsElaborated}
use Rattle.pm_design.specs.Lookups.{kind_of}
use Rattle.pm_design.specs.Names.{all_differ}
use Rattle.pm_design.specs.Widths.{is_width}
use Rattle.pm_syn.specs.declared.statement.Node.{Node}
use Rattle.pm_syn.specs.Names.{is_proper_name}
use Rattle.pm_elab.specs.declared.elaboration.RawDesign.{RawDesign}
use Rattle.pm_elab.specs.declared.parameter.Param.{Param}
use Rattle.pm_elab.specs.declared.parameter.ParamValue.{ParamValue}
use Rattle.pm_elab.specs.declared.parameter.ParamValue.TheVariants as given
use Rattle.pm_elab.specs.Files.{build}
use Rattle.pm_elab_laws.specs.Names.{names_of}

-- a type from the command line has 1 to 128 bits
abbrev pub is_good_param : ParamValue → Bool
is_good_param (given.Int n) = true
is_good_param (given.Width n) = is_width n

-- each type from the command line has
abbrev pub are_good_params : List Param → Bool
are_good_params = list_all (λ p. is_good_param p.value)

-- each name that a statement of the file declares is a proper one
abbrev pub declares_proper_names : List Node → Bool
declares_proper_names nodes = list_all is_proper_name (names_of nodes)

-- a design that is given is sound but for its bodies, which are empty
abbrev pub DesignsAreSound : Type 0
DesignsAreSound =
    (nodes : List Node) (name : List ℕ) (params : List Param) (given : RawDesign)
    → IsTrue (declares_proper_names nodes)
    → IsTrue (are_good_params params)
    → build nodes name params ≡ Ok given
    → IsElaborated given.design

-- in a design that is given, the names of a kind's signals differ
abbrev pub SignalsDiffer : Type 0
SignalsDiffer =
    (nodes : List Node) (name : List ℕ) (params : List Param) (given : RawDesign)
    → IsTrue (declares_proper_names nodes)
    → IsTrue (are_good_params params)
    → build nodes name params ≡ Ok given
    → (k : ℕ) → k < length given.design.kinds → IsTrue (all_differ (map (λ s. s.name) (kind_of given.design k).signals))
