-- What every kind of a design that is given has.
use Rattle.std.specs.Prelude.{ℕ, ◌≡◌, ◌<◌, ◌≤◌, IsTrue, List, Ok, length, map, slice_index_or}
use Rattle.pm_design.specs.declared.design.Kind.{Kind}
use Rattle.pm_design.specs.Elaborated.{is_reset}
use Rattle.pm_design.specs.Lookups.{kind_of, no_signal}
use Rattle.pm_design.specs.Names.{all_differ}
use Rattle.pm_syn.specs.declared.statement.Node.{Node}
use Rattle.pm_elab.specs.declared.elaboration.RawDesign.{RawDesign}
use Rattle.pm_elab.specs.declared.parameter.Param.{Param}
use Rattle.pm_elab.specs.Files.{build}

-- the first signal is `reset`, blocks have different names, and a component has at most 4,096 instances
pub record IsComponent (kind : Kind) : Type 0 where
  pub reset : IsTrue (is_reset (slice_index_or kind.signals 0 no_signal))
  pub blocks_differ : IsTrue (all_differ (map (λ b. b.name) kind.blocks))
  pub few_instances : kind.instances ≤ 4096

-- every kind of a design that is given is so
abbrev pub KindsAreComponents : Type 0
KindsAreComponents =
    (nodes : List Node) (name : List ℕ) (params : List Param) (given : RawDesign)
    → build nodes name params ≡ Ok given
    → (k : ℕ) → k < length given.design.kinds → IsComponent (kind_of given.design k)
