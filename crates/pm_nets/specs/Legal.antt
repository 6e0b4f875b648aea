-- Legal designs, and the drivers of their nets.
use Rattle.std.specs.Prelude.{ℕ, ◌+◌, ◌/◌, ◌<◌, ◌≡◌, ◌&&◌, Bool, IsTrue, List, ◌++◌, length, flat_map, Contains}
use Rattle.std.specs.List.{list_all, range_with_len}
use Rattle.pm_design.specs.declared.connection.Join.{Join}
use Rattle.pm_design.specs.declared.connection.Part.{Part}
use Rattle.pm_design.specs.declared.connection.Tie.{Tie}
use Rattle.pm_design.specs.declared.design.Design.{Design}
use Rattle.pm_design.specs.declared.design.Kind.{Kind}
use Rattle.pm_design.specs.declared.plan.Plan.{Plan}
use Rattle.pm_design.specs.Lookups.{is_readable, kind_of}
use Rattle.pm_design.specs.Runnable.{kind_at}
use Rattle.pm_design.specs.Sound.{IsSound}
use Rattle.pm_instances.specs.Laid.{laid_out}
use Rattle.pm_nets.specs.declared.giver.Gift.{Gift}
use Rattle.pm_nets.specs.declared.giver.Giver.{Giver}
use Rattle.pm_nets.specs.declared.giver.Source.TheVariants as source
use Rattle.pm_nets.specs.Drivers.{HasNoUndriven, inputs_from}
use Rattle.pm_nets.specs.Givers.{HasNoDouble, block_gifts, gift_givers, given_by, tie_gifts}
use Rattle.pm_nets.specs.Links.{AreOneNet}
use Rattle.pm_nets.specs.Sites.{first_of}

-- a connection of own signals and ports of children
abbrev pub joins_ports : Design → Kind → Join → Bool
joins_ports design kind join = is_readable design kind join.a && is_readable design kind join.b

-- a tie of an own signal or a child's port
abbrev pub ties_port : Design → Kind → Tie → Bool
ties_port design kind tie = is_readable design kind tie.part

-- connections and ties name own signals and ports of children, and no inner signal of a child
pub record NamesPorts (design : Design) : Type 0 where
  pub joins : (k : ℕ) → k < length design.kinds →
      IsTrue (list_all (joins_ports design (kind_of design k)) (kind_of design k).joins)
  pub ties : (k : ℕ) → k < length design.kinds →
      IsTrue (list_all (ties_port design (kind_of design k)) (kind_of design k).ties)

-- what the ties and the blocks of a kind give
abbrev pub driving_gifts : Kind → List Gift
driving_gifts kind = tie_gifts 0 kind.ties ++ block_gifts 0 kind.blocks

-- the drivers of an instance
abbrev pub driving_in : Plan → ℕ → List Giver
driving_in plan i = flat_map (gift_givers plan i) (driving_gifts (kind_at plan i))

-- the drivers of the top's inputs
abbrev pub input_givers : Plan → List Giver
input_givers plan = flat_map (gift_givers plan 0) (given_by source.Port (inputs_from 0 (kind_at plan 0).signals))

-- the drivers of nets: each bit of the top's inputs, and of all instances each bit of a tie and each that a block may write
abbrev pub driving : Plan → List Giver
driving plan = input_givers plan ++ flat_map (driving_in plan) (range_with_len 0 (length plan.instances))

-- a driver of the net of a flat bit
abbrev pub Drives : Plan → Giver → ℕ → Type 0
Drives plan driver x = Contains (driving plan) driver × AreOneNet plan x (driver.end / 2)

-- exactly one driver of the net of a flat bit
pub record HasOneDriver (plan : Plan) (x : ℕ) : Type 0 where
  pub driver : Giver
  pub drives : Drives plan driver x
  pub only : (other : Giver) → Drives plan other x → other ≡ driver

-- no two bits of a part of an instance's kind are of one net
abbrev pub NamesNetsOnce : Plan → ℕ → Part → Type 0
NamesNetsOnce plan i part = (t u : ℕ) → t < part.width → u < part.width →
    AreOneNet plan (first_of plan i part + t) (first_of plan i part + u) → t ≡ u

-- a sound design that names ports, where no net of a component has two givers and no net of two bits lacks a driver
pub record IsLegal (design : Design) : Type 0 where
  pub sound : IsSound design
  pub ports : NamesPorts design
  pub single : HasNoDouble (laid_out design)
  pub driven : HasNoUndriven (laid_out design)
