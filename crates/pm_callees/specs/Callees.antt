-- The first caller port that doesn't lead to one method.
use Rattle.std.specs.Prelude.{◌≡◌, ◌<◌, ◌⊎◌, Option, None, Some}
use Rattle.pm_design.specs.declared.plan.Plan.{Plan}
use Rattle.pm_design.specs.Calls.{End}
use Rattle.pm_callees.specs.declared.fault.CallerFault.{CallerFault}
use Rattle.pm_callees.specs.declared.fault.CallerFault.TheVariants as fault
use Rattle.pm_callees.specs.Chains.{LeadsTo}
use Rattle.pm_callees.specs.Ends.{IsPort, port_name}
use Rattle.pm_callees.specs.Sets.{IsEmpty, IsSeveral, IsSingle}

-- an end of an earlier instance than another one's, or of the same one with a lesser number
abbrev pub IsEarlier : End → End → Type 0
IsEarlier a b = (a.instance < b.instance) ⊎ ((a.instance ≡ b.instance) × (a.number < b.number))

-- a caller port leads to some method
abbrev pub HasCallee : Plan → End → Type 0
HasCallee plan p = (m : End) × LeadsTo plan p m

-- the first caller port that leads to no method
pub record IsFirstWithout (plan : Plan) (p : End) : Type 0 where
  pub port : IsPort plan p
  pub none : IsEmpty (LeadsTo plan p)
  pub first : (q : End) → IsPort plan q → IsEarlier q p → HasCallee plan q

-- each caller port leads to a method, and this is the first one that leads to two
pub record IsFirstWithTwo (plan : Plan) (p : End) : Type 0 where
  pub port : IsPort plan p
  pub two : IsSeveral (LeadsTo plan p)
  pub first : (q : End) → IsPort plan q → IsEarlier q p → IsSingle (LeadsTo plan q)
  pub each : (q : End) → IsPort plan q → HasCallee plan q

-- what is wrong with the caller ports, if anything
abbrev pub Finds : Plan → Option CallerFault → Type 0
Finds plan None = (p : End) → IsPort plan p → IsSingle (LeadsTo plan p)
Finds plan (Some (fault.NoCallee name)) = (p : End) × IsFirstWithout plan p × (name ≡ port_name plan p)
Finds plan (Some (fault.TwoCallees name)) = (p : End) × IsFirstWithTwo plan p × (name ≡ port_name plan p)
