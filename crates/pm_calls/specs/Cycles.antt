-- Methods that can lead to a call of themselves, and guards that can lead to their own value.
use Rattle.std.specs.Prelude.{◌≡◌, ◌⊎◌, List, ℕ, Contains, Option, None, Some}
use Rattle.pm_design.specs.declared.connection.Callee.{Callee}
use Rattle.pm_design.specs.declared.plan.Plan.{Plan}
use Rattle.pm_design.specs.Calls.{End}
use Rattle.pm_callees.specs.Callees.{IsEarlier}
use Rattle.pm_callees.specs.Ends.{IsMethod}
use Rattle.pm_calls.specs.Asked.{asked_by}
use Rattle.pm_calls.specs.Called.{called_in}
use Rattle.pm_calls.specs.Targets.{callee_end, method_at, method_name}

-- the body of a method may call another one
abbrev pub Calls : Plan → End → End → Type 0
Calls plan e f = IsMethod plan e
    × ((m : Callee) × Contains (called_in (method_at plan e).body) m × (callee_end plan e.instance m ≡ Some f))

-- the guard of a method reads the `rdy` of another one
abbrev pub Asks : Plan → End → End → Type 0
Asks plan e f = IsMethod plan e
    × ((m : Callee) × Contains (asked_by (method_at plan e).guard) m × (callee_end plan e.instance m ≡ Some f))

-- one step or more lead from one method to another
pub data Leads (Step : End → End → Type 0) : End → End → Type 0 where
  Last : (e f : End) → Step e f → Leads Step e f
  More : (e f g : End) → Step e f → Leads Step f g → Leads Step e g

-- a method that can lead to a call of itself, or whose guard can lead to its own value
abbrev pub IsCyclic : Plan → End → Type 0
IsCyclic plan e = Leads (Calls plan) e e ⊎ Leads (Asks plan) e e

-- the first of them, by instance and declaration
pub record IsFirstCyclic (plan : Plan) (e : End) : Type 0 where
  pub cyclic : IsCyclic plan e
  pub first : (f : End) → IsEarlier f e → IsCyclic plan f → ⊥

-- no method does
abbrev pub HasNoCycle : Plan → Type 0
HasNoCycle plan = (e : End) → IsCyclic plan e → ⊥

-- the name of the first of them, if any
abbrev pub FindsCycle : Plan → Option (List ℕ) → Type 0
FindsCycle plan None = HasNoCycle plan
FindsCycle plan (Some name) = (e : End) × IsFirstCyclic plan e × (name ≡ method_name plan e)
