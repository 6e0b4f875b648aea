-- Steps from method to method, one after another.
use Rattle.std.proofs.Common.{◌≡◌, ℕ, inl, inr, refl}
use Rattle.pm_design.specs.declared.connection.Callee.{Callee}
use Rattle.pm_design.specs.declared.plan.Plan.{Plan}
use Rattle.pm_design.specs.Calls.{End, leads_to, target_of}
use Rattle.pm_callees.specs.Ends.{IsMethod}
use Rattle.pm_calls.specs.Cycles.{Asks, Calls, IsCyclic, Leads}
use Rattle.pm_calls.specs.Cycles.Leads.{Last, More}
use Rattle.pm_calls.specs.Targets.{callee_end}

pub leads_on : (Step : End → End → Type 0) (e f g : End) → Leads Step e f → Leads Step f g → Leads Step e g
leads_on Step _ _ g (Last e f step) rest = More e f g step rest
leads_on Step _ _ g (More e h f step more) rest = More e h g step (leads_on Step h f g more rest)

-- each method of a round is on it
pub calls_round : (plan : Plan) (e f : End) → Leads (Calls plan) e f → Leads (Calls plan) f e → IsCyclic plan f
calls_round plan e f there back = inl (leads_on (Calls plan) f e f back there)

pub asks_round : (plan : Plan) (e f : End) → Leads (Asks plan) e f → Leads (Asks plan) f e → IsCyclic plan f
asks_round plan e f there back = inr (leads_on (Asks plan) f e f back there)

-- only methods are on one
first_called : (plan : Plan) (e f : End) → Leads (Calls plan) e f → IsMethod plan e
first_called plan _ _ (Last e f step) = step.0
first_called plan _ _ (More e f g step more) = step.0

first_asking : (plan : Plan) (e f : End) → Leads (Asks plan) e f → IsMethod plan e
first_asking plan _ _ (Last e f step) = step.0
first_asking plan _ _ (More e f g step more) = step.0

pub cyclic_method : (plan : Plan) (e : End) → IsCyclic plan e → IsMethod plan e
cyclic_method plan e (inl calls) = first_called plan e e calls
cyclic_method plan e (inr asks) = first_asking plan e e asks

-- a call runs the method that its callee leads to
pub same_target : (plan : Plan) (i : ℕ) (m : Callee) → leads_to plan i m ≡ target_of plan (callee_end plan i m)
same_target plan i m = refl
