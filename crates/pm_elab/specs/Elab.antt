-- A step of elaboration: a computation that knows what was made so far, and gives a result or the first fault.
use Rattle.std.specs.Prelude.{◌≡◌, ◌≢◌, ℕ, ◌+◌, nat_lt, if◌then◌else◌, Result, Ok, Err, Option, Some, None}
use denote.Ref.{Bor}
use Rattle.pm_values.specs.declared.fault.BuildFault.{BuildFault}
use Rattle.pm_values.specs.declared.fault.BuildFault.TheVariants.{BuildBudget, NoMemory}
use Rattle.pm_elab.specs.declared.elaboration.Elaboration.{Elaboration}
use Rattle.pm_elab.specs.declared.elaboration.TheConstants.{MAX_STEPS}

-- a result, or the first fault
abbrev pub Checked : Type 0 → Type 0
Checked A = Result A BuildFault

-- the second only where the first gives a result
abbrev pub and_then : {A B : Type 0} → Checked A → (A → Checked B) → Checked B
and_then (Ok a) f = f a
and_then (Err e) f = Err e

-- what there is, or else the fault
abbrev pub or_else : {A : Type 0} → Option A → BuildFault → Checked A
or_else (Some a) e = Ok a
or_else None e = Err e

-- from what was made so far to a result and what is made then
abbrev pub Elab : Type 0 → Type 0
Elab A = Elaboration → Checked (A × Elaboration)

infixl 10 ◌>>=◌
-- one after the other, where the second uses the result of the first
abbrev pub ◌>>=◌ : {A B : Type 0} → Elab A → (A → Elab B) → Elab B
p >>= q = λ m. and_then (p m) (λ r. q r.0 r.1)

infixl 10 ◌>>◌
-- one after the other
abbrev pub ◌>>◌ : {A B : Type 0} → Elab A → Elab B → Elab B
p >> q = p >>= (λ _. q)

-- a result that makes nothing
abbrev pub pure : {A : Type 0} → A → Elab A
pure a = λ m. Ok (a, m)

-- a fault
abbrev pub fail : {A : Type 0} → BuildFault → Elab A
fail e = λ m. Err e

-- a result or fault that makes nothing
abbrev pub lift : {A : Type 0} → Checked A → Elab A
lift r = λ m. and_then r (λ a. Ok (a, m))

-- a result or fault by what was made so far
abbrev pub reading : {A : Type 0} → (Elaboration → Checked A) → Elab A
reading f = λ m. and_then (f m) (λ a. Ok (a, m))

-- one step more, if there is one left
unfoldable pub step : ℕ → Elab (Unit {0})
step line = λ m. if nat_lt m.steps MAX_STEPS then Ok (tt, record m { steps = m.steps + 1 }) else Err (BuildBudget line)

-- ---- what a function ensures: the outcome, unless memory runs out

-- of a function that makes nothing
abbrev pub Gives : {A : Type 0} → Checked A → Checked A → Type 0
Gives outcome (Ok a) = outcome ≡ Ok a
Gives outcome (Err e) = e ≢ NoMemory → outcome ≡ Err e

-- of a function that elaborates
abbrev pub Elabs : {A : Type 0} → Checked (A × Elaboration) → Checked A → Elaboration → Type 0
Elabs outcome (Ok a) new = outcome ≡ Ok (a, new)
Elabs outcome (Err e) new = e ≢ NoMemory → outcome ≡ Err e

-- of a function that changes a frame, and makes nothing else
abbrev pub Changes : {F : Type 0} → Checked F → Checked (Unit {0}) → F → Type 0
Changes outcome (Ok _) frame = outcome ≡ Ok frame
Changes outcome (Err e) frame = e ≢ NoMemory → outcome ≡ Err e

-- of a function that changes a frame, and elaborates
abbrev pub Moves : {F : Type 0} → Checked (F × Elaboration) → Checked (Unit {0}) → F → Elaboration → Type 0
Moves outcome (Ok _) frame new = outcome ≡ Ok (frame, new)
Moves outcome (Err e) frame new = e ≢ NoMemory → outcome ≡ Err e

-- of one that gives a value too
abbrev pub Runs : {A F : Type 0} → Checked ((F × A) × Elaboration) → Checked A → F → Elaboration → Type 0
Runs outcome (Ok a) frame new = outcome ≡ Ok ((frame, a), new)
Runs outcome (Err e) frame new = e ≢ NoMemory → outcome ≡ Err e

-- the outcome of a function that lends its result
abbrev pub lent : {A : Type 0} → Result (Bor A) BuildFault → Checked A
lent (Ok a) = Ok a.now
lent (Err e) = Err e

-- of a function that changes a frame and gives a value, and makes nothing else
abbrev pub Alters : {A F : Type 0} → Checked (F × A) → Checked A → F → Type 0
Alters outcome (Ok a) frame = outcome ≡ Ok (frame, a)
Alters outcome (Err e) frame = e ≢ NoMemory → outcome ≡ Err e
