-- A step of typing: a computation that counts nodes, and gives a result or the first fault.
use Rattle.std.specs.Prelude.{◌≡◌, ◌≢◌, ℕ, ◌+◌, nat_le, if◌then◌else◌, Result, Ok, Err, Option, Some, None}
use Rattle.pm_typing.specs.declared.fault.TypeFault.{TypeFault}
use Rattle.pm_typing.specs.declared.fault.TypeFault.TheVariants.{BodyTooLong, NoMemory}
use Rattle.pm_typing.specs.declared.tally.Tally.{Tally}
use Rattle.pm_typing.specs.declared.tally.TheConstants.{MAX_NODES}

-- a result, or the first fault
abbrev pub Checked : Type 0 → Type 0
Checked A = Result A TypeFault

-- the second only where the first gives a result
abbrev pub and_then : {A B : Type 0} → Checked A → (A → Checked B) → Checked B
and_then (Ok a) f = f a
and_then (Err e) f = Err e

-- what there is, or else the fault
abbrev pub or_else : {A : Type 0} → Option A → TypeFault → Checked A
or_else (Some a) e = Ok a
or_else None e = Err e

-- from the nodes so far to a result and the nodes then
abbrev pub Counted : Type 0 → Type 0
Counted A = Tally → Checked (A × Tally)

infixl 10 ◌>>=◌
-- one after the other, where the second uses the result of the first
abbrev pub ◌>>=◌ : {A B : Type 0} → Counted A → (A → Counted B) → Counted B
p >>= q = λ m. and_then (p m) (λ r. q r.0 r.1)

infixl 10 ◌>>◌
-- one after the other
abbrev pub ◌>>◌ : {A B : Type 0} → Counted A → Counted B → Counted B
p >> q = p >>= (λ _. q)

-- a result that has no node
abbrev pub pure : {A : Type 0} → A → Counted A
pure a = λ m. Ok (a, m)

-- a fault
abbrev pub fail : {A : Type 0} → TypeFault → Counted A
fail e = λ m. Err e

-- a result without a node, or a fault
abbrev pub lift : {A : Type 0} → Checked A → Counted A
lift r = λ m. and_then r (λ a. Ok (a, m))

-- some nodes more, if so many are left
unfoldable pub nodes : ℕ → Counted (Unit {0})
nodes n = λ m. if nat_le (m.nodes + n) MAX_NODES then Ok (tt, record m { nodes = m.nodes + n }) else Err (BodyTooLong m.line)

-- one node more, or one turn of a loop
unfoldable pub node : Counted (Unit {0})
node = nodes 1

-- ---- what a function ensures: the outcome, unless memory runs out

-- of a function that counts nothing
abbrev pub Gives : {A : Type 0} → Checked A → Checked A → Type 0
Gives outcome (Ok a) = outcome ≡ Ok a
Gives outcome (Err e) = e ≢ NoMemory → outcome ≡ Err e

-- of a function that counts nodes
abbrev pub Counts : {A : Type 0} → Checked (A × Tally) → Checked A → Tally → Type 0
Counts outcome (Ok a) new = outcome ≡ Ok (a, new)
Counts outcome (Err e) new = e ≢ NoMemory → outcome ≡ Err e

-- of a function that changes a frame, and counts nothing
abbrev pub Changes : {F : Type 0} → Checked F → Checked (Unit {0}) → F → Type 0
Changes outcome (Ok _) frame = outcome ≡ Ok frame
Changes outcome (Err e) frame = e ≢ NoMemory → outcome ≡ Err e

-- of a function that changes a frame, and counts nodes
abbrev pub Moves : {F : Type 0} → Checked (F × Tally) → Checked (Unit {0}) → F → Tally → Type 0
Moves outcome (Ok _) frame new = outcome ≡ Ok (frame, new)
Moves outcome (Err e) frame new = e ≢ NoMemory → outcome ≡ Err e

-- of one that gives a value too
abbrev pub Runs : {A F : Type 0} → Checked ((F × A) × Tally) → Checked A → F → Tally → Type 0
Runs outcome (Ok a) frame new = outcome ≡ Ok ((frame, a), new)
Runs outcome (Err e) frame new = e ≢ NoMemory → outcome ≡ Err e
