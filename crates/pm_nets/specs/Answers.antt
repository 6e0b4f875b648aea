-- What the nets of a design are, or why there are none.
use Rattle.std.specs.Prelude.{ℕ, ◌^◌, ◌≡◌, ◌<◌, ◌≤◌, List, Result, Ok, Err, None, Some}
use Rattle.pm_design.specs.declared.design.Design.{Design}
use Rattle.pm_design.specs.declared.plan.Nets.{Nets}
use Rattle.disjoint_sets.specs.Partitions.{IsPartition}
use Rattle.pm_design.specs.Instances.{flat_bits}
use Rattle.pm_instances.specs.Laid.{laid_out}
use Rattle.pm_callees.specs.declared.fault.CallerFault.TheVariants as caller
use Rattle.pm_callees.specs.Callees.{Finds as FindsCaller}
use Rattle.pm_nets.specs.declared.check.Check.TheVariants as check
use Rattle.pm_nets.specs.declared.fault.NetFault.{NetFault}
use Rattle.pm_nets.specs.declared.fault.NetFault.TheVariants as fault
use Rattle.pm_nets.specs.declared.site.Site.{Site}
use Rattle.pm_nets.specs.Drivers.{HasNoUndriven}
use Rattle.pm_nets.specs.Faults.{HasNoLine, IsFirstLine}
use Rattle.pm_nets.specs.Givers.{HasNoDouble, NamesDouble}
use Rattle.pm_nets.specs.Links.{links_of}
use Rattle.pm_nets.specs.SignalBits.{NamesUndriven}
use Rattle.pm_nets.specs.Sites.{IsSite}
use Rattle.pm_work.specs.Work.{counted, work_of}

-- few flat bits
abbrev pub IsSmall : Design → Type 0
IsSmall design = flat_bits design ≤ 2 ^ 18

-- and no connection has a wrong direction
abbrev pub IsDirected : Design → Type 0
IsDirected design = IsSmall design × HasNoLine design check.Direction

-- and all ends of connections have equal types
abbrev pub IsMatched : Design → Type 0
IsMatched design = IsDirected design × HasNoLine design check.Types

-- and no two drivers give to a net of a component
abbrev pub IsSingle : Design → Type 0
IsSingle design = IsMatched design × HasNoDouble (laid_out design)

-- and each net of two or more flat bits has a driver
abbrev pub IsDriven : Design → Type 0
IsDriven design = IsSingle design × HasNoUndriven (laid_out design)

-- and each caller port leads to exactly one method
abbrev pub IsCallable : Design → Type 0
IsCallable design = IsDriven design × FindsCaller (laid_out design) None

-- and the blocks have few nodes
abbrev pub IsLight : Design → Type 0
IsLight design = IsCallable design × (work_of design ≤ 2 ^ 24)

-- a design that passes all tests
abbrev pub IsAccepted : Design → Type 0
IsAccepted design = IsLight design

-- too many flat bits, of which there are so many
abbrev pub IsLarge : Design → ℕ → Type 0
IsLarge design count = (2 ^ 18 < flat_bits design) × (count ≡ flat_bits design)

-- too many nodes in the blocks: how many, but for a count that stops at 2^63
abbrev pub IsHeavy : Design → ℕ → Type 0
IsHeavy design count = (2 ^ 24 < work_of design) × (count ≡ counted (work_of design))

-- why a design has no nets: it passes the tests before, and has the fault with this detail
abbrev pub Refuses : Design → NetFault → Type 0
Refuses design (fault.TooManyBits count) = IsLarge design count
Refuses design (fault.BadDirection line) = IsSmall design × IsFirstLine design check.Direction line
Refuses design (fault.JoinMismatch line) = IsDirected design × IsFirstLine design check.Types line
Refuses design (fault.MultiWriter signal bit) =
    IsMatched design × NamesDouble (laid_out design) (Some (record { signal = signal; bit = bit }))
Refuses design (fault.NoWriter signal bit) =
    IsSingle design × NamesUndriven (laid_out design) (Some (record { signal = signal; bit = bit }))
Refuses design (fault.NoCallee port) = IsDriven design × FindsCaller (laid_out design) (Some (caller.NoCallee port))
Refuses design (fault.TwoCallees port) = IsDriven design × FindsCaller (laid_out design) (Some (caller.TwoCallees port))
Refuses design (fault.MethodCycle method) = ⊥
Refuses design (fault.TooMuchWork count) = IsCallable design × IsHeavy design count
Refuses design fault.NoMemory = Unit {0}

-- what holds of a result, or why there is none
abbrev pub Answers : {A : Type 0} → Design → (A → Type 0) → Result A NetFault → Type 0
Answers design holds (Ok result) = holds result
Answers design holds (Err fault) = Refuses design fault

-- an accepted design is refused for want of memory alone, and no other design has nets
abbrev pub Accepts : Design → Result Nets NetFault → Type 0
Accepts design (Ok nets) = IsAccepted design
Accepts design (Err error) = IsAccepted design → error ≡ fault.NoMemory

-- a design of few bits, with what is kept of it
abbrev pub IsPlaced : Design → Site → Type 0
IsPlaced design site = IsSmall design × IsSite design site

-- the nets of a design that passes the tests of drivers, as sets of flat bits
abbrev pub AreDrivenNets : Design → List ℕ → Type 0
AreDrivenNets design sets = IsDriven design × IsPartition (flat_bits design) (links_of (laid_out design)) sets
