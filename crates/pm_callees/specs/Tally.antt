-- How many methods are in each set.
use Rattle.std.specs.Prelude.{ℕ, ◌≡◌, ◌<◌, ◌⊎◌, List, length, get_or}
use Rattle.pm_callees.specs.declared.tally.Methods.{Methods}
use Rattle.pm_callees.specs.declared.tally.Methods.TheVariants as methods
use Rattle.pm_callees.specs.Ends.{IsMethod}
use Rattle.pm_callees.specs.Numbers.{number_of}
use Rattle.pm_callees.specs.Sets.{IsEmpty, IsSeveral, IsSingle}
use Rattle.pm_design.specs.declared.plan.Plan.{Plan}
use Rattle.pm_design.specs.Calls.{End}

-- how many methods are in a set
abbrev pub Counted : (End → Type 0) → Methods → Type 0
Counted In methods.Absent = IsEmpty In
Counted In methods.Single = IsSingle In
Counted In methods.Several = IsSeveral In

-- one method more
abbrev pub one_more_of : Methods → Methods
one_more_of methods.Absent = methods.Single
one_more_of methods.Single = methods.Several
one_more_of methods.Several = methods.Several

-- an end of an earlier instance, or of the given one with a lesser number
abbrev pub IsBefore : End → ℕ → ℕ → Type 0
IsBefore e i n = (e.instance < i) ⊎ ((e.instance ≡ i) × (e.number < n))

-- a method before a place, in the set with a least number
abbrev pub IsSeen : Plan → List ℕ → ℕ → ℕ → ℕ → End → Type 0
IsSeen plan leasts i n r m = IsMethod plan m × IsBefore m i n × (get_or leasts (number_of plan m) 0 ≡ r)

-- how many methods before a place each set has, by its least number
pub record AreCounted (plan : Plan) (leasts : List ℕ) (i n : ℕ) (tally : List Methods) : Type 0 where
  pub size : length tally ≡ length leasts
  pub each : (r : ℕ) → r < length tally → Counted (IsSeen plan leasts i n r) (get_or tally r methods.Absent)
