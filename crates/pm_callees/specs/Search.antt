-- The first caller port whose set has so many methods.
use Rattle.std.specs.Prelude.{ℕ, ◌+◌, ◌≡◌, List, true, get_or, Option, None, Some}
use Rattle.pm_callees.specs.declared.search.Port.{Port}
use Rattle.pm_callees.specs.declared.tally.Methods.{Methods}
use Rattle.pm_callees.specs.declared.tally.Methods.TheVariants as methods
use Rattle.pm_callees.specs.Ends.{IsPort}
use Rattle.pm_callees.specs.Numbers.{end_at, number_of}
use Rattle.pm_callees.specs.Tally.{IsBefore}
use Rattle.pm_design.specs.declared.plan.Plan.{Plan}
use Rattle.pm_design.specs.Calls.{End}

-- how many methods the set of an end has
abbrev pub methods_at : Plan → List ℕ → List Methods → End → Methods
methods_at plan leasts tally e = get_or tally (get_or leasts (number_of plan e) 0) methods.Absent

-- no caller port before a place has a set of so many methods
abbrev pub NoneBefore : Plan → List ℕ → List Methods → Methods → ℕ → ℕ → Type 0
NoneBefore plan leasts tally wanted i n =
    (q : End) → IsPort plan q → IsBefore q i n → methods_at plan leasts tally q ≡ wanted → ⊥

-- a caller port whose set has so many methods, and none before it
pub record IsFirstPort (plan : Plan) (leasts : List ℕ) (tally : List Methods) (wanted : Methods)
    (i n : ℕ) : Type 0 where
  pub port : IsPort plan (end_at i true n)
  pub counted : methods_at plan leasts tally (end_at i true n) ≡ wanted
  pub first : NoneBefore plan leasts tally wanted i n

-- the first such port of an instance, if there is one
abbrev pub FindsIn : Plan → List ℕ → List Methods → Methods → ℕ → Option ℕ → Type 0
FindsIn plan leasts tally wanted i None = NoneBefore plan leasts tally wanted (i + 1) 0
FindsIn plan leasts tally wanted i (Some n) = IsFirstPort plan leasts tally wanted i n

-- the first such port of all instances, if there is one
abbrev pub FindsPort : Plan → List ℕ → List Methods → Methods → Option Port → Type 0
FindsPort plan leasts tally wanted None = (q : End) → IsPort plan q → methods_at plan leasts tally q ≡ wanted → ⊥
FindsPort plan leasts tally wanted (Some found) =
    IsFirstPort plan leasts tally wanted found.instance found.number
