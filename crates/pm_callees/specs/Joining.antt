-- What connections join.
use Rattle.std.specs.Prelude.{ℕ, List, map}
use Rattle.pm_design.specs.declared.connection.Bind.{Bind}
use Rattle.pm_design.specs.declared.plan.Plan.{Plan}
use Rattle.pm_design.specs.Calls.{Link, end_of}
use Rattle.pm_design.specs.Runnable.{kind_at}
use Rattle.pm_callees.specs.Numbers.{numbered}

-- what a connection of an instance's kind joins
abbrev pub link_of : Plan → ℕ → Bind → Link
link_of plan i bind = record { a = end_of plan i bind.a; b = end_of plan i bind.b }

-- the numbers that the connections of an instance join
abbrev pub joined_in : Plan → ℕ → List (ℕ × ℕ)
joined_in plan i = map (λ bind. numbered plan (link_of plan i bind)) (kind_at plan i).binds
