-- Chains of connections between methods and caller ports.
use Rattle.std.specs.Prelude.{List, Contains}
use Rattle.pm_design.specs.declared.plan.Plan.{Plan}
use Rattle.pm_design.specs.Calls.{End, Link, links_of}
use Rattle.pm_callees.specs.Ends.{IsMethod}

-- two ends that are joined
abbrev pub link : End → End → Link
link a b = record { a = a; b = b }

-- a chain of connections, each taken either way, leads from one end to another
pub data Chained (links : List Link) : End → End → Type 0 where
  Itself : (a : End) → Chained links a a
  Forward : (a b c : End) → Contains links (link a b) → Chained links b c → Chained links a c
  Backward : (a b c : End) → Contains links (link b a) → Chained links b c → Chained links a c

-- a chain of connections of any instances leads from an end to a method
abbrev pub LeadsTo : Plan → End → End → Type 0
LeadsTo plan e m = IsMethod plan m × Chained (links_of plan) e m
