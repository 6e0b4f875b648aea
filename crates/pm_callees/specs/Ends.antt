-- The methods and caller ports of instances.
use Rattle.std.specs.Prelude.{ℕ, ◌≡◌, ◌<◌, ◌++◌, Bool, true, false, List, [], length, codes, slice_index_or, None}
use Rattle.pm_design.specs.declared.connection.Caller.{Caller}
use Rattle.pm_design.specs.declared.design.Kind.{Kind}
use Rattle.pm_design.specs.declared.plan.Plan.{Plan}
use Rattle.pm_design.specs.Calls.{End}
use Rattle.pm_design.specs.Layout.{instance_of}
use Rattle.pm_design.specs.Runnable.{kind_at}

-- how many methods, or how many caller ports, a kind has
abbrev pub ends_of : Kind → Bool → ℕ
ends_of kind false = length kind.methods
ends_of kind true = length kind.callers

-- a method or a caller port that an instance has
abbrev pub IsThere : Plan → End → Type 0
IsThere plan e = (e.instance < length plan.instances) × (e.number < ends_of (kind_at plan e.instance) e.port)

-- a method of an instance
abbrev pub IsMethod : Plan → End → Type 0
IsMethod plan e = (e.port ≡ false) × IsThere plan e

-- a caller port of an instance
abbrev pub IsPort : Plan → End → Type 0
IsPort plan e = (e.port ≡ true) × IsThere plan e

-- a caller port that is nowhere
abbrev pub no_caller : Caller
no_caller = record { name = []; argument = None; result = None }

-- the name of a caller port
abbrev pub port_name : Plan → End → List ℕ
port_name plan e =
    (instance_of plan e.instance).path ++ codes "."
    ++ (slice_index_or (kind_at plan e.instance).callers e.number no_caller).name
