-- The methods that calls lead to.
use Rattle.std.specs.Prelude.{ℕ, List, [], ◌∷◌, ◌++◌, length, codes, slice_index_or, Option}
use Rattle.pm_design.specs.declared.body.Method.{Method}
use Rattle.pm_design.specs.declared.connection.Callee.{Callee}
use Rattle.pm_design.specs.declared.plan.Plan.{Plan}
use Rattle.pm_design.specs.Calls.{End, end_of, first_method, links_of, no_method, reached}
use Rattle.pm_design.specs.Layout.{instance_of}
use Rattle.pm_design.specs.Runnable.{kind_at}

-- the method that a callee of an instance leads to, if it leads to one
abbrev pub callee_end : Plan → ℕ → Callee → Option End
callee_end plan i m = first_method (reached (length (links_of plan)) (links_of plan) (end_of plan i m ∷ []))

-- the method of a number, and one that does nothing past the end
abbrev pub method_at : Plan → End → Method
method_at plan e = slice_index_or (kind_at plan e.instance).methods e.number no_method

-- the name of a method
abbrev pub method_name : Plan → End → List ℕ
method_name plan e = (instance_of plan e.instance).path ++ codes "." ++ (method_at plan e).name
