-- Which method a call leads to.
use Rattle.std.specs.Prelude.{ℕ, zero, suc, ◌+◌, ◌==◌, ◌&&◌, Bool, true, false, if◌then◌else◌, List, [], ◌∷◌, ◌++◌, length, map, slice_index_or, Option, None, Some}
use Rattle.pm_design.specs.declared.body.Method.{Method}
use Rattle.pm_design.specs.declared.connection.Bind.{Bind}
use Rattle.pm_design.specs.declared.connection.Callee.{Callee}
use Rattle.pm_design.specs.declared.connection.Callee.TheVariants as callee
use Rattle.pm_design.specs.declared.plan.Plan.{Plan}
use Rattle.pm_design.specs.Layout.{instance_of}
use Rattle.pm_design.specs.Lookups.{kind_of}
use Rattle.pm_design.specs.Widths.{total}

-- a method or a caller port of an instance
pub record End : Type 0 where
  pub instance : ℕ
  pub port : Bool
  pub number : ℕ

-- the instance of an instance's child
abbrev pub child_of : Plan → ℕ → ℕ → ℕ
child_of plan i child = slice_index_or (instance_of plan i).children child (length plan.instances)

-- what a callee names in an instance
abbrev pub end_of : Plan → ℕ → Callee → End
end_of plan i (callee.Own m) = record { instance = i; port = false; number = m }
end_of plan i (callee.Child c m) = record { instance = child_of plan i c; port = false; number = m }
end_of plan i (callee.Port p) = record { instance = i; port = true; number = p }
end_of plan i (callee.ChildPort c p) = record { instance = child_of plan i c; port = true; number = p }

-- two ends that are joined
pub record Link : Type 0 where
  pub a : End
  pub b : End

-- what the connections of some instances join, of which the first has the given number
abbrev pub links_from : Plan → ℕ → List (List Bind) → List Link
links_from plan i [] = []
links_from plan i (binds ∷ rest) =
    map (λ bind. record { a = end_of plan i bind.a; b = end_of plan i bind.b }) binds ++ links_from plan (i + 1) rest

-- what all connections of caller ports join
abbrev pub links_of : Plan → List Link
links_of plan = links_from plan 0 (map (λ i. (kind_of plan.design i.kind).binds) plan.instances)

-- the same method or port
abbrev pub is_same_end : End → End → Bool
is_same_end a b =
    a.instance == b.instance && (a.number == b.number && (if a.port then b.port else if b.port then false else true))

-- the ends that are joined to one
abbrev pub joined_to : List Link → End → List End
joined_to [] e = []
joined_to (link ∷ links) e =
    (if is_same_end link.a e then link.b ∷ [] else [])
    ++ (if is_same_end link.b e then link.a ∷ [] else []) ++ joined_to links e

-- the first method of a list
abbrev pub first_method : List End → Option End
first_method [] = None
first_method (e ∷ es) = if e.port then first_method es else Some e

-- ends, then all that one more connection leads to
abbrev pub one_further : List Link → List End → List End
one_further links [] = []
one_further links (e ∷ es) = e ∷ joined_to links e ++ one_further links es

-- what a chain of so many connections leads to
abbrev pub reached : ℕ → List Link → List End → List End
reached zero links es = es
reached (suc others) links es = reached others links (one_further links es)

-- a method, and the instance that it runs in
pub record Target : Type 0 where
  pub instance : ℕ
  pub method : Method

-- a method that does nothing
abbrev pub no_method : Method
no_method = record { name = []; arguments = []; result = None; guard = None; body = []; answer = None; temps = [] }

-- the method that an end is
abbrev pub target_of : Plan → Option End → Target
target_of plan None = record { instance = length plan.instances; method = no_method }
target_of plan (Some e) = record {
  instance = e.instance;
  method = slice_index_or (kind_of plan.design (instance_of plan e.instance).kind).methods e.number no_method;
}

-- the method that a callee of an instance leads to
abbrev pub leads_to : Plan → ℕ → Callee → Target
leads_to plan i m =
    target_of plan (first_method (reached (length (links_of plan)) (links_of plan) (end_of plan i m ∷ [])))

-- how many methods the instances have: no chain of calls is longer, as no method leads to itself
abbrev pub methods_of : Plan → ℕ
methods_of plan = total (map (λ i. length (kind_of plan.design i.kind).methods) plan.instances)
