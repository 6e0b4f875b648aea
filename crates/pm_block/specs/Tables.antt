-- What is prepared for the runs of a plan's blocks.
use Rattle.std.specs.Prelude.{ℕ, ◌+◌, ◌^◌, ◌≡◌, Bool, true, false, max, nat_lt, List, [], ◌∷◌, length, slice_index_or}
use Rattle.std.specs.List.{list_all}
use Rattle.pm_design.specs.declared.plan.Flat.{Flat}
use Rattle.pm_design.specs.declared.plan.FlatPart.{FlatPart}
use Rattle.pm_design.specs.declared.plan.Instance.{Instance}
use Rattle.pm_design.specs.declared.plan.Plan.{Plan}
use Rattle.pm_design.specs.Layout.{layout_of, scope_of}
use Rattle.pm_design.specs.Nodes.{body_nodes, inside_of}
use Rattle.pm_design.specs.Runnable.{block_at}
use Rattle.pm_design.specs.Typing.{is_sound}
use Rattle.pm_block.specs.declared.block_run.Run.{Run}
use Rattle.pm_block.specs.declared.block_run.Run.TheVariants as which
use Rattle.pm_block.specs.declared.waiting.Write.{Write}
use Rattle.pm_block.specs.Assignments.{all_assignments}
use Rattle.pm_block.specs.Plans.{plain_sight, scene_of}
use Rattle.pm_block.specs.Run.{Memory, run_block}

-- flat bits whose end has a number of 32 bits
abbrev pub ends_below : FlatPart → Bool
ends_below part = nat_lt (part.bit + part.width) (2 ^ 32)

-- the scopes of instances, of which the first has the given number
abbrev pub scopes_from : Plan → ℕ → List Instance → List (List (List ℕ))
scopes_from plan i [] = []
scopes_from plan i (x ∷ xs) = scope_of plan i ∷ scopes_from plan (i + 1) xs

-- the scopes of all instances
abbrev pub scopes_of : Plan → List (List (List ℕ))
scopes_of plan = scopes_from plan 0 plan.instances

-- the greatest of the numbers that blocks have
abbrev pub most : (Flat → ℕ) → List Flat → ℕ
most number [] = 0
most number (x ∷ xs) = max (number x) (most number xs)

-- how many temporaries a block has
abbrev pub temps_in : Plan → Flat → ℕ
temps_in plan flat = length (block_at plan flat).temps

-- how many assignments a block may make
abbrev pub assignments_in : Plan → Flat → ℕ
assignments_in plan flat = all_assignments (block_at plan flat).body

-- the most that a block of the plan has
abbrev pub most_in : Plan → (Flat → ℕ) → ℕ
most_in plan number = max (most number plan.scheduled) (most number plan.edge_blocks)

-- scopes, room for temporaries, and room for the assignments that wait, with those that do
pub record Tables : Type 0 where
  pub scopes : List (List (List ℕ))
  pub words : ℕ
  pub writes : List Write
  pub room : ℕ

-- the tables of a plan, with no assignment that waits
pub record IsFor (plan : Plan) (tables : Tables) : Type 0 where
  pub scopes : tables.scopes ≡ scopes_of plan
  pub words : tables.words ≡ most_in plan (temps_in plan)
  pub room : tables.room ≡ most_in plan (assignments_in plan)
  pub none : tables.writes ≡ []

-- a block without a name
abbrev pub no_flat : Flat
no_flat = record { instance = 0; block = 0; name = [] }

-- the block that is to run
abbrev pub flat_of : Plan → Run → Flat
flat_of plan (which.Scheduled n) = slice_index_or plan.scheduled n no_flat
flat_of plan (which.Edge n) = slice_index_or plan.edge_blocks n no_flat

-- a block that is there
abbrev pub can_run : Plan → Run → Bool
can_run plan (which.Scheduled n) = nat_lt n (length plan.scheduled)
can_run plan (which.Edge n) = nat_lt n (length plan.edge_blocks)

-- a block at the clock edge
abbrev pub is_clocked : Run → Bool
is_clocked (which.Scheduled n) = false
is_clocked (which.Edge n) = true

-- a block without states and methods
abbrev pub is_plain : Plan → Flat → Bool
is_plain plan flat =
    list_all (is_sound (plain_sight (scope_of plan flat.instance) (layout_of plan) (block_at plan flat).temps))
    (block_at plan flat).body

-- the nodes of a block, with those of the methods that it calls
abbrev pub nodes_in : Plan → Flat → ℕ
nodes_in plan flat = body_nodes (inside_of plan flat.instance) (block_at plan flat).body

-- the values that a block leaves
abbrev pub left_by : Plan → Run → Memory → Memory
left_by plan run m =
    let flat = flat_of plan run in
    run_block (is_clocked run) (scene_of plan flat.instance) (block_at plan flat).body (block_at plan flat).temps m
