-- The ends of connections: the flat bits as one component sees them.
use Rattle.std.specs.Prelude.{ℕ, zero, suc, ◌+◌, ◌*◌, List, ◌++◌, length, map, flat_map, min}
use Rattle.std.specs.List.{range_with_len}
use Rattle.pm_design.specs.declared.connection.Join.{Join}
use Rattle.pm_design.specs.declared.connection.Part.{Part}
use Rattle.pm_design.specs.declared.plan.Plan.{Plan}
use Rattle.pm_design.specs.Runnable.{kind_at}
use Rattle.pm_nets.specs.Links.{reset_part}
use Rattle.pm_nets.specs.Sites.{first_of}

-- the end at a flat bit: that of its own component (owner 0), or that of the component around it, whose child has it
abbrev pub end_at : ℕ → ℕ → ℕ
end_at zero bit = 2 * bit
end_at (suc c) bit = 2 * bit + 1

-- an end of a part of an instance's kind
abbrev pub end_of : Plan → ℕ → Part → ℕ → ℕ
end_of plan i part t = end_at part.owner (first_of plan i part + t)

-- the ends that a connection of an instance's kind joins
abbrev pub join_ends : Plan → ℕ → Join → List (ℕ × ℕ)
join_ends plan i join =
    map (λ t. (end_of plan i join.a t, end_of plan i join.b t)) (range_with_len 0 (min join.a.width join.b.width))

-- the end of an instance's `reset` with that of a child's
abbrev pub reset_ends : Plan → ℕ → ℕ → ℕ × ℕ
reset_ends plan i c = (end_of plan i (reset_part 0) 0, end_of plan i (reset_part (suc c)) 0)

-- the ends that the connections of an instance join, the implied ones of `reset` among them
unfoldable pub ends_in : Plan → ℕ → List (ℕ × ℕ)
ends_in plan i =
    flat_map (join_ends plan i) (kind_at plan i).joins
    ++ map (reset_ends plan i) (range_with_len 0 (length (kind_at plan i).children))

-- the ends that the connections of all instances join, each those of its own component
unfoldable pub ends_joined : Plan → List (ℕ × ℕ)
ends_joined plan = flat_map (ends_in plan) (range_with_len 0 (length plan.instances))
