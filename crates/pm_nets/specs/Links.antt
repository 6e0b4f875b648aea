-- Connections of flat bits, one bit at a time.
use Rattle.std.specs.Prelude.{ℕ, suc, ◌+◌, List, ◌++◌, length, map, flat_map, min}
use Rattle.std.specs.List.{range_with_len}
use Rattle.pm_design.specs.declared.connection.Join.{Join}
use Rattle.pm_design.specs.declared.connection.Part.{Part}
use Rattle.pm_design.specs.declared.plan.Nets.{Nets}
use Rattle.pm_design.specs.declared.plan.Plan.{Plan}
use Rattle.pm_design.specs.Instances.{flat_bits}
use Rattle.pm_design.specs.Runnable.{kind_at}
use Rattle.disjoint_sets.specs.Connected.{Connected}
use Rattle.disjoint_sets.specs.Partitions.{IsNumbering}
use Rattle.pm_nets.specs.Sites.{first_of}

-- the bits from one on with those from another on
abbrev pub links_between : ℕ → ℕ → ℕ → List (ℕ × ℕ)
links_between a b width = map (λ t. (a + t, b + t)) (range_with_len 0 width)

-- what a connection of an instance's kind joins
abbrev pub join_links : Plan → ℕ → Join → List (ℕ × ℕ)
join_links plan i join = links_between (first_of plan i join.a) (first_of plan i join.b)
    (min join.a.width join.b.width)

-- the `reset` of a component, or of a child
abbrev pub reset_part : ℕ → Part
reset_part owner = record { owner = owner; signal = 0; lo = 0; width = 1 }

-- an instance's `reset` with that of a child
abbrev pub reset_link : Plan → ℕ → ℕ → ℕ × ℕ
reset_link plan i c = (first_of plan i (reset_part 0), first_of plan i (reset_part (suc c)))

-- what the connections of an instance join, the implied ones of `reset` among them
unfoldable pub links_in : Plan → ℕ → List (ℕ × ℕ)
links_in plan i =
    flat_map (join_links plan i) (kind_at plan i).joins
    ++ map (reset_link plan i) (range_with_len 0 (length (kind_at plan i).children))

-- what the connections of all instances join
unfoldable pub links_of : Plan → List (ℕ × ℕ)
links_of plan = flat_map (links_in plan) (range_with_len 0 (length plan.instances))

-- two flat bits are of one net: a chain of connections of any instances leads from one to the other
abbrev pub AreOneNet : Plan → ℕ → ℕ → Type 0
AreOneNet plan a b = Connected (links_of plan) a b

-- the nets of a design: one number where two bits are of one net, in the order of least bits, and how many there are
abbrev pub AreNets : Plan → Nets → Type 0
AreNets plan nets = IsNumbering (flat_bits plan.design) (links_of plan) nets.net_of nets.count
