-- How many nodes the blocks of a design have.
use Rattle.std.specs.Prelude.{ℕ, ◌^◌, List, map, min}
use Rattle.pm_design.specs.declared.body.Block.{Block}
use Rattle.pm_design.specs.declared.design.Design.{Design}
use Rattle.pm_design.specs.declared.design.Kind.{Kind}
use Rattle.pm_design.specs.Instances.{instances_of}
use Rattle.pm_design.specs.Lookups.{kind_of}
use Rattle.pm_design.specs.Nodes.{Inside, body_nodes}
use Rattle.pm_design.specs.Widths.{total}

-- a count stops at 2^63
abbrev pub counted : ℕ → ℕ
counted n = min n (2 ^ 63)

-- nothing is put in the place of calls and of guards
abbrev pub nothing_inside : Inside
nothing_inside = record { guard = λ m. 0; body = λ m. 0 }

-- the nodes of blocks
abbrev pub block_nodes : Inside → List Block → ℕ
block_nodes inside blocks = total (map (λ b. body_nodes inside b.body) blocks)

-- the nodes of the blocks of a kind, nothing put in
abbrev pub kind_nodes : Kind → ℕ
kind_nodes kind = block_nodes nothing_inside kind.blocks

-- the nodes of the blocks of all instances, nothing put in
unfoldable pub work_of : Design → ℕ
work_of design = total (map (λ i. kind_nodes (kind_of design i.kind)) (instances_of design))
