use Rattle.std.proofs.Common.{◌+◌, ◌*◌, map}
use Rattle.pm_design.specs.Nodes.{nodes}
use Rattle.pm_design.specs.Widths.{total}
use Rattle.pm_block.specs.Sites.{inside_here}
use Rattle.pm_block.proofs.value.+value.Given as goal

-- the nodes of the expression
abbrev pub decreases-value_of : goal.decreases-value_of
decreases-value_of g l = 2 * nodes (inside_here l.site.now).guard l.ex.now

-- the nodes of the expressions, which are fewer than those of their concatenation
abbrev pub decreases-concatenated : goal.decreases-concatenated
decreases-concatenated g l = 2 * total (map (nodes (inside_here l.site.now).guard) l.parts.now) + 1

abbrev pub decreases-joined : goal.decreases-joined
decreases-joined g l = 2 * total (map (nodes (inside_here l.site.now).guard) l.parts.now) + 1
