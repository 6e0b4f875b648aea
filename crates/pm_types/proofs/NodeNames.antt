-- The names of a line and of those below it.
use Rattle.std.proofs.Common.{◌≡◌, ℕ, map, ap}
use Rattle.pm_syn.specs.declared.statement.Node.{Node, out-Node, fold_out-Node}
use Rattle.pm_values.specs.Tables.{Names}
use Rattle.pm_types.specs.OwnNames.{Adding, node_names, node_names_of, all_added, statement_names}

pub names_of_node : (n : Node) (own : Names ℕ)
    → node_names n own ≡ all_added (map node_names (out-Node n).body) (statement_names (out-Node n).stmt own)
unfolding node_names
names_of_node n own = ap (λ (f : Adding). f own) (fold_out-Node Adding node_names_of n)
