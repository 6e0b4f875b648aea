use Rattle.std.proofs.Common.{◌≡◌, drop}
use Rattle.pm_elab.specs.Classes.{construct_in}
use Rattle.pm_class.proofs.construct.construct_in.Given as goal

abbrev pub invariant-loop-node : goal.invariant-loop-node
invariant-loop-node l = construct_in (drop l.node-index l.nodes) ≡ construct_in l.nodes
