use Rattle.std.proofs.Common.{◌≡◌, drop}
use Rattle.pm_elab.specs.Classes.{class_named}
use Rattle.pm_class.proofs.class.class_named.Given as goal

abbrev pub invariant-loop-node : goal.invariant-loop-node
invariant-loop-node l = class_named (drop l.node-index l.nodes) l.name ≡ class_named l.nodes l.name
