use Rattle.std.proofs.Common.{◌≡◌, drop}
use Rattle.std.specs.Prelude.{None}
use Rattle.pm_elab.specs.Constructs.{make_at}
use Rattle.pm_elab.specs.Methods.{headers_from}
use Rattle.pm_elab.specs.Sites.{scope_of}
use Rattle.pm_build.specs.Guards.{guard_of}
use Rattle.pm_build.proofs.runner.Runner.headers.Given as goal

abbrev pub invariant-loop-node : goal.invariant-loop-node
invariant-loop-node g l =
    headers_from (make_at l.self.builder.level) (scope_of l.file) (guard_of l.guard) (drop l.node-index l.nodes) l.frame l.elaboration
    ≡ headers_from (make_at l.self.builder.level) (scope_of l.file) None l.nodes l.fn.frame l.fn.elaboration
