use Rattle.std.proofs.Common.{◌≡◌, [], drop}
use Rattle.pm_elab.specs.Constructs.{make_at}
use Rattle.pm_elab.specs.Files.{statements_from}
use Rattle.pm_build.proofs.runner.Runner.statements.Given as goal

abbrev pub invariant-loop-index : goal.invariant-loop-index
invariant-loop-index g l =
    statements_from (make_at l.self.builder.level) l.nodes l.index l.names (drop l.index l.nodes) l.elaboration
    ≡ statements_from (make_at l.self.builder.level) l.nodes 0 [] l.nodes l.fn.elaboration
