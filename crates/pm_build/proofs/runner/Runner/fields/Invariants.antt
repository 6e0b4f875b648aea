use Rattle.std.proofs.Common.{◌≡◌, [], drop}
use Rattle.pm_elab.specs.Constructs.{make_at}
use Rattle.pm_elab.specs.Files.{fields_from}
use Rattle.pm_elab.specs.Sites.{scope_of}
use Rattle.pm_build.proofs.runner.Runner.fields.Given as goal

abbrev pub invariant-loop-node : goal.invariant-loop-node
invariant-loop-node g l =
    fields_from (make_at l.self.builder.level) (scope_of l.file) l.fields (drop l.node-index l.nodes) l.elaboration
    ≡ fields_from (make_at l.self.builder.level) (scope_of l.file) [] l.nodes l.fn.elaboration
