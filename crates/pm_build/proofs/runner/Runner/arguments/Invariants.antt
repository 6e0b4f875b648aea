use Rattle.std.proofs.Common.{◌≡◌, [], drop}
use Rattle.pm_elab.specs.Constructs.{make_at}
use Rattle.pm_elab.specs.Methods.{arguments_from}
use Rattle.pm_elab.specs.Sites.{site_of}
use Rattle.pm_build.proofs.runner.Runner.arguments.Given as goal

abbrev pub invariant-loop-parameter : goal.invariant-loop-parameter
invariant-loop-parameter g l =
    arguments_from (make_at l.self.builder.level) l.arguments (drop l.parameter-index l.parameters) (site_of l.site) l.elaboration
    ≡ arguments_from (make_at l.self.builder.level) [] l.parameters (site_of l.site) l.fn.elaboration
