use Rattle.std.proofs.Common.{◌≡◌, drop}
use Rattle.pm_elab.specs.Classes.{parameters_from}
use Rattle.pm_elab.specs.Constructs.{make_at}
use Rattle.pm_elab.specs.Sites.{site_of}
use Rattle.pm_build.proofs.runner.Runner.parameters_from.Given as goal

abbrev pub invariant-loop-parameter : goal.invariant-loop-parameter
invariant-loop-parameter g l =
    parameters_from (make_at l.self.builder.level) l.done l.given (drop l.parameter-index l.parameters) (site_of l.site) l.elaboration
    ≡ parameters_from (make_at l.self.builder.level) l.fn.values l.given l.parameters (site_of l.site) l.fn.elaboration
