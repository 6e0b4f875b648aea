use Rattle.std.specs.Prelude.{IsTrue}
use Rattle.pm_elab_laws.specs.Soundness.{are_good_params}
use Rattle.show_design.proofs.words.params_of.Given as goal

-- the parameters so far have good types
abbrev pub invariant-loop-assignment : goal.invariant-loop-assignment
invariant-loop-assignment l = IsTrue (are_good_params l.params)
