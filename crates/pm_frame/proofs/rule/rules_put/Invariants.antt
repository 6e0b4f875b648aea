use Rattle.std.proofs.Common.{◌≡◌, drop}
use Rattle.pm_elab.specs.Statements.{rules_put}
use Rattle.pm_frame.proofs.rule.rules_put.Given as goal

abbrev pub invariant-loop-argument : goal.invariant-loop-argument
invariant-loop-argument l = rules_put (drop l.argument-index l.given) l.line l.frame ≡ rules_put l.given l.line l.fn.frame
