use Rattle.std.proofs.Common.{◌≡◌, drop}
use Rattle.pm_types.specs.Bodies.{with_arguments}
use Rattle.pm_types.proofs.bodies.put_arguments.Given as goal

abbrev pub invariant-loop-argument : goal.invariant-loop-argument
invariant-loop-argument l =
    with_arguments l.own (drop l.argument-index l.arguments) l.frame ≡ with_arguments l.own l.arguments l.fn.frame
