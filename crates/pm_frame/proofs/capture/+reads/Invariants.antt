use Rattle.std.proofs.Common.{◌≡◌, ◌+◌, ◌*◌, max, drop, map}
use Rattle.pm_syn.specs.declared.expression.Arg.{size-Arg}
use Rattle.pm_syn.specs.declared.expression.Expr.{size-Expr}
use Rattle.pm_elab.specs.Captures.{any_reads, reads, argument_reading}
use Rattle.pm_frame.proofs.capture.+reads.Given as goal

abbrev pub invariant-any_reads-loop-e : goal.invariant-any_reads-loop-e
invariant-any_reads-loop-e l = any_reads (map (reads l.locals) (drop l.e-index l.es)) l.bound ≡ any_reads (map (reads l.locals) l.es) l.bound

abbrev pub invariant-arguments_read-loop-argument : goal.invariant-arguments_read-loop-argument
invariant-arguments_read-loop-argument l =
    any_reads (map (argument_reading l.locals) (drop l.argument-index l.arguments)) l.bound ≡ any_reads (map (argument_reading l.locals) l.arguments) l.bound

abbrev pub decreases-reads : goal.decreases-reads
decreases-reads l = 4 * size-Expr l.e.now

abbrev pub decreases-either_reads : goal.decreases-either_reads
decreases-either_reads l = 4 * max (size-Expr l.a.now) (size-Expr l.b.now) + 1

abbrev pub decreases-one_reads : goal.decreases-one_reads
decreases-one_reads l = 4 * max (size-Expr l.a.now) (max (size-Expr l.b.now) (size-Expr l.c.now)) + 2

abbrev pub decreases-any_reads : goal.decreases-any_reads
decreases-any_reads l = 4 * goal.size-any_reads l + 1

abbrev pub decreases-arguments_read : goal.decreases-arguments_read
decreases-arguments_read l = 4 * goal.size-arguments_read l + 2

abbrev pub decreases-argument_reads : goal.decreases-argument_reads
decreases-argument_reads l = 4 * size-Arg l.argument.now + 1

abbrev pub decreases-call_reads : goal.decreases-call_reads
decreases-call_reads l = 4 * max (goal.size-call_reads l) (size-Expr l.f.now) + 3

abbrev pub decreases-each_reads : goal.decreases-each_reads
decreases-each_reads l = 4 * max (goal.size-each_reads l) (size-Expr l.e.now) + 3
