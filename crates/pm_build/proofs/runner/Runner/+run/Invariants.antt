use Rattle.std.proofs.Common.{◌≡◌, ◌+◌, ◌*◌, drop, map, length}
use Rattle.pm_syn.specs.declared.statement.Node.{size-Node}
use Rattle.pm_elab.specs.declared.statement.Before.TheVariants as before
use Rattle.pm_elab.specs.Constructs.{make_at}
use Rattle.pm_elab.specs.Sites.{scope_of}
use Rattle.pm_elab.specs.Statements.{run, lines, turns_of}
use Rattle.pm_build.proofs.runner.Runner.+run.Given as goal

abbrev pub invariant-turns_of-loop-number : goal.invariant-turns_of-loop-number
invariant-turns_of-loop-number g l =
    turns_of (make_at l.self.builder.level) (scope_of l.file) l.name l.after (map (run (make_at l.self.builder.level) (scope_of l.file)) l.below) l.line l.range l.frame l.elaboration
    ≡ turns_of (make_at l.self.builder.level) (scope_of l.file) l.name l.after (map (run (make_at l.self.builder.level) (scope_of l.file)) l.below) l.line l.initial.range l.fn.frame l.fn.elaboration

abbrev pub decreases-turns_of-loop-number : goal.decreases-turns_of-loop-number
decreases-turns_of-loop-number g l = length l.range

abbrev pub invariant-lines-loop-node : goal.invariant-lines-loop-node
invariant-lines-loop-node g l =
    lines (map (run (make_at l.self.builder.level) (scope_of l.file)) (drop l.node-index l.nodes)) l.before l.frame l.elaboration
    ≡ lines (map (run (make_at l.self.builder.level) (scope_of l.file)) l.nodes) before.Nothing l.fn.frame l.fn.elaboration

abbrev pub decreases-lines : goal.decreases-lines
decreases-lines g l = 10 * goal.size-lines g l + 1

abbrev pub decreases-body : goal.decreases-body
decreases-body g l = 10 * goal.size-body g l + 2

abbrev pub decreases-taken_branch : goal.decreases-taken_branch
decreases-taken_branch g l = 10 * goal.size-taken_branch g l + 3

abbrev pub decreases-branch : goal.decreases-branch
decreases-branch g l = 10 * goal.size-branch g l + 4

abbrev pub decreases-turn : goal.decreases-turn
decreases-turn g l = 10 * goal.size-turn g l + 3

abbrev pub decreases-turns_of : goal.decreases-turns_of
decreases-turns_of g l = 10 * goal.size-turns_of g l + 4

abbrev pub decreases-repeat : goal.decreases-repeat
decreases-repeat g l = 10 * goal.size-repeat g l + 5

abbrev pub decreases-later_branch : goal.decreases-later_branch
decreases-later_branch g l = 10 * goal.size-later_branch g l + 5

abbrev pub decreases-last_branch : goal.decreases-last_branch
decreases-last_branch g l = 10 * goal.size-last_branch g l + 5

abbrev pub decreases-statement : goal.decreases-statement
decreases-statement g l = 10 * goal.size-statement g l + 6

abbrev pub decreases-run : goal.decreases-run
decreases-run g l = 10 * size-Node l.node.now
