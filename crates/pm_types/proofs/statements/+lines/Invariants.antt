use Rattle.std.proofs.Common.{◌≡◌, ◌+◌, ◌*◌, drop, length, map}
use Rattle.pm_typing.specs.Sites.{scope_of}
use Rattle.pm_types.specs.Statements.{block, line, turns, within, first_body}
use Rattle.pm_types.proofs.Weights.{weights}
use Rattle.pm_types.proofs.statements.+lines.Given as goal

abbrev pub invariant-turns-loop-number : goal.invariant-turns-loop-number
invariant-turns-loop-number l =
    turns l.place (within (scope_of l.typer.scope) l.line l.after (first_body (scope_of l.typer.scope) l.nodes)) l.range l.frame l.tally
    ≡ turns l.place (within (scope_of l.typer.scope) l.line l.after (first_body (scope_of l.typer.scope) l.nodes)) l.fn.range l.fn.frame l.fn.tally

abbrev pub decreases-turns-loop-number : goal.decreases-turns-loop-number
decreases-turns-loop-number l = length l.range

abbrev pub invariant-lines-loop-at : goal.invariant-lines-loop-at
invariant-lines-loop-at l =
    block (map (line (scope_of l.typer.scope)) (drop l.at l.nodes)) l.frame l.tally
    ≡ block (map (line (scope_of l.typer.scope)) l.nodes) l.fn.frame l.fn.tally

abbrev pub decreases-below : goal.decreases-below
decreases-below l = 16 * weights l.nodes.now + 1

abbrev pub decreases-this : goal.decreases-this
decreases-this l = 16 * weights l.nodes.now + 2

abbrev pub decreases-other : goal.decreases-other
decreases-other l = 16 * weights l.nodes.now + 1

abbrev pub decreases-this_apart : goal.decreases-this_apart
decreases-this_apart l = 16 * weights l.nodes.now + 3

abbrev pub decreases-other_apart : goal.decreases-other_apart
decreases-other_apart l = 16 * weights l.nodes.now + 2

abbrev pub decreases-rejoined : goal.decreases-rejoined
decreases-rejoined l = 16 * weights l.nodes.now + 3

abbrev pub decreases-forked : goal.decreases-forked
decreases-forked l = 16 * weights l.nodes.now + 4

abbrev pub decreases-branched : goal.decreases-branched
decreases-branched l = 16 * weights l.nodes.now + 5

abbrev pub decreases-branch : goal.decreases-branch
decreases-branch l = 16 * weights l.nodes.now + 6

abbrev pub decreases-turn : goal.decreases-turn
decreases-turn l = 16 * weights l.nodes.now + 3

abbrev pub decreases-turns : goal.decreases-turns
decreases-turns l = 16 * weights l.nodes.now + 4

abbrev pub decreases-repeat_at : goal.decreases-repeat_at
decreases-repeat_at l = 16 * weights l.nodes.now + 5

abbrev pub decreases-repeat : goal.decreases-repeat
decreases-repeat l = 16 * weights l.nodes.now + 6

abbrev pub decreases-first_line : goal.decreases-first_line
decreases-first_line l = 16 * weights l.nodes.now + 7

abbrev pub decreases-instead : goal.decreases-instead
decreases-instead l = 16 * weights l.nodes.now + 7

abbrev pub decreases-lines : goal.decreases-lines
decreases-lines l = 16 * weights l.nodes.now + 8
