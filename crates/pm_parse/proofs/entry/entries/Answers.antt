use Rattle.std.proofs.Common.{◌∙◌, ◌+◌, drop, sym}
use Rattle.pm_parse.proofs.KeptLines.{all_before, at_next, entry_is, next_entry, none_before, skipped}
use Rattle.pm_parse.proofs.entry.entries.Goals.{then-not-branch+in_ok-statement+in_ok-push, else-not-branch}
use Rattle.pm_parse.proofs.entry.entries.Goals as goal

pub loop-line-init : goal.loop-line-init
loop-line-init c =
    rw (c.new-enclosing.ensures, c.new-entries.ensures) (none_before c.args.lines.now)

pub loop-line-preserved : goal.loop-line-preserved
loop-line-preserved c =
    let are = at_next c.args.lines.now c.loop-line.line-index c.line-item.result c.loop-line.enclosing c.loop-line.entries c.loop-line-test.true c.line-item.is c.loop-line.invariant in
    let is_skipped = c.in_ok-skips.ensures.skipped are.before are.lines_are in
    let kept = c.in_ok-skips.ensures.kept are.before are.lines_are in
    let after = drop (c.loop-line.line-index + 1) c.args.lines.now in
    elim c.if-not-branch.branch [
      | then-not-branch+in_ok-statement+in_ok-push w ↦
          let entry = entry_is c.line-item.result w.as_slice.result.now w.in_ok-statement.field-0 w.as_slice.ensures w.in_ok-statement.ensures.found w.in_ok-statement.ensures.only in
          rw (w.entries-is, w.in_ok-push.ensures.ok) (next_entry c.args.lines.now after c.line-item.result c.loop-line.enclosing c.skips.new.outer c.loop-line.entries are kept _ (sym is_skipped ∙ w.if-not-branch.true) entry)
      | else-not-branch w ↦
          rw w.entries-is (skipped c.args.lines.now after c.line-item.result c.loop-line.enclosing c.skips.new.outer c.loop-line.entries are kept (sym is_skipped ∙ w.if-not-branch.false))
    ]

pub returns : goal.returns
returns c =
    all_before c.args.lines.now c.loop-line.line-index c.loop-line.enclosing c.loop-line.entries c.loop-line-test.false c.loop-line.invariant
