use Rattle.std.proofs.Common.{◌∙◌}
use Rattle.pm_parse.proofs.EnclosingLines.{is_skipped_under-left, kept_with}
use Rattle.pm_parse.proofs.enclosing.skips.Goals as goal

pub returns-clause-skipped : goal.returns-clause-skipped
returns-clause-skipped c = λ before was.
    c.is_skipped_under-is_skipped.ensures
    ∙ is_skipped_under-left c.args.line.now before c.args.outer.now c.leave.new.outer c.as_slice-tokens.result.now was c.leave.ensures c.as_slice-tokens.ensures

pub returns-clause-kept : goal.returns-clause-kept
returns-clause-kept c = λ before was.
    let is_skipped = c.is_skipped_under-is_skipped.ensures
    ∙ is_skipped_under-left c.args.line.now before c.args.outer.now c.leave.new.outer c.as_slice-tokens.result.now was c.leave.ensures c.as_slice-tokens.ensures in
    c.in_ok-push.ensures.ok
    ∙ kept_with c.args.line.now before c.args.outer.now c.leave.new.outer c.as_slice-tokens.result.now was c.leave.ensures c.as_slice-tokens.ensures _ _ is_skipped c.begins_class.ensures
