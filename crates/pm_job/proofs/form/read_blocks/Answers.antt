use Rattle.std.proofs.Common.{◌≡◌, ◌∙◌, ◌++◌, ap, sym}
use Rattle.std.specs.Prelude.{Some, None, option_map}
use Rattle.pm_job.specs.Form.{form_lines, block_of, blocks_of}
use Rattle.pm_job.proofs.FormReads.{blocks_more, blocks_wrong, blocks_two, blocks_one, blocks_end}
use Rattle.pm_job.proofs.form.read_blocks.Goals as goal

pub returns-in_default-next_line : goal.returns-in_default-next_line
returns-in_default-next_line c =
    let none = blocks_one c.args.signals.now (form_lines c.lines.rest.now) _ c.in-Some.decorator.now c.in-Some.ensures.lines c.in_default-next_line.ensures.lines in
    sym (ap (option_map (λ more. c.lines.found ++ more)) none) ∙ c.lines.invariant

pub returns-in_default-next_line-2 : goal.returns-in_default-next_line-2
returns-in_default-next_line-2 c =
    let none = blocks_two c.args.signals.now (form_lines c.lines.rest.now) _ _ c.in-Some.decorator.now c.in-Some-next_line.head.now
    c.in-Some.ensures.lines c.in-Some-next_line.ensures.lines c.in_default-next_line-2.ensures.lines in
    sym (ap (option_map (λ more. c.lines.found ++ more)) none) ∙ c.lines.invariant

pub returns-in_default-2 : goal.returns-in_default-2
returns-in_default-2 c =
    let wrong : block_of c.args.signals.now c.in-Some.decorator.now c.in-Some-next_line.head.now c.in-Some-next_line-2.assignment.now ≡ None =
    sym c.in_ok-block.ensures ∙ c.in_default-2.is in
    let none = blocks_wrong c.args.signals.now (form_lines c.lines.rest.now) _ _ _ c.in-Some.decorator.now c.in-Some-next_line.head.now c.in-Some-next_line-2.assignment.now
    c.in-Some.ensures.lines c.in-Some-next_line.ensures.lines c.in-Some-next_line-2.ensures.lines wrong in
    sym (ap (option_map (λ more. c.lines.found ++ more)) none) ∙ c.lines.invariant

pub lines-preserved : goal.lines-preserved
lines-preserved c =
    let found : block_of c.args.signals.now c.in-Some.decorator.now c.in-Some-next_line.head.now c.in-Some-next_line-2.assignment.now ≡ Some c.in-Some-2.block =
    sym c.in_ok-block.ensures ∙ c.in-Some-2.is in
    let more = blocks_more c.args.signals.now c.lines.found (form_lines c.lines.rest.now) _ _ _ c.in-Some.decorator.now c.in-Some-next_line.head.now
    c.in-Some-next_line-2.assignment.now c.in-Some-2.block c.in-Some.ensures.lines c.in-Some-next_line.ensures.lines c.in-Some-next_line-2.ensures.lines found in
    ap (λ found. option_map (λ others. found ++ others) (blocks_of c.args.signals.now (form_lines c.in-Some-next_line-2.after.now))) c.in_ok-push.ensures.ok ∙ sym more ∙ c.lines.invariant

pub returns : goal.returns
returns c = sym (blocks_end c.args.signals.now c.lines.found (form_lines c.lines.rest.now) c.in_default.ensures.lines) ∙ c.lines.invariant
