use Rattle.std.proofs.Common.{◌∙◌, ◌+◌, ◌≤◌, take, length, sym, ap, arith}
use Rattle.std.proofs.lemmas.List.{take_all, length-take-le}
use Rattle.pm_syn.specs.Positions.{line_ends}
use Rattle.pm_syn.specs.declared.text_line.TextLine.{TextLine}
use Rattle.pm_syn.proofs.LineEnds.{start_after, line_ends_within, line_ends-take_end, line_ends-take_other, start_after-take_end, start_after-take_other}
use Rattle.pm_syn.proofs.text_line.TextLine.after.Goals as goal
use Rattle.pm_syn.proofs.text_line.TextLine.after.Goals.{then-byte-eq-LF, else-byte-eq-LF}

pub loop-count-preserved : goal.loop-count-preserved
loop-count-preserved c =
    let within = c.loop-count-test.true in
    elim c.if-byte-eq-LF.branch [
      | then-byte-eq-LF w ↦
          let line_is = ap (λ (line : TextLine). line.number) w.line-is in
          let ends = line_ends-take_end c.args.bytes.now c.loop-count.count within w.if-byte-eq-LF.true in
          let starts = start_after-take_end c.args.bytes.now c.loop-count.count within c.args.self.start c.args.at w.if-byte-eq-LF.true in
          record { line = omega arith; start = ap (λ (line : TextLine). line.start) w.line-is ∙ sym starts }
      | else-byte-eq-LF w ↦
          let line_is = ap (λ (line : TextLine). line.number) w.line-is in
          let ends = line_ends-take_other c.args.bytes.now c.loop-count.count within w.if-byte-eq-LF.false in
          let starts = start_after-take_other c.args.bytes.now c.loop-count.count within c.args.self.start c.args.at w.if-byte-eq-LF.false in
          record { line = omega arith; start = ap (λ (line : TextLine). line.start) w.line-is ∙ (c.loop-count.invariant.start ∙ sym starts) }
    ]

pub overflow_add-line : goal.overflow_add-line
overflow_add-line c =
    let some = line_ends_within (take c.loop-count.count c.args.bytes.now) in
    let inside : c.loop-count.count ≤ length c.args.bytes.now = omega arith in
    let prefix = length-take-le c.loop-count.count c.args.bytes.now inside in
    omega arith

pub returns-clause-number : goal.returns-clause-number
returns-clause-number c =
    let all = take_all c.loop-count.count c.args.bytes.now c.loop-count-test.false in
    c.loop-count.invariant.line ∙ ap (λ bytes. c.args.self.number + line_ends bytes) all

pub returns-clause-start : goal.returns-clause-start
returns-clause-start c =
    let all = take_all c.loop-count.count c.args.bytes.now c.loop-count-test.false in
    c.loop-count.invariant.start ∙ ap (λ bytes. start_after c.args.self.start c.args.at bytes) all
