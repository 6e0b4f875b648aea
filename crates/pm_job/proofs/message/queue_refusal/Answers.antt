use Rattle.std.proofs.Common.{rules, ◌≡◌, ◌∙◌, ◌++◌, refl, ap, sym, [], ◌∷◌, List, ℕ}
use Rattle.std.specs.Prelude.{codes, decimal}
use Rattle.pm_io.specs.declared.lines.TheConstants.{LF}
use Rattle.pm_job.specs.Answers.{refusal_line}
use Rattle.pm_job.proofs.Columns.{line_at_first, line_at_second, line_at_third}
use Rattle.pm_job.proofs.message.queue_refusal.Goals as goal

pub returns-clause-text : goal.returns-clause-text
returns-clause-text g c =
    line_at_first (g.E.Sink.held c.args.errors.now) (g.E.Sink.held c.put.new.sink) c.args.buffer.now c.put.new.self
    (codes "pymtl: 99 NotBuilt line ") (decimal c.args.line) (LF ∷ []) (refusal_line c.args.line) refl (search rules)

pub returns-2-clause-text : goal.returns-2-clause-text
returns-2-clause-text g c =
    let is : refusal_line c.args.line ≡ (codes "pymtl: 99 NotBuilt line " ++ c.as_bytes.result.now) ++ LF ∷ [] =
    ap (λ (digits : List ℕ). (codes "pymtl: 99 NotBuilt line " ++ digits) ++ LF ∷ []) (sym (c.as_bytes.ensures.value ∙ c.format.ensures.text)) in
    line_at_second (g.E.Sink.held c.args.errors.now) (g.E.Sink.held c.put.new.sink) (g.E.Sink.held c.put-2.new.sink)
    c.args.buffer.now c.put.new.self c.put-2.new.self (codes "pymtl: 99 NotBuilt line ") c.as_bytes.result.now (LF ∷ []) (refusal_line c.args.line)
    is (search rules) (search rules)

pub returns-3-clause-text : goal.returns-3-clause-text
returns-3-clause-text g c =
    let is : refusal_line c.args.line ≡ (codes "pymtl: 99 NotBuilt line " ++ c.as_bytes.result.now) ++ LF ∷ [] =
    ap (λ (digits : List ℕ). (codes "pymtl: 99 NotBuilt line " ++ digits) ++ LF ∷ []) (sym (c.as_bytes.ensures.value ∙ c.format.ensures.text)) in
    line_at_third (g.E.Sink.held c.args.errors.now) (g.E.Sink.held c.put.new.sink) (g.E.Sink.held c.put-2.new.sink) (g.E.Sink.held c.put-3.new.sink)
    c.args.buffer.now c.put.new.self c.put-2.new.self c.put-3.new.self (codes "pymtl: 99 NotBuilt line ") c.as_bytes.result.now (LF ∷ [])
    (refusal_line c.args.line) c.put-3.result is (search rules) (search rules) c.put-3.ensures.bytes
