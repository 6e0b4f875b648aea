use Rattle.std.proofs.Common.{◌≡◌, ◌≢◌, ◌+◌, ◌<◌, ◌∙◌, length, get_or, subst, sym, arith}
use Rattle.pm_io.specs.declared.lines.TheConstants.{LF}
use Rattle.pm_syn.specs.Strings.{closing_quote}
use Rattle.pm_syn.proofs.Quotes.{quote_from, quote_from-zero, quote_from-here, quote_from-line_end, quote_from-other, quote_from-covered}
use Rattle.pm_syn.proofs.string.closing_quote.Goals as goal
use Rattle.pm_syn.proofs.string.closing_quote.Goals.{then-byte-eq92+else-at-text, else-at-text-via-then-at-text+else-text-at-eq-LF, else-at-text-via-else-at-text, else-byte-eq92}

pub loop-at-init : goal.loop-at-init
loop-at-init c = quote_from-zero c.args.quote c.args.text.now

pub returns-then-byte-quote-clause-value : goal.returns-then-byte-quote-clause-value
returns-then-byte-quote-clause-value c =
    sym (quote_from-here c.args.quote c.loop-at.at c.args.text.now c.loop-at-test.true c.if-byte-quote.true) ∙ c.loop-at.invariant

pub returns-then-byte-eq-LF-clause-value : goal.returns-then-byte-eq-LF-clause-value
returns-then-byte-eq-LF-clause-value c =
    sym (quote_from-line_end c.args.quote c.loop-at.at c.args.text.now c.loop-at-test.true c.if-byte-quote.false c.if-byte-eq-LF.true) ∙ c.loop-at.invariant

pub loop-at-preserved : goal.loop-at-preserved
loop-at-preserved c =
    let quote = c.args.quote in
    let text = c.args.text.now in
    let at = c.loop-at.at in
    elim c.if-byte-eq92.branch [
      | then-byte-eq92+else-at-text w ↦
          let covered : at + 1 < length text → get_or text (at + 1) 0 ≢ LF =
          elim w.else-at-text.branch [
            | else-at-text-via-then-at-text+else-text-at-eq-LF w' ↦ λ inside. w'.if-text-at-eq-LF.false
            | else-at-text-via-else-at-text w' ↦ λ inside. absurd (omega (arith, w'.if-at-text.false))
          ] in
          subst (λ position. quote_from quote (position + 1) text ≡ closing_quote quote text) (sym w.at-is) (
          quote_from-covered quote at text c.loop-at-test.true c.if-byte-quote.false w.if-byte-eq92.true covered ∙ c.loop-at.invariant)
      | else-byte-eq92 w ↦
          subst (λ position. quote_from quote (position + 1) text ≡ closing_quote quote text) (sym w.at-is) (
          quote_from-other quote at text c.loop-at-test.true c.if-byte-quote.false c.if-byte-eq-LF.false w.if-byte-eq92.false ∙ c.loop-at.invariant)
    ]
