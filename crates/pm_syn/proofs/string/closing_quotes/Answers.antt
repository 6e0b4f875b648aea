use Rattle.std.proofs.Common.{◌≡◌, ◌+◌, ◌≤◌, ◌∙◌, length, get_or, subst, sym, arith}
use Rattle.pm_syn.specs.Strings.{closing_quotes}
use Rattle.pm_syn.proofs.Quotes.{quotes_from, quotes_from-other, quotes_from-covered, quotes_from-short}
use Rattle.pm_syn.proofs.string.closing_quotes.Goals as goal
use Rattle.pm_syn.proofs.string.closing_quotes.Goals.{else-text-at-via-then-text-at+then-text-at-2+else-text-at-3, else-text-at-via-then-text-at+else-text-at-2, else-text-at-via-else-text-at, then-text-at-eq92, else-text-at-eq92}

pub loop-at-preserved : goal.loop-at-preserved
loop-at-preserved c =
    let quote = c.args.quote in
    let text = c.args.text.now in
    let at = c.loop-at.at in
    let other : get_or text at 0 ≡ quote → get_or text (at + 1) 0 ≡ quote → get_or text (at + 2) 0 ≡ quote → ⊥ =
    elim c.else-text-at.branch [
      | else-text-at-via-then-text-at+then-text-at-2+else-text-at-3 w ↦ λ a b c. w.if-text-at-3.false c
      | else-text-at-via-then-text-at+else-text-at-2 w ↦ λ a b c. w.if-text-at-2.false b
      | else-text-at-via-else-text-at w ↦ λ a b c. w.if-text-at.false a
    ] in
    elim c.if-text-at-eq92.branch [
      | then-text-at-eq92 w ↦
          subst (λ step. (at + step ≤ length text) × (quotes_from quote (at + step) text ≡ closing_quotes quote text)) (sym w.at-is) (
            omega arith,
            quotes_from-covered quote at text c.loop-at-test.true other w.if-text-at-eq92.true ∙ c.loop-at.invariant.1,
          )
      | else-text-at-eq92 w ↦
          subst (λ step. (at + step ≤ length text) × (quotes_from quote (at + step) text ≡ closing_quotes quote text)) (sym w.at-is) (
            omega arith,
            quotes_from-other quote at text c.loop-at-test.true other w.if-text-at-eq92.false ∙ c.loop-at.invariant.1,
          )
    ]

pub returns-clause-value : goal.returns-clause-value
returns-clause-value c = sym (quotes_from-short c.args.quote c.loop-at.at c.args.text.now (omega arith)) ∙ c.loop-at.invariant.1
