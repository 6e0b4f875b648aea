use Rattle.std.proofs.Common.{◌∙◌, sym}
use Rattle.pm_grammar.proofs.OperatorLevels.{goes_by_none, no_operator_at, no_operator_first, no_operator_in}
use Rattle.pm_grammar.proofs.operator.operator_after.Goals as goal

pub returns-in_err-first : goal.returns-in_err-first
returns-in_err-first c = rw c.from_residual.ensures (no_operator_in c.args.level c.args.bound c.args.tokens.now c.in_err-first.ensures.cases)

pub returns-in_err-at : goal.returns-in_err-at
returns-in_err-at c =
    rw c.from_residual-in_err-at.ensures
    (no_operator_first c.args.level c.args.bound c.args.tokens.now c.in_ok-first.tail.now c.in_ok-first.first.now c.in_ok-first.ensures.cases.0 (sym c.level_of.ensures ∙ c.in_err-at.was))

pub returns-in_err-op : goal.returns-in_err-op
returns-in_err-op c =
    rw c.from_residual-in_err-op.ensures
    (no_operator_at c.args.level c.args.bound c.in_ok-at.at c.args.tokens.now c.in_ok-first.tail.now c.in_ok-first.first.now c.in_ok-first.ensures.cases.0
    (sym c.in_ok-at.ensures) (sym c.operator_at.ensures ∙ c.in_err-op.was))

pub returns-then-continues_by : goal.returns-then-continues_by
returns-then-continues_by c =
    record {
      first = c.in_ok-first.first.now;
      front = c.in_ok-first.ensures.cases.0;
      is = sym c.in_ok-op.ensures;
      goes = sym c.if-continues_by.ensures;
    }

pub returns-else-continues_by : goal.returns-else-continues_by
returns-else-continues_by c =
    goes_by_none c.args.level c.args.bound c.in_ok-at.at c.args.tokens.now c.in_ok-first.tail.now c.in_ok-first.first.now c.in_ok-op.op
    c.in_ok-first.ensures.cases.0 (sym c.in_ok-op.ensures) (sym c.if-continues_by.ensures)
