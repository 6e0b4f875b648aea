use Rattle.pm_grammar.proofs.Headers.{guard_opens}
use Rattle.pm_grammar.proofs.header.after_guard_opening.Goals as goal

pub returns : goal.returns
returns c =
    guard_opens c.args.tokens.now c.in_ok-tail.tail.now c.in_ok-tail-2.tail.now c.in_ok-tail-3.tail.now c.in_ok-tail.ensures c.in_ok-tail-2.ensures c.in_ok-tail-3.ensures c.after_symbol-2.result c.after_symbol-2.ensures
