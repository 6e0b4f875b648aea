use Rattle.pm_grammar.proofs.Imports.{deque_is}
use Rattle.pm_grammar.proofs.header.is_deque_import.Goals as goal

pub returns-in-Some-after_word-2 : goal.returns-in-Some-after_word-2
returns-in-Some-after_word-2 c =
    deque_is c.args.tokens.now c.in-Some.tail.now c.in-Some-after_word.tail.now c.in-Some-after_word-2.rest.now c.is_empty.result c.in-Some.ensures c.in-Some-after_word.ensures c.in-Some-after_word-2.ensures c.is_empty.ensures
