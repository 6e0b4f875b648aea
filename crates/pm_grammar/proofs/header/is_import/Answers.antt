use Rattle.pm_grammar.proofs.Imports.{import_deque_is, import_named, import_star}
use Rattle.pm_grammar.proofs.header.is_import.Goals as goal

pub returns-then-are_names : goal.returns-then-are_names
returns-then-are_names c =
    import_named c.args.tokens.now c.in-Some.tail.now c.in-Some-after_word.names.now c.are_names.result c.in-Some.ensures c.in-Some-after_word.ensures c.are_names.ensures c.if-are_names.true

pub returns-else-are_names : goal.returns-else-are_names
returns-else-are_names c =
    import_star c.args.tokens.now c.in-Some.tail.now c.in-Some-after_word.names.now c.are_names.result c.is_lone_symbol.result c.in-Some.ensures c.in-Some-after_word.ensures c.are_names.ensures c.if-are_names.false c.is_lone_symbol.ensures

pub returns : goal.returns
returns c =
    import_deque_is c.args.tokens.now c.is_deque_import.result c.in_default.ensures c.is_deque_import.ensures
