use Rattle.std.proofs.Common.{◌∙◌, sym}
use Rattle.pm_grammar.proofs.Headers.{base_found}
use Rattle.pm_grammar.proofs.header.base.Goals as goal

pub returns-then-is_lone_symbol : goal.returns-then-is_lone_symbol
returns-then-is_lone_symbol c =
    base_found c.args.tokens.now c.in_ok-tail.tail.now c.in_ok-base.rest.now c.in_ok-rest.rest.now c.in_ok-base.base.now c.in_ok-tail.ensures c.in_ok-base.ensures c.in_ok-rest.ensures (sym c.is_lone_symbol.ensures ∙ c.if-is_lone_symbol.true)
