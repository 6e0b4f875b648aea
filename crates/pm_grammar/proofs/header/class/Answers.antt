use Rattle.std.proofs.Common.{◌∙◌, sym}
use Rattle.pm_grammar.proofs.Headers.{class_alone_found, class_found, class_read}
use Rattle.pm_grammar.proofs.header.class.Goals as goal

pub returns-then-is_lone_symbol-clause-found : goal.returns-then-is_lone_symbol-clause-found
returns-then-is_lone_symbol-clause-found c =
    class_alone_found c.args.tokens.now c.in-Some.rest.now c.in-Some.name.now _ c.in-Some.ensures (sym c.is_lone_symbol.ensures ∙ c.if-is_lone_symbol.true) (c.in_ok-from_slice.ensures ∙ c.as_slice.ensures)

pub returns-clause-found : goal.returns-clause-found
returns-clause-found c =
    class_found c.args.tokens.now c.in-Some.rest.now c.in-Some.name.now c.in-Some-base.base.now _ _ c.in-Some.ensures c.in-Some-base.ensures (c.in_ok-name.ensures ∙ c.as_slice-2.ensures) (c.in_ok-base.ensures ∙ c.as_slice-3.ensures)

pub returns-clause-only : goal.returns-clause-only
returns-clause-only c =
    class_read c.args.tokens.now c.in-Some.rest.now c.in-Some.name.now c.in-Some-base.base.now _ _ c.in-Some.ensures.0 (sym c.is_lone_symbol.ensures ∙ c.if-is_lone_symbol.false) c.in-Some-base.ensures (c.in_ok-name.ensures ∙ c.as_slice-2.ensures) (c.in_ok-base.ensures ∙ c.as_slice-3.ensures)
