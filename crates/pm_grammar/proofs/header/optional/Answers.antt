use Rattle.std.proofs.Common.{[], refl}
use Rattle.pm_grammar.specs.Headers.{IsOnlyOptional}
use Rattle.pm_grammar.specs.Reading.{IsOnly}
use Rattle.pm_grammar.specs.Statements.{absent}
use Rattle.pm_grammar.specs.declared.level.Level.TheVariants as level
use Rattle.pm_grammar.proofs.Headers.{optional_behind, optional_found}
use Rattle.pm_grammar.proofs.ReadAnswers.{failed}
use Rattle.pm_grammar.proofs.header.optional.Goals as goal

pub returns-in_default-clause-found : goal.returns-in_default-clause-found
returns-in_default-clause-found c =
    ([], refl, absent)

pub returns-in_err-tree-clause-only : goal.returns-in_err-tree-clause-only
returns-in_err-tree-clause-only c =
    failed (IsOnly level.Conditional c.in-Some.tail.now) (IsOnlyOptional c.args.symbol.now c.args.tokens.now) c.from_residual.result c.in_err-tree.field-0.0
    (λ nothing one rest begins not_there ends.
    let behind = optional_behind c.args.symbol.now c.args.tokens.now c.in-Some.tail.now c.in-Some.ensures one rest begins not_there in
    nothing behind.0 rest behind.2 ends)
    c.from_residual.ensures c.in_err-tree.ensures.only

pub returns-clause-found : goal.returns-clause-found
returns-clause-found c = optional_found c.args.symbol.now c.args.tokens.now c.in-Some.tail.now _ _ c.in-Some.ensures c.in_ok-tree.ensures.found

pub returns-clause-only : goal.returns-clause-only
returns-clause-only c one rest begins not_there ends =
    let behind = optional_behind c.args.symbol.now c.args.tokens.now c.in-Some.tail.now c.in-Some.ensures one rest begins not_there in
    let same = c.in_ok-tree.ensures.only behind.0 rest behind.2 ends in
    (cc (behind.1, same.0), same.1)
