use Rattle.std.proofs.Common.{[], codes, refl}
use Rattle.pm_grammar.specs.Reading.{IsOnly, IsOnlyBefore}
use Rattle.pm_grammar.specs.Statements.{SpellsResult, unsaid}
use Rattle.pm_grammar.specs.declared.level.Level.TheVariants as level
use Rattle.pm_grammar.proofs.Headers.{none_behind, nothing_found, result_behind, result_found, some_behind}
use Rattle.pm_grammar.proofs.OneSymbol.{ends_colon}
use Rattle.pm_grammar.proofs.ReadAnswers.{failed}
use Rattle.pm_grammar.proofs.header.result_note.Goals as goal

pub returns-in_default-clause-found : goal.returns-in_default-clause-found
returns-in_default-clause-found c =
    ([], refl, unsaid)

pub returns-in-Some-after_word-clause-found : goal.returns-in-Some-after_word-clause-found
returns-in-Some-after_word-clause-found c =
    nothing_found c.args.tokens.now c.in-Some.tail.now _ c.in-Some.ensures c.in-Some-after_word.ensures

pub returns-in-Some-after_word-clause-only : goal.returns-in-Some-after_word-clause-only
returns-in-Some-after_word-clause-only c one closing rest is begins =
    none_behind c.in-Some.tail.now _ _ one c.in-Some-after_word.ensures (result_behind c.args.tokens.now c.in-Some.tail.now c.in-Some.ensures one closing rest is begins)

pub returns-in_err-tree-clause-only : goal.returns-in_err-tree-clause-only
returns-in_err-tree-clause-only c =
    failed (IsOnly level.Conditional c.in-Some.tail.now) (IsOnlyBefore SpellsResult (codes ":") c.args.tokens.now) c.from_residual.result c.in_err-tree.field-0.0
    (λ nothing one closing rest is begins.
    let behind = some_behind c.in-Some.tail.now _ one c.in_default-after_word.ensures (result_behind c.args.tokens.now c.in-Some.tail.now c.in-Some.ensures one closing rest is begins) in
    nothing behind.0 _ behind.2 (ends_colon closing is))
    c.from_residual.ensures c.in_err-tree.ensures.only

pub returns-clause-found : goal.returns-clause-found
returns-clause-found c = result_found c.args.tokens.now c.in-Some.tail.now _ _ c.in-Some.ensures c.in_ok-tree.ensures.found

pub returns-clause-only : goal.returns-clause-only
returns-clause-only c one closing rest is begins =
    let behind = some_behind c.in-Some.tail.now _ one c.in_default-after_word.ensures (result_behind c.args.tokens.now c.in-Some.tail.now c.in-Some.ensures one closing rest is begins) in
    let same = c.in_ok-tree.ensures.only behind.0 _ behind.2 (ends_colon closing is) in
    (cc (behind.1, same.0), same.1)
