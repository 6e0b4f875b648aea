use Rattle.std.proofs.Common.{◌∷◌, IsTrue, List, codes, refl, subst, sym}
use Rattle.std.proofs.lemmas.Bool.{true≢false}
use Rattle.pm_syn.specs.declared.statement.Stmt.{Stmt}
use Rattle.pm_syn.specs.declared.token.Token.{Token}
use Rattle.pm_grammar.specs.ExpressionStatements.{SpellsWithExpression}
use Rattle.pm_grammar.specs.Tokens.{is_word}
use Rattle.pm_grammar.specs.Statements.{AreStrings, SpellsSimple}
use Rattle.pm_grammar.proofs.ReadAnswers.{given_as, only_given}
use Rattle.pm_grammar.proofs.SimpleStatements.{no_tokens, pass_found, simple-empty, simple-other, simple-pass, simple-strings, simple_with, some_tokens}
use Rattle.pm_grammar.proofs.simple.simple.Goals as goal

pub returns-in_default-clause-only : goal.returns-in_default-clause-only
returns-in_default-clause-only c s spelled = simple-empty c.args.tokens.now s c.in_default.ensures.cases spelled

pub returns-then-is_empty-clause-found : goal.returns-then-is_empty-clause-found
returns-then-is_empty-clause-found c =
    pass_found c.args.tokens.now c.in-Some.tail.now c.in-Some.first.now c.in-Some.ensures.cases.0 (no_tokens c.in-Some.tail.now c.if-is_empty.ensures) (sym c.if-is_word.ensures)

pub returns-then-is_empty-clause-only : goal.returns-then-is_empty-clause-only
returns-then-is_empty-clause-only c s spelled =
    (simple-pass c.args.tokens.now c.in-Some.tail.now c.in-Some.first.now c.in-Some.ensures.cases.0 (sym c.if-is_word.ensures) s spelled).1

pub returns-then-is_word-clause-only : goal.returns-then-is_word-clause-only
returns-then-is_word-clause-only c s spelled =
    let is = simple-pass c.args.tokens.now c.in-Some.tail.now c.in-Some.first.now c.in-Some.ensures.cases.0 (sym c.if-is_word.ensures) s spelled in
    some_tokens c.in-Some.tail.now c.if-is_empty.ensures is.0

pub returns-then-is_word-2-clause-only : goal.returns-then-is_word-2-clause-only
returns-then-is_word-2-clause-only c =
    only_given (λ (s : Stmt). (first : Token) × IsTrue (is_word (codes "return") first) × SpellsSimple (first ∷ c.in-Some.tail.now) s) (SpellsSimple c.args.tokens.now)
    (λ s spelled. (c.in-Some.first.now, sym c.if-is_word-2.ensures, subst (λ (ts : List Token). SpellsSimple ts s) c.in-Some.ensures.cases.0 spelled))
    c.returned.result c.returned.ensures.only

pub returns-then-is_word-3-clause-only : goal.returns-then-is_word-3-clause-only
returns-then-is_word-3-clause-only c =
    only_given (λ (s : Stmt). (first : Token) × IsTrue (is_word (codes "assert") first) × SpellsSimple (first ∷ c.in-Some.tail.now) s) (SpellsSimple c.args.tokens.now)
    (λ s spelled. (c.in-Some.first.now, sym c.if-is_word-3.ensures, subst (λ (ts : List Token). SpellsSimple ts s) c.in-Some.ensures.cases.0 spelled))
    c.assertion.result c.assertion.ensures.only

pub returns-then-are_strings-clause-found : goal.returns-then-are_strings-clause-found
returns-then-are_strings-clause-found c = SpellsSimple.doc c.args.tokens.now (c.if-are_strings.ensures.0 refl)

pub returns-then-are_strings-clause-only : goal.returns-then-are_strings-clause-only
returns-then-are_strings-clause-only c s spelled = simple-strings c.args.tokens.now s (c.if-are_strings.ensures.0 refl) spelled

pub returns-clause-found : goal.returns-clause-found
returns-clause-found c =
    let all = c.args.tokens.now in
    given_as (SpellsWithExpression all) (SpellsSimple all) (simple_with all) c.expression_statement.result c.expression_statement.ensures.found

pub returns-clause-only : goal.returns-clause-only
returns-clause-only c =
    let all = c.args.tokens.now in
    let no_strings = λ (are : AreStrings all). true≢false (sym (c.if-are_strings.ensures.1 are)) in
    only_given (SpellsWithExpression all) (SpellsSimple all)
    (simple-other all c.in-Some.tail.now c.in-Some.first.now c.in-Some.ensures.cases.0 (sym c.if-is_word.ensures) (sym c.if-is_word-2.ensures) (sym c.if-is_word-3.ensures) no_strings)
    c.expression_statement.result c.expression_statement.ensures.only
