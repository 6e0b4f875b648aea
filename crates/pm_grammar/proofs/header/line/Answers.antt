use Rattle.std.proofs.Common.{◌∙◌, sym}
use Rattle.pm_grammar.specs.Headers.{IsImport, SpellsBranch, SpellsClass, SpellsDecorator, SpellsDefinition, SpellsFor}
use Rattle.pm_grammar.specs.Statements.{SpellsLine}
use Rattle.pm_grammar.proofs.Lines.{at_line_found, at_only, branch_found, branch_only, class_line_found, class_only, def_line_found, def_only, for_line_found, for_only, from_line_found, from_only, no_line}
use Rattle.pm_grammar.proofs.ReadAnswers.{given_as, only_given}
use Rattle.pm_grammar.proofs.header.line.Goals as goal

pub returns-in_default-clause-only : goal.returns-in_default-clause-only
returns-in_default-clause-only c s line = no_line c.args.tokens.now s c.in_default.ensures.cases line

pub returns-then-is_symbol-clause-found : goal.returns-then-is_symbol-clause-found
returns-then-is_symbol-clause-found c =
    given_as (SpellsDecorator c.in-Some.tail.now) (SpellsLine c.args.tokens.now)
    (λ s is. at_line_found c.args.tokens.now c.in-Some.tail.now c.in-Some.first.now s c.in-Some.ensures.cases.0 (sym c.is_symbol.ensures ∙ c.if-is_symbol.true) is)
    c.decorator.result c.decorator.ensures.found

pub returns-then-is_symbol-clause-only : goal.returns-then-is_symbol-clause-only
returns-then-is_symbol-clause-only c =
    only_given (SpellsDecorator c.in-Some.tail.now) (SpellsLine c.args.tokens.now)
    (λ s line. at_only c.args.tokens.now c.in-Some.tail.now c.in-Some.first.now s c.in-Some.ensures.cases.0 (sym c.is_symbol.ensures ∙ c.if-is_symbol.true) line)
    c.decorator.result c.decorator.ensures.only

pub returns-then-is_word-clause-found : goal.returns-then-is_word-clause-found
returns-then-is_word-clause-found c =
    given_as (IsImport c.in-Some.tail.now) (SpellsLine c.args.tokens.now)
    (λ s is. from_line_found c.args.tokens.now c.in-Some.tail.now c.in-Some.first.now s c.in-Some.ensures.cases.0 (sym c.is_word.ensures ∙ c.if-is_word.true) is)
    c.import.result c.import.ensures.found

pub returns-then-is_word-clause-only : goal.returns-then-is_word-clause-only
returns-then-is_word-clause-only c =
    only_given (IsImport c.in-Some.tail.now) (SpellsLine c.args.tokens.now)
    (λ s line. from_only c.args.tokens.now c.in-Some.tail.now c.in-Some.first.now s c.in-Some.ensures.cases.0 (sym c.is_word.ensures ∙ c.if-is_word.true) line)
    c.import.result c.import.ensures.only

pub returns-then-is_word-2-clause-found : goal.returns-then-is_word-2-clause-found
returns-then-is_word-2-clause-found c =
    given_as (SpellsClass c.in-Some.tail.now) (SpellsLine c.args.tokens.now)
    (λ s is. class_line_found c.args.tokens.now c.in-Some.tail.now c.in-Some.first.now s c.in-Some.ensures.cases.0 (sym c.is_word-else-is_word.ensures ∙ c.if-is_word-2.true) is)
    c.class.result c.class.ensures.found

pub returns-then-is_word-2-clause-only : goal.returns-then-is_word-2-clause-only
returns-then-is_word-2-clause-only c =
    only_given (SpellsClass c.in-Some.tail.now) (SpellsLine c.args.tokens.now)
    (λ s line. class_only c.args.tokens.now c.in-Some.tail.now c.in-Some.first.now s c.in-Some.ensures.cases.0 (sym c.is_word-else-is_word.ensures ∙ c.if-is_word-2.true) line)
    c.class.result c.class.ensures.only

pub returns-then-is_word-3-clause-found : goal.returns-then-is_word-3-clause-found
returns-then-is_word-3-clause-found c =
    given_as (SpellsDefinition c.in-Some.tail.now) (SpellsLine c.args.tokens.now)
    (λ s is. def_line_found c.args.tokens.now c.in-Some.tail.now c.in-Some.first.now s c.in-Some.ensures.cases.0 (sym c.is_word-else-is_word-2.ensures ∙ c.if-is_word-3.true) is)
    c.definition.result c.definition.ensures.found

pub returns-then-is_word-3-clause-only : goal.returns-then-is_word-3-clause-only
returns-then-is_word-3-clause-only c =
    only_given (SpellsDefinition c.in-Some.tail.now) (SpellsLine c.args.tokens.now)
    (λ s line. def_only c.args.tokens.now c.in-Some.tail.now c.in-Some.first.now s c.in-Some.ensures.cases.0 (sym c.is_word-else-is_word-2.ensures ∙ c.if-is_word-3.true) line)
    c.definition.result c.definition.ensures.only

pub returns-then-is_word-4-clause-found : goal.returns-then-is_word-4-clause-found
returns-then-is_word-4-clause-found c =
    given_as (SpellsFor c.in-Some.tail.now) (SpellsLine c.args.tokens.now)
    (λ s is. for_line_found c.args.tokens.now c.in-Some.tail.now c.in-Some.first.now s c.in-Some.ensures.cases.0 (sym c.is_word-else-is_word-3.ensures ∙ c.if-is_word-4.true) is)
    c.for_header.result c.for_header.ensures.found

pub returns-then-is_word-4-clause-only : goal.returns-then-is_word-4-clause-only
returns-then-is_word-4-clause-only c =
    only_given (SpellsFor c.in-Some.tail.now) (SpellsLine c.args.tokens.now)
    (λ s line. for_only c.args.tokens.now c.in-Some.tail.now c.in-Some.first.now s c.in-Some.ensures.cases.0 (sym c.is_word-else-is_word-3.ensures ∙ c.if-is_word-4.true) line)
    c.for_header.result c.for_header.ensures.only

pub returns-else-is_word-4-clause-found : goal.returns-else-is_word-4-clause-found
returns-else-is_word-4-clause-found c =
    given_as (SpellsBranch c.args.tokens.now) (SpellsLine c.args.tokens.now) (λ s is. branch_found is) c.branch-alloc.result c.branch-alloc.ensures.found

pub returns-else-is_word-4-clause-only : goal.returns-else-is_word-4-clause-only
returns-else-is_word-4-clause-only c =
    only_given (SpellsBranch c.args.tokens.now) (SpellsLine c.args.tokens.now)
    (λ s line. branch_only c.args.tokens.now c.in-Some.tail.now c.in-Some.first.now s c.in-Some.ensures.cases.0 (sym c.is_symbol.ensures ∙ c.if-is_symbol.false) (sym c.is_word.ensures ∙ c.if-is_word.false) (sym c.is_word-else-is_word.ensures ∙ c.if-is_word-2.false) (sym c.is_word-else-is_word-2.ensures ∙ c.if-is_word-3.false) (sym c.is_word-else-is_word-3.ensures ∙ c.if-is_word-4.false) line)
    c.branch-alloc.result c.branch-alloc.ensures.only
