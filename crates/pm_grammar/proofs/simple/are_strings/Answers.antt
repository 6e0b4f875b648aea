use Rattle.std.proofs.Common.{◌≡◌, rules, tests}
use Rattle.std.proofs.lemmas.Iterator.{cases_from_all, YieldsList-from_slice}
use Rattle.pm_syn.specs.declared.token.TokenKind.TheVariants as kind
use Rattle.pm_grammar.proofs.SimpleStatements.{strings_from_all}
use Rattle.pm_grammar.proofs.simple.are_strings.Goals as goal

pub returns-then-not-is_empty : goal.returns-then-not-is_empty
returns-then-not-is_empty c =
    strings_from_all c.args.tokens.now c.all.result c.if-not-is_empty.ensures
    (cases_from_all _ _ _ (λ t. t.kind ≡ kind.Str) (λ t. t.kind ≡ kind.Str → ⊥) c.all.ensures.ran (YieldsList-from_slice c.args.tokens.now cc) (λ x q k. search (rules, tests)) (λ x q k. search (rules, tests)))
