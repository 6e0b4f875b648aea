use Rattle.std.proofs.Common.{◌≡◌, ◌∙◌, List, Result, Ok, Err, inr, refl, subst, sym}
use Rattle.std.proofs.lemmas.Option.{none-some}
use Rattle.pm_syn.specs.declared.statement.Stmt.{Stmt}
use Rattle.pm_syn.specs.declared.token.Token.{Token}
use Rattle.pm_grammar.specs.Answers.{IsLineAnswer}
use Rattle.pm_grammar.specs.Statements.{SpellsLine}
use Rattle.pm_grammar.specs.declared.fault.LineFault.{LineFault}
use Rattle.pm_grammar.specs.declared.fault.LineFault.TheVariants as fault
use Rattle.pm_grammar.proofs.line_parser.parse_line.Goals as goal

-- tokens that spell no statement have no other answer
only_syntax : (tokens : List Token) → ((s : Stmt) → SpellsLine tokens s → ⊥) → (answer : Result Stmt LineFault) → IsLineAnswer tokens answer → Err fault.Syntax ≡ answer
only_syntax tokens none (Ok s) is = absurd (none s is.0)
only_syntax tokens none (Err fault.Syntax) is = refl
only_syntax tokens none (Err fault.TooDeep) is = absurd (none is.0 is.1)
only_syntax tokens none (Err fault.NoMemory) is = absurd is

pub returns-in_default-clause-answer : goal.returns-in_default-clause-answer
returns-in_default-clause-answer c =
    inr (λ s spelled. absurd (none-some s (sym c.in_default.is ∙ c.in_ok-statement.ensures.only s (subst (λ (ts : List Token). SpellsLine ts s) (sym c.as_slice.ensures) spelled))))

pub returns-in_default-clause-only : goal.returns-in_default-clause-only
returns-in_default-clause-only c =
    λ answer is.
    inr (only_syntax c.args.line.now.tokens (λ s spelled. none-some s (sym c.in_default.is ∙ c.in_ok-statement.ensures.only s (subst (λ (ts : List Token). SpellsLine ts s) (sym c.as_slice.ensures) spelled))) answer is)
