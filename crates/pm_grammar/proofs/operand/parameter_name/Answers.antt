use Rattle.std.proofs.Common.{◌∙◌}
use Rattle.pm_grammar.specs.Brackets.{OpensArgument}
use Rattle.pm_grammar.proofs.CallArguments.{opened_named}
use Rattle.pm_grammar.proofs.operand.parameter_name.Goals as goal

pub returns-in_default : goal.returns-in_default
returns-in_default c = OpensArgument.plain c.args.tokens.now c.in_default.ensures

pub returns : goal.returns
returns c = opened_named c.args.tokens.now c.in-Some.tail.now c.in-Some.name.now _ c.in-Some.ensures (c.in_ok-name.ensures ∙ c.as_slice.ensures)
