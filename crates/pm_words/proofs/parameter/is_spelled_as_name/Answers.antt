use Rattle.std.proofs.Common.{sym, ◌∙◌}
use Rattle.pm_words.proofs.Names.{not_proper}
use Rattle.pm_words.proofs.parameter.is_spelled_as_name.Goals as goal

pub returns-else-is_proper_name : goal.returns-else-is_proper_name
returns-else-is_proper_name c =
    c.is_keyword.ensures ∙ not_proper c.args.word.now (sym c.is_proper_name.ensures ∙ c.if-is_proper_name.false)
