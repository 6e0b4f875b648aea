use Rattle.pm_syn.proofs.Comments.{comment_before, comment_to_end}
use Rattle.pm_syn.proofs.lexeme.comment_length.Goals as goal

pub returns-in-Some-clause-comment : goal.returns-in-Some-clause-comment
returns-in-Some-clause-comment c = comment_before c.args.text.now c.in-Some.end c.requires.begun c.in-Some.ensures.0 c.in-Some.ensures.1

pub returns-in-None-clause-comment : goal.returns-in-None-clause-comment
returns-in-None-clause-comment c = comment_to_end c.args.text.now c.requires.begun c.requires.some c.in-None.ensures
