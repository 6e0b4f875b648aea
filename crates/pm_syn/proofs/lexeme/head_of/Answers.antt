use Rattle.std.proofs.lemmas.List.{take_rest}
use Rattle.pm_syn.proofs.HeadsAt.{no_head_at_backslash, no_head_at_line_end}
use Rattle.pm_syn.proofs.lexeme.head_of.Goals as goal

pub returns-in_err-length-in-92 : goal.returns-in_err-length-in-92
returns-in_err-length-in-92 c =
    rw c.from_residual.ensures (
    no_head_at_backslash c.args.text.now c.requires c.in-92.is (λ bytes after is. c.in_err-length-in-92.ensures.found bytes after (rw take_rest is)))

pub returns-in_err-length-in-10 : goal.returns-in_err-length-in-10
returns-in_err-length-in-10 c =
    rw c.from_residual-in_err-length-in-10.ensures (no_head_at_line_end c.args.text.now c.requires c.in-10.is c.in_err-length-in-10.ensures.found)
