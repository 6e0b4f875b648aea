use Rattle.pm_syn.proofs.LinesGrown.{continued_by}
use Rattle.pm_syn.proofs.reader.Reader.take_token.Goals as goal

pub returns-clause-begun : goal.returns-clause-begun
returns-clause-begun c =
    continued_by c.args.self.now.line.number c.args.indent.now _ _ _ _ _ _ _ _ _
    c.take.ensures.value c.in_ok-from_slice.ensures c.opened-draft.ensures c.in_ok-with.ensures
