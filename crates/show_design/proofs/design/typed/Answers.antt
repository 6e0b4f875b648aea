use Rattle.show_design.proofs.Typed.{typed_sound}
use Rattle.show_design.proofs.design.typed.Goals as goal

pub returns : goal.returns
returns c =
    typed_sound c.args.text.now c.args.question.now.class.now c.args.question.now.params c.args.raw
    c.in_ok-design.design c.requires.params c.requires.raw c.in_ok-design.ensures
