use Rattle.std.proofs.Common.{refl}
use Rattle.pm_syn.proofs.ReadOn.{reads_on}
use Rattle.pm_syn.proofs.reader.Reader.take.Goals as goal

pub returns : goal.returns
returns c =
    reads_on c.args.text.now c.args.at c.args.head.length c.args.head.sort c.args.self.now c.add.new.self
    (record { line = c.after-self.result; last = c.args.head.sort; brackets = c.nest.new.open_brackets; ended = c.add.new.self.ended; begun = c.add.new.self.begun })
    c.requires.within c.in_ok-add.ensures.ended c.in_ok-add.ensures.begun c.in_ok-add.ensures.same c.in_ok-nest.ensures refl
    c.after-self.ensures.number c.after-self.ensures.start refl refl
