use Rattle.std.proofs.Common.{[], ◌∷◌, ap, sym}
use Rattle.pm_touched.specs.declared.named.Named.{Named}
use Rattle.pm_touched.specs.Naming.{writing_parts, together}
use Rattle.pm_touched.proofs.Together.{one_part_added, all_added, parts_written}
use Rattle.pm_touched.proofs.named.Named.write_all.Goals as goal

pub loop-part-init : goal.loop-part-init
loop-part-init c = ap (λ (n : Named). together c.args.self.now n) (sym (parts_written c.args.parts.now))

pub loop-part-preserved : goal.loop-part-preserved
loop-part-preserved c =
    one_part_added (λ p. writing_parts (p ∷ [])) c.args.parts.now c.loop-part.part-index c.loop-part.self c.write.new.self _
    c.loop-part-test.true c.loop-part.invariant c.in_ok-write.ensures

pub returns : goal.returns
returns c =
    all_added (λ p. writing_parts (p ∷ [])) c.args.parts.now c.loop-part.part-index c.loop-part.self _
    c.loop-part-test.false c.loop-part.invariant
