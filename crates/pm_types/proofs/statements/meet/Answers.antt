use Rattle.std.proofs.Common.{◌∙◌, sym, arith}
use Rattle.pm_types.proofs.Meetings.{meet_past}
use Rattle.pm_types.proofs.statements.meet.Goals as goal

pub returns-then-b-place : goal.returns-then-b-place
returns-then-b-place c =
    sym (meet_past c.loop-place.bounds c.args.a.now c.args.b.now c.loop-place.place (omega (arith, c.if-b-place.true))) ∙ c.loop-place.invariant
