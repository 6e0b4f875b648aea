use Rattle.std.proofs.Common.{ap}
use Rattle.pm_block.specs.Places.{items_of}
use Rattle.pm_block.proofs.Settled.{later_assigned, now_assigned}
use Rattle.pm_block.proofs.run.assign.Goals as goal

pub returns-then-clocked-clause-state : goal.returns-then-clocked-clause-state
returns-then-clocked-clause-state g c = later_assigned c.args.clocked c.if-clocked.true c.args.site.now.scope.now (g.P.Places.layout c.args.places.now) c.args.part c.flat-part.result c.flat-part.ensures c.args.value (g.P.Places.at c.args.places.now) (items_of (g.P.Places.held c.args.places.now)) c.args.waiting.now.writes c.push.new.self.writes c.push.ensures.writes

pub returns-else-clocked-clause-state : goal.returns-else-clocked-clause-state
returns-else-clocked-clause-state g c = now_assigned c.args.clocked c.if-clocked.false c.args.site.now.scope.now (g.P.Places.layout c.args.places.now) (g.P.Places.layout c.put.new.self) c.put.ensures.same c.args.part c.flat-part.result c.flat-part.ensures c.args.value (g.P.Places.at c.args.places.now) (g.P.Places.at c.put.new.self) c.put.ensures.value (items_of (g.P.Places.held c.args.places.now)) (items_of (g.P.Places.held c.put.new.self)) (ap items_of c.put.ensures.held) c.args.waiting.now.writes
