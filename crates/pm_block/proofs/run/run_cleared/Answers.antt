use Rattle.std.proofs.Common.{◌∙◌, List, ap, ap₂}
use Rattle.pm_bits.specs.Word.{Word}
use Rattle.pm_block.specs.declared.waiting.Write.{Write}
use Rattle.pm_block.specs.Places.{items_of}
use Rattle.pm_block.specs.Plans.{widths_of}
use Rattle.pm_block.specs.Run.{State}
use Rattle.pm_block.specs.Sites.{memory_of, scene_here, state_here}
use Rattle.pm_block.proofs.Settled.{block_left, left_later, left_now}
use Rattle.pm_block.proofs.run.run_cleared.Goals as goal

pub returns-then-clocked-clause-values : goal.returns-then-clocked-clause-values
returns-then-clocked-clause-values g c =
    let start : List Write → List Word → State = λ ws ts. state_here (g.P.Places.layout c.args.places.now) (g.P.Places.at c.args.places.now) (g.P.Places.held c.args.places.now) ws ts in
    let all = block_left c.args.clocked (scene_here c.args.site.now (g.P.Places.layout c.args.places.now)) c.args.body.now (state_here (g.P.Places.layout c.args.places.now) (g.P.Places.at c.args.places.now) (g.P.Places.held c.args.places.now) c.args.waiting.now.writes c.args.temps.now) (state_here (g.P.Places.layout c.run_all.new.places) (g.P.Places.at c.run_all.new.places) (g.P.Places.held c.run_all.new.places) c.run_all.new.waiting.writes c.run_all.new.temps) (memory_of (g.P.Places.at c.args.places.now) (g.P.Places.held c.args.places.now)) (widths_of c.args.temps.now) (ap₂ start c.requires.none c.requires.temps) c.run_all.ensures.state in
    left_later c.args.clocked c.if-clocked.true (state_here (g.P.Places.layout c.run_all.new.places) (g.P.Places.at c.run_all.new.places) (g.P.Places.held c.run_all.new.places) c.run_all.new.waiting.writes c.run_all.new.temps) (g.P.Places.at c.settle.new.places) (items_of (g.P.Places.held c.settle.new.places)) c.settle.ensures.values (ap items_of c.settle.ensures.held) ∙ all

pub returns-else-clocked-clause-values : goal.returns-else-clocked-clause-values
returns-else-clocked-clause-values g c =
    let start : List Write → List Word → State = λ ws ts. state_here (g.P.Places.layout c.args.places.now) (g.P.Places.at c.args.places.now) (g.P.Places.held c.args.places.now) ws ts in
    let all = block_left c.args.clocked (scene_here c.args.site.now (g.P.Places.layout c.args.places.now)) c.args.body.now (state_here (g.P.Places.layout c.args.places.now) (g.P.Places.at c.args.places.now) (g.P.Places.held c.args.places.now) c.args.waiting.now.writes c.args.temps.now) (state_here (g.P.Places.layout c.run_all.new.places) (g.P.Places.at c.run_all.new.places) (g.P.Places.held c.run_all.new.places) c.run_all.new.waiting.writes c.run_all.new.temps) (memory_of (g.P.Places.at c.args.places.now) (g.P.Places.held c.args.places.now)) (widths_of c.args.temps.now) (ap₂ start c.requires.none c.requires.temps) c.run_all.ensures.state in
    left_now c.args.clocked c.if-clocked.false (state_here (g.P.Places.layout c.run_all.new.places) (g.P.Places.at c.run_all.new.places) (g.P.Places.held c.run_all.new.places) c.run_all.new.waiting.writes c.run_all.new.temps) ∙ all
