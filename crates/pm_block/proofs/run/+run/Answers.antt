use Rattle.std.proofs.Common.{◌≡◌, ◌∙◌, ◌+◌, ◌*◌, ◌<◌, ◌≤◌, ◌^◌, List, ◌∷◌, ap, refl, sym, subst, arith, drop, length}
use Rattle.std.specs.Prelude.{IsTrue, ◌==◌, false, true}
use Rattle.std.proofs.lemmas.Bool.Decides.{nat_tests}
use Rattle.pm_design.specs.declared.body.St.{St}
use Rattle.pm_design.specs.declared.connection.Part.{Part}
use Rattle.pm_design.specs.Layout.{Layout}
use Rattle.pm_design.specs.Nodes.{body_nodes, nodes, statement_nodes}
use Rattle.pm_design.specs.Typing.{is_sound}
use Rattle.std.specs.List.{list_all}
use Rattle.pm_block.proofs.Branches.{assignments_of_branches, nodes_of_branches, sound_branches}
use Rattle.pm_block.specs.Assignments.{all_assignments, assignments}
use Rattle.pm_block.specs.Run.{picked_put, run_body, temps_of}
use Rattle.pm_block.specs.Sites.{inside_here, scene_here, sight_here, state_here}
use Rattle.pm_block.specs.Waiting.{all_fit}
use Rattle.pm_block.proofs.Bodies.{after_set, after_pick, after_temp, after_no, after_yes, widths_at, drop_one, state_on, sound_head, sound_on, same_sight, temp_parts}
use Rattle.pm_block.proofs.run.+run.Goals as goal

pub run_all-run_one-requires : goal.run_all-run_one-requires
run_all-run_one-requires g t c κs within =
    let split : drop c.loop-st.st-index c.args.body.now ≡ c.st-item.result ∷ drop (c.loop-st.st-index + 1) c.args.body.now = drop_one c.args.body.now c.loop-st.st-index c.st-item.result c.loop-st-test.true c.st-item.is in
    let nodes : body_nodes (inside_here c.args.site.now) (drop c.loop-st.st-index c.args.body.now) ≡ statement_nodes (inside_here c.args.site.now) c.st-item.result + body_nodes (inside_here c.args.site.now) (drop (c.loop-st.st-index + 1) c.args.body.now) = ap (body_nodes (inside_here c.args.site.now)) split in
    let writes : all_assignments (drop c.loop-st.st-index c.args.body.now) ≡ assignments c.st-item.result + all_assignments (drop (c.loop-st.st-index + 1) c.args.body.now) = ap all_assignments split in
    let falls : 2 * statement_nodes (inside_here c.args.site.now) c.st-item.result < t = omega arith in
    let room : c.loop-st.steps + statement_nodes (inside_here c.args.site.now) c.st-item.result < 2 ^ 64 = omega arith in
    let space : length c.loop-st.waiting.writes + assignments c.st-item.result ≤ c.loop-st.waiting.room = omega arith in
    let sound = sound_head (sight_here c.args.site.now (g.P.Places.layout c.loop-st.places) c.loop-st.temps) (drop c.loop-st.st-index c.args.body.now) (drop (c.loop-st.st-index + 1) c.args.body.now) c.st-item.result split c.loop-st.invariant.sound in
    (falls, (within.0, (within.1, (room, (space, (c.loop-st.invariant.fits, sound))))))

pub run_all-loop-st-preserved : goal.run_all-loop-st-preserved
run_all-loop-st-preserved g t c =
    let split : drop c.loop-st.st-index c.args.body.now ≡ c.st-item.result ∷ drop (c.loop-st.st-index + 1) c.args.body.now = drop_one c.args.body.now c.loop-st.st-index c.st-item.result c.loop-st-test.true c.st-item.is in
    let nodes : body_nodes (inside_here c.args.site.now) (drop c.loop-st.st-index c.args.body.now) ≡ statement_nodes (inside_here c.args.site.now) c.st-item.result + body_nodes (inside_here c.args.site.now) (drop (c.loop-st.st-index + 1) c.args.body.now) = ap (body_nodes (inside_here c.args.site.now)) split in
    let writes : all_assignments (drop c.loop-st.st-index c.args.body.now) ≡ assignments c.st-item.result + all_assignments (drop (c.loop-st.st-index + 1) c.args.body.now) = ap all_assignments split in
    record {
      layout = c.run_one.ensures.layout ∙ c.loop-st.invariant.layout;
      held = c.run_one.ensures.held ∙ c.loop-st.invariant.held;
      widths = c.run_one.ensures.widths ∙ c.loop-st.invariant.widths;
      same_room = c.run_one.ensures.same_room ∙ c.loop-st.invariant.same_room;
      count = omega arith;
      fits = subst (λ (n : Layout). all_fit n c.run_one.new.waiting.writes ≡ true) (sym c.run_one.ensures.layout) c.run_one.ensures.fits;
      at_once = λ e. c.run_one.ensures.at_once e ∙ c.loop-st.invariant.at_once e;
      still = λ e. c.run_one.ensures.still e ∙ c.loop-st.invariant.still e;
      later = omega arith;
      some = λ lt. omega (arith, c.loop-st.invariant.later, c.run_one.ensures.some);
      cost = omega arith;
      sound = sound_on (sight_here c.args.site.now (g.P.Places.layout c.loop-st.places) c.loop-st.temps) (sight_here c.args.site.now (g.P.Places.layout c.run_one.new.places) c.run_one.new.temps) (same_sight c.args.site.now (g.P.Places.layout c.run_one.new.places) (g.P.Places.layout c.loop-st.places) c.run_one.new.temps c.loop-st.temps c.run_one.ensures.layout c.run_one.ensures.widths) (drop c.loop-st.st-index c.args.body.now) (drop (c.loop-st.st-index + 1) c.args.body.now) c.st-item.result split c.loop-st.invariant.sound;
      state = state_on c.args.clocked c.args.site.now (g.P.Places.layout c.loop-st.places) (g.P.Places.layout c.args.places.now) c.loop-st.invariant.layout (drop c.loop-st.st-index c.args.body.now) (drop (c.loop-st.st-index + 1) c.args.body.now) c.st-item.result split (state_here (g.P.Places.layout c.loop-st.places) (g.P.Places.at c.loop-st.places) (g.P.Places.held c.loop-st.places) c.loop-st.waiting.writes c.loop-st.temps) (state_here (g.P.Places.layout c.run_one.new.places) (g.P.Places.at c.run_one.new.places) (g.P.Places.held c.run_one.new.places) c.run_one.new.waiting.writes c.run_one.new.temps) _ c.run_one.ensures.state c.loop-st.invariant.state;
    }

pub run_one-bounds-temps-t : goal.run_one-bounds-temps-t
run_one-bounds-temps-t g t c = (temp_parts c.args.site.now.scope.now (g.P.Places.layout c.args.places.now) c.args.temps.now c.args.st.now c.in-SetTemp.t c.in-SetTemp.ex c.in-SetTemp.is c.requires.sound).0

pub run_one-returns-in-Set-clause-state : goal.run_one-returns-in-Set-clause-state
run_one-returns-in-Set-clause-state g t c = after_set c.args.clocked (scene_here c.args.site.now (g.P.Places.layout c.args.places.now)) c.args.st.now c.in-Set.part c.in-Set.ex c.in-Set.is (state_here (g.P.Places.layout c.args.places.now) (g.P.Places.at c.args.places.now) (g.P.Places.held c.args.places.now) c.args.waiting.now.writes c.args.temps.now) (state_here (g.P.Places.layout c.assign.new.places) (g.P.Places.at c.assign.new.places) (g.P.Places.held c.assign.new.places) c.assign.new.waiting.writes c.args.temps.now) c.value_of-value.result c.value_of-value.ensures.value (c.assign.ensures.state (temps_of c.args.temps.now))

pub run_one-returns-in-SetPick-clause-state : goal.run_one-returns-in-SetPick-clause-state
run_one-returns-in-SetPick-clause-state g t c =
    let all = subst (λ (ps : List Part). (state_here (g.P.Places.layout c.assign_picked.new.places) (g.P.Places.at c.assign_picked.new.places) (g.P.Places.held c.assign_picked.new.places) c.assign_picked.new.waiting.writes c.args.temps.now) ≡ picked_put c.args.clocked (scene_here c.args.site.now (g.P.Places.layout c.args.places.now)).frame.names ps c.value_of-index.result.value c.value_of-value-in-SetPick.result (state_here (g.P.Places.layout c.args.places.now) (g.P.Places.at c.args.places.now) (g.P.Places.held c.args.places.now) c.args.waiting.now.writes c.args.temps.now)) c.as_slice.ensures (c.assign_picked.ensures.state (temps_of c.args.temps.now)) in
    after_pick c.args.clocked (scene_here c.args.site.now (g.P.Places.layout c.args.places.now)) c.args.st.now c.in-SetPick.index c.in-SetPick.parts c.in-SetPick.ex c.in-SetPick.is (state_here (g.P.Places.layout c.args.places.now) (g.P.Places.at c.args.places.now) (g.P.Places.held c.args.places.now) c.args.waiting.now.writes c.args.temps.now) (state_here (g.P.Places.layout c.assign_picked.new.places) (g.P.Places.at c.assign_picked.new.places) (g.P.Places.held c.assign_picked.new.places) c.assign_picked.new.waiting.writes c.args.temps.now) c.value_of-index.result c.value_of-value-in-SetPick.result c.value_of-index.ensures.value c.value_of-value-in-SetPick.ensures.value all

pub run_one-returns-in-SetTemp-clause-widths : goal.run_one-returns-in-SetTemp-clause-widths
run_one-returns-in-SetTemp-clause-widths g t c =
    let p = temp_parts c.args.site.now.scope.now (g.P.Places.layout c.args.places.now) c.args.temps.now c.args.st.now c.in-SetTemp.t c.in-SetTemp.ex c.in-SetTemp.is c.requires.sound in
    widths_at c.args.temps.now c.in-SetTemp.t c.value_of-value-in-SetTemp.result p.0 (c.value_of-value-in-SetTemp.ensures.width ∙ p.1)

pub run_one-returns-in-SetTemp-clause-state : goal.run_one-returns-in-SetTemp-clause-state
run_one-returns-in-SetTemp-clause-state g t c =
    let p = temp_parts c.args.site.now.scope.now (g.P.Places.layout c.args.places.now) c.args.temps.now c.args.st.now c.in-SetTemp.t c.in-SetTemp.ex c.in-SetTemp.is c.requires.sound in
    after_temp c.args.clocked (scene_here c.args.site.now (g.P.Places.layout c.args.places.now)) c.args.st.now c.in-SetTemp.t c.in-SetTemp.ex c.in-SetTemp.is (state_here (g.P.Places.layout c.args.places.now) (g.P.Places.at c.args.places.now) (g.P.Places.held c.args.places.now) c.args.waiting.now.writes c.args.temps.now) c.args.temps.now refl p.0 c.value_of-value-in-SetTemp.result c.value_of-value-in-SetTemp.ensures.value

pub run_one-returns-then-value-eq0-clause-state : goal.run_one-returns-then-value-eq0-clause-state
run_one-returns-then-value-eq0-clause-state g t c =
    let all = subst (λ (ss : List St). (state_here (g.P.Places.layout c.run_all.new.places) (g.P.Places.at c.run_all.new.places) (g.P.Places.held c.run_all.new.places) c.run_all.new.waiting.writes c.run_all.new.temps) ≡ run_body c.args.clocked (scene_here c.args.site.now (g.P.Places.layout c.args.places.now)) ss (state_here (g.P.Places.layout c.args.places.now) (g.P.Places.at c.args.places.now) (g.P.Places.held c.args.places.now) c.args.waiting.now.writes c.args.temps.now)) c.as_slice-then-value-eq0.ensures c.run_all.ensures.state in
    after_no c.args.clocked (scene_here c.args.site.now (g.P.Places.layout c.args.places.now)) c.args.st.now c.in-If.test c.in-If.yes c.in-If.no c.in-If.is (state_here (g.P.Places.layout c.args.places.now) (g.P.Places.at c.args.places.now) (g.P.Places.held c.args.places.now) c.args.waiting.now.writes c.args.temps.now) (state_here (g.P.Places.layout c.run_all.new.places) (g.P.Places.at c.run_all.new.places) (g.P.Places.held c.run_all.new.places) c.run_all.new.waiting.writes c.run_all.new.temps) c.value_of.result c.value_of.ensures.value (sym c.value.ensures.value ∙ c.if-value-eq0.true) all

pub run_one-returns-else-value-eq0-clause-state : goal.run_one-returns-else-value-eq0-clause-state
run_one-returns-else-value-eq0-clause-state g t c =
    let off : (c.value_of.result.value == 0) ≡ false = grind (arith, nat_tests) in
    let all = subst (λ (ss : List St). (state_here (g.P.Places.layout c.run_all-else-value-eq0.new.places) (g.P.Places.at c.run_all-else-value-eq0.new.places) (g.P.Places.held c.run_all-else-value-eq0.new.places) c.run_all-else-value-eq0.new.waiting.writes c.run_all-else-value-eq0.new.temps) ≡ run_body c.args.clocked (scene_here c.args.site.now (g.P.Places.layout c.args.places.now)) ss (state_here (g.P.Places.layout c.args.places.now) (g.P.Places.at c.args.places.now) (g.P.Places.held c.args.places.now) c.args.waiting.now.writes c.args.temps.now)) c.as_slice-else-value-eq0.ensures c.run_all-else-value-eq0.ensures.state in
    after_yes c.args.clocked (scene_here c.args.site.now (g.P.Places.layout c.args.places.now)) c.args.st.now c.in-If.test c.in-If.yes c.in-If.no c.in-If.is (state_here (g.P.Places.layout c.args.places.now) (g.P.Places.at c.args.places.now) (g.P.Places.held c.args.places.now) c.args.waiting.now.writes c.args.temps.now) (state_here (g.P.Places.layout c.run_all-else-value-eq0.new.places) (g.P.Places.at c.run_all-else-value-eq0.new.places) (g.P.Places.held c.run_all-else-value-eq0.new.places) c.run_all-else-value-eq0.new.waiting.writes c.run_all-else-value-eq0.new.temps) c.value_of.result c.value_of.ensures.value off all

pub run_one-run_all-requires : goal.run_one-run_all-requires
run_one-run_all-requires g t c κs within =
    let count : statement_nodes (inside_here c.args.site.now) c.args.st.now ≡ 1 + nodes (inside_here c.args.site.now).guard c.in-If.test + body_nodes (inside_here c.args.site.now) c.in-If.yes + body_nodes (inside_here c.args.site.now) c.in-If.no = nodes_of_branches (inside_here c.args.site.now) c.args.st.now c.in-If.test c.in-If.yes c.in-If.no c.in-If.is in
    let same : body_nodes (inside_here c.args.site.now) c.as_slice-then-value-eq0.result.now ≡ body_nodes (inside_here c.args.site.now) c.in-If.no = ap (body_nodes (inside_here c.args.site.now)) c.as_slice-then-value-eq0.ensures in
    let falls : 2 * body_nodes (inside_here c.args.site.now) c.as_slice-then-value-eq0.result.now + 1 < t = omega (arith, count, same, c.decreases) in
    let room : c.value_of.new.steps + body_nodes (inside_here c.args.site.now) c.as_slice-then-value-eq0.result.now < 2 ^ 64 = omega (arith, count, same, c.requires.room, c.tick.ensures, c.value_of.ensures.cost) in
    let made : assignments c.args.st.now ≡ all_assignments c.in-If.yes + all_assignments c.in-If.no = assignments_of_branches c.args.st.now c.in-If.test c.in-If.yes c.in-If.no c.in-If.is in
    let as_many : all_assignments c.as_slice-then-value-eq0.result.now ≡ all_assignments c.in-If.no = ap all_assignments c.as_slice-then-value-eq0.ensures in
    let space : length c.args.waiting.now.writes + all_assignments c.as_slice-then-value-eq0.result.now ≤ c.args.waiting.now.room = omega (arith, made, as_many, c.requires.space) in
    let sound = (sound_branches (sight_here c.args.site.now (g.P.Places.layout c.args.places.now) c.args.temps.now) c.args.st.now c.in-If.test c.in-If.yes c.in-If.no c.in-If.is c.requires.sound).1 in
    let fine = subst (λ (zs : List St). IsTrue (list_all (is_sound (sight_here c.args.site.now (g.P.Places.layout c.args.places.now) c.args.temps.now)) zs)) (sym c.as_slice-then-value-eq0.ensures) sound in
    (falls, (within.0, (within.1, (room, (space, (c.requires.fits, fine))))))

pub run_one-run_all-requires-else-value-eq0 : goal.run_one-run_all-requires-else-value-eq0
run_one-run_all-requires-else-value-eq0 g t c κs within =
    let count : statement_nodes (inside_here c.args.site.now) c.args.st.now ≡ 1 + nodes (inside_here c.args.site.now).guard c.in-If.test + body_nodes (inside_here c.args.site.now) c.in-If.yes + body_nodes (inside_here c.args.site.now) c.in-If.no = nodes_of_branches (inside_here c.args.site.now) c.args.st.now c.in-If.test c.in-If.yes c.in-If.no c.in-If.is in
    let same : body_nodes (inside_here c.args.site.now) c.as_slice-else-value-eq0.result.now ≡ body_nodes (inside_here c.args.site.now) c.in-If.yes = ap (body_nodes (inside_here c.args.site.now)) c.as_slice-else-value-eq0.ensures in
    let falls : 2 * body_nodes (inside_here c.args.site.now) c.as_slice-else-value-eq0.result.now + 1 < t = omega (arith, count, same, c.decreases) in
    let room : c.value_of.new.steps + body_nodes (inside_here c.args.site.now) c.as_slice-else-value-eq0.result.now < 2 ^ 64 = omega (arith, count, same, c.requires.room, c.tick.ensures, c.value_of.ensures.cost) in
    let made : assignments c.args.st.now ≡ all_assignments c.in-If.yes + all_assignments c.in-If.no = assignments_of_branches c.args.st.now c.in-If.test c.in-If.yes c.in-If.no c.in-If.is in
    let as_many : all_assignments c.as_slice-else-value-eq0.result.now ≡ all_assignments c.in-If.yes = ap all_assignments c.as_slice-else-value-eq0.ensures in
    let space : length c.args.waiting.now.writes + all_assignments c.as_slice-else-value-eq0.result.now ≤ c.args.waiting.now.room = omega (arith, made, as_many, c.requires.space) in
    let sound = (sound_branches (sight_here c.args.site.now (g.P.Places.layout c.args.places.now) c.args.temps.now) c.args.st.now c.in-If.test c.in-If.yes c.in-If.no c.in-If.is c.requires.sound).0 in
    let fine = subst (λ (zs : List St). IsTrue (list_all (is_sound (sight_here c.args.site.now (g.P.Places.layout c.args.places.now) c.args.temps.now)) zs)) (sym c.as_slice-else-value-eq0.ensures) sound in
    (falls, (within.0, (within.1, (room, (space, (c.requires.fits, fine))))))
