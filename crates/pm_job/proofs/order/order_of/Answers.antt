use Rattle.std.proofs.Common.{◌≡◌, ◌∙◌, ◌<◌, List, ℕ, length, refl, ap, sym, arith}
use Rattle.std.specs.List.{position}
use Rattle.pm_job.specs.Precedence.{IsArrangement, is_free}
use Rattle.pm_job.proofs.Arrangements.{all_left, one_placed, IsArrangement-from_arranged}
use Rattle.pm_job.proofs.Loops.{HasLoop-from_none_free}
use Rattle.pm_job.proofs.Ranks.{ordered_has_no_loop}
use Rattle.pm_job.proofs.order.order_of.Goals as goal

pub loop-round-init : goal.loop-round-init
loop-round-init c =
    let all = all_left c.args.blocks.now c.new-order.result.items c.in_ok-left.left.items c.new-order.ensures.items c.in_ok-left.ensures in
    record {
      count = omega (arith, all.0);
      each_once = all.1;
      arranged = all.2;
    }

pub returns-in_default-clause-looped : goal.returns-in_default-clause-looped
returns-in_default-clause-looped c =
    let free = λ (left : List ℕ). position (is_free c.args.blocks.now left) left in
    let seen : free c.as_slice.result.now ≡ free c.loop-round.left.items = ap free c.as_slice.ensures.value in
    let some : 0 < length c.loop-round.left.items = omega arith in
    (λ _. HasLoop-from_none_free c.args.blocks.now c.loop-round.left.items some (sym (c.in_default.ensures ∙ seen)), λ _. refl)

pub loop-round-preserved : goal.loop-round-preserved
loop-round-preserved c =
    let free = λ (left : List ℕ). position (is_free c.args.blocks.now left) left in
    let seen : free c.as_slice.result.now ≡ free c.loop-round.left.items = ap free c.as_slice.ensures.value in
    let placed = one_placed c.args.blocks.now c.loop-round.order.items c.loop-round.left.items c.push.new.self.items c.remove.new.self.items c.in-Some.next c.remove.result
    (c.in-Some.ensures ∙ seen) c.remove.ensures.value c.remove.ensures.items c.in_ok-push.ensures.items c.loop-round.invariant.each_once c.loop-round.invariant.arranged in
    record {
      count = omega (arith, placed.0);
      each_once = placed.1;
      arranged = placed.2;
    }

-- the indices that the rounds give are an arrangement
arrangement_found : (c : goal.After-drop-left-2) → IsArrangement c.args.blocks.now c.loop-round.order.items
arrangement_found c =
    let none : length c.loop-round.left.items ≡ 0 = omega arith in
    IsArrangement-from_arranged c.args.blocks.now c.loop-round.order.items c.loop-round.left.items none c.loop-round.invariant.each_once c.loop-round.invariant.arranged

pub returns-clause-ordered : goal.returns-clause-ordered
returns-clause-ordered c = arrangement_found c

pub returns-clause-looped : goal.returns-clause-looped
returns-clause-looped c = (λ none. absurd (cc), λ loop. absurd (ordered_has_no_loop c.args.blocks.now c.loop-round.order.items (arrangement_found c) loop))
