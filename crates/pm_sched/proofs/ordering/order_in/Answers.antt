use Rattle.std.proofs.Common.{◌<◌, ◌≡◌, ◌+◌, length, true, arith, sym, Some, None, subst, ℕ, Bool, List, set, length-set}
use Rattle.pm_cons.specs.DefaultOrder.{next_block}
use Rattle.pm_sched.specs.Ordering.{AreStarts}
use Rattle.pm_sched.specs.Tables.{flag, precedence_in}
use Rattle.pm_sched.proofs.Made.{more_made, all_made, none_ready, flag_set, flag_else, still_passed, IsMade}
use Rattle.pm_sched.proofs.Ready.{blocks_in}
use Rattle.pm_sched.proofs.ordering.order_in.Goals as goal

pub returns-in-None-clause-none : goal.returns-in-None-clause-none
returns-in-None-clause-none c = λ _. none_ready (precedence_in c.args.predecessors.now) (blocks_in c.args.predecessors.now c.requires) (flag c.loop-turn.listed.items) c.loop-turn.order c.loop-turn._turn (omega (arith, c.loop-turn-test.true, c.rows-count.ensures)) c.loop-turn.invariant.made
    (sym (subst (λ (flags : List Bool). None ≡ next_block (precedence_in c.args.predecessors.now) (flag flags)) c.deref.ensures.value c.in-None.ensures.value))

pub loop-turn-preserved : goal.loop-turn-preserved
loop-turn-preserved c =
    let rows : length c.loop-turn.listed.items ≡ c.args.predecessors.now.rows = c.loop-turn.invariant.rows in
    let lt : c.in-Some.block < length c.loop-turn.listed.items = omega (arith, c.in-Some.ensures.block, rows) in
    let next_is : next_block (precedence_in c.args.predecessors.now) (flag c.loop-turn.listed.items) ≡ Some c.in-Some.block = sym (subst (λ (flags : List Bool). Some c.in-Some.block ≡ next_block (precedence_in c.args.predecessors.now) (flag flags)) c.deref.ensures.value c.in-Some.ensures.value) in
    record {
      rows = rw length-set rows;
      starts = still_passed c.args.predecessors.now c.loop-turn.listed.items c.next_block.new.starts.items c.in-Some.block lt (subst (λ (flags : List Bool). AreStarts c.args.predecessors.now (flag flags) c.next_block.new.starts.items) c.deref.ensures.value c.next_block.ensures.starts);
      made = subst (λ (order : List ℕ). IsMade (precedence_in c.args.predecessors.now) (flag (set c.loop-turn.listed.items c.in-Some.block true)) order (c.loop-turn._turn + 1)) (sym c.in_ok-push-in-Some.ensures.ok)
          (more_made (precedence_in c.args.predecessors.now) (blocks_in c.args.predecessors.now c.requires) (flag c.loop-turn.listed.items) (flag (set c.loop-turn.listed.items c.in-Some.block true)) c.loop-turn.order c.loop-turn._turn c.in-Some.block (omega (arith, c.loop-turn-test.true, c.rows-count.ensures)) c.loop-turn.invariant.made next_is
          (flag_set c.loop-turn.listed.items c.in-Some.block lt) (flag_else c.loop-turn.listed.items c.in-Some.block lt));
    }

pub returns-clause-some : goal.returns-clause-some
returns-clause-some c = all_made (precedence_in c.args.predecessors.now) (flag c.loop-turn.listed.items) c.loop-turn.order c.loop-turn._turn (omega (arith, c.loop-turn-test.false, c.loop-turn.auto._turn-end, c.rows-count.ensures)) c.loop-turn.invariant.made
