use Rattle.std.proofs.Common.{◌≡◌, ℕ, List, Bool, not, Some, None, slice_index, subst, ap₂, ◌∙◌}
use Rattle.pm_cons.specs.Below.{least_below}
use Rattle.pm_cons.specs.Breaks.{break_at, missing_of}
use Rattle.pm_sched.specs.Tables.{flag, precedence_in}
use Rattle.pm_sched.proofs.Checked.{none_checked, broken, more_checked, all_checked}
use Rattle.pm_sched.proofs.checking.break_in.Goals as goal

pub loop-place-init : goal.loop-place-init
loop-place-init c = none_checked (precedence_in c.args.predecessors.now) c.args.listed.now.items c.args.order.now c.requires.blocks c.requires.none_listed

pub returns-in-Some : goal.returns-in-Some
returns-in-Some c = broken (precedence_in c.args.predecessors.now) c.loop-place.listed.items c.args.order.now c.loop-place.place c.in-Some.found c.loop-place-test.true c.loop-place.invariant
    (subst (λ (flags : List Bool). Some c.in-Some.found ≡ break_at (precedence_in c.args.predecessors.now) (flag flags) c.loop-place.place (slice_index c.args.order.now c.loop-place.place)) c.deref.ensures.value c.in-Some.ensures)

pub loop-place-preserved : goal.loop-place-preserved
loop-place-preserved c = more_checked (precedence_in c.args.predecessors.now) c.loop-place.listed.items c.args.order.now c.loop-place.place c.loop-place-test.true c.loop-place.invariant
    (subst (λ (flags : List Bool). None ≡ break_at (precedence_in c.args.predecessors.now) (flag flags) c.loop-place.place (slice_index c.args.order.now c.loop-place.place)) c.deref.ensures.value c.in-None.ensures)

pub returns : goal.returns
returns c = c.first_unlisted.ensures ∙ (ap₂ (λ (n : ℕ) (flags : List Bool). missing_of (least_below n (λ b. not (flag flags b)))) c.rows.ensures c.deref-2.ensures.value
    ∙ all_checked (precedence_in c.args.predecessors.now) c.loop-place.listed.items c.args.order.now c.loop-place.place c.loop-place-test.false c.loop-place.invariant)
