use Rattle.std.proofs.Common.{sym, arith}
use Rattle.pm_cons.proofs.Breaking.{early, no_fault, ready_yes, ready_no}
use Rattle.pm_sched.specs.Tables.{flag, precedence_in}
use Rattle.pm_sched.proofs.checking.break_at.Goals as goal

pub returns-then-first_missing-rows : goal.returns-then-first_missing-rows
returns-then-first_missing-rows c =
    let found = c.first_missing.ensures.missing (omega (arith)) in
    sym
    (early (precedence_in c.args.predecessors.now) (flag c.args.listed.now) c.args.place c.args.block (omega arith)
    c.if-listed-block.false
    (ready_no (precedence_in c.args.predecessors.now) (flag c.args.listed.now) c.args.block c.first_missing.result
    (omega arith) found.0 found.1))

pub returns : goal.returns
returns c =
    sym
    (no_fault (precedence_in c.args.predecessors.now) (flag c.args.listed.now) c.args.place c.args.block (omega arith)
    c.if-listed-block.false
    (ready_yes (precedence_in c.args.predecessors.now) (flag c.args.listed.now) c.args.block c.first_missing.result
    (omega arith) c.first_missing.ensures.passed))
