use Rattle.std.proofs.Common.{Err, None, Ok, Some, inr}
use Rattle.pm_parse.proofs.Answers.{fault_found, faultless}
use Rattle.pm_parse.proofs.OneAnswer.{one_answer}
use Rattle.pm_parse.proofs.parsing.parse.Goals as goal

pub returns-in-Some-clause-only : goal.returns-in-Some-clause-only
returns-in-Some-clause-only c =
    let first = fault_found c.in_ok-entries.entries c.as_slice.result.now c.in_ok-fault.field-0 (Some c.in-Some.fault) c.as_slice.ensures c.in_ok-fault.ensures c.in-Some.is in
    λ answer is. inr (one_answer c.args.lines.now (Err c.in-Some.fault) answer (c.in_ok-entries.entries, c.in_ok-entries.ensures, first) is)

pub trees-requires : goal.trees-requires
trees-requires c =
    faultless c.in_ok-entries.entries (fault_found c.in_ok-entries.entries c.as_slice.result.now c.in_ok-fault.field-0 None c.as_slice.ensures c.in_ok-fault.ensures c.in_default.is)

pub returns-clause-only : goal.returns-clause-only
returns-clause-only c =
    let none = fault_found c.in_ok-entries.entries c.as_slice.result.now c.in_ok-fault.field-0 None c.as_slice.ensures c.in_ok-fault.ensures c.in_default.is in
    λ answer is. inr (one_answer c.args.lines.now (Ok (record { nodes = c.in_ok-trees.field-0 })) answer (c.in_ok-entries.entries, c.in_ok-entries.ensures, (none, c.in_ok-trees.ensures)) is)
