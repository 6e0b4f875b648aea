use Rattle.std.proofs.Common.{sym}
use Rattle.pm_trace.proofs.Places.{header_answered, missing_answered, no_header}
use Rattle.pm_trace.proofs.header.read_header_at.Goals as goal

pub returns-in-Err : goal.returns-in-Err
returns-in-Err c = no_header c.args.inputs.now c.args.line.now c.in-Err.fault c.in-Err.ensures

pub returns-in-Some : goal.returns-in-Some
returns-in-Some c =
    missing_answered c.args.inputs.now c.args.line.now c.in-Some.name.now c.in-Ok.field-0 c.bad_header.result
    c.in-Ok.ensures (sym c.in-Some.ensures)
    c.bad_header.ensures

pub returns-in-None : goal.returns-in-None
returns-in-None c =
    header_answered c.args.inputs.now c.args.line.now c.in-Ok.field-0 c.in-Ok.ensures (sym c.in-None.ensures)
