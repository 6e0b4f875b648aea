use Rattle.std.proofs.Common.{◌∙◌, ap}
use Rattle.std.specs.Option.{option_and_then}
use Rattle.pm_trace.specs.Values.{fitted}
use Rattle.pm_trace.proofs.Numbers.{value_by_number}
use Rattle.pm_trace.proofs.digits.value_of.Goals as goal

pub returns-in-Some : goal.returns-in-Some
returns-in-Some c =
    c.fitted.ensures ∙ ap (option_and_then (fitted c.args.width)) c.in-Some.ensures
    ∙ value_by_number c.args.width c.args.word.now c.requires.width.1

pub returns-in-None : goal.returns-in-None
returns-in-None c =
    ap (option_and_then (fitted c.args.width)) c.in-None.ensures
    ∙ value_by_number c.args.width c.args.word.now c.requires.width.1
