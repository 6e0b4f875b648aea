use Rattle.std.proofs.Common.{◌∙◌}
use Rattle.std.proofs.lemmas.List.{take_rest}
use Rattle.pm_syn.proofs.StringLengths.{quoted_if, quoted_length-none, quoted_length-other, quoted_length-quote}
use Rattle.pm_syn.proofs.string.quoted_length.Goals as goal

pub returns-in-len1-up : goal.returns-in-len1-up
returns-in-len1-up c =
    let text = c.args.text.now in
    let value = (rw take_rest at c.length_from.ensures.value) ∙ quoted_length-quote text c.in-len1-up.len_at_least c.if-is_quote.ensures in
    record { value = value; within = quoted_if text c.length_from.result value }

pub returns-in_default : goal.returns-in_default
returns-in_default c = record { value = quoted_length-none c.args.text.now c.in_default.len_below; within = tt }

pub returns-in_default-2 : goal.returns-in_default-2
returns-in_default-2 c = record { value = quoted_length-other c.args.text.now c.in-len1-up.len_at_least c.if-is_quote.ensures; within = tt }
