use Rattle.std.proofs.Common.{◌∙◌, sym}
use Rattle.std.specs.Prelude.{decimal}
use Rattle.std.proofs.lemmas.List.{take_rest}
use Rattle.pm_words.proofs.Widths.{prefix_here, no_prefix}
use Rattle.pm_words.proofs.parameter.is_numbered.Goals as goal

pub returns-then-starts_with : goal.returns-then-starts_with
returns-then-starts_with c =
    rw (c.as_bytes.ensures.value, c.format.ensures.text, take_rest c.args.word.now _) at c.eq.ensures
    ∙ prefix_here c.args.word.now c.args.prefix.now (decimal c.args.number)
    (sym c.starts_with.ensures.value ∙ c.if-starts_with.true)

pub returns-else-starts_with : goal.returns-else-starts_with
returns-else-starts_with c =
    c.if-starts_with.false
    ∙ no_prefix c.args.word.now c.args.prefix.now (decimal c.args.number)
    (sym c.starts_with.ensures.value ∙ c.if-starts_with.false)
