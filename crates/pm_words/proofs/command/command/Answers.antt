use Rattle.std.proofs.Common.{ap, ap₂, ◌∙◌}
use Rattle.std.proofs.lemmas.Result.{IfOk-weaker}
use Rattle.clap.specs.Words.{with_rule, App, Rule}
use Rattle.pm_words.proofs.command.command.Goals as goal

pub returns : goal.returns
returns c =
    let plus : Rule → App → App = λ r a. with_rule a r in
    let one = c.in_ok-command.ensures ∙ ap (plus _) c.bare.ensures in
    let two = c.in_ok-command-2.ensures ∙ ap (plus _) one in
    let three = c.in_ok-command-3.ensures.shape c.action.ensures.local ∙ ap₂ with_rule two c.action.ensures.rule in
    IfOk-weaker c.arg-2.result _ _
    (λ r h. h.shape c.rest.ensures.local ∙ ap₂ with_rule three c.rest.ensures.rule) c.arg-2.ensures
