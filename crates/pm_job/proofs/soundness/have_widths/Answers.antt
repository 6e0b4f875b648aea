use Rattle.std.proofs.Common.{◌∙◌, sym, rules, tests}
use Rattle.std.proofs.lemmas.Iterator.{YieldsList-from_slice}
use Rattle.std.proofs.lemmas.Iterator.Search.{all_from_yields_List}
use Rattle.std.proofs.lemmas.List.Folds.{list_all-map}
use Rattle.pm_job.specs.Sound.{is_width}
use Rattle.pm_job.proofs.soundness.have_widths.Goals as goal

pub returns : goal.returns
returns c =
    all_from_yields_List (λ signal. is_width signal.width) _ _ _ c.all.ensures.ran (YieldsList-from_slice c.args.signals.now cc) (λ x b q k. search (rules, tests))
    ∙ sym (list_all-map is_width (λ signal. signal.width) c.args.signals.now)
