use Rattle.std.proofs.Common.{◌≡◌, ◌∙◌, sym, ap, rules}
use Rattle.std.specs.Prelude.{slice_get, option_map, reverse}
use Rattle.std.proofs.lemmas.List.{reverse-reverse}
use Rattle.pm_syn.proofs.OpenBrackets.{unclosed-reverse}
use Rattle.pm_syn.specs.Reading.{unclosed}
use Rattle.pm_syn.proofs.bracket.unclosed.Goals as goal

pub returns : goal.returns
returns c =
    let brackets = c.args.open_brackets.now in
    let lines : c.map.result ≡ option_map (λ bracket. bracket.line) (slice_get (reverse brackets) 0) = search rules in
    lines ∙ (sym (unclosed-reverse (reverse brackets)) ∙ ap unclosed (reverse-reverse brackets))
