use Rattle.std.proofs.Common.{◌+◌, ◌∙◌, ℕ, Option, ap, arith}
use Rattle.std.specs.Prelude.{option_map}
use Rattle.std.proofs.lemmas.List.{length-drop, take_rest}
use Rattle.pm_syn.proofs.StringLengths.{string_if, string_length-other, string_length-prefixed}
use Rattle.pm_syn.proofs.string.string_length.Goals as goal

pub returns-in_ok-count-in-len1-up : goal.returns-in_ok-count-in-len1-up
returns-in_ok-count-in-len1-up c =
    let text = c.args.text.now in
    let found = rw take_rest at c.in_ok-count-in-len1-up.ensures.value in
    let le = rw take_rest at c.in_ok-count-in-len1-up.ensures.within in
    record {
      value = ap (λ (found : Option ℕ). option_map (λ count. count + 1) found) found ∙ string_length-prefixed text c.in-len1-up.len_at_least c.if-is_prefix.ensures;
      within = omega (arith, le, length-drop 1 text, c.in-len1-up.len_at_least);
    }

pub returns-in_err-count-in-len1-up : goal.returns-in_err-count-in-len1-up
returns-in_err-count-in-len1-up c =
    let text = c.args.text.now in
    let found = rw take_rest at c.in_err-count-in-len1-up.ensures.value in
    rw c.from_residual.ensures (record {
      value = ap (λ (found : Option ℕ). option_map (λ count. count + 1) found) found ∙ string_length-prefixed text c.in-len1-up.len_at_least c.if-is_prefix.ensures;
      within = tt;
    })

pub returns-in_default : goal.returns-in_default
returns-in_default c =
    let text = c.args.text.now in
    let value = c.quoted_length-in_default.ensures.value ∙ string_length-other text c.in-len1-up.len_at_least c.if-is_prefix.ensures in
    record { value = value; within = string_if text c.quoted_length-in_default.result value }
