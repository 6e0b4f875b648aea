use Rattle.std.proofs.Common.{◌≡◌, ◌∙◌, ◌∷◌, ◌+◌, [], drop, ap, sym, subst}
use Rattle.std.specs.Prelude.{Some, None, true, false}
use Rattle.std.specs.Option.{option_copied}
use Rattle.pm_job.specs.Words.{blank, without_prefix}
use Rattle.pm_job.specs.Trace.{is_input}
use Rattle.pm_job.specs.Vectors.{header_of}
use Rattle.pm_job.proofs.Headers.{Follows, listed, follows_start, follows_same, listed_input, listed_other, follows_after, follows_no_separator, follows_no_name}
use Rattle.pm_job.proofs.vectors.is_header.Goals as goal
use Rattle.pm_job.proofs.vectors.is_header.Goals.{then-is_input+in-Some+in-Some-without_prefix, else-is_input}

pub inputs-init : goal.inputs-init
inputs-init c = follows_start c.args.component.now c.args.line.now _ _ c.as_slice-separator.ensures c.as_slice-signals.ensures

pub returns-in_default : goal.returns-in_default
returns-in_default c =
    let signals = c.as_slice-signals.result.now in
    let separator = c.inputs.separator.now in
    let signal = c.index-signals-index.result in
    let input : is_input signal.role ≡ true = sym c.is_input.ensures ∙ c.if-is_input.true in
    let left = listed_input separator signals c.inputs.index signal c.inputs-test.true c.index-signals-index.is input in
    let follows = subst (Follows c.args.line.now (header_of c.args.component.now) c.inputs.rest.now) left c.inputs.invariant in
    let none : without_prefix separator c.inputs.rest.now ≡ None = sym c.without_prefix.ensures ∙ ap option_copied c.in_default.is in
    (λ never. cc, λ same. absurd (follows_no_separator _ _ _ separator _ follows none same))

pub returns-in_default-without_prefix : goal.returns-in_default-without_prefix
returns-in_default-without_prefix c =
    let signals = c.as_slice-signals.result.now in
    let separator = c.inputs.separator.now in
    let signal = c.index-signals-index.result in
    let at = c.in-Some.at_name.now in
    let input : is_input signal.role ≡ true = sym c.is_input.ensures ∙ c.if-is_input.true in
    let left = listed_input separator signals c.inputs.index signal c.inputs-test.true c.index-signals-index.is input in
    let follows = subst (Follows c.args.line.now (header_of c.args.component.now) c.inputs.rest.now) left c.inputs.invariant in
    let first : without_prefix separator c.inputs.rest.now ≡ Some at = sym c.without_prefix.ensures ∙ ap option_copied c.in-Some.is in
    let none : without_prefix signal.name at ≡ None =
    ap (λ name. without_prefix name at) (sym c.as_slice.ensures) ∙ sym c.without_prefix-then-is_input.ensures ∙ ap option_copied c.in_default-without_prefix.is in
    (λ never. cc, λ same. absurd (follows_no_name _ _ _ separator signal.name _ at follows first none same))

pub inputs-preserved : goal.inputs-preserved
inputs-preserved c =
    let signals = c.as_slice-signals.result.now in
    let separator = c.inputs.separator.now in
    let signal = c.index-signals-index.result in
    let line = c.args.line.now in
    let header = header_of c.args.component.now in
    elim c.if-is_input.branch [
      | then-is_input+in-Some+in-Some-without_prefix w ↦
          let at = w.in-Some.at_name.now in
          let more = w.in-Some-without_prefix.after_name.now in
          let input : is_input signal.role ≡ true = sym c.is_input.ensures ∙ w.if-is_input.true in
          let left = listed_input separator signals c.inputs.index signal c.inputs-test.true c.index-signals-index.is input in
          let follows = subst (Follows line header c.inputs.rest.now) left c.inputs.invariant in
          let first : without_prefix separator c.inputs.rest.now ≡ Some at = sym w.without_prefix.ensures ∙ ap option_copied w.in-Some.is in
          let second : without_prefix signal.name at ≡ Some more =
          ap (λ name. without_prefix name at) (sym w.as_slice.ensures) ∙ sym w.without_prefix-then-is_input.ensures ∙ ap option_copied w.in-Some-without_prefix.is in
          let next : Follows line header more (listed (blank ∷ []) (drop (c.inputs.index + 1) signals)) =
          follows_after line header c.inputs.rest.now separator signal.name _ at more follows first second in
          follows_same line header more c.if-is_input.rest.now _ _ next (ap (λ r. r.now) w.rest-is)
          (ap (λ r. listed r.now (drop (c.inputs.index + 1) signals)) w.separator-is ∙ ap (λ r. listed r (drop (c.inputs.index + 1) signals)) w.as_slice-separator-then-is_input.ensures)
      | else-is_input w ↦
          let other : is_input signal.role ≡ false = sym c.is_input.ensures ∙ w.if-is_input.false in
          let left = listed_other separator signals c.inputs.index signal c.inputs-test.true c.index-signals-index.is other in
          let follows = subst (Follows line header c.inputs.rest.now) left c.inputs.invariant in
          follows_same line header c.inputs.rest.now c.if-is_input.rest.now _ _ follows (ap (λ r. r.now) w.rest-is)
          (ap (λ r. listed r.now (drop (c.inputs.index + 1) signals)) w.separator-is)
    ]
