use Rattle.std.proofs.Common.{ℕ, List, length, take, sym, ◌∙◌, ◌≡◌, refl, arith, subst}
use Rattle.std.proofs.lemmas.List.{take_all, nil_from_length}
use Rattle.pm_io.specs.Lines.{without_cr}
use Rattle.pm_io.proofs.BufferParts.{without_cr-take, without_cr-same}
use Rattle.order_file.proofs.lines.count_without_cr.Goals as goal
use Rattle.order_file.proofs.lines.count_without_cr.Goals.{else-count-gt0-via-then-count-gt0+else-line-count-eq-CR, else-count-gt0-via-else-count-gt0}

-- of an empty line nothing is dropped
without_cr-empty : (line : List ℕ) → length line ≡ 0 → without_cr line ≡ line
without_cr-empty line none = subst (λ (bytes : List ℕ). without_cr bytes ≡ bytes) (sym (nil_from_length line none)) refl

pub returns-then-line-count-eq-CR-clause-value : goal.returns-then-line-count-eq-CR-clause-value
returns-then-line-count-eq-CR-clause-value c =
    sym (without_cr-take c.args.line.now c.if-count-gt0.true c.if-line-count-eq-CR.true)

pub returns-else-count-gt0-clause-value : goal.returns-else-count-gt0-clause-value
returns-else-count-gt0-clause-value c =
    let whole : take (length c.args.line.now) c.args.line.now ≡ c.args.line.now = take_all _ _ (omega arith) in
    elim c.else-count-gt0.branch [
      | else-count-gt0-via-then-count-gt0+else-line-count-eq-CR w ↦
          whole ∙ sym (without_cr-same c.args.line.now w.if-count-gt0.true w.if-line-count-eq-CR.false)
      | else-count-gt0-via-else-count-gt0 w ↦ whole
          ∙ sym (without_cr-empty c.args.line.now (omega (arith, w.if-count-gt0.false)))
    ]
