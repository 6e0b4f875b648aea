use Rattle.std.proofs.Common.{◌≡◌, ◌∙◌, ℕ, ap, length, arith}
use Rattle.std.proofs.lemmas.List.{length-set}
use Rattle.pm_block.proofs.Started.{started, started_all, started_next}
use Rattle.pm_block.proofs.run.start_all.Goals as goal

pub returns : goal.returns
returns c =
    let end : c.loop-i.i ≡ length c.args.widths.now = omega arith in
    c.loop-i.invariant.words ∙ (ap (λ (k : ℕ). started k c.args.widths.now c.args.words.now) end ∙ started_all c.args.widths.now c.args.words.now c.requires.count)

pub loop-i-preserved : goal.loop-i-preserved
loop-i-preserved c = record {
  words = started_next c.loop-i.i c.args.widths.now c.args.words.now c.loop-i.words c.zero_of.result c.width_at.result c.loop-i.invariant.words c.loop-i-test.true c.requires.count c.width_at.ensures.value c.zero_of.ensures;
  count = length-set c.loop-i.words c.loop-i.i c.zero_of.result ∙ c.loop-i.invariant.count;
}
