use Rattle.std.proofs.Common.{ap, ◌∙◌, sym}
use Rattle.pm_words.specs.Readings.{param_of}
use Rattle.pm_words.proofs.Params.{all_follow, next_fails, next_follows}
use Rattle.pm_words.proofs.parameter.params_of.Goals as goal

pub returns-in-Err : goal.returns-in-Err
returns-in-Err c =
    λ some. next_fails c.args.words.now c.words.word-index c.words.params _ c.words-test.true c.words.invariant
    (ap param_of (sym c.as_bytes.ensures.value) ∙ c.in-Err.ensures some)

pub words-preserved : goal.words-preserved
words-preserved c =
    next_follows c.args.words.now c.words.word-index c.words.params c.push.new.self c.in-Ok.param _ c.words-test.true
    c.words.invariant (ap param_of (sym c.as_bytes.ensures.value) ∙ c.in-Ok.ensures) c.in_ok-push-in-Ok.ensures.ok

pub returns : goal.returns
returns c = all_follow c.args.words.now c.words.word-index c.words.params c.words-test.false c.words.invariant
