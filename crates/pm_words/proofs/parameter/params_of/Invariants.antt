use Rattle.pm_words.proofs.Params.{FollowAt}
use Rattle.pm_words.proofs.parameter.params_of.Given as goal

-- the parameters of the other words come after those so far
abbrev pub invariant-words : goal.invariant-words
invariant-words l = FollowAt l.words l.word-index l.params
