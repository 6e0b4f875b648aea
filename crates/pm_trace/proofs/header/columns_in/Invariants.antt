use Rattle.std.proofs.Common.{length}
use Rattle.pm_trace.specs.Words.{words_of}
use Rattle.pm_trace.proofs.Places.{IsReadSoFar}
use Rattle.pm_trace.proofs.header.columns_in.Given as goal

-- the words so far have these places
abbrev pub invariant-line_words : goal.invariant-line_words
invariant-line_words l = IsReadSoFar l.inputs l.line l.rest l.port_of l.words

abbrev pub decreases-line_words : goal.decreases-line_words
decreases-line_words l = length (words_of l.rest)
