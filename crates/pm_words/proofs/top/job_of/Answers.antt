use Rattle.std.proofs.Common.{ap, ◌∙◌}
use Rattle.pm_words.specs.Words.{entries_of}
use Rattle.pm_words.proofs.Answered.{job_given, job_refused}
use Rattle.pm_words.proofs.top.job_of.Goals as goal

pub returns-clause-job : goal.returns-clause-job
returns-clause-job c = let e = c.entries_in.ensures in let f = c.in_ok-matches.ensures in
    job_given _ _ c.job_in.result f.taken (e ∙ ap entries_of f.found) c.job_in.ensures

pub returns-clause-usage : goal.returns-clause-usage
returns-clause-usage c = let e = c.entries_in.ensures in let f = c.in_ok-matches.ensures in
    job_refused _ _ c.job_in.result (e ∙ ap entries_of f.found) c.job_in.ensures
