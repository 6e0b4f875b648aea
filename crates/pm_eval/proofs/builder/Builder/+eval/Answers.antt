use Rattle.pm_elab.specs.Constructs.{make_at}
use Rattle.pm_eval.proofs.LoneArguments.{length_called}
use Rattle.pm_eval.proofs.builder.Builder.+eval.Goals as goal

pub length_call-returns-in-len1 : goal.length_call-returns-in-len1
length_call-returns-in-len1 g t c =
    length_called (make_at c.args.self.now.level) c.args.arguments.now c.argument-item.result _ _ _ _
    c.in-len1.len_at_least c.in-len1.len_below c.argument-item.is c.if-is_none.ensures c.lone_length.ensures
