use Rattle.std.proofs.Common.{◌∙◌, ap, sym, length}
use Rattle.disjoint_sets.proofs.Views.{length-roots}
use Rattle.disjoint_sets.proofs.sets.DisjointSets.len.Goals as goal

pub returns : goal.returns
returns c = c.len.ensures ∙ (c.self.inside.parents.ok.0 ∙ (sym (length-roots c.self.inside.parents.items) ∙
    ap length c.self.view_is))
