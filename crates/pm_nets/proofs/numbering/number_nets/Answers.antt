use Rattle.std.proofs.Common.{ℕ, List, length, subst, sym}
use Rattle.disjoint_sets.specs.Partitions.{IsNumbering}
use Rattle.pm_nets.proofs.numbering.number_nets.Goals as goal

pub returns : goal.returns
returns c links are =
    subst (λ (l : List ℕ). IsNumbering (length c.args.sets.now) links l c.in_ok-numbers.field-0.sets)
    (sym c.from_vec.ensures)
    (c.in_ok-numbers.ensures links are)
