use Rattle.std.proofs.Common.{◌∙◌, ℕ, ap, subst, sym}
use Rattle.pm_cons.specs.Edges.{precedence_of}
use Rattle.pm_cons.specs.Precedence.{Precedence}
use Rattle.pm_sched.specs.LeastPair.{AreConflicts}
use Rattle.pm_sched.proofs.Least.{bits_tell, least_pair, no_pair, none_found}
use Rattle.pm_sched.proofs.pairs.unordered.Goals as goal

pub returns-clause-some : goal.returns-clause-some
returns-clause-some c =
    least_pair (precedence_of c.args.edges.now) c.args.edges.now.conflicts c.close.new.table
    (subst (λ (n : ℕ). AreConflicts c.args.edges.now.conflicts n) (sym (c.close.ensures.rows ∙ ap (λ (g : Precedence). g.count) c.in_ok-table.ensures.bits)) c.requires.conflicts)
    (bits_tell c.in_ok-table.table c.close.new.table (precedence_of c.args.edges.now) c.in_ok-table.ensures.bits c.close.ensures.bits)
    c.first_pair.result c.first_pair.ensures.some c.first_pair.ensures.least

pub returns-clause-none : goal.returns-clause-none
returns-clause-none c =
    let are = subst (λ (n : ℕ). AreConflicts c.args.edges.now.conflicts n) (sym (c.close.ensures.rows ∙ ap (λ (g : Precedence). g.count) c.in_ok-table.ensures.bits)) c.requires.conflicts in
    let tell = bits_tell c.in_ok-table.table c.close.new.table (precedence_of c.args.edges.now) c.in_ok-table.ensures.bits c.close.ensures.bits in (
      λ is. no_pair (precedence_of c.args.edges.now) c.args.edges.now.conflicts c.close.new.table are tell (c.first_pair.ensures.none is),
      λ all. none_found (precedence_of c.args.edges.now) c.args.edges.now.conflicts c.first_pair.result
          (least_pair (precedence_of c.args.edges.now) c.args.edges.now.conflicts c.close.new.table are tell c.first_pair.result c.first_pair.ensures.some c.first_pair.ensures.least) all,
    )
