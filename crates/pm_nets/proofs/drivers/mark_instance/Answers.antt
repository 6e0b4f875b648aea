use Rattle.std.proofs.Common.{List, subst, sym}
use Rattle.std.specs.Prelude.{IsTrue}
use Rattle.std.specs.List.{list_all}
use Rattle.pm_design.specs.declared.connection.Part.{Part}
use Rattle.pm_design.specs.Lookups.{lies_within}
use Rattle.pm_design.specs.Runnable.{kind_at}
use Rattle.pm_instances.specs.Laid.{laid_out}
use Rattle.pm_nets.proofs.Marking.{instance_parts}
use Rattle.pm_nets.proofs.drivers.mark_instance.Goals as goal

pub mark_parts-requires-clause-parts : goal.mark_parts-requires-clause-parts
mark_parts-requires-clause-parts c =
    subst (λ (l : List Part). IsTrue
    (list_all (lies_within c.args.design.now (kind_at (laid_out c.args.design.now) c.args.i)) l))
    (sym c.as_slice.ensures.value)
    (instance_parts c.args.design.now c.args.site.now c.requires.design c.requires.site c.args.i
    c.instance_kind-kind.result.now
    c.in_ok-parts.parts.items c.requires.instance c.instance_kind-kind.ensures c.in_ok-parts.ensures.within)
