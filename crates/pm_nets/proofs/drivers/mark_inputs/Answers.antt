use Rattle.std.proofs.Common.{◌∙◌, List, ap, subst, sym}
use Rattle.std.specs.Prelude.{IsTrue}
use Rattle.std.specs.List.{list_all}
use Rattle.pm_design.specs.declared.connection.Part.{Part}
use Rattle.pm_design.specs.Lookups.{lies_within}
use Rattle.pm_design.specs.Runnable.{kind_at}
use Rattle.pm_instances.specs.Laid.{laid_out}
use Rattle.pm_nets.specs.Drivers.{inputs_from}
use Rattle.pm_nets.proofs.Marking.{top_inputs}
use Rattle.pm_nets.proofs.drivers.mark_inputs.Goals as goal

pub mark_parts-requires-clause-parts : goal.mark_parts-requires-clause-parts
mark_parts-requires-clause-parts c =
    subst (λ (l : List Part). IsTrue
    (list_all (lies_within c.args.design.now (kind_at (laid_out c.args.design.now) 0)) l))
    (sym c.as_slice-2.ensures.value)
    (top_inputs c.args.design.now c.args.site.now c.requires.design c.requires.site c.instance_kind.result.now
    c.in_ok-parts.parts.items c.instance_kind.ensures
    (c.in_ok-parts.ensures ∙ ap (inputs_from 0) c.as_slice.ensures))
