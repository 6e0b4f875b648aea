use Rattle.std.proofs.Common.{List, ap, flat_map, length, subst, ℕ}
use Rattle.std.specs.List.{range_with_len}
use Rattle.pm_instances.specs.Laid.{laid_out}
use Rattle.pm_nets.specs.Drivers.{Marks, drivers_in}
use Rattle.pm_nets.proofs.Marking.{all_driven}
use Rattle.pm_nets.proofs.drivers.mark_drivers.Goals as goal

pub returns-clause-driven : goal.returns-clause-driven
returns-clause-driven c =
    all_driven c.args.design.now c.args.sets.now c.args.driven.now c.mark_inputs.new.driven c.mark_instances.new.driven
    (length c.args.site.now.instances)
    (ap length c.requires.site.instances) c.requires.none c.in_ok-mark_inputs.ensures.marks
    (subst (λ (l : List ℕ). Marks l c.mark_inputs.new.driven c.mark_instances.new.driven
    (flat_map (drivers_in (laid_out c.args.design.now)) (range_with_len 0 (length c.args.site.now.instances))))
    c.mark_inputs.ensures.same c.in_ok-mark_instances.ensures.marks)
