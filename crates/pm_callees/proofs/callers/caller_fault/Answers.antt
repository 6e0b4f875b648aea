use Rattle.std.proofs.Common.{◌∙◌, sym, true}
use Rattle.pm_instances.specs.Laid.{laid_out}
use Rattle.pm_callees.specs.declared.tally.Methods.TheVariants as methods
use Rattle.pm_callees.specs.Numbers.{end_at}
use Rattle.pm_callees.proofs.Verdicts.{all_single, are_told, first_with_two, first_without, none_moved}
use Rattle.pm_callees.proofs.callers.caller_fault.Goals as goal

pub returns-in-Some : goal.returns-in-Some
returns-in-Some c = (
  end_at c.in-Some.port.instance true c.in-Some.port.number,
  first_without c.args.design.now c.count_methods.new.sets c.as_slice.result.now
      (are_told c.args.design.now c.in_ok-site.site c.in_ok-sets.sets c.count_methods.new.sets c.in_ok-tally.tally.items c.as_slice.result.now
      c.requires.design c.in_ok-site.ensures c.in_ok-sets.ensures c.in_ok-tally.ensures.counted c.in_ok-tally.ensures.same c.as_slice.ensures.value)
      c.in-Some.port c.in-Some.ensures.found,
  c.in_ok-name.ensures,
)

pub returns-in-Some-first_port : goal.returns-in-Some-first_port
returns-in-Some-first_port c = (
  end_at c.in-Some-first_port.port.instance true c.in-Some-first_port.port.number,
  first_with_two c.args.design.now c.first_port.new.sets c.as_slice-2.result.now
      (are_told c.args.design.now c.in_ok-site.site c.in_ok-sets.sets c.first_port.new.sets c.in_ok-tally.tally.items c.as_slice-2.result.now
      c.requires.design c.in_ok-site.ensures c.in_ok-sets.ensures c.in_ok-tally.ensures.counted (c.in_default.ensures.same ∙ c.in_ok-tally.ensures.same) c.as_slice-2.ensures.value)
      c.in-Some-first_port.port (none_moved (laid_out c.args.design.now) c.count_methods.new.sets c.first_port.new.sets c.as_slice.result.now
      c.as_slice-2.result.now methods.Absent c.in_default.ensures.same
      (c.as_slice-2.ensures.value ∙ sym c.as_slice.ensures.value) c.in_default.ensures.found) c.in-Some-first_port.ensures.found,
  c.in_ok-name-2.ensures,
)

pub returns : goal.returns
returns c =
    all_single c.args.design.now c.first_port.new.sets c.as_slice-2.result.now
    (are_told c.args.design.now c.in_ok-site.site c.in_ok-sets.sets c.first_port.new.sets c.in_ok-tally.tally.items c.as_slice-2.result.now
    c.requires.design c.in_ok-site.ensures c.in_ok-sets.ensures c.in_ok-tally.ensures.counted (c.in_default.ensures.same ∙ c.in_ok-tally.ensures.same) c.as_slice-2.ensures.value)
    (none_moved (laid_out c.args.design.now) c.count_methods.new.sets c.first_port.new.sets c.as_slice.result.now
    c.as_slice-2.result.now methods.Absent c.in_default.ensures.same
    (c.as_slice-2.ensures.value ∙ sym c.as_slice.ensures.value) c.in_default.ensures.found)
    c.in_default-first_port.ensures.found
