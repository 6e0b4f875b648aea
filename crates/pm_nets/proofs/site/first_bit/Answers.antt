use Rattle.std.proofs.Common.{rules, ◌≡◌, ◌∙◌, ◌+◌, ◌<◌, ◌≤◌, ◌^◌, ℕ, ap, subst, sym, arith}
use Rattle.pm_design.specs.Instances.{flat_bits}
use Rattle.pm_instances.specs.Laid.{laid_out}
use Rattle.pm_nets.specs.Sites.{first_of}
use Rattle.pm_nets.proofs.Parts.{part_found, owner_there}
use Rattle.pm_nets.proofs.site.first_bit.Goals as goal

pub instance_at-instance-requires : goal.instance_at-instance-requires
instance_at-instance-requires c =
    owner_there c.args.design.now c.args.site.now c.requires.design c.requires.site c.args.i c.owner.result
    c.args.part
    c.requires.instance c.requires.part c.owner.ensures

pub offset-requires-clause-kind : goal.offset-requires-clause-kind
offset-requires-clause-kind c =
    (part_found c.args.design.now c.args.site.now c.requires.design c.requires.site c.args.i c.owner.result
    c.args.part
    c.instance_at-instance.result.now c.requires.instance c.requires.part c.owner.ensures
    c.instance_at-instance.ensures).kind

pub offset-requires-clause-signal : goal.offset-requires-clause-signal
offset-requires-clause-signal c =
    (part_found c.args.design.now c.args.site.now c.requires.design c.requires.site c.args.i c.owner.result
    c.args.part
    c.instance_at-instance.result.now c.requires.instance c.requires.part c.owner.ensures
    c.instance_at-instance.ensures).signal

pub overflow_add-result : goal.overflow_add-result
overflow_add-result c =
    let found = part_found c.args.design.now c.args.site.now c.requires.design c.requires.site c.args.i c.owner.result
    c.args.part
    c.instance_at-instance.result.now c.requires.instance c.requires.part c.owner.ensures
    c.instance_at-instance.ensures in
    let value : c.instance_at-instance.result.now.first_bit + c.offset.result + c.args.part.lo ≡ first_of
    (laid_out c.args.design.now) c.args.i c.args.part =
    ap (λ (n : ℕ). c.instance_at-instance.result.now.first_bit + n + c.args.part.lo) c.offset.ensures ∙
    found.value in
    let fits : first_of (laid_out c.args.design.now) c.args.i c.args.part + c.args.part.width ≤ flat_bits
    c.args.design.now = found.fits in
    let few : flat_bits c.args.design.now ≤ 2 ^ 18 = c.requires.bits in
    let low : c.instance_at-instance.result.now.first_bit + c.offset.result < 2 ^ 32 = omega arith in
    search (rules, low)

pub overflow_add-result-2 : goal.overflow_add-result-2
overflow_add-result-2 c =
    let found = part_found c.args.design.now c.args.site.now c.requires.design c.requires.site c.args.i c.owner.result
    c.args.part
    c.instance_at-instance.result.now c.requires.instance c.requires.part c.owner.ensures
    c.instance_at-instance.ensures in
    let value : c.instance_at-instance.result.now.first_bit + c.offset.result + c.args.part.lo ≡ first_of
    (laid_out c.args.design.now) c.args.i c.args.part =
    ap (λ (n : ℕ). c.instance_at-instance.result.now.first_bit + n + c.args.part.lo) c.offset.ensures ∙
    found.value in
    let fits : first_of (laid_out c.args.design.now) c.args.i c.args.part + c.args.part.width ≤ flat_bits
    c.args.design.now = found.fits in
    let few : flat_bits c.args.design.now ≤ 2 ^ 18 = c.requires.bits in
    let low : c.instance_at-instance.result.now.first_bit + c.offset.result + c.args.part.lo < 2 ^ 32 = omega arith in
    search (rules, low)

pub returns-clause-value : goal.returns-clause-value
returns-clause-value c =
    ap (λ (n : ℕ). c.instance_at-instance.result.now.first_bit + n + c.args.part.lo) c.offset.ensures
    ∙ (part_found c.args.design.now c.args.site.now c.requires.design c.requires.site c.args.i c.owner.result
    c.args.part
    c.instance_at-instance.result.now c.requires.instance c.requires.part c.owner.ensures
    c.instance_at-instance.ensures).value

pub returns-clause-bound : goal.returns-clause-bound
returns-clause-bound c =
    let found = part_found c.args.design.now c.args.site.now c.requires.design c.requires.site c.args.i c.owner.result
    c.args.part
    c.instance_at-instance.result.now c.requires.instance c.requires.part c.owner.ensures
    c.instance_at-instance.ensures in
    let value : c.instance_at-instance.result.now.first_bit + c.offset.result + c.args.part.lo ≡ first_of
    (laid_out c.args.design.now) c.args.i c.args.part =
    ap (λ (n : ℕ). c.instance_at-instance.result.now.first_bit + n + c.args.part.lo) c.offset.ensures ∙
    found.value in
    subst (λ (n : ℕ). n + c.args.part.width ≤ flat_bits c.args.design.now) (sym value) found.fits
