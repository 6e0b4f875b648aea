use Rattle.std.proofs.Common.{◌≡◌, ◌∙◌, ◌≤◌, List, ap, arith, length, subst, sym}
use Rattle.std.specs.Prelude.{IsTrue}
use Rattle.std.specs.List.{list_all}
use Rattle.pm_design.specs.declared.design.Kind.{Kind}
use Rattle.pm_design.specs.Lookups.{lies_within}
use Rattle.pm_design.specs.Runnable.{kind_at}
use Rattle.pm_instances.specs.Laid.{laid_out}
use Rattle.pm_nets.specs.declared.giver.Gift.{Gift}
use Rattle.pm_nets.proofs.DoubleBits.{placed_kind}
use Rattle.pm_nets.proofs.GiftLists.{gifts_within}
use Rattle.pm_nets.proofs.Resets.{few_children}
use Rattle.pm_nets.proofs.doubles.give_instance.Goals as goal

pub gifts-requires-clause-children : goal.gifts-requires-clause-children
gifts-requires-clause-children c =
    (placed_kind c.args.design.now c.args.site.now c.requires.design c.requires.site c.args.i
    c.instance_kind-kind.result.now
    c.requires.instance c.instance_kind-kind.ensures).known

pub gifts-requires-clause-few : goal.gifts-requires-clause-few
gifts-requires-clause-few c =
    let few : length (kind_at (laid_out c.args.design.now) c.args.i).children ≤ 4095 =
    few_children c.args.design.now c.args.site.now c.requires.design.elaborated c.requires.site c.args.i
    c.requires.instance in
    let same : length c.instance_kind-kind.result.now.children ≡ length
    (kind_at (laid_out c.args.design.now) c.args.i).children =
    ap (λ (k : Kind). length k.children) c.instance_kind-kind.ensures in
    omega arith

pub gifts-requires-clause-sized : goal.gifts-requires-clause-sized
gifts-requires-clause-sized c =
    (placed_kind c.args.design.now c.args.site.now c.requires.design c.requires.site c.args.i
    c.instance_kind-kind.result.now
    c.requires.instance c.instance_kind-kind.ensures).elaborated.1.sized

pub give_gifts-requires-clause-parts : goal.give_gifts-requires-clause-parts
give_gifts-requires-clause-parts c =
    let kind : Kind = c.instance_kind-kind.result.now in
    let placed = placed_kind c.args.design.now c.args.site.now c.requires.design c.requires.site c.args.i kind
    c.requires.instance c.instance_kind-kind.ensures in
    subst (λ (k : Kind). IsTrue (list_all (λ g. lies_within c.args.design.now k g.part) c.as_slice.result.now))
    c.instance_kind-kind.ensures
    (subst (λ (l : List Gift). IsTrue (list_all (λ g. lies_within c.args.design.now kind g.part) l))
    (sym (c.as_slice.ensures.value ∙ c.in_ok-gifts.ensures.gifts))
    (gifts_within c.args.design.now kind c.requires.design.elaborated placed.known placed.elaborated.1.signals
    placed.elaborated.1.ties (c.in_ok-gifts.ensures.blocks placed.blocks)))
