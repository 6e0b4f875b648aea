use Rattle.std.proofs.Common.{rules, ◌≡◌, ◌∙◌, ◌+◌, ◌<◌, ◌^◌, ◌∷◌, [], ℕ, List, suc, ap, ap₂, subst, sym, arith}
use Rattle.pm_design.specs.declared.connection.Part.{Part}
use Rattle.pm_design.specs.Lookups.{lies_within}
use Rattle.pm_design.specs.Runnable.{kind_at}
use Rattle.std.specs.Prelude.{IsTrue}
use Rattle.disjoint_sets.specs.Partitions.{Joins}
use Rattle.pm_instances.specs.Laid.{laid_out}
use Rattle.pm_nets.specs.Links.{reset_part}
use Rattle.pm_nets.specs.Sites.{first_of}
use Rattle.pm_nets.proofs.Resets.{own_reset, child_reset}
use Rattle.pm_nets.proofs.joining.join_reset.Goals as goal

pub overflow_add-child : goal.overflow_add-child
overflow_add-child c = let few : c.args.child < 4096 = c.requires.number in
    let low : c.args.child + 1 < 2 ^ 32 = omega arith in search (rules, low)

pub first_bit-own-requires-clause-part : goal.first_bit-own-requires-clause-part
first_bit-own-requires-clause-part c =
    subst (λ (p : Part). IsTrue (lies_within c.args.design.now (kind_at (laid_out c.args.design.now) c.args.i) p))
    (sym c.reset_of.ensures)
    (own_reset c.args.design.now c.args.site.now c.requires.design c.requires.site c.args.i c.requires.instance)

pub first_bit-other-requires-clause-part : goal.first_bit-other-requires-clause-part
first_bit-other-requires-clause-part c =
    subst (λ (p : Part). IsTrue (lies_within c.args.design.now (kind_at (laid_out c.args.design.now) c.args.i) p))
    (sym c.reset_of-2.ensures)
    (child_reset c.args.design.now c.args.site.now c.requires.design c.requires.site c.args.i c.args.child
    c.requires.instance c.requires.child)

pub returns : goal.returns
returns c =
    let one : c.args.child + 1 ≡ suc c.args.child = omega arith in
    let own : c.first_bit-own.result ≡ first_of (laid_out c.args.design.now) c.args.i (reset_part 0) =
    c.first_bit-own.ensures.value ∙ ap (first_of (laid_out c.args.design.now) c.args.i) c.reset_of.ensures in
    let other : c.first_bit-other.result ≡ first_of (laid_out c.args.design.now) c.args.i
    (reset_part (suc c.args.child)) =
    c.first_bit-other.ensures.value ∙ (ap (first_of (laid_out c.args.design.now) c.args.i) c.reset_of-2.ensures
    ∙ ap (λ (n : ℕ). first_of (laid_out c.args.design.now) c.args.i (reset_part n)) one) in
    subst (λ (l : List (ℕ × ℕ)). Joins c.args.sets.now c.join.new.self l)
    (ap₂ (λ (a b : ℕ). (a, b) ∷ []) own other) c.join.ensures
