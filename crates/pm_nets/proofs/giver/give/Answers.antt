use Rattle.std.proofs.Common.{◌∙◌, ◌<◌, ◌∷◌, [], ap, refl, subst, sym, ℕ, Some}
use Rattle.pm_nets.specs.declared.giver.Giver.{Giver}
use Rattle.pm_nets.specs.Givers.{Gives}
use Rattle.pm_nets.proofs.FirstGivers.{gives_first, gives_again, gives_second}
use Rattle.pm_nets.proofs.giver.give.Goals as goal

pub returns-in-None-clause-given : goal.returns-in-None-clause-given
returns-in-None-clause-given c =
    gives_first c.args.sets.now c.args.first.now _ c.args.least c.args.giver c.least-root.result c.requires.end
    c.least-root.ensures.value
    (subst (λ (n : ℕ). c.least-root.result < n) (sym c.requires.size) c.least-root.ensures.bound)
    c.in-None.is refl

pub returns-then-is_one_giver-clause-given : goal.returns-then-is_one_giver-clause-given
returns-then-is_one_giver-clause-given c =
    gives_again c.args.sets.now c.args.first.now c.args.least c.args.giver c.least-root.result c.requires.end
    c.least-root.ensures.value
    (c.in-Some.is ∙ ap (λ (g : Giver). Some g) (c.is_one_giver.ensures.yes c.if-is_one_giver.true))

pub returns-else-is_one_giver-clause-given : goal.returns-else-is_one_giver-clause-given
returns-else-is_one_giver-clause-given c =
    subst (λ (n : ℕ). Gives c.args.sets.now c.args.first.now c.args.first.now c.args.least (Some n) (c.args.giver ∷ []))
    (sym c.lesser.ensures)
    (gives_second c.args.sets.now c.args.first.now c.args.least c.args.giver c.in-Some.known c.least-root.result
    c.requires.end
    c.least-root.ensures.value
    (subst (λ (n : ℕ). c.least-root.result < n) (sym c.requires.size) c.least-root.ensures.bound)
    c.in-Some.is (c.is_one_giver.ensures.no c.if-is_one_giver.false))
