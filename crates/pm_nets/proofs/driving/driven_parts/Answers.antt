use Rattle.std.proofs.Common.{◌≡◌, ◌∙◌, ◌++◌, List, ap₂, map, subst, sym}
use Rattle.std.specs.Prelude.{IsTrue}
use Rattle.std.specs.List.{list_all}
use Rattle.pm_design.specs.declared.body.Block.{Block}
use Rattle.pm_design.specs.declared.connection.Part.{Part}
use Rattle.pm_design.specs.declared.connection.Tie.{Tie}
use Rattle.pm_design.specs.Lookups.{lies_within}
use Rattle.pm_design.specs.Sound.{is_sound_block}
use Rattle.pm_nets.specs.Drivers.{written_by}
use Rattle.pm_nets.proofs.DrivenParts.{all_within}
use Rattle.pm_nets.proofs.driving.driven_parts.Goals as goal

pub returns-clause-within : goal.returns-clause-within
returns-clause-within c design tied sound =
    let first : c.push_ties.new.parts.items ≡ map (λ t. t.part) c.args.kind.now.ties =
    c.in_ok-push_ties.ensures
    ∙ ap₂ (λ (l : List Part) (ts : List Tie). l ++ map
    (λ t. t.part) ts) c.new-parts.ensures.items c.as_slice.ensures in
    let all = c.in_ok-push_blocks.ensures.parts
    ∙ ap₂ (λ (l : List Part) (bs : List Block). l ++ written_by bs) first c.as_slice-2.ensures in
    all_within design c.args.kind.now c.push_blocks.new.parts.items all tied
    (subst (λ (bs : List Block). IsTrue
    (list_all (lies_within design c.args.kind.now) (written_by bs))) c.as_slice-2.ensures
    (c.in_ok-push_blocks.ensures.within design c.args.kind.now
    (subst (λ (bs : List Block). IsTrue (list_all (is_sound_block design c.args.kind.now) bs))
    (sym c.as_slice-2.ensures) sound)))
