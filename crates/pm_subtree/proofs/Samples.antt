-- The subtree of a small design.
use Rattle.std.proofs.Common.{[], refl, codes, Some, arith}
use Rattle.pm_design.specs.Sample.{sample}
use Rattle.pm_design.proofs.Samples.{sample_sound}
use Rattle.pm_design.specs.Elaborated.{IsElaborated}
use Rattle.pm_design.specs.Sound.{IsSound}
use Rattle.pm_subtree.specs.Subtree.{IsSubtree, with_top}
use Rattle.pm_subtree.specs.Ways.{Leads}
use Rattle.pm_subtree.specs.Ways.Leads.{Here, Down}
use Rattle.pm_subtree.proofs.Paths.{kind_is, subtree_is}

leads_to_child : Leads sample 1 (codes ".add") 0
leads_to_child =
    Down 1 (codes ".add") [] (record { name = codes "add"; kind = 0; line = 2 }) 0 (0, omega arith, refl) refl
    (Here 0 [] refl)

pub sample_subtree : IsSubtree sample (codes "s.add") (Some (with_top sample 0))
sample_subtree =
    let sound : IsSound sample = sample_sound in
    subtree_is sample (with_top sample 0) (codes "s.add") 0
    (kind_is sample sound.elaborated (codes "s.add") (codes ".add") (Some 0) refl leads_to_child) refl

pub sample_elaborated : IsElaborated sample
sample_elaborated = let sound : IsSound sample = sample_sound in sound.elaborated
