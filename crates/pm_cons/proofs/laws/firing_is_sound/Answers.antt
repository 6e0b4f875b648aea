use Rattle.std.proofs.Common.{ℕ, List}
use Rattle.pm_cons.specs.Firing.{MayAllFire, fire_all, none_fired}
use Rattle.pm_cons.specs.UpdateBlocks.{UpdateBlocks, Valuation, IsOrdered, IsWithin}
use Rattle.pm_cons.proofs.Firing.{IsReached, first_reached, fire_all_reached, joined_settled}
use Rattle.pm_cons.proofs.Left.{same_at}
use Rattle.pm_cons.proofs.laws.firing_is_sound.Goals as goal

reached : {P : Type 0} (d : UpdateBlocks P) (start : Valuation P) (events : List ℕ) → IsWithin d → IsOrdered d →
    MayAllFire d start none_fired events → IsReached d start (fire_all d start none_fired events)
reached d start events within ordered may =
    fire_all_reached d start within ordered none_fired events (first_reached d start) may

pub returns-clause-fired : goal.returns-clause-fired
returns-clause-fired g c = λ d start events a b within ordered may fired edge.
    (reached d start events within ordered may).behind a b edge fired

pub returns-clause-recorded : goal.returns-clause-recorded
returns-clause-recorded g c = λ d start events b p within ordered may fired.
    same_at _ _ ((reached d start events within ordered may).records b fired) p

pub returns-clause-settled : goal.returns-clause-settled
returns-clause-settled g c = λ d start events p within ordered may all.
    joined_settled d start within (fire_all d start none_fired events) (reached d start events within ordered may) all p
