use Rattle.std.proofs.Common.{◌≡◌, ap}
use Rattle.pm_elab.specs.Classes.{Construct}
use Rattle.pm_build.proofs.Components.{component_kept, component_fails}
use Rattle.pm_build.proofs.Outcomes.{elabs_as}
use Rattle.pm_build.proofs.runner.Runner.component.Goals as goal

pub returns-in-Ok : goal.returns-in-Ok
returns-in-Ok g c =
    let start = rw (ap (λ (k : Construct). k.parameters) c.construct_in.ensures, c.as_slice.ensures) at c.in_ok-frame.ensures in
    let body = rw start at c.in-Ok.ensures in
    elabs_as _ _ _ _ (component_kept _ _ _ _ _ _ _ _ _ body) c.keep.ensures

pub returns-in-Err : goal.returns-in-Err
returns-in-Err g c =
    let start = rw (ap (λ (k : Construct). k.parameters) c.construct_in.ensures, c.as_slice.ensures) at c.in_ok-frame.ensures in
    λ known. component_fails _ _ _ _ _ _ _ _ (rw start at (c.in-Err.ensures known))
