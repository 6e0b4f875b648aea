-- What holds of each component that a text of the narrow form spells.
use Rattle.std.proofs.Common.{◌≡◌, ℕ, List}
use Rattle.std.specs.Prelude.{Some}
use Rattle.pm_job.specs.declared.component.Component.{Component}
use Rattle.pm_job.specs.Form.{component_of}
use Rattle.pm_job.specs.Progress.{IsRead}
use Rattle.pm_job.proofs.WrittenComponents.{passes_tests, component_of_some}

-- what the reader of the form gives
pub is_read : (class text : List ℕ) (component : Component) → component_of class text ≡ Some component → IsRead component
is_read class text component is =
    let writes = component_of_some class text component is in
    let tests = passes_tests component writes.2 in
    record { typed = tests.typed; begins = (writes.1.declared, writes.1.signals); differ = tests.targets }
