-- What a body may not read.
use Rattle.std.proofs.Common.{◌≡◌, ℕ, List, Bool, false, ap}
use Rattle.std.specs.Prelude.{Err, if◌then◌else◌}
use Rattle.pm_design.specs.declared.body.Ex.{Ex}
use Rattle.pm_design.specs.declared.body.Ex.TheVariants as ex
use Rattle.pm_values.specs.declared.reference.Reference.{Reference}
use Rattle.pm_typing.specs.declared.fault.TypeFault.TheVariants.{NotAllowedHere}
use Rattle.pm_typing.specs.declared.tally.Tally.{Tally}
use Rattle.pm_typing.specs.Counted.{fail}
use Rattle.pm_typing.specs.Operands.{pick_read, may_read_all, made, parts_of}
use Rattle.pm_typing.specs.References.{element_type}
use Rattle.pm_typing.specs.Sites.{Scope}

pub refused_pick : (scope : Scope) (line : ℕ) (e : Ex) (rs : List Reference) (m : Tally) → may_read_all scope.sort rs ≡ false
    → pick_read scope line e rs m ≡ Err (NotAllowedHere line)
unfolding pick_read
refused_pick scope line e rs m is =
    ap (λ (b : Bool). (if b then made (ex.Pick e (parts_of rs)) (element_type rs) else fail (NotAllowedHere line)) m) is
