-- Values for places of several types.
use Rattle.std.proofs.Common.{◌≡◌, ℕ, List, [], ◌∷◌, refl}
use Rattle.std.specs.Prelude.{Ok}
use Rattle.pm_design.specs.declared.body.Ex.{Ex}
use Rattle.pm_values.specs.declared.reference.ValueType.{ValueType}
use Rattle.pm_typing.specs.declared.tally.Tally.{Tally}
use Rattle.pm_typing.specs.Calls.{fitted_from}

pub fitted_none : (line : ℕ) (done : List Ex) (tys : List ValueType) (m : Tally) → fitted_from line done tys [] m ≡ Ok (done, m)
unfolding fitted_from
fitted_none line done [] m = refl
fitted_none line done (ty ∷ tys) m = refl
