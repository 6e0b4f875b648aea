-- The small component has no method that is called.
use Rattle.std.proofs.Common.{◌≡◌, Bool, true, false, ap}
use Rattle.std.specs.Prelude.{Option, Some, None}
use Rattle.std.proofs.lemmas.Bool.{false≢true}
use Rattle.pm_design.specs.declared.connection.Callee.TheVariants as callee
use Rattle.pm_elab.specs.Views.{kind_of_child}
use Rattle.pm_types.specs.declared.effects.CallTypes.{CallTypes}
use Rattle.pm_types.specs.Effects.{call_types, child_kind}
use Rattle.pm_type_laws.specs.Sample as sample
use Rattle.pm_body_laws.specs.Premises.{AreCalled}

none_is_some : (types : CallTypes) → None ≡ Some types → ⊥
none_is_some types is = false≢true (ap (λ (x : Option CallTypes). elim x as (λ _. Bool) [ Some y ↦ true | None ↦ false ]) is)

pub sample_called : AreCalled sample.scope
unfolding call_types child_kind kind_of_child
sample_called (callee.Own m) types is there = absurd (none_is_some types is)
sample_called (callee.Child k m) types is there = absurd (none_is_some types is)
sample_called (callee.Port p) types is there = absurd (none_is_some types is)
sample_called (callee.ChildPort k p) types is there = absurd (none_is_some types is)
