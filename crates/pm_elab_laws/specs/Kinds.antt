-- Kinds of component are made once.
use Rattle.std.specs.Prelude.{ℕ, ◌≡◌, List, Some, None, Ok, IsTrue}
use Rattle.std.specs.List.{list_all}
use Rattle.pm_values.specs.declared.value.New.TheVariants as new
use Rattle.pm_values.specs.declared.value.Value.{Value}
use Rattle.pm_values.specs.declared.value.Value.TheVariants as value
use Rattle.pm_elab.specs.declared.class.ConstructedClass.TheVariants as class
use Rattle.pm_elab.specs.declared.elaboration.Elaboration.{Elaboration}
use Rattle.pm_elab.specs.Classes.{Class}
use Rattle.pm_elab.specs.Constructs.{Made, constructed, made_with, make_at}
use Rattle.pm_elab.specs.Sites.{Scope}
use Rattle.pm_elab.specs.Values.{is_plain}
use Rattle.pm_elab_laws.specs.Steps.{Grows}

-- what the call of a class makes once its arguments have values, where so many more constructs may be nested
abbrev pub made_within : ℕ → Made
made_within more = made_with (constructed (make_at None) (make_at (Some more)))

-- after a component class was made at the values of its parameters, the same class at the same values is one kind: each
-- later call gives it, and makes nothing
abbrev pub KindsAreMadeOnce : Type 0
KindsAreMadeOnce =
    (more : ℕ) (file : Scope) (name : List ℕ) (c : Class) (values : List Value) (line : ℕ) (before now : Elaboration) (made : Value)
    → c.class ≡ class.Component
    → IsTrue (list_all is_plain values)
    → made_within more file name c values line before ≡ Ok (made, now)
    → (kind : ℕ) × ((others at : ℕ) (later : Elaboration) → Grows now later
    → made_within others file name c values at later ≡ Ok (value.New (new.Child kind), later))
