-- A component is kept when its `construct` has returned.
use Rattle.std.proofs.Common.{◌≡◌, ◌≢◌, ◌∙◌, ℕ, List, refl, sym, ap}
use Rattle.std.specs.Prelude.{Ok, Err}
use Rattle.pm_values.specs.declared.fault.BuildFault.{BuildFault}
use Rattle.pm_values.specs.declared.value.Value.{Value}
use Rattle.pm_elab.specs.declared.elaboration.Elaboration.{Elaboration}
use Rattle.pm_elab.specs.declared.frame.Frame.{Frame}
use Rattle.pm_elab.specs.Captures.{captured}
use Rattle.pm_elab.specs.Classes.{Class, construct_in}
use Rattle.pm_elab.specs.Constructs.{component, component_start, finished, keep}
use Rattle.pm_elab.specs.Elab.{Checked, and_then}
use Rattle.pm_elab.specs.Expressions.{Make}
use Rattle.pm_elab.specs.Sites.{Scope}
use Rattle.pm_build.specs.Bodies.{component_body, returned}

abbrev with_made : Elaboration → Checked (Unit {0}) → Checked (Unit {0} × Elaboration)
with_made m c = and_then c (λ a. Ok (a, m))

abbrev with_frame : Frame → Checked (Unit {0} × Elaboration) → Checked (Frame × Elaboration)
with_frame f x = and_then x (λ q. Ok (f, q.1))

ends : (vs : List Value) (f : Frame) (m : Elaboration) (c : Checked (Unit {0}))
    → and_then (with_made m c) (λ q. keep vs f q.1) ≡ and_then (with_frame f (with_made m c)) (λ r. keep vs r.0 r.1)
ends vs f m (Ok a) = refl
ends vs f m (Err e) = refl

keeps : (vs : List Value) (x : Checked (Frame × Elaboration))
    → and_then x (λ r. finished vs r.0 r.1) ≡ and_then (and_then x (λ r. returned r.0 r.1)) (λ r. keep vs r.0 r.1)
unfolding finished
keeps vs (Ok r) = ends vs r.0 r.1 (captured r.0)
keeps vs (Err e) = refl

component_is : (outer inner : Make) (file : Scope) (name : List ℕ) (c : Class) (vs : List Value) (m : Elaboration)
    → component outer inner file name c vs m
    ≡ and_then (component_body outer inner file c (component_start name (construct_in c.lines).parameters vs) m) (λ r. keep vs r.0 r.1)
unfolding component component_body
component_is outer inner file name c vs m = keeps vs _

module _ (outer inner : Make) (file : Scope) (name : List ℕ) (c : Class) (vs : List Value) (m : Elaboration) where
  -- what was made is kept
  pub component_kept : (f : Frame) (n : Elaboration)
      → component_body outer inner file c (component_start name (construct_in c.lines).parameters vs) m ≡ Ok (f, n)
      → component outer inner file name c vs m ≡ keep vs f n
  component_kept f n is = component_is outer inner file name c vs m ∙ ap (λ (x : Checked (Frame × Elaboration)). and_then x (λ r. keep vs r.0 r.1)) is

  -- a fault is passed on
  pub component_fails : (e : BuildFault)
      → component_body outer inner file c (component_start name (construct_in c.lines).parameters vs) m ≡ Err e
      → component outer inner file name c vs m ≡ Err e
  component_fails e is = component_is outer inner file name c vs m ∙ ap (λ (x : Checked (Frame × Elaboration)). and_then x (λ r. keep vs r.0 r.1)) is
