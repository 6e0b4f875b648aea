-- What calls of classes make.
use Rattle.std.proofs.Common.{◌≡◌, ℕ, zero, suc, List, refl, map}
use Rattle.std.specs.Prelude.{Option, Some, None}
use Rattle.pm_values.specs.declared.fault.BuildFault.TheVariants.{WrongKind, BuildDepth}
use Rattle.pm_values.specs.declared.value.New.TheVariants as new
use Rattle.pm_values.specs.declared.value.Value.{Value}
use Rattle.pm_values.specs.declared.value.Value.TheVariants as value
use Rattle.pm_elab.specs.declared.call.Given.{Given}
use Rattle.pm_elab.specs.declared.class.ConstructedClass.{ConstructedClass}
use Rattle.pm_elab.specs.declared.class.ConstructedClass.TheVariants as class
use Rattle.pm_elab.specs.declared.elaboration.Elaboration.{Elaboration}
use Rattle.pm_elab.specs.declared.frame.Frame.{Frame}
use Rattle.pm_elab.specs.Captures.{captured}
use Rattle.pm_elab.specs.Classes.{Class, class_named, Construct, construct_in}
use Rattle.pm_elab.specs.Constructs.{kind_made, component_start, interface_start, construct_body, keep, finished}
use Rattle.pm_elab.specs.Constructs.{component, interface, Made, too_deep, constructed_by, constructed, made_already}
use Rattle.pm_elab.specs.Constructs.{made_or, made_with, class_call_by, refuse, made_by, make_by, make_to, make_at}
use Rattle.pm_elab.specs.Elab.{Elab}
use Rattle.pm_elab.specs.Expressions.{Make}
use Rattle.pm_elab.specs.Sites.{Scope, Site}
use Rattle.pm_elab.specs.Statements.{run}
use Rattle.pm_elab_laws.proofs.Keeping.{Each, Where, Origin, Keeping, Runs, bind, so, done, failed}
use Rattle.pm_elab_laws.proofs.Places.{IsScope, IsSite, IsMake, free, scope_on, each_so}
use Rattle.pm_elab_laws.proofs.Operators.{from}
use Rattle.pm_elab_laws.proofs.Lines.{body_runs, nodes_run}
use Rattle.pm_elab_laws.proofs.Methods.{headers_runs}
use Rattle.pm_elab_laws.proofs.Classes.{IsClass, IsConstruct, class_names, construct_names, refuse_makes}
use Rattle.pm_elab_laws.proofs.Classes.{arguments_runs}

-- the kind of a number is a value anywhere
abbrev pub IsKind : Keeping → Elaboration → Elaboration → ℕ → Type 0
IsKind k m n c = (fr : Option Frame) → k.IsValue m n fr (value.New (new.Child c))

-- making a class keeps the facts
abbrev pub IsMade : Keeping → Made → Type 0
IsMade k made = (m : Elaboration) (file : Scope) (name : List ℕ) (c : Class) (vs : List Value) (line : ℕ)
    (fr : Option Frame) → IsScope k m file → IsClass k name c → Each (k.IsGlobal m) vs
    → Runs k m (made file name c vs line m) (λ v n. k.IsValue m n fr v)

module _ (k : Keeping) where
  globals_on : (m n : Elaboration) (vs : List Value) → k.Leads m n → Each (k.IsGlobal m) vs → Each (k.IsGlobal n) vs
  globals_on m n vs leads each = each_so (k.IsGlobal m) (k.IsGlobal n) vs (λ v. k.global_on m n v leads) each

  pub construct_runs : (make : Make) → IsMake k make → (o : Origin) (m : Elaboration) (file : Scope) (c : Construct)
      (f : Frame) → IsScope k m file → IsConstruct k c → k.IsFrame o m f
      → Runs k m (construct_body make file c f m) (λ g n. k.IsFrame o n g)
  unfolding construct_body
  construct_runs make makes o m file c f scope names is = body_runs k make makes o file c.after (map (run make file)
      c.body) c.line m f names.0 (nodes_run k make makes o file c.body names.1) scope is

  keep_runs : (o : Origin) (m : Elaboration) (vs : List Value) (f : Frame) → o.class ≡ class.Component
      → k.IsFrame o m f → Each (k.IsGlobal m) vs → Runs k m (keep vs f m) (λ c n. IsKind k m n c)
  unfolding keep
  keep_runs o m vs f made is each = record {
    keeps = (
      (k.kept o m None vs f made is each).0,
      λ fr. (k.kept o m fr vs
          f made is each).1,
    );
  }

  finished_runs : (o : Origin) (m : Elaboration) (vs : List Value) (f : Frame) → o.class ≡ class.Component
      → k.IsFrame o m f → Each (k.IsGlobal m) vs → Runs k m (finished vs f m) (λ c n. IsKind k m n c)
  unfolding finished
  finished_runs o m vs f made is each = bind k m _ _ (free k m (captured f)) (λ x leads _.
      so k x.1 _ (keep_runs o x.1 vs f made (k.frame_on o m x.1 f leads is) (globals_on m x.1 vs leads each))
      (λ y onward kind fr. k.value_from m x.1 y.1 fr _ leads (kind fr)))

  module _ (outer inner : Make) (outers : IsMake k outer) (inners : IsMake k inner) where
    -- a component
    pub component_runs : (m : Elaboration) (file : Scope) (name : List ℕ) (c : Class) (vs : List Value)
        → IsScope k m file → IsClass k name c → Each (k.IsGlobal m) vs
        → Runs k m (component outer inner file name c vs m) (λ c n. IsKind k m n c)
    unfolding component
    component_runs m file name c vs scope names each =
        let o : Origin = record { made = m; name = name; class = class.Component } in
        bind k {G = λ (f : Frame) (n : Elaboration). k.IsFrame o n f × Each (k.IsGlobal n) vs} m _ _
        (bind k {G = λ (f : Frame) (n : Elaboration). k.IsFrame o n f × k.Leads m n} m _ _
        (so k m _ (headers_runs k outer outers o file refl None c.lines m (component_start name (construct_in
        c.lines).parameters vs) scope (k.component_frame m name (construct_in c.lines).parameters vs scope.fine
        names.0 each) names.1)
        (λ x leads is. (is, leads)))
        (λ x leads is. so k x.1 _ (construct_runs inner inners o x.1 file (construct_in c.lines) x.0 (scope_on k m
        x.1 file leads scope) (construct_names k c.lines names.1) is.0) (λ y onward more. (
          more,
          globals_on m
              y.1 vs (k.on m x.1 y.1 leads onward) each,
        ))))
        (λ z leads is. so k z.1 _ (finished_runs o z.1 vs z.0 refl is.0 is.1) (λ y onward kind fr. k.value_from m
        z.1 y.1 fr _ leads (kind fr)))

    -- an interface
    interface_runs : (m : Elaboration) (file : Scope) (name : List ℕ) (c : Class) (vs : List Value) (fr : Option
        Frame) → IsScope k m file → IsClass k name c → Each (k.IsGlobal m) vs
        → Runs k m (interface inner file name c vs m) (λ v n. k.IsValue m n fr v)
    unfolding interface
    interface_runs m file name c vs fr scope names each =
        let o : Origin = record { made = m; name = name; class = class.Interface } in
        bind k m _ _ (construct_runs inner inners o m file (construct_in c.lines) (interface_start name
        (construct_in c.lines).parameters vs) scope (construct_names k c.lines names.1)
        (k.interface_frame m name (construct_in c.lines).parameters vs scope.fine names.0 each)) (λ x leads is. done
        k x.1 _ (k.interface_value m x.1 fr name x.0 is))

    by_class : (s : ConstructedClass) (m : Elaboration) (file : Scope) (name : List ℕ) (c : Class) (vs : List Value)
        (fr : Option Frame) → IsScope k m file → IsClass k name c → Each (k.IsGlobal m) vs
        → Runs k m (constructed_by outer inner s file name c vs m) (λ v n. k.IsValue m n fr v)
    by_class class.Component m file name c vs fr scope names each = bind k m _ _ (component_runs m file name c vs
        scope names each) (λ x leads kind. done k x.1 _ (kind fr))
    by_class class.Interface m file name c vs fr scope names each = interface_runs m file name c vs fr scope names each

    constructed_made : IsMade k (constructed outer inner)
    unfolding constructed
    constructed_made m file name c vs line fr scope names each = by_class c.class m file name c vs fr scope names each

  deep_made : IsMade k too_deep
  unfolding too_deep
  deep_made m file name c vs line fr scope names each = failed k m (BuildDepth line)

  already : (s : ConstructedClass) (m : Elaboration) (fr : Option Frame) (c : Option ℕ)
      → Where (λ (c : ℕ). k.IsValue m m fr (value.New (new.Child c))) c
      → Where (λ (c : ℕ). k.IsValue m m fr (value.New (new.Child c))) (made_already s c)
  already class.Component m fr c is = is
  already class.Interface m fr c is = tt

  or_runs : (c : Option ℕ) (p : Elab Value) (m : Elaboration) (fr : Option Frame)
      → Where (λ (c : ℕ). k.IsValue m m fr (value.New (new.Child c))) c → Runs k m (p m) (λ v n. k.IsValue m n fr v)
      → Runs k m (made_or c p m) (λ v n. k.IsValue m n fr v)
  or_runs (Some c) p m fr is run = done k m _ is
  or_runs None p m fr is run = run

  with_made : (made : Made) → IsMade k made → IsMade k (made_with made)
  unfolding made_with
  with_made made makes m file name c vs line fr scope names each =
      or_runs (made_already c.class (kind_made m.kinds name vs)) (made file name c vs line) m fr (already c.class m
      fr (kind_made m.kinds name vs) (k.kind_value m fr name vs scope.fine))
      (makes m file name c vs line fr scope names each)

  called : (made : Made) → IsMade k made → (c : Option Class) (o : Origin) (l m : Elaboration) (site : Site)
      (name : List ℕ) (gs : List Given) → IsSite k o m site
      → Each (λ (g : Given). k.IsValue l m site.frame g.value) gs → Where (IsClass k name) c
      → Runs k m (class_call_by c (made_by made site name gs) site.line m) (λ v n. k.IsValue m n site.frame v)
  called made makes None o l m site name gs at each names = failed k m (WrongKind site.line)
  called made makes (Some c) o l m site name gs at each names = bind k m _ _ (arguments_runs k refuse (refuse_makes
      k) o site.file (construct_in c.lines) gs site.line l m site.frame at.file each) (λ x leads values.
      from k m x.1 site.frame _ leads (with_made made makes x.1 site.file name c x.0 site.line site.frame
      (scope_on k m x.1 site.file leads at.file) names values))

  by_makes : (made : Made) → IsMade k made → IsMake k (make_by made)
  unfolding make_by
  by_makes made makes o l m site name gs at each = called made makes (class_named site.file.nodes name) o l m site
      name gs at each (class_names k site.file.nodes name at.file.nodes)

  -- the call of a class, however deep constructs may be nested
  pub to_makes : (n : ℕ) → IsMake k (make_to n)
  unfolding make_to
  to_makes zero = by_makes too_deep deep_made
  to_makes (suc n) = by_makes (constructed refuse (make_to n)) (constructed_made refuse (make_to n) (refuse_makes k)
      (to_makes n))

  pub at_makes : (level : Option ℕ) → IsMake k (make_at level)
  unfolding make_at
  at_makes None = refuse_makes k
  at_makes (Some n) = to_makes n
