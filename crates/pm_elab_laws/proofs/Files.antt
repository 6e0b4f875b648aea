-- The statements of a file, and the top class.
use Rattle.std.proofs.Common.{◌+◌, ◌-◌, ℕ, Bool, true, false, List, [], ◌∷◌, map, take}
use Rattle.std.specs.Prelude.{Option, Some, None, if◌then◌else◌}
use Rattle.std.specs.Str.{bytes_eq}
use Rattle.pm_design.specs.declared.signal.Field.{Field}
use Rattle.pm_syn.specs.declared.expression.Expr.{Expr}
use Rattle.pm_syn.specs.declared.statement.Node.{Node, Node-F, out-Node}
use Rattle.pm_syn.specs.declared.statement.Stmt.{Stmt, Stmt-F, out-Stmt}
use Rattle.pm_values.specs.declared.fault.BuildFault.TheVariants.{NoClass, SameName, WidthRange}
use Rattle.pm_values.specs.declared.value.Value.{Value}
use Rattle.pm_values.specs.declared.value.Value.TheVariants as value
use Rattle.pm_values.specs.Tables.{put}
use Rattle.pm_elab.specs.declared.call.Given.{Given}
use Rattle.pm_elab.specs.declared.class.ConstructedClass.{ConstructedClass}
use Rattle.pm_elab.specs.declared.class.ConstructedClass.TheVariants as class
use Rattle.pm_elab.specs.declared.elaboration.Elaboration.{Elaboration}
use Rattle.pm_elab.specs.declared.elaboration.TheConstants.{MAX_NESTING}
use Rattle.pm_elab.specs.declared.parameter.Param.{Param}
use Rattle.pm_elab.specs.Classes.{Class, class_named, construct_in}
use Rattle.pm_elab.specs.Constructs.{make_at}
use Rattle.pm_elab.specs.Expressions.{Make}
use Rattle.pm_elab.specs.Files.{Globals, name_of, field, field_at, field_of_line, fields_from, shape_put, bitstruct}
use Rattle.pm_elab.specs.Files.{has_class, constant, class_value, class_statement, constant_named, class_given}
use Rattle.pm_elab.specs.Files.{statement_at, statement, statements_from, known_from, none_missing, argument_of}
use Rattle.pm_elab.specs.Files.{top_values, top_component, top_by, top_of, top, nothing_made, elaborated}
use Rattle.pm_elab.specs.Sites.{Scope, outside}
use Rattle.pm_elab_laws.specs.Names.{names_of}
use Rattle.pm_elab_laws.proofs.Keeping.{Each, Where, Origin, Keeping, Runs, bind, so, lifted, done, failed}
use Rattle.pm_elab_laws.proofs.Places.{IsScope, IsMake, free, scope_on, fork, steps, each_so}
use Rattle.pm_elab_laws.proofs.Operators.{from}
use Rattle.pm_elab_laws.proofs.Expressions.{meaning_runs}
use Rattle.pm_elab_laws.proofs.Methods.{outside_site, annotation_runs}
use Rattle.pm_elab_laws.proofs.Classes.{IsClass, class_names, clean_value, parameters_runs}
use Rattle.pm_elab_laws.proofs.Constructs.{IsKind, component_runs, at_makes}

-- what the names of a file stand for is as it must be
abbrev pub AreGlobals : Keeping → Elaboration → Globals → Type 0
AreGlobals k m names = Each (λ (p : List ℕ × Value). k.IsGlobal m p.1) names

module _ (k : Keeping) where
  put_globals : (m : Elaboration) (names : Globals) (name : List ℕ) (v : Value) → AreGlobals k m names
      → k.IsGlobal m v → AreGlobals k m (put names name v)
  put_globals m [] name v each is = (is, tt)
  put_globals m (p ∷ ps) name v each is = by (bytes_eq name p.0) (put_globals m ps name v each.1 is)
    where
      by : (b : Bool) → AreGlobals k m (put ps name v) → AreGlobals k m (if b then (p.0, v) ∷ ps else p ∷ put ps name v)
      by true more = (is, each.1)
      by false more = (each.0, more)

  globals_later : (m n : Elaboration) (names : Globals) → k.Leads m n → AreGlobals k m names → AreGlobals k n names
  globals_later m n names leads each = each_so (λ (p : List ℕ × Value). k.IsGlobal m p.1) (λ (p : List ℕ × Value).
      k.IsGlobal n p.1) names (λ p. k.global_on m n p.1 leads) each

  module _ (make : Make) (makes : IsMake k make) (o : Origin) where
    field_runs : (file : Scope) (line : ℕ) (fs : List Field) (name t : Expr) (m : Elaboration) → IsScope k m file
        → k.IsFields m fs → Runs k m (field make file line fs name t m) (λ gs n. k.IsFields n gs)
    unfolding field
    field_runs file line fs name t m scope is = bind k m _ _
        (bind k m _ _ (steps k line m) (λ x leads step. annotation_runs k make makes o t x.1 (outside file line)
        (outside_site k o x.1 file line (scope_on k m x.1 file leads scope))))
        (λ y leads type. lifted k y.1 _ (k.fields_more y.1 line fs (name_of name) y.0 (k.fields_on m y.1 fs leads
        is) type))

    field_at_runs : (file : Scope) (line : ℕ) (fs : List Field) (s : Stmt-F Stmt) (m : Elaboration)
        → IsScope k m file → k.IsFields m fs → Runs k m (field_at make file line fs s m) (λ gs n. k.IsFields n gs)
    field_at_runs file line fs (Stmt-F.Note name t v) m scope is = field_runs file line fs name t m scope is
    field_at_runs file line fs (Stmt-F.Def d b ps result after) m scope is = done k m fs is
    field_at_runs file line fs (Stmt-F.NonBlocking e) m scope is = done k m fs is
    field_at_runs file line fs (Stmt-F.Assert e) m scope is = done k m fs is
    field_at_runs file line fs (Stmt-F.Assign op x y) m scope is = done k m fs is
    field_at_runs file line fs (Stmt-F.JoinLambda to e) m scope is = done k m fs is
    field_at_runs file line fs (Stmt-F.Do e) m scope is = done k m fs is
    field_at_runs file line fs Stmt-F.Import m scope is = done k m fs is
    field_at_runs file line fs Stmt-F.Doc m scope is = done k m fs is
    field_at_runs file line fs Stmt-F.Pass m scope is = done k m fs is
    field_at_runs file line fs (Stmt-F.Class name base) m scope is = done k m fs is
    field_at_runs file line fs (Stmt-F.Mark d) m scope is = done k m fs is
    field_at_runs file line fs (Stmt-F.Return e) m scope is = done k m fs is
    field_at_runs file line fs (Stmt-F.If c s) m scope is = done k m fs is
    field_at_runs file line fs (Stmt-F.Elif c s) m scope is = done k m fs is
    field_at_runs file line fs (Stmt-F.Else s) m scope is = done k m fs is
    field_at_runs file line fs (Stmt-F.For d es s) m scope is = done k m fs is

    fields_runs : (file : Scope) (ns : List Node) (fs : List Field) (m : Elaboration) → IsScope k m file
        → k.IsFields m fs → Runs k m (fields_from make file fs ns m) (λ gs n. k.IsFields n gs)
    unfolding fields_from field_of_line
    fields_runs file [] fs m scope is = done k m fs is
    fields_runs file (n ∷ ns) fs m scope is = bind k m _ _ (field_at_runs file (out-Node n).line fs
        (out-Stmt (out-Node n).stmt) m scope is) (λ x leads more.
        fields_runs file ns x.0 x.1 (scope_on k m x.1 file leads scope) more)

    shape_runs : (line : ℕ) (name : List ℕ) (fs : List Field) (m : Elaboration) → k.IsFields m fs
        → Runs k m (shape_put line name fs m) (λ t n. k.IsGlobal n (value.Type t))
    unfolding shape_put
    shape_runs line name [] m is = failed k m (WidthRange line)
    shape_runs line name (f ∷ fs) m is = record { keeps = k.shape_kept m name f fs is }

    bitstruct_runs : (file : Scope) (line : ℕ) (name : List ℕ) (ns : List Node) (m : Elaboration) → IsScope k m file
        → Runs k m (bitstruct make file line name ns m) (λ v n. k.IsGlobal n v)
    unfolding bitstruct
    bitstruct_runs file line name ns m scope = bind k m _ _ (bind k m _ _ (fields_runs file ns [] m scope
        (k.fields_none m)) (λ x leads is. shape_runs line name x.0 x.1 is)) (λ y leads is. done k y.1 _ is)

    constant_runs : (file : Scope) (line : ℕ) (e : Expr) (m : Elaboration) → IsScope k m file
        → Runs k m (constant make file line e m) (λ v n. k.IsGlobal n v)
    unfolding constant
    constant_runs file line e m scope = bind k {G = λ (v : Value) (n : Elaboration). k.IsValue m n None v} m _ _
        (bind k m _ _ (steps k line m) (λ x leads step. from k m x.1 None _ leads (meaning_runs k make makes e o x.1
        (outside file line) (outside_site k o x.1 file line (scope_on k m x.1 file leads scope)))))
        (λ y leads is. lifted k y.1 _ (clean_value k m y.1 None line y.0 is))

    class_value_runs : (file : Scope) (line : ℕ) (name : List ℕ) (base : Option (List ℕ)) (ns : List Node)
        (m : Elaboration) → IsScope k m file → Runs k m (class_value make file line name base ns m)
        (λ v n. k.IsGlobal n v)
    class_value_runs file line name None ns m scope = bitstruct_runs file line name ns m scope
    class_value_runs file line name (Some base) ns m scope = done k m _ (k.class_value m name)

    constant_named_runs : (file : Scope) (line : ℕ) (to e : Expr) (m : Elaboration) → IsScope k m file
        → Runs k m (constant_named make file line to e m) (λ names n. AreGlobals k n names)
    unfolding constant_named
    constant_named_runs file line to e m scope = bind k m _ _ (constant_runs file line e m scope) (λ x leads is.
        done k x.1 _ (put_globals x.1 file.names (name_of to) x.0 (globals_later m x.1 file.names leads scope.names)
        is))

    class_given_runs : (earlier : List Node) (file : Scope) (line : ℕ) (name : List ℕ) (base : Option (List ℕ))
        (ns : List Node) (m : Elaboration) → IsScope k m file
        → Runs k m (class_given make earlier file line name base ns m) (λ names n. AreGlobals k n names)
    unfolding class_given class_statement
    class_given_runs earlier file line name base ns m scope = bind k m _ _ (fork k m (has_class earlier name) _ _
        (failed k m (SameName line)) (class_value_runs file line name base ns m scope)) (λ x leads is.
        done k x.1 _ (put_globals x.1 file.names name x.0 (globals_later m x.1 file.names leads scope.names) is))

    statement_runs : (earlier : List Node) (file : Scope) (n : Node-F Node) (s : Stmt-F Stmt) (m : Elaboration)
        → IsScope k m file → Runs k m (statement_at make earlier file n s m) (λ names n. AreGlobals k n names)
    statement_runs earlier file n (Stmt-F.Assign op to e) m scope = constant_named_runs file n.line to e m scope
    statement_runs earlier file n (Stmt-F.Class name base) m scope = class_given_runs earlier file n.line name base
        n.body m scope
    statement_runs earlier file n (Stmt-F.Note name t v) m scope = done k m _ scope.names
    statement_runs earlier file n (Stmt-F.Def d b ps result after) m scope = done k m _ scope.names
    statement_runs earlier file n (Stmt-F.NonBlocking e) m scope = done k m _ scope.names
    statement_runs earlier file n (Stmt-F.Assert e) m scope = done k m _ scope.names
    statement_runs earlier file n (Stmt-F.JoinLambda to e) m scope = done k m _ scope.names
    statement_runs earlier file n (Stmt-F.Do e) m scope = done k m _ scope.names
    statement_runs earlier file n Stmt-F.Import m scope = done k m _ scope.names
    statement_runs earlier file n Stmt-F.Doc m scope = done k m _ scope.names
    statement_runs earlier file n Stmt-F.Pass m scope = done k m _ scope.names
    statement_runs earlier file n (Stmt-F.Mark d) m scope = done k m _ scope.names
    statement_runs earlier file n (Stmt-F.Return e) m scope = done k m _ scope.names
    statement_runs earlier file n (Stmt-F.If c s) m scope = done k m _ scope.names
    statement_runs earlier file n (Stmt-F.Elif c s) m scope = done k m _ scope.names
    statement_runs earlier file n (Stmt-F.Else s) m scope = done k m _ scope.names
    statement_runs earlier file n (Stmt-F.For d es s) m scope = done k m _ scope.names

    statements_runs : (nodes : List Node) (ns : List Node) (i : ℕ) (names : Globals) (m : Elaboration)
        → IsScope k m (record { nodes = nodes; names = names }) → Runs k m (statements_from make nodes i names ns m)
        (λ names n. AreGlobals k n names)
    unfolding statements_from statement
    statements_runs nodes [] i names m scope = done k m names scope.names
    statements_runs nodes (n ∷ ns) i names m scope = bind k m _ _ (statement_runs (take i nodes)
        (record { nodes = nodes; names = names }) (out-Node n) (out-Stmt (out-Node n).stmt) m scope) (λ x leads more.
        statements_runs nodes ns (i + 1) x.0 x.1 (record {
          fine = k.fine_on m x.1 leads scope.fine;
          names = more;
          nodes = scope.nodes;
        }))

    params_each : (ps : List Param) (m : Elaboration) → Each (λ (p : Param). k.IsParam p.value) ps
        → Each (λ (g : Given). k.IsGlobal m g.value) (map argument_of ps)
    params_each [] m each = tt
    params_each (p ∷ ps) m each = (k.param_value m p.value each.0, params_each ps m each.1)

    values_runs : (file : Scope) (c : Class) (ps : List Param) (m : Elaboration) → IsScope k m file
        → Each (λ (p : Param). k.IsParam p.value) ps
        → Runs k m (top_values make file c ps m) (λ vs n. Each (k.IsGlobal n) vs)
    unfolding top_values
    values_runs file c ps m scope each = bind k m _ _ (bind k m _ _ (free k m (known_from [] ps (construct_in
        c.lines).parameters)) (λ x leads _. free k x.1 (none_missing ps (construct_in c.lines).parameters)))
        (λ y leads _.
        parameters_runs k make makes o (construct_in c.lines).parameters [] (map argument_of ps) y.1 (outside file
        (construct_in c.lines).line) (outside_site k o y.1 file (construct_in c.lines).line (scope_on k m y.1
        file leads scope)) tt (params_each ps y.1 each))

  module _ (outer inner : Make) (outers : IsMake k outer) (inners : IsMake k inner) (o : Origin) where
    component_at : (file : Scope) (name : List ℕ) (c : Class) (ps : List Param) (m : Elaboration) → IsScope k m file
        → IsClass k name c → Each (λ (p : Param). k.IsParam p.value) ps
        → Runs k m (top_component outer inner file name c ps m) (λ c n. IsKind k m n c)
    unfolding top_component
    component_at file name c ps m scope names each = bind k m _ _ (values_runs outer outers o file c ps m scope
        each) (λ x leads values.
        so k x.1 _ (component_runs k outer inner outers inners x.1 file name c x.0 (scope_on k m x.1 file leads
        scope) names values) (λ y onward kind fr. k.value_from m x.1 y.1 fr _ leads (kind fr)))

    by_runs : (s : ConstructedClass) (file : Scope) (name : List ℕ) (c : Class) (ps : List Param) (m : Elaboration)
        → IsScope k m file → IsClass k name c → Each (λ (p : Param). k.IsParam p.value) ps
        → Runs k m (top_by s outer inner file name c ps m) (λ c n. IsKind k m n c)
    by_runs class.Component file name c ps m scope names each = component_at file name c ps m scope names each
    by_runs class.Interface file name c ps m scope names each = failed k m (NoClass name)

    of_runs : (c : Option Class) (file : Scope) (name : List ℕ) (ps : List Param) (m : Elaboration)
        → IsScope k m file → Where (IsClass k name) c → Each (λ (p : Param). k.IsParam p.value) ps
        → Runs k m (top_of c outer inner file name ps m) (λ c n. IsKind k m n c)
    of_runs None file name ps m scope names each = failed k m (NoClass name)
    of_runs (Some c) file name ps m scope names each = by_runs c.class file name c ps m scope names each

    -- a file's statements, then its top class
    pub elaborated_runs : (nodes : List Node) (name : List ℕ) (ps : List Param) (m : Elaboration) → k.IsFine m
        → Each k.IsName (names_of nodes) → Each (λ (p : Param). k.IsParam p.value) ps
        → Runs k m (elaborated outer inner nodes name ps m) (λ r n. IsKind k m n r.1)
    unfolding elaborated top
    elaborated_runs nodes name ps m fine names each = bind k m _ _ (statements_runs outer outers o nodes nodes 0 []
        m (record { fine = fine; names = tt; nodes = names })) (λ x leads globals.
        bind k x.1 _ _ (of_runs (class_named nodes name) (record { nodes = nodes; names = x.0 }) name ps x.1
        (record { fine = k.fine_on m x.1 leads fine; names = globals; nodes = names }) (class_names k nodes name
        names) each) (λ y onward kind.
        done k y.1 _ (λ fr. k.value_from m x.1 y.1 fr _ leads (kind fr))))

    -- what the names of the file stand for then
    pub names_run : (nodes : List Node) (name : List ℕ) (ps : List Param) (m : Elaboration) → k.IsFine m
        → Each k.IsName (names_of nodes) → Each (λ (p : Param). k.IsParam p.value) ps
        → Runs k m (elaborated outer inner nodes name ps m) (λ r n. AreGlobals k n r.0)
    unfolding elaborated top
    names_run nodes name ps m fine names each = bind k m _ _ (statements_runs outer outers o nodes nodes 0 []
        m (record { fine = fine; names = tt; nodes = names })) (λ x leads globals.
        bind k x.1 _ _ (of_runs (class_named nodes name) (record { nodes = nodes; names = x.0 }) name ps x.1
        (record { fine = k.fine_on m x.1 leads fine; names = globals; nodes = names }) (class_names k nodes name
        names) each) (λ y onward kind.
        done k y.1 _ (globals_later x.1 y.1 x.0 onward globals)))

  -- what the names of the file stand for
  pub globals_run : (nodes : List Node) (name : List ℕ) (ps : List Param) → k.IsFine nothing_made
      → Each k.IsName (names_of nodes) → Each (λ (p : Param). k.IsParam p.value) ps
      → Runs k nothing_made (elaborated (make_at None) (make_at (Some (MAX_NESTING - 1))) nodes name ps
      nothing_made) (λ r n. AreGlobals k n r.0)
  globals_run nodes name ps fine names each =
      let o : Origin = record { made = nothing_made; name = name; class = class.Component } in
      names_run (make_at None) (make_at (Some (MAX_NESTING - 1))) (at_makes k None)
      (at_makes k (Some (MAX_NESTING - 1))) o nodes name ps nothing_made fine names each

  -- what the calls at the top make
  pub build_runs : (nodes : List Node) (name : List ℕ) (ps : List Param) → k.IsFine nothing_made
      → Each k.IsName (names_of nodes) → Each (λ (p : Param). k.IsParam p.value) ps
      → Runs k nothing_made (elaborated (make_at None) (make_at (Some (MAX_NESTING - 1))) nodes name ps
      nothing_made) (λ r n. IsKind k nothing_made n r.1)
  build_runs nodes name ps fine names each =
      let o : Origin = record { made = nothing_made; name = name; class = class.Component } in
      elaborated_runs (make_at None) (make_at (Some (MAX_NESTING - 1))) (at_makes k None)
      (at_makes k (Some (MAX_NESTING - 1))) o nodes name ps nothing_made fine names each
