-- Classes of a file, and the values of their parameters.
use Rattle.std.proofs.Common.{◌≡◌, ℕ, zero, suc, Bool, true, false, List, [], ◌∷◌, ◌++◌, refl, sym, subst, map, take}
use Rattle.std.proofs.Common.{drop}
use Rattle.std.specs.Prelude.{Option, Some, None, Ok, Err, if◌then◌else◌, codes}
use Rattle.std.specs.List.{list_all}
use Rattle.std.specs.Str.{bytes_eq}
use Rattle.std.proofs.lemmas.Slice.Eq.{bytes_eq-Decides}
use Rattle.std.proofs.lemmas.Bool.{and_parts}
use Rattle.pm_syn.specs.declared.expression.Expr.{Expr}
use Rattle.pm_syn.specs.declared.statement.Node.{Node, Node-F, out-Node}
use Rattle.pm_syn.specs.declared.statement.Par.{Par}
use Rattle.pm_syn.specs.declared.statement.Stmt.{Stmt, Stmt-F, out-Stmt}
use Rattle.pm_syn.specs.declared.statement.Stmt.TheFolds.{map-Stmt}
use Rattle.pm_values.specs.declared.fault.BuildFault.{BuildFault}
use Rattle.pm_values.specs.declared.fault.BuildFault.TheVariants.{WrongKind, BadArguments}
use Rattle.pm_values.specs.declared.value.Value.{Value}
use Rattle.pm_elab.specs.declared.call.Given.{Given}
use Rattle.pm_elab.specs.declared.class.ConstructedClass.TheVariants as class
use Rattle.pm_elab.specs.declared.elaboration.Elaboration.{Elaboration}
use Rattle.pm_elab.specs.declared.frame.Frame.{Frame}
use Rattle.pm_elab.specs.Classes.{Class, class_by, class_at, class_of_line, class_or, class_named, Construct}
use Rattle.pm_elab.specs.Classes.{construct_at, construct_of_line, construct_or, construct_in, leading, are_fitting}
use Rattle.pm_elab.specs.Classes.{are_plain, fitted, clean, default_of, parameter_by, parameter_value, parameters_from}
use Rattle.pm_elab.specs.Classes.{leading_values, arguments}
use Rattle.pm_elab.specs.Constructs.{refuse, refused_at, class_call_by}
use Rattle.pm_elab.specs.Elab.{Checked, and_then}
use Rattle.pm_elab.specs.Expressions.{Make}
use Rattle.pm_elab.specs.Functions.{is_named, value_named}
use Rattle.pm_elab.specs.Sites.{Scope, Site, outside}
use Rattle.pm_elab.specs.Values.{is_plain}
use Rattle.pm_elab_laws.specs.Names.{Words, names_of_statement, statement_over, names_of_node, names_of}
use Rattle.pm_elab_laws.proofs.Keeping.{On, Each, Where, Origin, Keeping, Runs, bind, so, lifted, done, failed}
use Rattle.pm_elab_laws.proofs.Places.{IsScope, IsSite, IsMake, site_on, chosen, each_so, each_more, each_left}
use Rattle.pm_elab_laws.proofs.Places.{each_right}
use Rattle.pm_elab_laws.proofs.Expressions.{meaning_runs}
use Rattle.pm_elab_laws.proofs.Methods.{statement_names, body_names, outside_site}

-- the names of a class are as they must be
abbrev pub IsClass : Keeping → List ℕ → Class → Type 0
IsClass k name c = k.IsName name × Each k.IsName (names_of c.lines)

-- the names of a `construct` are
abbrev pub IsConstruct : Keeping → Construct → Type 0
IsConstruct k c = Where (λ (s : Stmt). Each k.IsName (names_of_statement s)) c.after × Each k.IsName (names_of c.body)

module _ (k : Keeping) where
  by_base : (base name : List ℕ) (ns : List Node) → k.IsName name → Each k.IsName (names_of ns)
      → Where (IsClass k name) (class_by base ns)
  by_base base name ns is names = by (bytes_eq base (codes "Component")) (bytes_eq base (codes "Interface"))
    where
      by : (b c : Bool) → Where (IsClass k name) (if b then Some (record { class = class.Component; lines = ns })
          else (if c then Some (record { class = class.Interface; lines = ns }) else None))
      by true c = (is, names)
      by false true = (is, names)
      by false false = tt

  at_line : (name : List ℕ) (n : Node-F Node) (s : Stmt-F Stmt)
      → Each k.IsName (statement_over (map-Stmt Stmt Words names_of_statement s)) → Each k.IsName (names_of n.body)
      → Where (IsClass k name) (class_at name n s)
  at_line name n (Stmt-F.Class c (Some base)) own rest = by (bytes_eq c name) (bytes_eq-Decides c name).0
    where
      by : (b : Bool) → (b ≡ true → c ≡ name) → Where (IsClass k name) (if b then class_by base n.body else None)
      by true same = by_base base name n.body (subst k.IsName (same refl) own.0) rest
      by false same = tt
  at_line name n (Stmt-F.Class c None) own rest = tt
  at_line name n (Stmt-F.Def d o ps result after) own rest = tt
  at_line name n (Stmt-F.NonBlocking e) own rest = tt
  at_line name n (Stmt-F.Assert e) own rest = tt
  at_line name n (Stmt-F.Assign op x y) own rest = tt
  at_line name n (Stmt-F.JoinLambda to e) own rest = tt
  at_line name n (Stmt-F.Note to t e) own rest = tt
  at_line name n (Stmt-F.Do e) own rest = tt
  at_line name n Stmt-F.Import own rest = tt
  at_line name n Stmt-F.Doc own rest = tt
  at_line name n Stmt-F.Pass own rest = tt
  at_line name n (Stmt-F.Mark d) own rest = tt
  at_line name n (Stmt-F.Return e) own rest = tt
  at_line name n (Stmt-F.If c s) own rest = tt
  at_line name n (Stmt-F.Elif c s) own rest = tt
  at_line name n (Stmt-F.Else s) own rest = tt
  at_line name n (Stmt-F.For d es s) own rest = tt

  class_either : (name : List ℕ) (c d : Option Class) → Where (IsClass k name) c → Where (IsClass k name) d
      → Where (IsClass k name) (class_or c d)
  class_either name (Some c) d first second = first
  class_either name None d first second = second

  -- a class that is named has names that are as they must be
  pub class_names : (ns : List Node) (name : List ℕ) → Each k.IsName (names_of ns)
      → Where (IsClass k name) (class_named ns name)
  unfolding class_named class_of_line
  class_names [] name names = tt
  class_names (n ∷ ns) name names =
      let here = each_left k.IsName (names_of_node n) (names_of ns) names in
      class_either name (class_of_line name n) (class_named ns name) (at_line name (out-Node n)
      (out-Stmt (out-Node n).stmt) (statement_names k n here) (body_names k n here))
      (class_names ns name (each_right k.IsName (names_of_node n) (names_of ns) names))

  after_def : (d : List ℕ) (b : Bool) (ps : List Par) (r : Option Expr) (s : Option Stmt)
      → Each k.IsName (statement_over (map-Stmt Stmt Words names_of_statement (Stmt-F.Def d b ps r s)))
      → Where (λ (s : Stmt). Each k.IsName (names_of_statement s)) s
  after_def d b ps r None names = tt
  after_def d b ps r (Some s) names = names.1

  construct_line : (n : Node-F Node) (s : Stmt-F Stmt)
      → Each k.IsName (statement_over (map-Stmt Stmt Words names_of_statement s)) → Each k.IsName (names_of n.body)
      → Where (IsConstruct k) (construct_at n s)
  construct_line n (Stmt-F.Def d o ps result after) own rest = by (bytes_eq d (codes "construct"))
    where
      by : (b : Bool) → Where (IsConstruct k) (if b then Some (record {
        line = n.line;
        parameters = ps;
        after =
            after;
        body = n.body;
      }) else None)
      by true = (after_def d o ps result after own, rest)
      by false = tt
  construct_line n (Stmt-F.Class c base) own rest = tt
  construct_line n (Stmt-F.NonBlocking e) own rest = tt
  construct_line n (Stmt-F.Assert e) own rest = tt
  construct_line n (Stmt-F.Assign op x y) own rest = tt
  construct_line n (Stmt-F.JoinLambda to e) own rest = tt
  construct_line n (Stmt-F.Note to t e) own rest = tt
  construct_line n (Stmt-F.Do e) own rest = tt
  construct_line n Stmt-F.Import own rest = tt
  construct_line n Stmt-F.Doc own rest = tt
  construct_line n Stmt-F.Pass own rest = tt
  construct_line n (Stmt-F.Mark d) own rest = tt
  construct_line n (Stmt-F.Return e) own rest = tt
  construct_line n (Stmt-F.If c s) own rest = tt
  construct_line n (Stmt-F.Elif c s) own rest = tt
  construct_line n (Stmt-F.Else s) own rest = tt
  construct_line n (Stmt-F.For d es s) own rest = tt

  construct_either : (c : Option Construct) (d : Construct) → Where (IsConstruct k) c → IsConstruct k d
      → IsConstruct k (construct_or c d)
  construct_either (Some c) d first second = first
  construct_either None d first second = second

  -- so has its `construct`
  pub construct_names : (ns : List Node) → Each k.IsName (names_of ns) → IsConstruct k (construct_in ns)
  unfolding construct_in construct_of_line
  construct_names [] names = (tt, tt)
  construct_names (n ∷ ns) names =
      let here = each_left k.IsName (names_of_node n) (names_of ns) names in
      construct_either (construct_of_line n) (construct_in ns) (construct_line (out-Node n)
      (out-Stmt (out-Node n).stmt) (statement_names k n here) (body_names k n here))
      (construct_names ns (each_right k.IsName (names_of_node n) (names_of ns) names))

  -- ---- outside of any `construct` nothing is made

  never : {A B : Type 0} (P : B → Type 0) (r : Checked A) (e : BuildFault) → On (and_then r (λ _. Err e)) P
  never P (Ok a) e = tt
  never P (Err d) e = tt

  call_refused : (c : Option Class) (o : Origin) (m : Elaboration) (site : Site) (gs : List Given)
      → Runs k m (class_call_by c (refused_at site.line gs) site.line m) (λ v n. k.IsValue m n site.frame v)
  call_refused None o m site gs = failed k m (WrongKind site.line)
  call_refused (Some c) o m site gs = lifted k m _ (never (k.IsValue m m site.frame) (fitted site.line gs
      (construct_in c.lines).parameters) (WrongKind site.line))

  pub refuse_makes : IsMake k refuse
  unfolding refuse
  refuse_makes o l m site name gs at each = call_refused (class_named site.file.nodes name) o m site gs

  -- ---- arguments

  plain_each : (l m : Elaboration) (fr : Option Frame) (gs : List Given) → are_plain gs ≡ true
      → Each (λ (g : Given). k.IsValue l m fr g.value) gs → Each (λ (g : Given). k.IsGlobal m g.value) gs
  unfolding are_plain
  plain_each l m fr [] plain each = tt
  plain_each l m fr (g ∷ gs) plain each =
      let parts = and_parts (is_plain g.value) (list_all (λ (g : Given). is_plain g.value) gs) plain in
      (k.plain_value l m fr g.value parts.0 each.0, plain_each l m fr gs parts.1 each.1)

  -- arguments that fit are plain
  fitted_each : (l m : Elaboration) (fr : Option Frame) (line : ℕ) (gs : List Given) (ps : List Par)
      → Each (λ (g : Given). k.IsValue l m fr g.value) gs
      → On (fitted line gs ps) (λ _. Each (λ (g : Given). k.IsGlobal m g.value) gs)
  unfolding fitted
  fitted_each l m fr line gs ps each = by (are_fitting gs ps) (are_plain gs) (plain_each l m fr gs)
    where
      by : (b c : Bool) → (c ≡ true → Each (λ (g : Given). k.IsValue l m fr g.value) gs
          → Each (λ (g : Given). k.IsGlobal m g.value) gs)
          → On {A = Unit {0}} (if b then (if c then Ok tt else Err (WrongKind line)) else Err (BadArguments line))
          (λ _. Each (λ (g : Given). k.IsGlobal m g.value) gs)
      by true true so = so refl each
      by true false so = tt
      by false c so = tt

  value_each : (m : Elaboration) (gs : List Given) (n : ℕ) → Each (λ (g : Given). k.IsGlobal m g.value) gs
      → Each (k.IsGlobal m) (map (λ (g : Given). g.value) (take n gs))
  value_each m [] zero each = tt
  value_each m [] (suc n) each = tt
  value_each m (g ∷ gs) zero each = tt
  value_each m (g ∷ gs) (suc n) each = (each.0, value_each m gs n each.1)

  drop_each : (m : Elaboration) (gs : List Given) (n : ℕ) → Each (λ (g : Given). k.IsGlobal m g.value) gs
      → Each (λ (g : Given). k.IsGlobal m g.value) (drop n gs)
  drop_each m [] zero each = tt
  drop_each m [] (suc n) each = tt
  drop_each m (g ∷ gs) zero each = each
  drop_each m (g ∷ gs) (suc n) each = drop_each m gs n each.1

  named_each : (m : Elaboration) (gs : List Given) (name : List ℕ) → Each (λ (g : Given). k.IsGlobal m g.value) gs
      → Where (k.IsGlobal m) (value_named gs name)
  unfolding value_named
  named_each m [] name each = tt
  named_each m (g ∷ gs) name each = chosen (Where (k.IsGlobal m)) (is_named name g) (Some g.value) (value_named gs
      name) each.0 (named_each m gs name each.1)

  -- a value that is clean may be an argument
  pub clean_value : (l m : Elaboration) (fr : Option Frame) (line : ℕ) (v : Value) → k.IsValue l m fr v
      → On (clean line v) (k.IsGlobal m)
  unfolding clean
  clean_value l m fr line v is = by (is_plain v) (λ plain. k.plain_value l m fr v plain is)
    where
      by : (b : Bool) → (b ≡ true → k.IsGlobal m v) → On (if b then Ok v else Err (WrongKind line)) (k.IsGlobal m)
      by true so = so refl
      by false so = tt

  module _ (make : Make) (makes : IsMake k make) (o : Origin) where
    default_runs : (e : Option Expr) (m : Elaboration) (site : Site) → IsSite k o m site
        → Runs k m (default_of make e site m) (λ v n. k.IsGlobal n v)
    unfolding default_of
    default_runs None m site at = failed k m (BadArguments site.line)
    default_runs (Some e) m site at = bind k m _ _ (meaning_runs k make makes e o m site at) (λ x leads is. lifted k
        x.1 _ (clean_value m x.1 site.frame site.line x.0 is))

    parameter_by_runs : (v : Option Value) (p : Par) (m : Elaboration) (site : Site) → IsSite k o m site
        → Where (k.IsGlobal m) v → Runs k m (parameter_by make v p site m) (λ v n. k.IsGlobal n v)
    parameter_by_runs (Some v) p m site at is = done k m v is
    parameter_by_runs None p m site at is = default_runs p.default m site at

    pub parameters_runs : (ps : List Par) (vs : List Value) (gs : List Given) (m : Elaboration) (site : Site)
        → IsSite k o m site → Each (k.IsGlobal m) vs → Each (λ (g : Given). k.IsGlobal m g.value) gs
        → Runs k m (parameters_from make vs gs ps site m) (λ ws n. Each (k.IsGlobal n) ws)
    unfolding parameters_from parameter_value
    parameters_runs [] vs gs m site at first second = done k m vs first
    parameters_runs (p ∷ ps) vs gs m site at first second = bind k m _ _ (parameter_by_runs (value_named gs p.name)
        p m site at (named_each m gs p.name second)) (λ x leads is.
        parameters_runs ps (vs ++ x.0 ∷ []) gs x.1 site (site_on k o m x.1 site leads at)
        (each_more (k.IsGlobal x.1) vs (x.0 ∷ []) (each_so (k.IsGlobal m) (k.IsGlobal x.1) vs (λ v. k.global_on m
        x.1 v leads) first) (is, tt))
        (each_so (λ (g : Given). k.IsGlobal m g.value) (λ (g : Given). k.IsGlobal x.1 g.value) gs (λ g. k.global_on
        m x.1 g.value leads) second))

    -- the values of all parameters
    pub arguments_runs : (file : Scope) (c : Construct) (gs : List Given) (line : ℕ) (l m : Elaboration)
        (fr : Option Frame) → IsScope k m file → Each (λ (g : Given). k.IsValue l m fr g.value) gs
        → Runs k m (arguments make file c gs line m) (λ vs n. Each (k.IsGlobal n) vs)
    unfolding arguments
    arguments_runs file c gs line l m fr scope each = bind k {G = λ (_ : Unit {0}) (n : Elaboration). (n ≡ m) × Each
        (λ (g : Given). k.IsGlobal m g.value) gs} m _ _
        (lifted k m _ (with_same (fitted line gs c.parameters) (fitted_each l m fr line gs c.parameters each)))
        (λ x leads is.
        subst (λ n. Runs k n (parameters_from make (leading_values gs) (drop (leading gs) gs) (drop (leading gs)
        c.parameters) (outside file c.line) n) (λ vs n. Each (k.IsGlobal n) vs)) (sym is.0)
        (parameters_runs (drop (leading gs) c.parameters) (leading_values gs) (drop (leading gs) gs) m (outside file
        c.line) (outside_site k o m file c.line scope) (value_each m gs (leading gs) is.1) (drop_each m gs
        (leading gs) is.1)))
      where
        with_same : (r : Checked (Unit {0})) → On r (λ _. Each (λ (g : Given). k.IsGlobal m g.value) gs)
            → On r (λ _. (m ≡ m) × Each (λ (g : Given). k.IsGlobal m g.value) gs)
        with_same (Ok a) is = (refl, is)
        with_same (Err e) is = tt
