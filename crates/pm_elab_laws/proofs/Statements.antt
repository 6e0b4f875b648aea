-- Statements that have no others in them.
use Rattle.std.proofs.Common.{ℕ, Bool, true, false, List, [], ◌∷◌, sym, subst, map}
use Rattle.std.specs.Prelude.{Option, Some, None, Ok, Err, if◌then◌else◌, is_some, ◌||◌}
use Rattle.pm_syn.specs.declared.expression.Arg.{Arg}
use Rattle.pm_syn.specs.declared.expression.Expr.{Expr, Expr-F, out-Expr}
use Rattle.pm_syn.specs.declared.statement.AssignOp.{AssignOp}
use Rattle.pm_syn.specs.declared.statement.AssignOp.TheVariants as assign
use Rattle.pm_syn.specs.declared.statement.Stmt.{Stmt, Stmt-F, out-Stmt, fold_out-Stmt}
use Rattle.pm_syn.specs.declared.statement.Stmt.TheFolds.{map-Stmt}
use Rattle.pm_values.specs.declared.fault.BuildFault.TheVariants.{WrongKind, AssertFailed, BadArguments}
use Rattle.pm_values.specs.declared.value.Value.{Value}
use Rattle.pm_values.specs.Integers.{is_zero}
use Rattle.pm_elab.specs.declared.call.Called.{Called}
use Rattle.pm_elab.specs.declared.call.Called.TheVariants as calls
use Rattle.pm_elab.specs.declared.call.Given.{Given}
use Rattle.pm_elab.specs.declared.elaboration.Elaboration.{Elaboration}
use Rattle.pm_elab.specs.declared.frame.Frame.{Frame}
use Rattle.pm_elab.specs.declared.function.Function.TheVariants as function
use Rattle.pm_elab.specs.declared.target.Target.{Target}
use Rattle.pm_elab.specs.declared.target.Target.TheVariants as target
use Rattle.pm_elab.specs.Expressions.{Make, Passed, meaning, passed}
use Rattle.pm_elab.specs.Functions.{both}
use Rattle.pm_elab.specs.Placing.{target_of}
use Rattle.pm_elab.specs.Sites.{Scope, inside}
use Rattle.pm_elab.specs.Statements.{constrains, unused, connect, connect_call, unused_call, call_statement}
use Rattle.pm_elab.specs.Statements.{constraint_call, plain_call, do_call, do_value, do_at, do_statement, assertion}
use Rattle.pm_elab.specs.Statements.{assignment, join, lambda, state_type, state, assign_by, simple_at}
use Rattle.pm_elab.specs.Statements.{simple_statement, simple}
use Rattle.pm_elab.specs.Values.{is_settled}
use Rattle.pm_elab_laws.specs.Names.{Words, names_of_statement, statement_over, target_names}
use Rattle.pm_elab_laws.proofs.Keeping.{On, Each, IsAimed, Origin, Keeping, Runs, bind, lifted, done, failed}
use Rattle.pm_elab_laws.proofs.Places.{IsScope, IsSite, IsMake, scope_on, site_on, fork, steps, int_runs}
use Rattle.pm_elab_laws.proofs.Calls.{AreGiven, ArePassed, given_runs, call_of_runs, callee_runs}
use Rattle.pm_elab_laws.proofs.Expressions.{meaning_runs, passed_runs}

module _ (k : Keeping) where
  aimed : (to : Target) → Each k.IsName (target_names to) → IsAimed k.IsName to
  aimed (target.Attribute name) each = each.0
  aimed (target.Local name) each = tt
  aimed target.Other each = tt

  pub inside_site : (o : Origin) (m : Elaboration) (file : Scope) (f : Frame) (line : ℕ) → IsScope k m file
      → k.IsFrame o m f → IsSite k o m (inside file f line)
  inside_site o m file f line scope is = record { file = scope; frame = is }

  both_given : (l m : Elaboration) (fr : Option Frame) (line : ℕ) (gs : List Given) → AreGiven k l m fr gs
      → On (both line gs) (λ p. k.IsValue l m fr p.0 × k.IsValue l m fr p.1)
  unfolding both
  both_given l m fr line [] each = tt
  both_given l m fr line (g ∷ []) each = tt
  both_given l m fr line (g ∷ h ∷ []) each = by (is_some g.name || is_some h.name)
    where
      by : (b : Bool) → On {A = Value × Value} (if b then Err (BadArguments line) else Ok (g.value, h.value))
          (λ p. k.IsValue l m fr p.0 × k.IsValue l m fr p.1)
      by true = tt
      by false = (each.0, each.1.0)
  both_given l m fr line (g ∷ h ∷ i ∷ gs) each = tt

  -- names of a statement are those of its form
  pub own_names : (s : Stmt) → Each k.IsName (names_of_statement s)
      → Each k.IsName (statement_over (map-Stmt Stmt Words names_of_statement (out-Stmt s)))
  unfolding names_of_statement
  own_names s each = subst (Each k.IsName) (fold_out-Stmt Words statement_over s) each

  module _ (make : Make) (makes : IsMake k make) (o : Origin) (m : Elaboration) (file : Scope) (f : Frame)
      (line : ℕ) (scope : IsScope k m file) (ready : k.IsReady o m f) where
    -- the frame is as it was
    same : (n : Elaboration) → k.Leads m n → k.IsFrame o n f
    same n leads = k.frame_on o m n f leads (k.unready o m f ready)

    abbrev at : IsSite k o m (inside file f line)
    at = record { file = scope; frame = k.unready o m f ready }

    expression : (e : Expr) → Runs k m ((meaning make e).value (inside file f line) m) (λ v n. k.IsValue m n (Some f) v)
    expression e = meaning_runs k make makes e o m (inside file f line) at

    passed_all : (gs : List Arg) → ArePassed k (map (passed make) gs)
    passed_all [] = tt
    passed_all (g ∷ gs) = (passed_runs k make makes g, passed_all gs)

    unused_frame : (v : Value) (n : Elaboration) → k.Leads m n → On (unused v line f) (k.IsFrame o n)
    unfolding unused
    unused_frame v n leads = by (is_settled v)
      where
        by : (b : Bool) → On (if b then Ok f else Err (WrongKind line)) (k.IsFrame o n)
        by true = same n leads
        by false = tt

    here : (n : Elaboration) → k.Leads m n → IsSite k o n (inside file f line)
    here n leads = site_on k o m n (inside file f line) leads at

    connect_runs : (a b : Value) (i l n : Elaboration) → k.Leads m n → k.IsValue i n (Some f) a
        → k.IsValue l n (Some f) b → Runs k n (connect a b line f n) (λ g n. k.IsFrame o n g)
    connect_runs a b i l n leads first second = lifted k n _ (k.connected_frame o i l m n a b line f leads
        (k.fine_on m n leads scope.fine) ready first second)

    connect_call_runs : (ps : List Passed) → ArePassed k ps → (n : Elaboration) → k.Leads m n
        → Runs k n (connect_call ps (inside file f line) f n) (λ g n. k.IsFrame o n g)
    unfolding connect_call
    connect_call_runs ps means n leads =
        bind k {G = λ (p : Value × Value) (i : Elaboration). k.IsValue n i (Some f) p.0 × k.IsValue n i (Some f)
        p.1} n _ _
        (bind k n _ _ (given_runs k ps o n (inside file f line) means (here n leads)) (λ x onward is. lifted k x.1 _
        (both_given n x.1 (Some f) line x.0 is)))
        (λ y onward is. connect_runs y.0.0 y.0.1 n n y.1 (k.on m n y.1 leads onward) is.0 is.1)

    unused_call_runs : (c : Called) (ps : List Passed) → ArePassed k ps → (n : Elaboration) → k.Leads m n
        → Runs k n (unused_call make c ps (inside file f line) f n) (λ g n. k.IsFrame o n g)
    unfolding unused_call
    unused_call_runs c ps means n leads = bind k n _ _ (call_of_runs k make makes c ps o n (inside file f line)
        means (site_on k o m n (inside file f line) leads at))
        (λ x onward is. lifted k x.1 _ (unused_frame x.0 x.1 (k.on m n x.1 leads onward)))

    call_statement_runs : (c : Called) (ps : List Passed) → ArePassed k ps → (n : Elaboration) → k.Leads m n
        → Runs k n (call_statement make c ps (inside file f line) f n) (λ g n. k.IsFrame o n g)
    unfolding call_statement
    call_statement_runs (calls.Value v) ps means n leads = unused_call_runs (calls.Value v) ps means n leads
    call_statement_runs (calls.Function function.Connect) ps means n leads = connect_call_runs ps means n leads
    call_statement_runs (calls.Function function.Block) ps means n leads = unused_call_runs (calls.Function
        function.Block) ps means n leads
    call_statement_runs (calls.Function function.InPort) ps means n leads = unused_call_runs (calls.Function
        function.InPort) ps means n leads
    call_statement_runs (calls.Function function.OutPort) ps means n leads = unused_call_runs (calls.Function
        function.OutPort) ps means n leads
    call_statement_runs (calls.Function function.Wire) ps means n leads = unused_call_runs (calls.Function
        function.Wire) ps means n leads
    call_statement_runs (calls.Function function.MakeBits) ps means n leads = unused_call_runs (calls.Function
        function.MakeBits) ps means n leads
    call_statement_runs (calls.Function function.CeilingLog) ps means n leads = unused_call_runs (calls.Function
        function.CeilingLog) ps means n leads
    call_statement_runs (calls.Function function.Length) ps means n leads = unused_call_runs (calls.Function
        function.Length) ps means n leads
    call_statement_runs (calls.Function function.Deque) ps means n leads = unused_call_runs (calls.Function
        function.Deque) ps means n leads
    call_statement_runs (calls.Function function.CallerPort) ps means n leads = unused_call_runs (calls.Function
        function.CallerPort) ps means n leads
    call_statement_runs (calls.Function function.CalleePort) ps means n leads = unused_call_runs (calls.Function
        function.CalleePort) ps means n leads
    call_statement_runs (calls.Function function.Readers) ps means n leads = unused_call_runs (calls.Function
        function.Readers) ps means n leads
    call_statement_runs (calls.Function function.Writers) ps means n leads = unused_call_runs (calls.Function
        function.Writers) ps means n leads
    call_statement_runs (calls.Function function.Callers) ps means n leads = unused_call_runs (calls.Function
        function.Callers) ps means n leads

    constraint_runs : (ps : List Passed) → ArePassed k ps → Runs k m (constraint_call ps (inside file f line) f m)
        (λ g n. k.IsFrame o n g)
    unfolding constraint_call
    constraint_runs ps means = bind k m _ _ (given_runs k ps o m (inside file f line) means at) (λ x leads is.
        lifted k x.1 _ (k.constrained_frame o m x.1 x.0 line f leads ready is))

    do_call_runs : (e : Expr) (ps : List Passed) → ArePassed k ps
        → Runs k m (do_call make e ps (inside file f line) f m) (λ g n. k.IsFrame o n g)
    unfolding do_call plain_call
    do_call_runs e ps means = fork k m (constrains (inside file f line) e) _ _ (constraint_runs ps means)
        (bind k m _ _ (callee_runs k (meaning make e) (meaning_runs k make makes e) o m (inside file f line) at)
        (λ x leads is. call_statement_runs x.0 ps means x.1 leads))

    do_value_runs : (e : Expr) → Runs k m (do_value make e (inside file f line) f m) (λ g n. k.IsFrame o n g)
    unfolding do_value
    do_value_runs e = bind k m _ _ (expression e) (λ x leads is. lifted k x.1 _ (unused_frame x.0 x.1 leads))

    do_at_runs : (whole : Expr) (e : Expr-F Expr Arg) → Runs k m (do_at make whole e (inside file f line) f m)
        (λ g n. k.IsFrame o n g)
    do_at_runs whole (Expr-F.Call e gs) = do_call_runs e (map (passed make) gs) (passed_all gs)
    do_at_runs whole (Expr-F.Name n) = do_value_runs whole
    do_at_runs whole (Expr-F.Int n) = do_value_runs whole
    do_at_runs whole (Expr-F.Bool b) = do_value_runs whole
    do_at_runs whole (Expr-F.Unary u e) = do_value_runs whole
    do_at_runs whole (Expr-F.Binary b l r) = do_value_runs whole
    do_at_runs whole (Expr-F.Cond a c b) = do_value_runs whole
    do_at_runs whole (Expr-F.Attr e n) = do_value_runs whole
    do_at_runs whole (Expr-F.Index e i) = do_value_runs whole
    do_at_runs whole (Expr-F.Slice e lo hi) = do_value_runs whole
    do_at_runs whole (Expr-F.Items es) = do_value_runs whole
    do_at_runs whole (Expr-F.Each e n es) = do_value_runs whole

    do_runs : (e : Expr) → Runs k m (do_statement make e (inside file f line) f m) (λ g n. k.IsFrame o n g)
    unfolding do_statement
    do_runs e = do_at_runs e (out-Expr e)

    assertion_runs : (e : Expr) → Runs k m (assertion make e (inside file f line) f m) (λ g n. k.IsFrame o n g)
    unfolding assertion
    assertion_runs e = bind k m _ _ (int_runs k (meaning make e) (meaning_runs k make makes e) o m (inside file f
        line) at)
        (λ x leads is. fork k x.1 (is_zero x.0) _ _ (failed k x.1 (AssertFailed line)) (done k x.1 f (same x.1 leads)))

    assignment_runs : (to e : Expr) → Each k.IsName (target_names (target_of to))
        → Runs k m (assignment make to e (inside file f line) f m) (λ g n. k.IsFrame o n g)
    unfolding assignment
    assignment_runs to e names = bind k m _ _ (expression e) (λ x leads is.
        lifted k x.1 _ (k.assigned_frame o m x.1 (target_of to) x.0 line f leads (k.fine_on m x.1 leads scope.fine)
        ready (aimed (target_of to) names) is))

    join_runs : (a b : Expr) → Runs k m (join make a b (inside file f line) f m) (λ g n. k.IsFrame o n g)
    unfolding join
    join_runs a b = bind k m _ _ (expression a) (λ x leads first.
        bind k x.1 _ _ (meaning_runs k make makes b o x.1 (inside file f line) (here x.1 leads)) (λ y onward second.
        connect_runs x.0 y.0 m x.1 y.1 (k.on m x.1 y.1 leads onward) (k.value_on m x.1 y.1 (Some f) x.0 onward
        first) second))

    lambda_runs : (to e : Expr) → Runs k m (lambda make to e (inside file f line) f m) (λ g n. k.IsFrame o n g)
    unfolding lambda
    lambda_runs to e = bind k m _ _ (expression to) (λ x leads is. lifted k x.1 _ (k.lambda_frame o m x.1 x.0 e line
        f leads ready is))

    state_type_runs : (t : Expr) → Runs k m (state_type make t (inside file f line) m) (λ t n. k.IsType n t)
    unfolding state_type
    state_type_runs t = bind k m _ _ (expression t) (λ x leads is. lifted k x.1 _ (k.type_of_value m x.1 (Some f)
        line x.0 is))

    state_runs : (to t e : Expr) → Each k.IsName (target_names (target_of to))
        → Runs k m (state make to t e (inside file f line) f m) (λ g n. k.IsFrame o n g)
    unfolding state
    state_runs to t e names = bind k m _ _ (state_type_runs t) (λ x leads type.
        bind k x.1 _ _ (meaning_runs k make makes e o x.1 (inside file f line) (here x.1 leads)) (λ y onward is.
        lifted k y.1 _ (k.state_frame o m y.1 (target_of to) x.0 y.0 line f (k.on m x.1 y.1 leads onward) ready
        (aimed (target_of to) names) (k.type_on x.1 y.1 x.0 onward type)
        (k.value_from m x.1 y.1 (Some f) y.0 leads is))))

    nothing_runs : Runs k m (Ok (f, m)) (λ g n. k.IsFrame o n g)
    nothing_runs = done k m f (same m (k.stays m))

    assign_runs : (op : AssignOp) (a b : Expr) → Each k.IsName (target_names (target_of a))
        → Runs k m (assign_by op make a b (inside file f line) f m) (λ g n. k.IsFrame o n g)
    assign_runs assign.Plain a b names = assignment_runs a b names
    assign_runs assign.Join a b names = join_runs a b
    assign_runs assign.Now a b names = nothing_runs
    assign_runs assign.Next a b names = nothing_runs

    simple_at_runs : (s : Stmt-F Stmt) → Each k.IsName (statement_over (map-Stmt Stmt Words names_of_statement s))
        → Runs k m (simple_at make s (inside file f line) f m) (λ g n. k.IsFrame o n g)
    simple_at_runs (Stmt-F.Assert e) names = assertion_runs e
    simple_at_runs (Stmt-F.Assign op a b) names = assign_runs op a b names
    simple_at_runs (Stmt-F.JoinLambda to e) names = lambda_runs to e
    simple_at_runs (Stmt-F.Note to t (Some e)) names = state_runs to t e names
    simple_at_runs (Stmt-F.Note to t None) names = failed k m (WrongKind line)
    simple_at_runs (Stmt-F.Do e) names = do_runs e
    simple_at_runs Stmt-F.Import names = nothing_runs
    simple_at_runs Stmt-F.Doc names = nothing_runs
    simple_at_runs Stmt-F.Pass names = nothing_runs
    simple_at_runs (Stmt-F.Class name base) names = nothing_runs
    simple_at_runs (Stmt-F.Def name own ps r s) names = nothing_runs
    simple_at_runs (Stmt-F.Mark name) names = nothing_runs
    simple_at_runs (Stmt-F.NonBlocking e) names = nothing_runs
    simple_at_runs (Stmt-F.Return e) names = nothing_runs
    simple_at_runs (Stmt-F.If c s) names = nothing_runs
    simple_at_runs (Stmt-F.Elif c s) names = nothing_runs
    simple_at_runs (Stmt-F.Else s) names = nothing_runs
    simple_at_runs (Stmt-F.For name es s) names = nothing_runs

    simple_statement_runs : (s : Stmt) → Each k.IsName (names_of_statement s)
        → Runs k m (simple_statement make s (inside file f line) f m) (λ g n. k.IsFrame o n g)
    unfolding simple_statement
    simple_statement_runs s names = simple_at_runs (out-Stmt s) (own_names s names)

  -- a statement that has no others in it
  pub simple_runs : (make : Make) → IsMake k make → (o : Origin) (m : Elaboration) (file : Scope) (s : Stmt)
      (f : Frame) (line : ℕ) → IsScope k m file → k.IsFrame o m f → Each k.IsName (names_of_statement s)
      → Runs k m (simple make file s line f m) (λ g n. k.IsFrame o n g)
  unfolding simple
  simple_runs make makes o m file s f line scope is names = bind k m _ _ (steps k line m) (λ x leads step.
      simple_statement_runs make makes o x.1 file f line (scope_on k m x.1 file leads scope)
      (subst (λ n. k.IsReady o n f) (sym step.0) (k.ready o m f step.1 is)) s names)
