-- Lines of `construct`, by their trees.
use Rattle.std.proofs.Common.{◌≡◌, ℕ, ℤ, List, [], ◌∷◌, sym, subst, map}
use Rattle.std.specs.Prelude.{Option, Some, None}
use Rattle.pm_syn.specs.declared.expression.Expr.{Expr}
use Rattle.pm_syn.specs.declared.statement.Node.{Node, Node-F, out-Node, fold-Node, fold-roll-Node, roll-Node}
use Rattle.pm_syn.specs.declared.statement.Node.TheFolds.{ind-Node, map-Node}
use Rattle.pm_syn.specs.declared.statement.Stmt.{Stmt, Stmt-F, out-Stmt}
use Rattle.pm_syn.specs.declared.statement.Stmt.TheFolds.{map-Stmt}
use Rattle.pm_values.specs.declared.value.Value.TheVariants as value
use Rattle.pm_elab.specs.declared.elaboration.Elaboration.{Elaboration}
use Rattle.pm_elab.specs.declared.frame.Frame.{Frame}
use Rattle.pm_elab.specs.declared.statement.Before.{Before}
use Rattle.pm_elab.specs.declared.statement.Before.TheVariants as before
use Rattle.pm_elab.specs.Elab.{Elab}
use Rattle.pm_elab.specs.Expressions.{Make, meaning}
use Rattle.pm_elab.specs.Placing.{local_put}
use Rattle.pm_elab.specs.Sites.{Scope, inside}
use Rattle.pm_elab.specs.Statements.{Line, lines, body, taken_branch, condition, branch, unless_taken, later_branch}
use Rattle.pm_elab.specs.Statements.{last_branch, turn, turns_of, loop_range, repeat, def, plain, line_at, statement}
use Rattle.pm_elab.specs.Statements.{below_of, run_of, run}
use Rattle.pm_elab_laws.specs.Names.{Words, joined, names_of_statement, statement_over, names_of_node, node_over}
use Rattle.pm_elab_laws.specs.Names.{names_of}
use Rattle.pm_elab_laws.proofs.Keeping.{Each, Where, Origin, Keeping, Runs, bind, lifted, done}
use Rattle.pm_elab_laws.proofs.Places.{IsScope, IsMake, scope_on, fork, steps, int_runs, each_left, each_right}
use Rattle.pm_elab_laws.proofs.Operators.{AreMeanings, range_runs}
use Rattle.pm_elab_laws.proofs.Expressions.{meaning_runs}
use Rattle.pm_elab_laws.proofs.Statements.{inside_site, own_names, simple_runs}

-- a line keeps the facts
abbrev pub IsLine : Keeping → Origin → Scope → Line → Type 0
IsLine k o file l = (m : Elaboration) (b : Before) (f : Frame) → IsScope k m file → k.IsFrame o m f
    → Runs k m (l b f m) (λ r n. k.IsFrame o n r.0)

module _ (k : Keeping) (make : Make) (makes : IsMake k make) (o : Origin) (file : Scope) where
  lines_runs : (ls : List Line) (m : Elaboration) (b : Before) (f : Frame) → Each (IsLine k o file) ls
      → IsScope k m file → k.IsFrame o m f → Runs k m (lines ls b f m) (λ g n. k.IsFrame o n g)
  unfolding lines
  lines_runs [] m b f each scope is = done k m f is
  lines_runs (l ∷ ls) m b f each scope is = bind k m _ _ (each.0 m b f scope is) (λ x leads more. lines_runs ls x.1
      x.0.1 x.0.0 each.1 (scope_on k m x.1 file leads scope) more)

  -- the body of a header
  pub body_runs : (s : Option Stmt) (ls : List Line) (line : ℕ) (m : Elaboration) (f : Frame)
      → Where (λ s. Each k.IsName (names_of_statement s)) s → Each (IsLine k o file) ls → IsScope k m file
      → k.IsFrame o m f
      → Runs k m (body make file s ls line f m) (λ g n. k.IsFrame o n g)
  unfolding body
  body_runs None ls line m f names each scope is = lines_runs ls m before.Nothing f each scope is
  body_runs (Some s) ls line m f names each scope is = simple_runs k make makes o m file s f line scope is names

  module _ (s : Option Stmt) (ls : List Line) (line : ℕ) (names : Where (λ s. Each k.IsName (names_of_statement s))
      s) (each : Each (IsLine k o file) ls) where
    taken_runs : (m : Elaboration) (f : Frame) → IsScope k m file → k.IsFrame o m f
        → Runs k m (taken_branch make file s ls line f m) (λ r n. k.IsFrame o n r.0)
    unfolding taken_branch
    taken_runs m f scope is = bind k m _ _ (body_runs s ls line m f names each scope is) (λ x leads more. done k x.1
        _ more)

    condition_runs : (c : Expr) (m : Elaboration) (f : Frame) → IsScope k m file → k.IsFrame o m f
        → Runs k m (condition make file c line f m) (λ r n. k.IsFrame o n r.0)
    unfolding condition
    condition_runs c m f scope is = bind k m _ _ (bind k m _ _ (steps k line m) (λ x leads step.
        int_runs k (meaning make c) (meaning_runs k make makes c) o x.1 (inside file f line) (inside_site k o x.1
        file f line (scope_on k m x.1 file leads scope) (k.frame_on o m x.1 f leads is))))
        (λ y leads _. done k y.1 _ (k.frame_on o m y.1 f leads is))

    branch_runs : (c : Expr) (m : Elaboration) (f : Frame) → IsScope k m file → k.IsFrame o m f
        → Runs k m (branch make file c s ls line f m) (λ r n. k.IsFrame o n r.0)
    unfolding branch
    branch_runs c m f scope is = bind k m _ _ (condition_runs c m f scope is) (λ x leads more.
        fork k x.1 x.0.1 _ _ (taken_runs x.1 x.0.0 (scope_on k m x.1 file leads scope) more) (done k x.1 _ more))

    unless_runs : (b : Before) (m : Elaboration) (f : Frame) (p : Elab (Frame × Before)) → k.IsFrame o m f
        → Runs k m (p m) (λ r n. k.IsFrame o n r.0) → Runs k m (unless_taken b f p m) (λ r n. k.IsFrame o n r.0)
    unless_runs before.Taken m f p is run = done k m _ is
    unless_runs before.Nothing m f p is run = run
    unless_runs (before.Decorator d) m f p is run = run

    turn_runs : (name : List ℕ) (n : ℤ) (m : Elaboration) (f : Frame) → IsScope k m file → k.IsFrame o m f
        → Runs k m (turn make file name s ls line n f m) (λ g n. k.IsFrame o n g)
    unfolding turn
    turn_runs name n m f scope is = bind k m _ _ (steps k line m) (λ x leads step.
        body_runs s ls line x.1 (local_put name (value.Int n) f) names each (scope_on k m x.1 file leads scope)
        (k.loop_frame o x.1 name n f (k.frame_on o m x.1 f leads is)))

    turns_runs : (name : List ℕ) (ns : List ℤ) (m : Elaboration) (f : Frame) → IsScope k m file → k.IsFrame o m f
        → Runs k m (turns_of make file name s ls line ns f m) (λ g n. k.IsFrame o n g)
    unfolding turns_of
    turns_runs name [] m f scope is = done k m f is
    turns_runs name (n ∷ ns) m f scope is = bind k m _ _ (turn_runs name n m f scope is) (λ x leads more. turns_runs
        name ns x.1 x.0 (scope_on k m x.1 file leads scope) more)

    all_meanings : (es : List Expr) → AreMeanings k (map (meaning make) es)
    all_meanings [] = tt
    all_meanings (e ∷ es) = (meaning_runs k make makes e, all_meanings es)

    loop_runs : (es : List Expr) (m : Elaboration) (f : Frame) → IsScope k m file → k.IsFrame o m f
        → Runs k m (loop_range make file es line f m) (λ r n. k.IsFrame o n r.0)
    unfolding loop_range
    loop_runs es m f scope is = bind k m _ _ (bind k m _ _ (steps k line m) (λ x leads step.
        range_runs k (map (meaning make) es) (all_meanings es) o x.1 (inside file f line) (inside_site k o x.1 file
        f line (scope_on k m x.1 file leads scope) (k.frame_on o m x.1 f leads is))))
        (λ y leads _. done k y.1 _ (k.frame_on o m y.1 f leads is))

    repeat_runs : (name : List ℕ) (es : List Expr) (m : Elaboration) (f : Frame) → IsScope k m file
        → k.IsFrame o m f → Runs k m (repeat make file name es s ls line f m) (λ r n. k.IsFrame o n r.0)
    unfolding repeat
    repeat_runs name es m f scope is =
        bind k m _ _ (bind k m _ _ (loop_runs es m f scope is) (λ x leads more. turns_runs name x.0.1 x.1 x.0.0
        (scope_on k m x.1 file leads scope) more)) (λ y leads more. done k y.1 _ more)

  plain_runs : (s : Stmt) (line : ℕ) (m : Elaboration) (f : Frame) → Each k.IsName (names_of_statement s)
      → IsScope k m file → k.IsFrame o m f → Runs k m (plain make file s line f m) (λ r n. k.IsFrame o n r.0)
  unfolding plain
  plain_runs s line m f names scope is = bind k m _ _ (simple_runs k make makes o m file s f line scope is names)
      (λ x leads more. done k x.1 _ more)

  def_runs : (b : Before) (name : List ℕ) (s : Option Stmt) (nodes : List Node) (line : ℕ) (m : Elaboration)
      (f : Frame) → k.IsName name → k.IsFrame o m f → Runs k m (def b name s nodes line f m) (λ r n. k.IsFrame o n
      r.0)
  unfolding def
  def_runs before.Taken name s nodes line m f names is = done k m _ is
  def_runs before.Nothing name s nodes line m f names is = done k m _ is
  def_runs (before.Decorator d) name s nodes line m f names is = bind k m _ _ (bind k m _ _ (steps k line m)
      (λ x leads step.
      lifted k x.1 _ (k.block_frame o x.1 name d s nodes line f (subst (λ n. k.IsReady o n f) (sym step.0)
      (k.ready o m f step.1 is)) names)))
      (λ y leads more. done k y.1 _ more)

  -- the names of what stands after a colon
  after_if : (c : Expr) (s : Option Stmt)
      → Each k.IsName (statement_over (map-Stmt Stmt Words names_of_statement (Stmt-F.If c s)))
      → Where (λ s. Each k.IsName (names_of_statement s)) s
  after_if c None each = tt
  after_if c (Some s) each = each

  after_elif : (c : Expr) (s : Option Stmt)
      → Each k.IsName (statement_over (map-Stmt Stmt Words names_of_statement (Stmt-F.Elif c s)))
      → Where (λ s. Each k.IsName (names_of_statement s)) s
  after_elif c None each = tt
  after_elif c (Some s) each = each

  after_else : (s : Option Stmt) → Each k.IsName (statement_over (map-Stmt Stmt Words names_of_statement
      (Stmt-F.Else s))) → Where (λ s. Each k.IsName (names_of_statement s)) s
  after_else None each = tt
  after_else (Some s) each = each

  after_for : (name : List ℕ) (es : List Expr) (s : Option Stmt)
      → Each k.IsName (statement_over (map-Stmt Stmt Words names_of_statement (Stmt-F.For name es s)))
      → Where (λ s. Each k.IsName (names_of_statement s)) s
  after_for name es None each = tt
  after_for name es (Some s) each = each

  statement_runs : (whole : Stmt) (s : Stmt-F Stmt) (ls : List Line) (nodes : List Node) (line : ℕ)
      → Each k.IsName (names_of_statement whole)
      → Each k.IsName (statement_over (map-Stmt Stmt Words names_of_statement s))
      → Each (IsLine k o file) ls → IsLine k o file (line_at make file whole s ls nodes line)
  unfolding later_branch last_branch
  statement_runs whole (Stmt-F.If c s) ls nodes line all names each m b f scope is = branch_runs s ls line
      (after_if c s names) each c m f scope is
  statement_runs whole (Stmt-F.Elif c s) ls nodes line all names each m b f scope is = unless_runs s ls line
      (after_elif c s names) each b m f (branch make file c s ls line f) is (branch_runs s ls line (after_elif c s
      names) each c m f scope is)
  statement_runs whole (Stmt-F.Else s) ls nodes line all names each m b f scope is = unless_runs s ls line
      (after_else s names) each b m f (taken_branch make file s ls line f) is (taken_runs s ls line (after_else s
      names) each m f scope is)
  statement_runs whole (Stmt-F.For name es s) ls nodes line all names each m b f scope is = repeat_runs s ls line
      (after_for name es s names) each name es m f scope is
  statement_runs whole (Stmt-F.Def name own ps r s) ls nodes line all names each m b f scope is = def_runs b name s
      nodes line m f names.0 is
  statement_runs whole (Stmt-F.Mark name) ls nodes line all names each m b f scope is = done k m _ is
  statement_runs whole (Stmt-F.Assert e) ls nodes line all names each m b f scope is = plain_runs whole line m f all
      scope is
  statement_runs whole (Stmt-F.Assign op x y) ls nodes line all names each m b f scope is = plain_runs whole line m
      f all scope is
  statement_runs whole (Stmt-F.JoinLambda to e) ls nodes line all names each m b f scope is = plain_runs whole line
      m f all scope is
  statement_runs whole (Stmt-F.Note to t e) ls nodes line all names each m b f scope is = plain_runs whole line m f
      all scope is
  statement_runs whole (Stmt-F.Do e) ls nodes line all names each m b f scope is = plain_runs whole line m f all
      scope is
  statement_runs whole Stmt-F.Import ls nodes line all names each m b f scope is = plain_runs whole line m f all
      scope is
  statement_runs whole Stmt-F.Doc ls nodes line all names each m b f scope is = plain_runs whole line m f all scope is
  statement_runs whole Stmt-F.Pass ls nodes line all names each m b f scope is = plain_runs whole line m f all scope is
  statement_runs whole (Stmt-F.Class name base) ls nodes line all names each m b f scope is = plain_runs whole line
      m f all scope is
  statement_runs whole (Stmt-F.NonBlocking e) ls nodes line all names each m b f scope is = plain_runs whole line m
      f all scope is
  statement_runs whole (Stmt-F.Return e) ls nodes line all names each m b f scope is = plain_runs whole line m f all
      scope is

  -- the lines below a node, whichever nodes they are run as
  IsKept : Node → Type 0
  IsKept n = Each k.IsName (names_of_node n) → (whole : Node) → IsLine k o file (fold-Node (Node
      → Line) (run_of make file) n whole)

  below_runs : (ns : List ((n : Node) × IsKept n)) (wholes : List Node)
      → Each k.IsName (joined (map names_of_node (map (λ n. n.0) ns)))
      → Each (IsLine k o file) (below_of (map (fold-Node (Node → Line) (run_of make file)) (map (λ n. n.0) ns)) wholes)
  unfolding IsKept
  below_runs [] wholes names = tt
  below_runs (n ∷ ns) [] names = tt
  below_runs (n ∷ ns) (w ∷ ws) names = (
    n.1 (each_left k.IsName (names_of_node n.0) (joined (map names_of_node (map (λ n. n.0) ns))) names) w,
    below_runs ns ws (each_right k.IsName (names_of_node n.0) (joined (map names_of_node (map (λ n. n.0) ns))) names),
  )

  layer : (y : Node-F ((n : Node) × IsKept n))
      → Each k.IsName (node_over (map-Node Node Words names_of_node (map-Node ((n : Node) × IsKept n) Node
      (λ n. n.0) y))) → (whole : Node)
      → IsLine k o file (run_of make file (map-Node Node (Node → Line) (fold-Node (Node → Line) (run_of make file))
      (map-Node ((n : Node) × IsKept n) Node (λ n. n.0) y)) whole)
  unfolding statement IsKept
  layer y names whole =
      let own = each_left k.IsName (names_of_statement y.stmt) (joined (map names_of_node (map (λ n. n.0) y.body)))
      names in
      let rest = each_right k.IsName (names_of_statement y.stmt) (joined (map names_of_node (map (λ n. n.0)
      y.body))) names in
      statement_runs y.stmt (out-Stmt y.stmt) (below_of (map (fold-Node (Node → Line) (run_of make file))
      (map (λ n. n.0) y.body)) (out-Node whole).body) (out-Node whole).body y.line own (own_names k y.stmt own)
      (below_runs y.body (out-Node whole).body rest)

  whole_runs : (x : Node-F Node) (y : Node-F ((n : Node) × IsKept n))
      → map-Node ((n : Node) × IsKept n) Node (λ n. n.0) y ≡ x → IsKept (roll-Node x)
  unfolding IsKept names_of_node
  whole_runs x y is names whole =
      let step : Node-F Node → Type 0 = λ z. Each k.IsName (node_over (map-Node Node Words names_of_node z))
      → IsLine k o file (run_of make file (map-Node Node (Node → Line) (fold-Node (Node
      → Line) (run_of make file)) z) whole) in
      let here = subst step is (λ names. layer y names whole) (subst (Each k.IsName) (fold-roll-Node Words node_over
      x) names) in
      subst (λ (p : Node → Line). IsLine k o file (p whole)) (sym (fold-roll-Node (Node
      → Line) (run_of make file) x)) here

  -- a node keeps the facts
  pub node_runs : (n : Node) → Each k.IsName (names_of_node n) → IsLine k o file (run make file n)
  unfolding run IsKept
  node_runs n names = ind-Node IsKept whole_runs n names n

  -- so do some
  pub nodes_run : (ns : List Node) → Each k.IsName (names_of ns) → Each (IsLine k o file) (map (run make file) ns)
  nodes_run [] names = tt
  nodes_run (n ∷ ns) names = (
    node_runs n (each_left k.IsName (names_of_node n) (names_of ns) names),
    nodes_run ns
        (each_right k.IsName (names_of_node n) (names_of ns) names),
  )
