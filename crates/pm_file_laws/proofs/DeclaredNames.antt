-- The names that a file declares are among the names in it.
use Rattle.std.proofs.Common.{◌≡◌, ℕ, Bool, true, false, List, [], ◌∷◌, ◌++◌, sym, subst, map}
use Rattle.std.specs.Prelude.{Some, None, if◌then◌else◌, bytes_eq, codes}
use Rattle.std.proofs.lemmas.List.Elements.{All-head, All-tail}
use Rattle.pm_syn.specs.declared.expression.Arg.{Arg}
use Rattle.pm_syn.specs.declared.expression.Expr.{Expr, Expr-F, out-Expr, fold_out-Expr}
use Rattle.pm_syn.specs.declared.expression.Expr.TheFolds.{map-Expr}
use Rattle.pm_syn.specs.declared.statement.Node.{Node, Node-F, roll-Node, fold-roll-Node}
use Rattle.pm_syn.specs.declared.statement.Node.TheFolds.{ind-Node, map-Node}
use Rattle.pm_syn.specs.declared.statement.Stmt.{Stmt, Stmt-F, roll-Stmt, fold-roll-Stmt}
use Rattle.pm_syn.specs.declared.statement.Stmt.TheFolds.{ind-Stmt, map-Stmt}
use Rattle.pm_parse.specs.FileNames as said
use Rattle.pm_parse.proofs.ProperNames.{AreProper, all_prefix, all_rest, both_proper, none_proper, one_proper}
use Rattle.pm_elab.specs.declared.target.Target.TheVariants as target
use Rattle.pm_elab.specs.Placing.{own_at, own_target, target_at, target_of}
use Rattle.pm_elab_laws.specs.Names as declares

-- ---- left sides

-- the names before others
prefix_proper : (names others : said.Names) → AreProper (names ++ others) → AreProper names
prefix_proper names others are = all_prefix said.IsProperName names others are

-- the names after others
rest_proper : (names others : said.Names) → AreProper (names ++ others) → AreProper others
rest_proper names others are = all_rest said.IsProperName names others are

-- the first name
head_proper : (name : List ℕ) (names : said.Names) → AreProper (name ∷ names) → said.IsProperName name
head_proper name names are = All-head said.IsProperName name names are

-- the names after the first
tail_proper : (name : List ℕ) (names : said.Names) → AreProper (name ∷ names) → AreProper names
tail_proper name names are = All-tail said.IsProperName name names are

-- the attribute of a component
own_proper : (name : List ℕ) (e : Expr) → said.IsProperName name → AreProper (declares.target_names (own_target name e))
unfolding own_target
own_proper name e is = by (out-Expr e)
  where
    test : (b : Bool) → AreProper (declares.target_names (if b then target.Attribute name else target.Other))
    test true = one_proper name is
    test false = none_proper

    by : (x : Expr-F Expr Arg) → AreProper (declares.target_names (own_at name x))
    by (Expr-F.Name n) = test (bytes_eq n (codes "s"))
    by (Expr-F.Int number) = none_proper
    by (Expr-F.Bool truth) = none_proper
    by (Expr-F.Unary op a) = none_proper
    by (Expr-F.Binary op a b) = none_proper
    by (Expr-F.Cond a condition b) = none_proper
    by (Expr-F.Attr a other) = none_proper
    by (Expr-F.Call callee arguments) = none_proper
    by (Expr-F.Index a index) = none_proper
    by (Expr-F.Slice a low high) = none_proper
    by (Expr-F.Items items) = none_proper
    by (Expr-F.Each a other bounds) = none_proper

-- the attribute that a left side names
target_proper : (e : Expr) → AreProper (said.names_of_expression e) → AreProper (declares.target_names (target_of e))
unfolding target_of
target_proper e are =
    by (out-Expr e)
    (subst AreProper (fold_out-Expr said.Names said.Names said.expression_over said.argument_over e) are)
  where
    local : (name : List ℕ) (b : Bool)
        → AreProper (declares.target_names (if b then target.Other else target.Local name))
    local name true = none_proper
    local name false = none_proper

    by : (x : Expr-F Expr Arg)
        → AreProper (said.expression_over (map-Expr Expr Arg said.Names said.Names said.names_of_expression
        said.names_of_argument x))
        → AreProper (declares.target_names (target_at x))
    by (Expr-F.Name n) all = local n (bytes_eq n (codes "s"))
    by (Expr-F.Int number) all = none_proper
    by (Expr-F.Bool truth) all = none_proper
    by (Expr-F.Unary op a) all = none_proper
    by (Expr-F.Binary op a b) all = none_proper
    by (Expr-F.Cond a condition b) all = none_proper
    by (Expr-F.Attr a name) all =
        own_proper name a (head_proper name [] (rest_proper (said.names_of_expression a) (name ∷ []) all))
    by (Expr-F.Call callee arguments) all = none_proper
    by (Expr-F.Index a index) all = none_proper
    by (Expr-F.Slice a low high) all = none_proper
    by (Expr-F.Items items) all = none_proper
    by (Expr-F.Each a name bounds) all = none_proper

-- ---- statements

-- if the names in a statement are proper, so are those that it declares
abbrev DeclaresProper : Stmt → Type 0
DeclaresProper s = AreProper (said.names_of_statement s) → AreProper (declares.names_of_statement s)

-- the statements after colons alone, without what is known of them
abbrev Below : Stmt-F ((s : Stmt) × DeclaresProper s) → Stmt-F Stmt
Below y = map-Stmt ((s : Stmt) × DeclaresProper s) Stmt (λ s. s.0) y

-- what is said in one layer of a statement
abbrev SaidIn : Stmt-F Stmt → Type 0
SaidIn x = AreProper (said.statement_over (map-Stmt Stmt said.Names said.names_of_statement x))

-- what it declares
abbrev DeclaredIn : Stmt-F Stmt → Type 0
DeclaredIn x = AreProper (declares.statement_over (map-Stmt Stmt declares.Words declares.names_of_statement x))

layer : (y : Stmt-F ((s : Stmt) × DeclaresProper s)) → SaidIn (Below y) → DeclaredIn (Below y)
layer (Stmt-F.Class name base) all = one_proper name (head_proper name (said.optional_name base) all)
layer (Stmt-F.Def name own parameters result None) all = one_proper name (head_proper name _ all)
layer (Stmt-F.Def name own parameters result (Some s)) all =
    both_proper (name ∷ []) (declares.names_of_statement s.0) (one_proper name (head_proper name _ all))
    (s.1 (rest_proper (said.names_of_option result) (said.names_of_statement s.0)
    (rest_proper (said.all_names (map said.names_of_parameter parameters)) _ (tail_proper name _ all))))
layer (Stmt-F.If condition None) all = none_proper
layer (Stmt-F.If condition (Some s)) all = s.1 (rest_proper (said.names_of_expression condition) _ all)
layer (Stmt-F.Elif condition None) all = none_proper
layer (Stmt-F.Elif condition (Some s)) all = s.1 (rest_proper (said.names_of_expression condition) _ all)
layer (Stmt-F.Else None) all = none_proper
layer (Stmt-F.Else (Some s)) all = s.1 all
layer (Stmt-F.For name bounds None) all = none_proper
layer (Stmt-F.For name bounds (Some s)) all =
    s.1 (rest_proper (said.all_names (map said.names_of_expression bounds)) _ (tail_proper name _ all))
layer (Stmt-F.Assign op to v) all =
    target_proper to (prefix_proper (said.names_of_expression to) (said.names_of_expression v) all)
layer (Stmt-F.Note to annotation v) all = target_proper to (prefix_proper (said.names_of_expression to) _ all)
layer (Stmt-F.JoinLambda to v) all = none_proper
layer (Stmt-F.Import) all = none_proper
layer (Stmt-F.Doc) all = none_proper
layer (Stmt-F.Pass) all = none_proper
layer (Stmt-F.Mark name) all = none_proper
layer (Stmt-F.NonBlocking e) all = none_proper
layer (Stmt-F.Return e) all = none_proper
layer (Stmt-F.Assert e) all = none_proper
layer (Stmt-F.Do e) all = none_proper

whole : (x : Stmt-F Stmt) (y : Stmt-F ((s : Stmt) × DeclaresProper s)) → Below y ≡ x → DeclaresProper (roll-Stmt x)
unfolding declares.names_of_statement
whole x y is all =
    let here : SaidIn x → DeclaredIn x = subst (λ z. SaidIn z → DeclaredIn z) is (layer y) in
    subst AreProper (sym (fold-roll-Stmt declares.Words declares.statement_over x))
    (here (subst AreProper (fold-roll-Stmt said.Names said.statement_over x) all))

-- if the names in a statement are proper, so are those that it declares
pub statement_proper : (s : Stmt) → AreProper (said.names_of_statement s) → AreProper (declares.names_of_statement s)
statement_proper s = ind-Stmt DeclaresProper whole s

-- ---- trees

-- the same of a node and its body
abbrev NodeProper : Node → Type 0
NodeProper n = AreProper (said.names_of_node n) → AreProper (declares.names_of_node n)

-- the nodes of a body alone
abbrev Under : Node-F ((n : Node) × NodeProper n) → Node-F Node
Under y = map-Node ((n : Node) × NodeProper n) Node (λ n. n.0) y

abbrev SaidUnder : Node-F Node → Type 0
SaidUnder x = AreProper (said.node_over (map-Node Node said.Names said.names_of_node x))

abbrev DeclaredUnder : Node-F Node → Type 0
DeclaredUnder x = AreProper (declares.node_over (map-Node Node declares.Words declares.names_of_node x))

bodies : (ns : List ((n : Node) × NodeProper n))
    → AreProper (said.all_names (map said.names_of_node (map (λ n. n.0) ns)))
    → AreProper (declares.joined (map declares.names_of_node (map (λ n. n.0) ns)))
bodies [] all = none_proper
bodies (n ∷ ns) all =
    both_proper (declares.names_of_node n.0) (declares.joined (map declares.names_of_node (map (λ n. n.0) ns)))
    (n.1 (prefix_proper (said.names_of_node n.0) _ all)) (bodies ns (rest_proper (said.names_of_node n.0) _ all))

node_layer : (y : Node-F ((n : Node) × NodeProper n)) → SaidUnder (Under y) → DeclaredUnder (Under y)
node_layer y all =
    both_proper (declares.names_of_statement y.stmt)
    (declares.joined (map declares.names_of_node (map (λ n. n.0) y.body)))
    (statement_proper y.stmt (prefix_proper (said.names_of_statement y.stmt) _ all))
    (bodies y.body (rest_proper (said.names_of_statement y.stmt) _ all))

whole_node : (x : Node-F Node) (y : Node-F ((n : Node) × NodeProper n)) → Under y ≡ x → NodeProper (roll-Node x)
unfolding declares.names_of_node
whole_node x y is all =
    let here : SaidUnder x → DeclaredUnder x = subst (λ z. SaidUnder z → DeclaredUnder z) is (node_layer y) in
    subst AreProper (sym (fold-roll-Node declares.Words declares.node_over x))
    (here (subst AreProper (fold-roll-Node said.Names said.node_over x) all))

node_proper : (n : Node) → NodeProper n
node_proper n = ind-Node NodeProper whole_node n

-- if the names in some trees are proper, so are those that they declare
pub trees_proper : (ns : List Node) → AreProper (said.names_of ns) → AreProper (declares.names_of ns)
trees_proper [] all = none_proper
trees_proper (n ∷ ns) all =
    both_proper (declares.names_of_node n) (declares.names_of ns)
    (node_proper n (prefix_proper (said.names_of_node n) _ all))
    (trees_proper ns (rest_proper (said.names_of_node n) _ all))
