-- The names that a file's statements declare: of classes, functions and attributes.
use Rattle.std.specs.Prelude.{ℕ, List, [], ◌∷◌, ◌++◌, map, Option, Some, None}
use Rattle.pm_syn.specs.declared.statement.Node.{Node, Node-F, fold-Node}
use Rattle.pm_syn.specs.declared.statement.Stmt.{Stmt, Stmt-F, fold-Stmt}
use Rattle.pm_elab.specs.declared.target.Target.{Target}
use Rattle.pm_elab.specs.declared.target.Target.TheVariants as target
use Rattle.pm_elab.specs.Placing.{target_of}

-- names, in the order of the text
abbrev pub Words : Type 0
Words = List (List ℕ)

-- the names of some parts
abbrev pub joined : List Words → Words
joined [] = []
joined (names ∷ others) = names ++ joined others

-- the names of a part that may be absent
abbrev pub optional : Option Words → Words
optional None = []
optional (Some names) = names

-- the attribute that a left side names
abbrev pub target_names : Target → Words
target_names (target.Attribute name) = name ∷ []
target_names _ = []

-- the names that a statement declares, once those of the statement after its colon are known
abbrev pub statement_over : Stmt-F Words → Words
statement_over (Stmt-F.Class name base) = name ∷ []
statement_over (Stmt-F.Def name own parameters result after) = name ∷ optional after
statement_over (Stmt-F.If condition after) = optional after
statement_over (Stmt-F.Elif condition after) = optional after
statement_over (Stmt-F.Else after) = optional after
statement_over (Stmt-F.For name bounds after) = optional after
statement_over (Stmt-F.Assign op to value) = target_names (target_of to)
statement_over (Stmt-F.Note to type value) = target_names (target_of to)
statement_over _ = []

-- the names that a statement declares
unfoldable pub names_of_statement : Stmt → Words
names_of_statement = fold-Stmt Words statement_over

-- the names that a node declares, once those of its body are known
abbrev pub node_over : Node-F Words → Words
node_over node = names_of_statement node.stmt ++ joined node.body

-- the names that a node and its body declare
unfoldable pub names_of_node : Node → Words
names_of_node = fold-Node Words node_over

-- the names that some trees declare
abbrev pub names_of : List Node → Words
names_of nodes = joined (map names_of_node nodes)
