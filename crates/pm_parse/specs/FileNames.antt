-- The names in a file's statements: each is spelled as a name and is no keyword.
use Rattle.std.specs.Prelude.{◌≡◌, ℕ, IsTrue, All, List, [], ◌∷◌, ◌++◌, map, Option, Some, None, Ok}
use Rattle.pm_syn.specs.Names.{is_proper_name, is_spelled_as_name}
use Rattle.pm_syn.specs.declared.expression.Arg.{Arg, Arg-F, fold-Arg}
use Rattle.pm_syn.specs.declared.expression.Expr.{Expr, Expr-F, fold-Expr}
use Rattle.pm_syn.specs.declared.statement.File.{File}
use Rattle.pm_syn.specs.declared.statement.Node.{Node, Node-F, fold-Node}
use Rattle.pm_syn.specs.declared.statement.Par.{Par}
use Rattle.pm_syn.specs.declared.statement.Stmt.{Stmt, Stmt-F, fold-Stmt}
use Rattle.pm_syn.specs.declared.token.Line.{Line}
use Rattle.pm_syn.specs.declared.token.Token.{Token}
use Rattle.pm_syn.specs.declared.token.TokenKind.TheVariants as kind
use Rattle.pm_parse.specs.Answers.{IsFileAnswer}

-- names, in the order of the text
abbrev pub Names : Type 0
Names = List (List ℕ)

-- the names of some parts
abbrev pub all_names : List Names → Names
all_names [] = []
all_names (names ∷ others) = names ++ all_names others

-- a name that may be absent
abbrev pub optional_name : Option (List ℕ) → Names
optional_name None = []
optional_name (Some name) = name ∷ []

-- the names of a part that may be absent
abbrev pub optional_names : Option Names → Names
optional_names None = []
optional_names (Some names) = names

-- the names in an expression, once each of its parts has names
abbrev pub expression_over : Expr-F Names Names → Names
expression_over (Expr-F.Name name) = name ∷ []
expression_over (Expr-F.Int number) = []
expression_over (Expr-F.Bool truth) = []
expression_over (Expr-F.Unary op a) = a
expression_over (Expr-F.Binary op a b) = a ++ b
expression_over (Expr-F.Cond a condition b) = a ++ (condition ++ b)
expression_over (Expr-F.Attr a name) = a ++ name ∷ []
expression_over (Expr-F.Call callee arguments) = callee ++ all_names arguments
expression_over (Expr-F.Index a index) = a ++ index
expression_over (Expr-F.Slice a low high) = a ++ (low ++ high)
expression_over (Expr-F.Items items) = all_names items
expression_over (Expr-F.Each a name bounds) = a ++ name ∷ all_names bounds

-- the names in an argument, once its value has names
abbrev pub argument_over : Arg-F Names Names → Names
argument_over argument = optional_name argument.name ++ argument.value

-- the names in an expression: of values, attributes, parameters of calls, and variables of lists
abbrev pub names_of_expression : Expr → Names
names_of_expression = fold-Expr Names Names expression_over argument_over

-- the names in an argument of a call
abbrev pub names_of_argument : Arg → Names
names_of_argument = fold-Arg Names Names expression_over argument_over

-- the names in an expression that may be absent
abbrev pub names_of_option : Option Expr → Names
names_of_option None = []
names_of_option (Some e) = names_of_expression e

-- a parameter's name, and the names in its annotation and its default
abbrev pub names_of_parameter : Par → Names
names_of_parameter p = p.name ∷ (names_of_option p.note ++ names_of_option p.default)

-- the names in a statement, once the statement after its colon has names
abbrev pub statement_over : Stmt-F Names → Names
statement_over (Stmt-F.Import) = []
statement_over (Stmt-F.Doc) = []
statement_over (Stmt-F.Pass) = []
statement_over (Stmt-F.Class name base) = name ∷ optional_name base
statement_over (Stmt-F.Def name has_self parameters annotation after) =
    name ∷ (all_names (map names_of_parameter parameters)
    ++ (names_of_option annotation ++ optional_names after))
statement_over (Stmt-F.Mark name) = name ∷ []
statement_over (Stmt-F.NonBlocking e) = names_of_expression e
statement_over (Stmt-F.Return e) = names_of_expression e
statement_over (Stmt-F.Assert e) = names_of_expression e
statement_over (Stmt-F.If condition after) = names_of_expression condition ++ optional_names after
statement_over (Stmt-F.Elif condition after) = names_of_expression condition ++ optional_names after
statement_over (Stmt-F.Else after) = optional_names after
statement_over (Stmt-F.For name bounds after) =
    name ∷ (all_names (map names_of_expression bounds) ++ optional_names after)
statement_over (Stmt-F.Assign op target value) = names_of_expression target ++ names_of_expression value
statement_over (Stmt-F.JoinLambda target value) = names_of_expression target ++ names_of_expression value
statement_over (Stmt-F.Note target annotation value) =
    names_of_expression target ++ (names_of_expression annotation ++ names_of_option value)
statement_over (Stmt-F.Do e) = names_of_expression e

-- the names in a statement: of classes, functions, parameters, decorators and loops' variables, and in its
-- expressions
abbrev pub names_of_statement : Stmt → Names
names_of_statement = fold-Stmt Names statement_over

-- the names in a node, once each node of its body has names
abbrev pub node_over : Node-F Names → Names
node_over node = names_of_statement node.stmt ++ all_names node.body

-- the names in a node's statement and in its body
abbrev pub names_of_node : Node → Names
names_of_node = fold-Node Names node_over

-- the names in some trees
abbrev pub names_of : List Node → Names
names_of nodes = all_names (map names_of_node nodes)

-- spelled as a name, and no keyword
abbrev pub IsProperName : List ℕ → Type 0
IsProperName text = IsTrue (is_proper_name text)

-- if the token's kind is that of names, it is spelled as a name
abbrev pub IsSpelledAsKind : Token → Type 0
IsSpelledAsKind token = token.kind ≡ kind.Name → IsTrue (is_spelled_as_name token.text)

-- each token of the line whose kind is that of names is spelled as a name
abbrev pub HasSpelledNames : Line → Type 0
HasSpelledNames line = All IsSpelledAsKind line.tokens

-- if the names in the lines are spelled as names, every name in the file is spelled as a name and is no keyword
abbrev pub FilesHaveProperNames : Type 0
FilesHaveProperNames =
    (lines : List Line) (file : File)
    → All HasSpelledNames lines
    → IsFileAnswer lines (Ok file)
    → All IsProperName (names_of file.nodes)
