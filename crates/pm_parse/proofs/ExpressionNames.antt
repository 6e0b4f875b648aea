-- The names in an expression, by what it is made of.
use Rattle.std.proofs.Common.{◌≡◌, ◌∙◌, ℕ, Bool, List, [], ◌∷◌, ◌++◌, map, Option, sym, ap}
use Rattle.pm_syn.specs.declared.expression.Arg.{Arg, fold-roll-Arg}
use Rattle.pm_syn.specs.declared.expression.BinaryOp.{BinaryOp}
use Rattle.pm_syn.specs.declared.expression.Expr.{Expr, Expr-F, fold-roll-Expr}
use Rattle.pm_syn.specs.declared.expression.Expr as leaf
use Rattle.pm_syn.specs.declared.expression.Expr.TheVariants as variant
use Rattle.pm_syn.specs.declared.expression.Expr.TheViews as expr
use Rattle.pm_syn.specs.declared.expression.UnaryOp.{UnaryOp}
use Rattle.pm_parse.specs.FileNames.{Names, all_names, argument_over, expression_over, names_of_argument, names_of_expression, optional_name}

-- a name
pub names-Name : (name : List ℕ) → names_of_expression (leaf.Name name) ≡ name ∷ []
names-Name name = ap names_of_expression (sym (variant.rolls-Name name)) ∙ fold-roll-Expr Names Names expression_over argument_over (Expr-F.Name name)

-- a number
pub names-Int : (number : ℕ) → names_of_expression (leaf.Int number) ≡ []
names-Int number = ap names_of_expression (sym (variant.rolls-Int number)) ∙ fold-roll-Expr Names Names expression_over argument_over (Expr-F.Int number)

-- a truth value
pub names-Bool : (truth : Bool) → names_of_expression (leaf.Bool truth) ≡ []
names-Bool truth = ap names_of_expression (sym (variant.rolls-Bool truth)) ∙ fold-roll-Expr Names Names expression_over argument_over (Expr-F.Bool truth)

-- an operation with one operand
pub names-Unary : (op : UnaryOp) (a : Expr) → names_of_expression (expr.Unary op a) ≡ names_of_expression a
names-Unary op a = ap names_of_expression (sym (expr.rolls-Unary op a)) ∙ fold-roll-Expr Names Names expression_over argument_over (Expr-F.Unary op a)

-- an operation with two operands
pub names-Binary : (op : BinaryOp) (a b : Expr) → names_of_expression (expr.Binary op a b) ≡ names_of_expression a ++ names_of_expression b
names-Binary op a b = ap names_of_expression (sym (expr.rolls-Binary op a b)) ∙ fold-roll-Expr Names Names expression_over argument_over (Expr-F.Binary op a b)

-- a choice by a condition
pub names-Cond : (a condition b : Expr) → names_of_expression (expr.Cond a condition b) ≡ names_of_expression a ++ (names_of_expression condition ++ names_of_expression b)
names-Cond a condition b = ap names_of_expression (sym (expr.rolls-Cond a condition b)) ∙ fold-roll-Expr Names Names expression_over argument_over (Expr-F.Cond a condition b)

-- an attribute
pub names-Attr : (a : Expr) (name : List ℕ) → names_of_expression (expr.Attr a name) ≡ names_of_expression a ++ name ∷ []
names-Attr a name = ap names_of_expression (sym (expr.rolls-Attr a name)) ∙ fold-roll-Expr Names Names expression_over argument_over (Expr-F.Attr a name)

-- a call
pub names-Call : (callee : Expr) (arguments : List Arg) → names_of_expression (expr.Call callee arguments) ≡ names_of_expression callee ++ all_names (map names_of_argument arguments)
names-Call callee arguments = ap names_of_expression (sym (expr.rolls-Call callee arguments)) ∙ fold-roll-Expr Names Names expression_over argument_over (Expr-F.Call callee arguments)

-- an element at an index
pub names-Index : (a index : Expr) → names_of_expression (expr.Index a index) ≡ names_of_expression a ++ names_of_expression index
names-Index a index = ap names_of_expression (sym (expr.rolls-Index a index)) ∙ fold-roll-Expr Names Names expression_over argument_over (Expr-F.Index a index)

-- the elements between two indexes
pub names-Slice : (a low high : Expr) → names_of_expression (expr.Slice a low high) ≡ names_of_expression a ++ (names_of_expression low ++ names_of_expression high)
names-Slice a low high = ap names_of_expression (sym (expr.rolls-Slice a low high)) ∙ fold-roll-Expr Names Names expression_over argument_over (Expr-F.Slice a low high)

-- a list
pub names-Items : (items : List Expr) → names_of_expression (expr.Items items) ≡ all_names (map names_of_expression items)
names-Items items = ap names_of_expression (sym (expr.rolls-Items items)) ∙ fold-roll-Expr Names Names expression_over argument_over (Expr-F.Items items)

-- a list whose elements a variable runs through
pub names-Each : (a : Expr) (name : List ℕ) (bounds : List Expr) → names_of_expression (expr.Each a name bounds) ≡ names_of_expression a ++ name ∷ all_names (map names_of_expression bounds)
names-Each a name bounds = ap names_of_expression (sym (expr.rolls-Each a name bounds)) ∙ fold-roll-Expr Names Names expression_over argument_over (Expr-F.Each a name bounds)

-- an argument of a call
pub names-argument : (name : Option (List ℕ)) (value : Expr) → names_of_argument (record { name = name; value = value }) ≡ optional_name name ++ names_of_expression value
names-argument name value = fold-roll-Arg Names Names expression_over argument_over (record { name = name; value = value })
