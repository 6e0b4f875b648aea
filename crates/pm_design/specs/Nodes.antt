-- How many nodes a body has: its statements, expressions and elements of dynamic indexes.
use Rattle.std.specs.Prelude.{ℕ, zero, suc, ◌+◌, List, map, length, Option, None, Some}
use Rattle.pm_design.specs.declared.body.Ex.{Ex, Ex-F, fold-Ex}
use Rattle.pm_design.specs.declared.body.St.{St, St-F, fold-St}
use Rattle.pm_design.specs.declared.connection.Callee.{Callee}
use Rattle.pm_design.specs.declared.plan.Plan.{Plan}
use Rattle.pm_design.specs.Calls.{leads_to, methods_of}
use Rattle.pm_design.specs.Widths.{total}

-- the nodes of an expression, once its operands have theirs, with those of its guards
abbrev pub nodes_step : (Callee → ℕ) → Ex-F ℕ → ℕ
nodes_step guard (Ex-F.Const c) = 1
nodes_step guard (Ex-F.Get p) = 1
nodes_step guard (Ex-F.Temp t lo n) = 1
nodes_step guard (Ex-F.Pick i ps) = 1 + i + length ps
nodes_step guard (Ex-F.Number k) = 1
nodes_step guard (Ex-F.Count k) = 1
nodes_step guard (Ex-F.Item k i) = 1
nodes_step guard (Ex-F.Last k) = 1
nodes_step guard (Ex-F.Ready m) = 1 + guard m
nodes_step guard (Ex-F.Not a) = 1 + a
nodes_step guard (Ex-F.Fold f a) = 1 + a
nodes_step guard (Ex-F.Bin op a b) = 1 + a + b
nodes_step guard (Ex-F.Cat es) = 1 + total es
nodes_step guard (Ex-F.Zext a n) = 1 + a
nodes_step guard (Ex-F.Sext a n) = 1 + a
nodes_step guard (Ex-F.Trunc a n) = 1 + a
nodes_step guard (Ex-F.Cond c a b) = 1 + c + a + b

-- the nodes of an expression, with those of the guards that it asks
unfoldable pub nodes : (Callee → ℕ) → Ex → ℕ
nodes guard = fold-Ex ℕ (nodes_step guard)

-- the nodes that guards and methods have where they are put in
pub record Inside : Type 0 where
  pub guard : Callee → ℕ
  pub body : Callee → ℕ

-- the nodes of a statement, once its own statements have theirs
abbrev pub statement_nodes_step : Inside → St-F ℕ → ℕ
statement_nodes_step inside (St-F.Set p e) = 1 + nodes inside.guard e
statement_nodes_step inside (St-F.SetPick i ps e) = 1 + nodes inside.guard i + length ps + nodes inside.guard e
statement_nodes_step inside (St-F.SetTemp t e) = 1 + nodes inside.guard e
statement_nodes_step inside (St-F.SetNumber k e) = 1 + nodes inside.guard e
statement_nodes_step inside (St-F.Push k side e) = 1 + nodes inside.guard e
statement_nodes_step inside (St-F.Pop k side target) = 1
statement_nodes_step inside (St-F.Clear k) = 1
statement_nodes_step inside (St-F.Call m es target) = 1 + total (map (nodes inside.guard) es) + inside.body m
statement_nodes_step inside (St-F.If c xs ys) = 1 + nodes inside.guard c + total xs + total ys

-- the nodes of a statement
unfoldable pub statement_nodes : Inside → St → ℕ
statement_nodes inside = fold-St ℕ (statement_nodes_step inside)

-- the nodes of a body
abbrev pub body_nodes : Inside → List St → ℕ
body_nodes inside body = total (map (statement_nodes inside) body)

-- the nodes of an expression that may be left out
abbrev pub nodes_or_none : (Callee → ℕ) → Option Ex → ℕ
nodes_or_none guard None = 0
nodes_or_none guard (Some e) = nodes guard e

-- the nodes of a guard, those within it through so many levels
abbrev pub guard_nodes : ℕ → Plan → ℕ → Callee → ℕ
guard_nodes zero plan i m = 0
guard_nodes (suc levels) plan i m =
    let target = leads_to plan i m in
    nodes_or_none (guard_nodes levels plan target.instance) target.method.guard

-- the nodes of a method's body and answer, those within them through so many levels
abbrev pub method_nodes : ℕ → Plan → ℕ → Callee → ℕ
method_nodes zero plan i m = 0
method_nodes (suc levels) plan i m =
    let target = leads_to plan i m in
    let inside : Inside = record { guard = guard_nodes (methods_of plan) plan target.instance; body = method_nodes levels plan target.instance } in
    body_nodes inside target.method.body + nodes_or_none inside.guard target.method.answer

-- what guards and methods have in an instance's bodies
unfoldable pub inside_of : Plan → ℕ → Inside
inside_of plan i = record { guard = guard_nodes (methods_of plan) plan i; body = method_nodes (methods_of plan) plan i }
