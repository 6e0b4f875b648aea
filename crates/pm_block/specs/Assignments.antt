-- How many assignments of parts a body may make.
use Rattle.std.specs.Prelude.{ℕ, ◌+◌, List, map}
use Rattle.pm_design.specs.declared.body.St.{St, St-F, fold-St}
use Rattle.pm_design.specs.Widths.{total}

-- the assignments of a statement, once its own statements have theirs; a method assigns no part
abbrev pub assignments_step : St-F ℕ → ℕ
assignments_step (St-F.Set p e) = 1
assignments_step (St-F.SetPick i ps e) = 1
assignments_step (St-F.SetTemp t e) = 0
assignments_step (St-F.SetNumber k e) = 0
assignments_step (St-F.Push k side e) = 0
assignments_step (St-F.Pop k side target) = 0
assignments_step (St-F.Clear k) = 0
assignments_step (St-F.Call m es target) = 0
assignments_step (St-F.If c xs ys) = total xs + total ys

-- the assignments of a statement
unfoldable pub assignments : St → ℕ
assignments = fold-St ℕ assignments_step

-- the assignments of a body
abbrev pub all_assignments : List St → ℕ
all_assignments body = total (map assignments body)
