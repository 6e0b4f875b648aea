-- What bodies may call.
use Rattle.std.specs.Prelude.{List, [], ◌∷◌, ◌++◌, flat_map}
use Rattle.pm_design.specs.declared.body.St.{St, St-F, fold-St}
use Rattle.pm_design.specs.declared.connection.Callee.{Callee}

-- what a statement may call, once its own statements have theirs; expressions call nothing
abbrev pub called_step : St-F (List Callee) → List Callee
called_step (St-F.Set p e) = []
called_step (St-F.SetPick i ps e) = []
called_step (St-F.SetTemp t e) = []
called_step (St-F.SetNumber k e) = []
called_step (St-F.Push k side e) = []
called_step (St-F.Pop k side target) = []
called_step (St-F.Clear k) = []
called_step (St-F.Call m es target) = m ∷ []
called_step (St-F.If c xs ys) = flat_map (λ ms. ms) xs ++ flat_map (λ ms. ms) ys

-- what a statement may call
unfoldable pub called : St → List Callee
called = fold-St (List Callee) called_step

-- what a body may call
abbrev pub called_in : List St → List Callee
called_in body = flat_map called body
