-- The parts that bodies may write.
use Rattle.std.specs.Prelude.{List, [], ◌∷◌, ◌++◌, flat_map}
use Rattle.pm_design.specs.declared.body.St.{St, St-F, fold-St}
use Rattle.pm_design.specs.declared.connection.Part.{Part}

-- the parts that a statement may write, once its own statements have theirs; a method writes no part
abbrev pub written_step : St-F (List Part) → List Part
written_step (St-F.Set p e) = p ∷ []
written_step (St-F.SetPick i ps e) = ps
written_step (St-F.SetTemp t e) = []
written_step (St-F.SetNumber k e) = []
written_step (St-F.Push k side e) = []
written_step (St-F.Pop k side target) = []
written_step (St-F.Clear k) = []
written_step (St-F.Call m es target) = []
written_step (St-F.If c xs ys) = flat_map (λ ps. ps) xs ++ flat_map (λ ps. ps) ys

-- the parts that a statement may write: with a dynamic index, all elements that it may name
unfoldable pub written : St → List Part
written = fold-St (List Part) written_step

-- the parts that a body may write
abbrev pub written_in : List St → List Part
written_in body = flat_map written body
