-- The methods whose `rdy` expressions read.
use Rattle.std.specs.Prelude.{List, [], ◌∷◌, ◌++◌, flat_map, Option, None, Some}
use Rattle.pm_design.specs.declared.body.Ex.{Ex, Ex-F, fold-Ex}
use Rattle.pm_design.specs.declared.connection.Callee.{Callee}

-- the methods whose `rdy` an expression reads, once its operands have theirs
abbrev pub asked_step : Ex-F (List Callee) → List Callee
asked_step (Ex-F.Const c) = []
asked_step (Ex-F.Get p) = []
asked_step (Ex-F.Temp t lo n) = []
asked_step (Ex-F.Pick i ps) = i
asked_step (Ex-F.Number k) = []
asked_step (Ex-F.Count k) = []
asked_step (Ex-F.Item k i) = []
asked_step (Ex-F.Last k) = []
asked_step (Ex-F.Ready m) = m ∷ []
asked_step (Ex-F.Not a) = a
asked_step (Ex-F.Fold f a) = a
asked_step (Ex-F.Bin op a b) = a ++ b
asked_step (Ex-F.Cat es) = flat_map (λ ms. ms) es
asked_step (Ex-F.Zext a n) = a
asked_step (Ex-F.Sext a n) = a
asked_step (Ex-F.Trunc a n) = a
asked_step (Ex-F.Cond c a b) = c ++ (a ++ b)

-- the methods whose `rdy` an expression reads
unfoldable pub asked : Ex → List Callee
asked = fold-Ex (List Callee) asked_step

-- the methods whose `rdy` expressions read
abbrev pub all_asked : List Ex → List Callee
all_asked expressions = flat_map asked expressions

-- the methods whose `rdy` a guard reads, if there is one
abbrev pub asked_by : Option Ex → List Callee
asked_by None = []
asked_by (Some e) = asked e
