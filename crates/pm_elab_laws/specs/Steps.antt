-- What elaboration does to the steps and to what was made before.
use Rattle.std.specs.Prelude.{ℕ, ◌≡◌, ◌≤◌, ◌-◌, List, ◌++◌, Option, Some, None, Ok}
use Rattle.pm_design.specs.declared.signal.Shape.{Shape}
use Rattle.pm_syn.specs.declared.expression.Expr.{Expr}
use Rattle.pm_syn.specs.declared.statement.Node.{Node}
use Rattle.pm_values.specs.declared.value.Value.{Value}
use Rattle.pm_elab.specs.declared.call.Given.{Given}
use Rattle.pm_elab.specs.declared.elaboration.Elaboration.{Elaboration}
use Rattle.pm_elab.specs.declared.elaboration.MadeKind.{MadeKind}
use Rattle.pm_elab.specs.declared.elaboration.TheConstants.{MAX_STEPS, MAX_NESTING}
use Rattle.pm_elab.specs.declared.frame.Frame.{Frame}
use Rattle.pm_elab.specs.declared.parameter.Param.{Param}
use Rattle.pm_elab.specs.Constructs.{make_at}
use Rattle.pm_elab.specs.Expressions.{eval}
use Rattle.pm_elab.specs.Files.{Globals, elaborated, nothing_made}
use Rattle.pm_elab.specs.Sites.{Scope, Site}
use Rattle.pm_elab.specs.Statements.{run_all}

-- steps are added, and what was made keeps its number
pub record Grows (before now : Elaboration) : Type 0 where
  pub steps : before.steps ≤ now.steps
  pub kinds : (more : List MadeKind) × (now.kinds ≡ before.kinds ++ more)
  pub shapes : (more : List Shape) × (now.shapes ≡ before.shapes ++ more)

-- an expression adds steps, kinds and bitstructs, and takes none away
abbrev pub ExpressionsOnlyAdd : Type 0
ExpressionsOnlyAdd =
    (level : Option ℕ) (e : Expr) (site : Site) (before now : Elaboration) (v : Value)
    → eval (make_at level) e site before ≡ Ok (v, now)
    → Grows before now

-- so do the lines of a `construct`
abbrev pub LinesOnlyAdd : Type 0
LinesOnlyAdd =
    (level : Option ℕ) (file : Scope) (nodes : List Node) (frame then : Frame) (before now : Elaboration)
    → run_all (make_at level) file nodes frame before ≡ Ok (then, now)
    → Grows before now

-- so does the call of a class
abbrev pub CallsOnlyAdd : Type 0
CallsOnlyAdd =
    (level : Option ℕ) (site : Site) (class : List ℕ) (given : List Given) (before now : Elaboration) (v : Value)
    → make_at level site class given before ≡ Ok (v, now)
    → Grows before now

-- what elaboration gives of a file's top class was made in at most 2^20 steps
abbrev pub StepsStayWithinTheirBound : Type 0
StepsStayWithinTheirBound =
    (nodes : List Node) (name : List ℕ) (params : List Param) (given : Globals × ℕ) (made : Elaboration)
    → elaborated (make_at None) (make_at (Some (MAX_NESTING - 1))) nodes name params nothing_made ≡ Ok (given, made)
    → made.steps ≤ MAX_STEPS
