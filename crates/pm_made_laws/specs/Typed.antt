-- Expressions in the bodies of a design that is given.
use Rattle.std.specs.Prelude.{ℕ, ◌≡◌, IsTrue, List, slice_get, Some, Ok}
use Rattle.pm_design.specs.declared.body.Ex.{Ex}
use Rattle.pm_design.specs.declared.connection.Part.{Part}
use Rattle.pm_design.specs.Lookups.{is_readable, signature_of}
use Rattle.pm_design.specs.Settings.{reads_assigned}
use Rattle.pm_design.specs.Sound.{holdings_of}
use Rattle.pm_design.specs.Typing.{has_width}
use Rattle.pm_design.specs.Widths.{is_width}
use Rattle.pm_syn.specs.declared.expression.Expr.{Expr}
use Rattle.pm_syn.specs.declared.statement.Node.{Node}
use Rattle.pm_values.specs.declared.reference.ValueType.{ValueType}
use Rattle.pm_elab.specs.declared.elaboration.RawDesign.{RawDesign}
use Rattle.pm_elab.specs.declared.parameter.Param.{Param}
use Rattle.pm_elab.specs.Files.{build}
use Rattle.pm_elab_laws.specs.Soundness.{are_good_params, declares_proper_names}
use Rattle.pm_typing.specs.declared.operand.Operand.TheVariants as operands
use Rattle.pm_typing.specs.declared.tally.Tally.{Tally}
use Rattle.pm_typing.specs.Expressions.{meaning, operand}
use Rattle.pm_typing.specs.Sites.{Site}
use Rattle.pm_type_laws.specs.Views.{Each, IsBound, View}

-- a place in a body of a design that is given, in a component of a kind, with the names of the body
pub record IsPlace (given : RawDesign) (view : View) (site : Site) : Type 0 where
  pub design : site.scope.design ≡ given
  pub number : ℕ
  pub kind : slice_get given.design.kinds number ≡ Some site.scope.kind
  pub raw : slice_get given.kinds number ≡ Some site.scope.raw
  pub reads : (p : Part) → IsTrue (is_readable given.design site.scope.kind p) → IsTrue (view.sight.reads p)
  pub states : view.sight.states ≡ holdings_of site.scope.kind
  pub calls : view.sight.calls ≡ signature_of given.design site.scope.kind
  pub bounds : Each (IsBound view site.scope) site.bounds

-- each value that typing gives an expression there has the width of its type, which is 1 to 128 bits, and reads no
-- temporary that some path leaves unassigned
abbrev pub ExpressionsOfDesignsAreSound : Type 0
ExpressionsOfDesignsAreSound =
    (nodes : List Node) (name : List ℕ) (params : List Param) (given : RawDesign)
    → IsTrue (declares_proper_names nodes)
    → IsTrue (are_good_params params)
    → build nodes name params ≡ Ok given
    → (view : View) (site : Site) (e : Expr) (before after : Tally) (value : Ex) (ty : ValueType)
    → IsPlace given view site
    → operand (meaning e) site before ≡ Ok (operands.Bits value ty, after)
    → IsTrue (has_width view.sight ty.width value) × (IsTrue (is_width ty.width) × IsTrue (reads_assigned view.assigned
    value))
