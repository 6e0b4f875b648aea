-- Where an expression of a body stands.
use Rattle.std.specs.Prelude.{ℕ, Bool, true, List}
use Rattle.pm_design.specs.declared.design.Kind.{Kind}
use Rattle.pm_elab.specs.declared.elaboration.RawDesign.{RawDesign}
use Rattle.pm_elab.specs.declared.elaboration.RawKind.{RawKind}
use Rattle.pm_values.specs.Tables.{Names}
use Rattle.pm_typing.specs.declared.frame.Bound.{Bound}
use Rattle.pm_typing.specs.declared.scope.At.{At as LentAt}
use Rattle.pm_typing.specs.declared.scope.BodySort.{BodySort}
use Rattle.pm_typing.specs.declared.scope.Scope.{Scope as LentScope}

-- what all lines of a body see
pub record Scope : Type 0 where
  pub design : RawDesign
  pub kind : Kind
  pub raw : RawKind
  -- the places of the names that the body assigns
  pub own : Names ℕ
  pub sort : BodySort

-- where an expression stands within a body
pub record Site : Type 0 where
  pub scope : Scope
  -- what the names of the body stand for
  pub bounds : List Bound
  pub line : ℕ
  -- whether it stands within an index
  pub inside_index : Bool

-- the scope that the code's references lead to
abbrev pub scope_of : LentScope → Scope
scope_of s = record { design = s.design.now; kind = s.kind.now; raw = s.raw.now; own = s.own.now; sort = s.sort }

-- the site that the code's references lead to
abbrev pub site_of : LentScope → LentAt → Site
site_of s at = record { scope = scope_of s; bounds = at.bounds.now; line = at.line; inside_index = at.inside_index }

-- within an index
abbrev pub within_index : Site → Site
within_index site = record site { inside_index = true }
