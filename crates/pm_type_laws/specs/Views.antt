-- What a body may name where an expression stands, and what typing must give there.
use Rattle.std.specs.Prelude.{ℕ, ◌+◌, ◌≡◌, ◌&&◌, Bool, nat_lt, nat_le, slice_index_or, IsTrue, List, [], ◌∷◌, length, Ok}
use Rattle.pm_design.specs.declared.body.Ex.{Ex}
use Rattle.pm_design.specs.declared.connection.Part.{Part}
use Rattle.pm_design.specs.Lookups.{is_readable, signature_of}
use Rattle.pm_design.specs.Settings.{reads_assigned}
use Rattle.pm_design.specs.Sound.{holdings_of}
use Rattle.pm_design.specs.Typing.{Sight, has_width}
use Rattle.pm_design.specs.Widths.{is_width}
use Rattle.pm_syn.specs.declared.expression.Expr.{Expr}
use Rattle.pm_values.specs.declared.reference.ValueType.{ValueType}
use Rattle.pm_typing.specs.declared.frame.Bound.{Bound}
use Rattle.pm_typing.specs.declared.frame.Bound.TheVariants as bound
use Rattle.pm_typing.specs.declared.operand.Operand.TheVariants as operands
use Rattle.pm_typing.specs.declared.tally.Tally.{Tally}
use Rattle.pm_typing.specs.Expressions.{meaning, operand}
use Rattle.pm_typing.specs.Sites.{Scope, Site}
use Rattle.pm_type_laws.specs.Good.{IsMade, is_type}

-- each element has the property
abbrev pub Each : {A : Type 0} → (A → Type 0) → List A → Type 0
Each P [] = Unit {0}
Each P (a ∷ others) = P a × Each P others

-- what a body may name, and which of its temporaries are assigned
pub record View : Type 0 where
  pub sight : Sight
  pub assigned : ℕ → Bool

-- a body's sight reads what its component may read, has its states and calls its methods
pub record Sees (s : View) (scope : Scope) : Type 0 where
  pub made : IsMade scope
  pub reads : (p : Part) → IsTrue (is_readable scope.design.design scope.kind p) → IsTrue (s.sight.reads p)
  pub states : s.sight.states ≡ holdings_of scope.kind
  pub calls : s.sight.calls ≡ signature_of scope.design.design scope.kind

-- some bits of an assigned temporary
abbrev pub is_temporary : View → Scope → ℕ → ℕ → ValueType → Bool
is_temporary s scope t lo ty =
    s.assigned t && (nat_lt t (length s.sight.temps)
    && (nat_le (lo + ty.width) (slice_index_or s.sight.temps t 0) && is_type scope.design.design.shapes ty))

-- an expression of a type that reads no other temporary
abbrev pub is_typed : View → Scope → Ex → ValueType → Bool
is_typed s scope e ty =
    has_width s.sight ty.width e && (reads_assigned s.assigned e && is_type scope.design.design.shapes ty)

-- what a name of the body stands for
abbrev pub IsBound : View → Scope → Bound → Type 0
IsBound s scope (bound.Temp t ty) = IsTrue (is_temporary s scope t 0 ty)
IsBound s scope _ = Unit {0}

-- where an expression stands
abbrev pub IsSite : View → Site → Type 0
IsSite s site = Sees s site.scope × Each (IsBound s site.scope) site.bounds

-- each value that typing gives an expression is sound: it has the width of its type, which is 1 to 128 bits, and reads no
-- temporary that some path leaves unassigned
abbrev pub ExpressionsAreSound : Type 0
ExpressionsAreSound =
    (view : View) (site : Site) (e : Expr) (before after : Tally) (value : Ex) (ty : ValueType)
    → IsSite view site
    → operand (meaning e) site before ≡ Ok (operands.Bits value ty, after)
    → IsTrue (has_width view.sight ty.width value) × (IsTrue (is_width ty.width) × IsTrue (reads_assigned view.assigned value))
