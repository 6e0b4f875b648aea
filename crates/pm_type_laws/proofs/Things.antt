-- What a thing is as: each form of thing as typing must have it.
use Rattle.std.proofs.Common.{◌^◌, ◌&&◌, ◌<◌, ◌≤◌, ℕ, Bool, List, length}
use Rattle.std.specs.Prelude.{IsTrue, nat_lt}
use Rattle.std.specs.List.{list_all}
use Rattle.pm_design.specs.declared.body.Ex.{Ex}
use Rattle.pm_design.specs.Settings.{reads_assigned}
use Rattle.pm_design.specs.Typing.{typing}
use Rattle.pm_values.specs.declared.reference.Reference.{Reference}
use Rattle.pm_typing.specs.declared.operand.Operand.{Operand}
use Rattle.pm_typing.specs.declared.operand.Operand.TheVariants as operands
use Rattle.pm_typing.specs.Names.{most_items}
use Rattle.pm_typing.specs.Operands.{Typed, same_type}
use Rattle.pm_typing.specs.References.{element_type, type_of}
use Rattle.pm_typing.specs.Sites.{Scope}
use Rattle.pm_typing.specs.Things as things
use Rattle.pm_typing.specs.Things.{Thing}
use Rattle.pm_type_laws.specs.Good.{is_type, is_constant, is_reference, is_state, is_value}
use Rattle.pm_type_laws.specs.Views.{View, is_temporary, is_typed}

-- references of one type among which an index chooses
abbrev pub are_elements : Scope → List Reference → Bool
are_elements scope rs = list_all (λ r. is_reference scope r && same_type (type_of r) (element_type rs)) rs

-- an index and what it chooses among
pub record IsPick (s : View) (scope : Scope) (e : Ex) (rs : List Reference) : Type 0 where
  pub fine : IsTrue (typing s.sight e).fine
  pub reads : IsTrue (reads_assigned s.assigned e)
  pub some : 0 < length rs
  pub reach : length rs ≤ 2 ^ (typing s.sight e).width
  pub elements : IsTrue (are_elements scope rs)

-- a deque
abbrev pub is_deque : Scope → ℕ → Bool
is_deque scope k = is_state scope k && nat_lt 0 (most_items scope k)

-- a thing
abbrev pub IsThing : View → Scope → Thing → Type 0
IsThing s scope (things.of_type ty) = IsTrue (is_type scope.design.design.shapes ty)
IsThing s scope (things.constant w) = IsTrue (is_constant w)
IsThing s scope (things.items whose vs) = IsTrue (list_all (is_value scope whose) vs)
IsThing s scope (things.members whose ms) = IsTrue (list_all (λ m. is_value scope whose m.value) ms)
IsThing s scope (things.signal r) = IsTrue (is_reference scope r)
IsThing s scope (things.temporary t lo ty) = IsTrue (is_temporary s scope t lo ty)
IsThing s scope (things.pick e rs) = IsPick s scope e rs
IsThing s scope (things.state k) = IsTrue (is_state scope k)
IsThing s scope (things.method c) = IsTrue (s.sight.calls c).there
IsThing s scope (things.child k) = IsTrue (nat_lt k (length scope.kind.children))
IsThing s scope (things.change k c) = IsTrue (is_deque scope k)
IsThing s scope (things.ready c) = IsTrue (s.sight.calls c).there
IsThing s scope (things.value e ty) = IsTrue (is_typed s scope e ty)
IsThing s scope _ = Unit {0}

-- a value of an expression
abbrev pub IsOperand : View → Scope → Operand → Type 0
IsOperand s scope (operands.Int n) = Unit {0}
IsOperand s scope (operands.Bits e ty) = IsTrue (is_typed s scope e ty)

-- an expression with its type
abbrev pub IsTyped : View → Scope → Typed → Type 0
IsTyped s scope e = IsTrue (is_typed s scope e.expression e.ty)
