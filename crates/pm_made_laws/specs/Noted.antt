-- What is noted of each kind of a design that is given.
use Rattle.std.specs.Prelude.{ℕ, ◌≡◌, ◌&&◌, Bool, true, false, nat_lt, IsTrue, List, map, length, slice_get, Option}
use Rattle.std.specs.Prelude.{Some, Ok}
use Rattle.std.specs.List.{list_all}
use Rattle.pm_design.specs.declared.body.Method.{Method}
use Rattle.pm_design.specs.declared.connection.Caller.{Caller}
use Rattle.pm_design.specs.declared.design.Design.{Design}
use Rattle.pm_design.specs.declared.design.Kind.{Kind}
use Rattle.pm_design.specs.Lookups.{lies_within, listed, signature_of}
use Rattle.pm_syn.specs.declared.statement.Node.{Node}
use Rattle.pm_values.specs.declared.reference.CallerTypes.{CallerTypes}
use Rattle.pm_values.specs.declared.reference.Reference.{Reference}
use Rattle.pm_values.specs.declared.value.Taken.{Taken}
use Rattle.pm_values.specs.declared.value.Taken.TheVariants as taken
use Rattle.pm_values.specs.declared.value.Value.{Value, Value-F, fold-Value}
use Rattle.pm_elab.specs.declared.body.MethodTypes.{MethodTypes}
use Rattle.pm_elab.specs.declared.elaboration.RawDesign.{RawDesign}
use Rattle.pm_elab.specs.declared.elaboration.RawKind.{RawKind}
use Rattle.pm_elab.specs.declared.parameter.Param.{Param}
use Rattle.pm_elab.specs.Files.{build}
use Rattle.pm_elab.specs.Placing.{width_if}
use Rattle.pm_elab.specs.Values.{member_sort}
use Rattle.pm_elab_laws.specs.Soundness.{are_good_params, declares_proper_names}
use Rattle.pm_type_laws.specs.Good.{is_type}
use Rattle.pm_typing.specs.References.{type_of}

-- a reference names bits of its signal, 1 to 128, and its type is there and as wide
abbrev pub is_reference : Design → Kind → Reference → Bool
is_reference design kind r = lies_within design kind r.part && is_type design.shapes (type_of r)

-- what an attribute has taken is there: bits of a signal, a child, a method or a caller port
abbrev pub is_taken : Design → Kind → Taken → Bool
is_taken design kind (taken.Signal r) = is_reference design kind r
is_taken design kind (taken.Child k) = nat_lt k (length kind.children)
is_taken design kind (taken.Method c) = (signature_of design kind c).there
is_taken design kind _ = true

-- a value of a component, by its elements and members
abbrev pub is_value_of : Design → Kind → Value-F Bool Bool → Bool
is_value_of design kind (Value-F.Type ty) = is_type design.shapes ty
is_value_of design kind (Value-F.Items bs) = list_all (λ b. b) bs
is_value_of design kind (Value-F.Interface bs) = list_all (λ b. b) bs
is_value_of design kind (Value-F.Taken t) = is_taken design kind t
is_value_of design kind (Value-F.New n) = false
is_value_of design kind (Value-F.NewInterface bs) = false
is_value_of design kind (Value-F.Term t) = false
is_value_of design kind (Value-F.Rule t u) = false
is_value_of design kind _ = true

-- a value that an attribute of a component may have: nothing in it is new, and what it names is there
unfoldable pub is_value : Design → Kind → Value → Bool
is_value design kind = fold-Value Bool Bool (is_value_of design kind) member_sort

-- the widths that a call hands over, and the width that it gets back
pub record Widths : Type 0 where
  pub arguments : List ℕ
  pub answer : Option ℕ

-- those of a method, as the design has it
abbrev pub method_widths : Method → Widths
method_widths m = record { arguments = m.arguments; answer = m.result }

-- those of the types that are noted of it
abbrev pub noted_method : MethodTypes → Widths
noted_method types = record { arguments = map (λ a. a.ty.width) types.arguments; answer = width_if types.result }

-- those of a caller port, as the design has it
abbrev pub caller_widths : Caller → Widths
caller_widths c = record { arguments = listed c.argument; answer = c.result }

-- those of the types that are noted of it
abbrev pub noted_caller : CallerTypes → Widths
noted_caller types = record { arguments = listed (width_if types.argument); answer = width_if types.result }

-- a kind's attributes name what is there, and the types of its methods and caller ports have the widths that it says
pub record IsNoted (design : Design) (kind : Kind) (raw : RawKind) : Type 0 where
  pub attributes : IsTrue (list_all (λ a. is_value design kind a.1) raw.attributes)
  pub methods : map method_widths kind.methods ≡ map noted_method raw.methods
  pub callers : map caller_widths kind.callers ≡ map noted_caller raw.callers

-- so is every kind of a design that is given
abbrev pub KindsAreNoted : Type 0
KindsAreNoted =
    (nodes : List Node) (name : List ℕ) (params : List Param) (given : RawDesign)
    → IsTrue (declares_proper_names nodes)
    → IsTrue (are_good_params params)
    → build nodes name params ≡ Ok given
    → (k : ℕ) (kind : Kind) (raw : RawKind)
    → slice_get given.design.kinds k ≡ Some kind
    → slice_get given.kinds k ≡ Some raw
    → IsNoted given.design kind raw
