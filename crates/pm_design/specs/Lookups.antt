-- What the numbers of a design name.
use Rattle.std.specs.Prelude.{ℕ, zero, suc, ◌+◌, ◌==◌, ◌&&◌, ◌||◌, Bool, true, false, not, nat_lt, nat_le, if◌then◌else◌, List, [], ◌∷◌, length, slice_index_or, Option, None, Some}
use Rattle.pm_design.specs.declared.body.Method.{Method}
use Rattle.pm_design.specs.declared.connection.Callee.{Callee}
use Rattle.pm_design.specs.declared.connection.Callee.TheVariants as callee
use Rattle.pm_design.specs.declared.connection.Caller.{Caller}
use Rattle.pm_design.specs.declared.connection.Part.{Part}
use Rattle.pm_design.specs.declared.design.Child.{Child}
use Rattle.pm_design.specs.declared.design.Design.{Design}
use Rattle.pm_design.specs.declared.design.Kind.{Kind}
use Rattle.pm_design.specs.declared.signal.Role.{Role}
use Rattle.pm_design.specs.declared.signal.Role.TheVariants as role
use Rattle.pm_design.specs.declared.signal.Signal.{Signal}

-- a kind with nothing in it
abbrev pub no_kind : Kind
no_kind = record {
  class = [];
  signals = [];
  states = [];
  children = [];
  methods = [];
  callers = [];
  joins = [];
  mismatched = [];
  ties = [];
  binds = [];
  blocks = [];
  rules = [];
  instances = 0;
}

-- the kind of a number, and one with nothing in it past the end
abbrev pub kind_of : Design → ℕ → Kind
kind_of design k = slice_index_or design.kinds k no_kind

-- a child that is nowhere
abbrev pub no_child : List Kind → Child
no_child kinds = record { name = []; kind = length kinds; line = 0 }

-- the kind of a kind's child, and one with nothing in it past the end
abbrev pub child_kind_of : Design → Kind → ℕ → Kind
child_kind_of design kind child = kind_of design (slice_index_or kind.children child (no_child design.kinds)).kind

-- the kind whose signals a part may name: 0 for the component itself, k + 1 for its child k
abbrev pub owner_kind_of : Design → Kind → ℕ → Kind
owner_kind_of design kind zero = kind
owner_kind_of design kind (suc child) = child_kind_of design kind child

-- a signal without bits
abbrev pub no_signal : Signal
no_signal = record { name = []; role = role.Inner; width = 0; shape = None }

-- the signal that a part names, and one without bits if there is none
abbrev pub signal_of : Design → Kind → Part → Signal
signal_of design kind part = slice_index_or (owner_kind_of design kind part.owner).signals part.signal no_signal

-- a part has a bit, and its bits are bits of its signal
abbrev pub lies_within : Design → Kind → Part → Bool
lies_within design kind part = nat_lt 0 part.width && nat_le (part.lo + part.width) (signal_of design kind part).width

-- all bits of a signal
abbrev pub is_whole : Design → Kind → Part → Bool
is_whole design kind part = part.lo == 0 && part.width == (signal_of design kind part).width

-- an input
abbrev pub is_input : Role → Bool
is_input role.Input = true
is_input role.Output = false
is_input role.Inner = false

-- an input or an output
abbrev pub is_port : Role → Bool
is_port role.Input = true
is_port role.Output = true
is_port role.Inner = false

-- a part that a component may read: of any own signal, or of a child's port
abbrev pub is_readable : Design → Kind → Part → Bool
is_readable design kind part =
    lies_within design kind part && (part.owner == 0 || is_port (signal_of design kind part).role)

-- a part that a component may write: of an own output or wire, or of a child's input
abbrev pub is_writable : Design → Kind → Part → Bool
is_writable design kind part =
    let to_input = is_input (signal_of design kind part).role in
    lies_within design kind part && (if part.owner == 0 then not to_input else to_input)

-- how a method is called, if there is one: the widths of its arguments and of its answer, if any
pub record Signature : Type 0 where
  pub there : Bool
  pub arguments : List ℕ
  pub answer : Option ℕ

-- the signature of what isn't there
abbrev pub no_signature : Signature
no_signature = record { there = false; arguments = []; answer = None }

-- the signature of a method of a list
abbrev pub method_signature : List Method → ℕ → Signature
method_signature [] m = no_signature
method_signature (method ∷ methods) zero = record { there = true; arguments = method.arguments; answer = method.result }
method_signature (method ∷ methods) (suc m) = method_signature methods m

-- the width in a list, if there is one
abbrev pub listed : Option ℕ → List ℕ
listed None = []
listed (Some width) = width ∷ []

-- the signature of a caller port of a list
abbrev pub caller_signature : List Caller → ℕ → Signature
caller_signature [] p = no_signature
caller_signature (caller ∷ callers) zero = record { there = true; arguments = listed caller.argument; answer = caller.result }
caller_signature (caller ∷ callers) (suc p) = caller_signature callers p

-- the signature of what a call names
abbrev pub signature_of : Design → Kind → Callee → Signature
signature_of design kind (callee.Own m) = method_signature kind.methods m
signature_of design kind (callee.Child c m) = method_signature (child_kind_of design kind c).methods m
signature_of design kind (callee.Port p) = caller_signature kind.callers p
signature_of design kind (callee.ChildPort c p) = caller_signature (child_kind_of design kind c).callers p
