-- What elaboration gives: a design whose numbers, widths and names are as they must be.
use Rattle.std.specs.Prelude.{ℕ, ◌+◌, ◌^◌, ◌==◌, ◌<◌, ◌≤◌, ◌≡◌, ◌&&◌, ◌||◌, Bool, true, not, nat_lt, nat_le, IsTrue, List, ◌++◌, length, map, drop, slice_index_or, codes, bytes_eq, Option, None, Some}
use Rattle.std.specs.List.{list_all, All}
use Rattle.std.specs.Option.{option_eq}
use Rattle.std.specs.Prelude.{nat_eq}
use Rattle.pm_syn.specs.Names.{is_proper_name}
use Rattle.pm_design.specs.declared.body.Method.{Method}
use Rattle.pm_design.specs.declared.connection.Bind.{Bind}
use Rattle.pm_design.specs.declared.connection.Caller.{Caller}
use Rattle.pm_design.specs.declared.connection.Join.{Join}
use Rattle.pm_design.specs.declared.connection.Term.{Term}
use Rattle.pm_design.specs.declared.connection.Term.TheVariants as term
use Rattle.pm_design.specs.declared.design.Child.{Child}
use Rattle.pm_design.specs.declared.design.Design.{Design}
use Rattle.pm_design.specs.declared.design.Kind.{Kind}
use Rattle.pm_design.specs.declared.design.State.{State}
use Rattle.pm_design.specs.declared.signal.Shape.{Shape}
use Rattle.pm_design.specs.declared.signal.Signal.{Signal}
use Rattle.pm_design.specs.Lookups.{kind_of, no_signal, is_input, lies_within, Signature, signature_of}
use Rattle.pm_design.specs.Names.{IsMemberName, all_apart, all_differ, avoids}
use Rattle.pm_design.specs.Widths.{total, is_width}

-- a width that may be left out
abbrev pub is_width_or_none : Option ℕ → Bool
is_width_or_none None = true
is_width_or_none (Some width) = is_width width

-- a bitstruct that is there, or none
abbrev pub is_shape_or_none : Design → Option ℕ → Bool
is_shape_or_none design None = true
is_shape_or_none design (Some shape) = nat_lt shape (length design.shapes)

-- a bitstruct with fields of good widths
abbrev pub is_good_shape : Design → Shape → Bool
is_good_shape design shape =
    is_width shape.width && list_all (λ f. is_width f.width && is_shape_or_none design f.shape) shape.fields

-- a signal of a good width
abbrev pub is_good_signal : Design → Signal → Bool
is_good_signal design signal = is_width signal.width && is_shape_or_none design signal.shape

-- a state of a good width: a deque of at most 64 items, or a number whose start has its width
abbrev pub is_good_state : State → Bool
is_good_state state =
    is_width state.width && (nat_le state.maxlen 64 && (nat_lt 0 state.maxlen || state.start.width == state.width))

-- a method of good widths
abbrev pub is_good_method : Method → Bool
is_good_method method = list_all is_width method.arguments && (is_width_or_none method.result && list_all is_width method.temps)

-- a caller port of good widths
abbrev pub is_good_caller : Caller → Bool
is_good_caller caller = is_width_or_none caller.argument && is_width_or_none caller.result

-- a connection of two parts that are there, of one width if of one type
abbrev pub is_good_join : Design → Kind → Join → Bool
is_good_join design kind join =
    lies_within design kind join.a && (lies_within design kind join.b && (not join.equal_types || join.a.width == join.b.width))

-- two signatures with the same widths
abbrev pub are_alike : Signature → Signature → Bool
are_alike a b = bytes_eq a.arguments b.arguments && option_eq nat_eq a.answer b.answer

-- a connection of two ports or methods that are there, of the same widths if of the same types
abbrev pub is_good_bind : Design → Kind → Bind → Bool
is_good_bind design kind bind =
    let a = signature_of design kind bind.a in
    let b = signature_of design kind bind.b in
    a.there && (b.there && (not bind.equal_types || are_alike a b))

-- a term of a constraint that names what is there
abbrev pub is_good_term : Design → Kind → Term → Bool
is_good_term design kind (term.Block b) = nat_lt b (length kind.blocks)
is_good_term design kind (term.Reads part) = lies_within design kind part
is_good_term design kind (term.Writes part) = lies_within design kind part
is_good_term design kind (term.Calls callee) = (signature_of design kind callee).there
is_good_term design kind term.Wrong = true

-- the one-bit input `reset`
abbrev pub is_reset : Signal → Bool
is_reset signal = bytes_eq signal.name (codes "reset") && (signal.width == 1 && is_input signal.role)

-- a child whose kind stands before a kind
abbrev pub is_before : ℕ → Child → Bool
is_before index child = nat_lt child.kind index

-- the names of a kind's signals, then those of its children
abbrev pub member_names : Kind → List (List ℕ)
member_names kind = map (λ s. s.name) kind.signals ++ map (λ c. c.name) kind.children

-- the names within a kind
pub record IsWellNamed (kind : Kind) : Type 0 where
  pub class : IsTrue (is_proper_name kind.class)
  pub blocks : IsTrue (list_all (λ b. is_proper_name b.name) kind.blocks)
  pub blocks_differ : IsTrue (all_differ (map (λ b. b.name) kind.blocks))
  pub members : All IsMemberName (member_names kind)
  pub members_apart : IsTrue (all_apart (member_names kind))
  pub no_clock : IsTrue (list_all (avoids (codes "clk")) (member_names kind))
  pub one_reset : IsTrue (list_all (avoids (codes "reset")) (drop 1 (member_names kind)))

-- the sizes of a kind's lists, and how many instances a component of it has
pub record IsWellSized (design : Design) (kind : Kind) : Type 0 where
  pub signals : length kind.signals ≤ 2 ^ 21
  pub states : length kind.states ≤ 2 ^ 20
  pub blocks : length kind.blocks ≤ 2 ^ 20
  pub instances : kind.instances ≡ 1 + total (map (λ c. (kind_of design c.kind).instances) kind.children)
  pub few_instances : kind.instances ≤ 4096

-- a kind, but for its bodies
pub record IsElaboratedKind (design : Design) (index : ℕ) (kind : Kind) : Type 0 where
  pub named : IsWellNamed kind
  pub sized : IsWellSized design kind
  pub reset : IsTrue (is_reset (slice_index_or kind.signals 0 no_signal))
  pub signals : IsTrue (list_all (is_good_signal design) kind.signals)
  pub states : IsTrue (list_all is_good_state kind.states)
  pub children : IsTrue (list_all (is_before index) kind.children)
  pub methods : IsTrue (list_all is_good_method kind.methods)
  pub callers : IsTrue (list_all is_good_caller kind.callers)
  pub joins : IsTrue (list_all (is_good_join design kind) kind.joins)
  pub ties : IsTrue (list_all (λ t. lies_within design kind t.part) kind.ties)
  pub binds : IsTrue (list_all (is_good_bind design kind) kind.binds)
  pub blocks : IsTrue (list_all (λ b. list_all is_width b.temps) kind.blocks)
  pub rules : IsTrue (list_all (λ r. is_good_term design kind r.before && is_good_term design kind r.after) kind.rules)

-- a design, but for its bodies
pub record IsElaborated (design : Design) : Type 0 where
  pub top : design.top < length design.kinds
  pub shapes : IsTrue (list_all (is_good_shape design) design.shapes)
  pub kinds : (k : ℕ) → k < length design.kinds → IsElaboratedKind design k (kind_of design k)
