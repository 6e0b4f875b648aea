-- What may be assigned.
use Rattle.std.specs.Prelude.{ℕ, ◌==◌, Bool, true, false, not, ◌&&◌, if◌then◌else◌, List, Ok, Err}
use Rattle.std.specs.List.{list_all}
use Rattle.pm_design.specs.declared.body.Ex.{Ex}
use Rattle.pm_design.specs.declared.body.St.{St}
use Rattle.pm_design.specs.declared.body.St.TheVariants as st
use Rattle.pm_design.specs.Lookups.{is_input}
use Rattle.pm_values.specs.declared.reference.Form.{Form}
use Rattle.pm_values.specs.declared.reference.Form.TheVariants as form
use Rattle.pm_values.specs.declared.reference.Reference.{Reference}
use Rattle.pm_values.specs.declared.reference.ValueType.{ValueType}
use Rattle.pm_syn.specs.declared.statement.AssignOp.{AssignOp}
use Rattle.pm_syn.specs.declared.statement.AssignOp.TheVariants as assign
use Rattle.pm_typing.specs.declared.fault.TypeFault.TheVariants.{NotAllowedHere}
use Rattle.pm_typing.specs.declared.scope.BodySort.{BodySort}
use Rattle.pm_typing.specs.declared.scope.BodySort.TheVariants as sort
use Rattle.pm_typing.specs.Counted.{Checked}
use Rattle.pm_typing.specs.Operands.{parts_of}
use Rattle.pm_typing.specs.References.{element_type, type_of}
use Rattle.pm_typing.specs.Things as things
use Rattle.pm_typing.specs.Things.{Thing}
use Rattle.pm_types.specs.declared.targets.Target.{Target}
use Rattle.pm_types.specs.declared.targets.Target.TheVariants as target

-- bodies of this sort assign signals
abbrev pub assigns_signals : BodySort → Bool
assigns_signals sort.Method = false
assigns_signals _ = true

-- a block may assign own outputs and wires, and inputs of children
abbrev pub may_write : BodySort → Reference → Bool
may_write s r = assigns_signals s && (if r.part.owner == 0 then not (is_input r.role) else is_input r.role)

-- a block may assign all of them
unfoldable pub may_write_all : BodySort → List Reference → Bool
may_write_all s rs = list_all (may_write s) rs

-- a signal, or the element that an index chooses
abbrev pub target_at : BodySort → ℕ → Thing → Checked Target
target_at s line (things.signal r) = if may_write s r then Ok (target.Whole r) else Err (NotAllowedHere line)
target_at s line (things.pick e rs) = if may_write_all s rs then Ok (target.Picked e rs) else Err (NotAllowedHere line)
target_at s line _ = Err (NotAllowedHere line)

-- a thing that may be assigned
unfoldable pub target_of : BodySort → ℕ → Thing → Checked Target
target_of = target_at

-- the type of a target
abbrev pub target_type_at : Target → ValueType
target_type_at (target.Whole r) = type_of r
target_type_at (target.Picked e rs) = element_type rs

-- the type of a target
unfoldable pub target_type : Target → ValueType
target_type = target_type_at

-- a signal, which may be an element of a list
abbrev pub is_whole_form : Form → Bool
is_whole_form form.Whole = true
is_whole_form form.Field = false
is_whole_form form.Slice = false
is_whole_form form.Bit = false

-- a whole signal or element
abbrev pub is_whole : Reference → Bool
is_whole r = is_whole_form r.form

-- whole signals or elements alone
unfoldable pub are_whole : List Reference → Bool
are_whole rs = list_all is_whole rs

-- all of a target is whole
abbrev pub whole_at : Target → Bool
whole_at (target.Whole r) = is_whole r
whole_at (target.Picked e rs) = are_whole rs

-- a block of the clock edge
abbrev pub is_edge : BodySort → Bool
is_edge sort.Edge = true
is_edge _ = false

-- `@=` stands in all blocks but those of the clock edge, and `<<=` in those alone and for whole signals
abbrev pub suits_at : AssignOp → BodySort → Target → Bool
suits_at assign.Now s t = not (is_edge s)
suits_at assign.Next s t = is_edge s && whole_at t
suits_at _ s t = false

-- the assignment suits its block and its target
unfoldable pub suits : AssignOp → BodySort → Target → Bool
suits = suits_at

-- the statement that assigns an expression
abbrev pub set_at : Target → Ex → St
set_at (target.Whole r) e = st.Set r.part e
set_at (target.Picked i rs) e = st.SetPick i (parts_of rs) e

-- the statement that assigns an expression
unfoldable pub set_statement : Target → Ex → St
set_statement = set_at
