-- How an attribute is seen from outside the component or interface that has it.
use Rattle.std.specs.Prelude.{ℕ, ◌+◌, ◌==◌, Bool, true, false, ◌&&◌, if◌then◌else◌, List, slice_get, Option, Some, None}
use Rattle.pm_design.specs.declared.connection.Callee.{Callee}
use Rattle.pm_design.specs.declared.connection.Callee.TheVariants as callee
use Rattle.pm_design.specs.declared.design.Child.{Child}
use Rattle.pm_design.specs.declared.signal.Role.{Role}
use Rattle.pm_design.specs.declared.signal.Role.TheVariants.{Inner}
use Rattle.pm_values.specs.declared.reference.Form.TheVariants.{Whole}
use Rattle.pm_values.specs.declared.reference.Reference.{Reference}
use Rattle.pm_values.specs.declared.reference.ValueType.{ValueType}
use Rattle.pm_values.specs.declared.value.New.{New}
use Rattle.pm_values.specs.declared.value.New.TheVariants as new
use Rattle.pm_values.specs.declared.value.Taken.{Taken}
use Rattle.pm_values.specs.declared.value.Taken.TheVariants as taken
use Rattle.pm_values.specs.declared.value.Member.{Member, roll-Member}
use Rattle.pm_values.specs.declared.value.Value.{Value, Value-F, fold-Value, roll-Value}
use Rattle.pm_values.specs.declared.value.Value.TheVariants as value

-- whose attribute it is: the component's own child of a number, or one further below, and the children that it has
pub record View : Type 0 where
  pub child : Option ℕ
  pub children : List Child

-- the signal is a port
abbrev pub is_port : Role → Bool
is_port Inner = false
is_port _ = true

-- the kind of a child
unfoldable pub kind_of_child : List Child → ℕ → ℕ
kind_of_child children k = elim (slice_get children k) as (λ _. ℕ) [ Some c ↦ c.kind | None ↦ 0 ]

-- a port of an own child stays a signal, and no other signal does
abbrev pub signal_viewed : Option ℕ → Reference → Taken
signal_viewed (Some k) r =
    if r.part.owner == 0 && is_port r.role then taken.Signal (record r { part = record r.part { owner = k + 1 } }) else taken.FarSignal r
signal_viewed None r = taken.FarSignal r

-- a method or caller port of an own child can be called
abbrev pub method_viewed : Option ℕ → Callee → Taken
method_viewed (Some k) (callee.Own m) = taken.Method (callee.Child k m)
method_viewed (Some k) (callee.Port p) = taken.Method (callee.ChildPort k p)
method_viewed _ _ = taken.FarMethod

-- what an attribute has taken, as the component above sees it
abbrev pub taken_viewed : View → Taken → Taken
taken_viewed view (taken.Signal r) = signal_viewed view.child r
taken_viewed view (taken.Child k) = taken.Descendant (kind_of_child view.children k)
taken_viewed view (taken.State n) = taken.FarState
taken_viewed view (taken.Method c) = method_viewed view.child c
taken_viewed view other = other

-- a value, with what it has taken seen from above
abbrev pub viewed_of : View → Value-F Value Member → Value
viewed_of view (Value-F.Taken t) = value.Taken (taken_viewed view t)
viewed_of view other = roll-Value other

-- an attribute of another component, as the component above sees it
unfoldable pub viewed : View → Value → Value
viewed view = fold-Value Value Member (viewed_of view) roll-Member

-- ---- an interface's own members

-- a new signal, of which nothing can be said but its type
abbrev pub signal_made : Role → ValueType → Taken
signal_made role t = taken.FarSignal (record {
  part = record { owner = 0; signal = 0; lo = 0; width = t.width };
  shape = t.shape;
  role = role;
  form = Whole;
})

-- a new thing
abbrev pub new_seen : New → Value
new_seen (new.Signal role t) = value.Taken (signal_made role t)
new_seen other = value.New other

-- a member, while the interface's `construct` runs
abbrev pub member_seen_of : Value-F Value Member → Value
member_seen_of (Value-F.New n) = new_seen n
member_seen_of (Value-F.NewInterface ms) = value.Interface ms
member_seen_of other = roll-Value other

-- a member as its interface's own `construct` sees it: nothing in it is new
unfoldable pub member_seen : Value → Value
member_seen = fold-Value Value Member member_seen_of roll-Member
