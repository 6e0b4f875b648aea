-- What the call of a class makes: a kind of component, or an interface.
use Rattle.std.specs.Prelude.{ℕ, zero, suc, ◌+◌, Bool, false, ◌&&◌, if◌then◌else◌, List, [], ◌∷◌, ◌++◌, map, length, codes, Option, Some, None, Ok, Err}
use Rattle.std.specs.Str.{bytes_eq}
use Rattle.pm_design.specs.declared.design.Kind.{Kind}
use Rattle.pm_design.specs.declared.signal.Role.TheVariants.{Input}
use Rattle.pm_design.specs.declared.signal.Signal.{Signal}
use Rattle.pm_syn.specs.declared.statement.Par.{Par}
use Rattle.pm_values.specs.declared.fault.BuildFault.TheVariants.{WrongKind, BuildDepth}
use Rattle.pm_values.specs.declared.value.Member.{Member}
use Rattle.pm_values.specs.declared.value.New.TheVariants as new
use Rattle.pm_values.specs.declared.value.Taken.TheVariants as taken
use Rattle.pm_values.specs.declared.value.Value.{Value}
use Rattle.pm_values.specs.declared.value.Value.TheVariants as value
use Rattle.pm_values.specs.Tables.{Names, put}
use Rattle.pm_elab.specs.declared.call.Given.{Given}
use Rattle.pm_elab.specs.declared.class.ConstructedClass.{ConstructedClass}
use Rattle.pm_elab.specs.declared.class.ConstructedClass.TheVariants as class
use Rattle.pm_elab.specs.declared.elaboration.MadeKind.{MadeKind}
use Rattle.pm_elab.specs.declared.elaboration.RawKind.{RawKind}
use Rattle.pm_elab.specs.declared.frame.Frame.{Frame}
use Rattle.pm_elab.specs.declared.frame.Local.{Local}
use Rattle.pm_elab.specs.Captures.{captured}
use Rattle.pm_elab.specs.Classes.{Class, Construct, class_named, construct_in, arguments, fitted}
use Rattle.pm_elab.specs.Elab.{Checked, and_then, Elab, ◌>>=◌, ◌>>◌, pure, fail, lift}
use Rattle.pm_elab.specs.Equality.{same_arguments}
use Rattle.pm_elab.specs.Expressions.{Make}
use Rattle.pm_elab.specs.Methods.{headers}
use Rattle.pm_elab.specs.Placing.{whole_signal}
use Rattle.pm_elab.specs.Sites.{Scope, Site}
use Rattle.pm_elab.specs.Statements.{run, body}
use Rattle.pm_elab.specs.Values.{bits_of}

-- ---- kinds made so far

-- the kind is of the class, at equal arguments
unfoldable pub is_kind_of : List ℕ → List Value → MadeKind → Bool
is_kind_of class vs k = bytes_eq k.kind.class class && same_arguments k.arguments vs

-- the number of the first such kind, where so many stand before
abbrev pub kind_from : ℕ → List MadeKind → List ℕ → List Value → Option ℕ
kind_from n [] class vs = None
kind_from n (k ∷ ks) class vs = if is_kind_of class vs k then Some n else kind_from (n + 1) ks class vs

-- the kind that was made of the class at equal arguments
unfoldable pub kind_made : List MadeKind → List ℕ → List Value → Option ℕ
kind_made kinds class vs = kind_from 0 kinds class vs

-- ---- frames

-- names of parameters and their values
abbrev pub locals_from : Names Local → List Par → List Value → Names Local
locals_from names (p ∷ ps) (v ∷ vs) = locals_from (put names p.name (record { value = v; reassigned = false })) ps vs
locals_from names _ _ = names

-- nothing but a name
abbrev pub empty_kind : List ℕ → List Signal → Kind
empty_kind class signals = record {
  class = class;
  signals = signals;
  states = [];
  children = [];
  methods = [];
  callers = [];
  joins = [];
  mismatched = [];
  ties = [];
  binds = [];
  blocks = [];
  rules = [];
  instances = 1;
}

-- nothing but names
abbrev pub empty_raw : Names Local → Names Value → RawKind
empty_raw locals attributes = record {
  locals = locals;
  attributes = attributes;
  states = [];
  methods = [];
  callers = [];
  bodies = [];
}

-- `reset` is the first signal of every component
abbrev pub reset_signals : List Signal
reset_signals = record { name = codes "reset"; role = Input; width = 1; shape = None } ∷ []

-- `reset` is the first attribute of every component
abbrev pub reset_attributes : Names Value
reset_attributes = (codes "reset", value.Taken (taken.Signal (whole_signal 0 Input (bits_of 1)))) ∷ []

-- a component before its first statement
unfoldable pub component_start : List ℕ → List Par → List Value → Frame
component_start name ps vs = record {
  class = class.Component;
  kind = empty_kind name reset_signals;
  raw = empty_raw (locals_from [] ps vs) reset_attributes;
  lambdas = 0;
}

-- an interface before its first statement
unfoldable pub interface_start : List ℕ → List Par → List Value → Frame
interface_start name ps vs = record {
  class = class.Interface;
  kind = empty_kind name [];
  raw = empty_raw (locals_from [] ps vs) [];
  lambdas = 0;
}

-- ---- runs of `construct`

-- the body of a `construct`
unfoldable pub construct_body : Make → Scope → Construct → Frame → Elab Frame
construct_body make file c f = body make file c.after (map (run make file) c.body) c.line f

-- the kind of a component, behind those that were made before
unfoldable pub keep : List Value → Frame → Elab ℕ
keep vs f = λ m. Ok (length m.kinds, record m { kinds = m.kinds ++ record { arguments = vs; kind = f.kind; raw = f.raw } ∷ [] })

-- no lambda reads a name that was assigned more than once
unfoldable pub finished : List Value → Frame → Elab ℕ
finished vs f = lift (captured f) >> keep vs f

-- a component: the headers of its methods, then `construct`
unfoldable pub component : Make → Make → Scope → List ℕ → Class → List Value → Elab ℕ
component outer inner file name c vs =
    headers outer file c.lines (component_start name (construct_in c.lines).parameters vs)
    >>= (λ f. construct_body inner file (construct_in c.lines) f)
    >>= (λ f. finished vs f)

-- the members of an interface
unfoldable pub members_of : Names Value → List Member
members_of = map (λ p. record { name = p.0; value = p.1 })

-- an interface
unfoldable pub interface : Make → Scope → List ℕ → Class → List Value → Elab Value
interface inner file name c vs =
    construct_body inner file (construct_in c.lines) (interface_start name (construct_in c.lines).parameters vs)
    >>= (λ f. pure (value.NewInterface (members_of f.raw.attributes)))

-- ---- calls of classes

-- a class at the values of its parameters
abbrev pub Made : Type 0
Made = Scope → List ℕ → Class → List Value → ℕ → Elab Value

-- no `construct` may be nested here
unfoldable pub too_deep : Made
too_deep file name c vs line = fail (BuildDepth line)

-- the kind of a component that is made now
abbrev pub new_child : ℕ → Elab Value
new_child k = pure (value.New (new.Child k))

-- a `construct` that runs: of a component or of an interface
abbrev pub constructed_by : Make → Make → ConstructedClass → Scope → List ℕ → Class → List Value → Elab Value
constructed_by outer inner class.Component file name c vs = component outer inner file name c vs >>= new_child
constructed_by outer inner class.Interface file name c vs = interface inner file name c vs

-- a `construct` that runs, in which calls of classes do what `inner` says
unfoldable pub constructed : Make → Make → Made
constructed outer inner file name c vs line = constructed_by outer inner c.class file name c vs

-- a component of equal arguments is made once; an interface is made each time
abbrev pub made_already : ConstructedClass → Option ℕ → Option ℕ
made_already class.Component k = k
made_already class.Interface k = None

-- the kind that was made already, or else what is made now
abbrev pub made_or : Option ℕ → Elab Value → Elab Value
made_or (Some k) other = new_child k
made_or None other = other

-- a class at the values of its parameters
unfoldable pub made_with : Made → Made
made_with made file name c vs line = λ m. made_or (made_already c.class (kind_made m.kinds name vs)) (made file name c vs line) m

-- a class of the file, or none
abbrev pub class_call_by : Option Class → (Class → Elab Value) → ℕ → Elab Value
class_call_by None call line = fail (WrongKind line)
class_call_by (Some c) call line = call c

-- the fault of a call outside of any `construct`: the arguments don't fit, or nothing is made there
abbrev pub refused : ℕ → List Given → Class → Checked Value
refused line gs c = and_then (fitted line gs (construct_in c.lines).parameters) (λ _. Err (WrongKind line))

-- outside of any `construct` nothing is made
abbrev pub refused_at : ℕ → List Given → Class → Elab Value
refused_at line gs c = lift (refused line gs c)

-- outside of any `construct` nothing is made
unfoldable pub refuse : Make
refuse site name gs = class_call_by (class_named site.file.nodes name) (refused_at site.line gs) site.line

-- the call of a class: the values of its parameters, then what it makes
abbrev pub made_by : Made → Site → List ℕ → List Given → Class → Elab Value
made_by made site name gs c =
    arguments refuse site.file (construct_in c.lines) gs site.line >>= (λ vs. made_with made site.file name c vs site.line)

-- the call of a class
unfoldable pub make_by : Made → Make
make_by made site name gs = class_call_by (class_named site.file.nodes name) (made_by made site name gs) site.line

-- the call of a class, where so many more constructs may be nested
unfoldable pub make_to : ℕ → Make
make_to zero = make_by too_deep
make_to (suc n) = make_by (constructed refuse (make_to n))

-- the call of a class: outside of any `construct`, or where so many more may be nested
unfoldable pub make_at : Option ℕ → Make
make_at None = refuse
make_at (Some n) = make_to n
