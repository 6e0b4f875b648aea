-- The functions of the language, on the values of their arguments.
use Rattle.std.specs.Prelude.{ℕ, ℤ, pos, negsuc, Bool, true, false, not, ◌&&◌, ◌||◌, if◌then◌else◌, nat_le, List, [], ◌∷◌, length, codes, Option, Some, None, is_some, Ok, Err}
use Rattle.std.specs.List.{list_all, list_any}
use Rattle.std.specs.Str.{bytes_eq}
use Rattle.pm_design.specs.declared.connection.Callee.{Callee}
use Rattle.pm_design.specs.declared.connection.Callee.TheVariants as callee
use Rattle.pm_design.specs.declared.connection.Part.{Part}
use Rattle.pm_design.specs.declared.connection.Term.{Term}
use Rattle.pm_design.specs.declared.connection.Term.TheVariants as term
use Rattle.pm_design.specs.declared.signal.Role.{Role}
use Rattle.pm_design.specs.declared.signal.Role.TheVariants.{Input, Output, Inner}
use Rattle.pm_values.specs.declared.fault.BuildFault.TheVariants.{BadArguments, WrongKind, IntRange}
use Rattle.pm_values.specs.declared.reference.ValueType.{ValueType}
use Rattle.pm_values.specs.declared.value.Member.{Member}
use Rattle.pm_values.specs.declared.value.New.TheVariants as new
use Rattle.pm_values.specs.declared.value.Taken.TheVariants as taken
use Rattle.pm_values.specs.declared.value.Value.{Value, Value-F, out-Value}
use Rattle.pm_values.specs.declared.value.Value.TheVariants as value
use Rattle.pm_values.specs.Integers.{ceiling_log}
use Rattle.pm_elab.specs.declared.call.Given.{Given}
use Rattle.pm_elab.specs.declared.function.Function.{Function}
use Rattle.pm_elab.specs.declared.function.Function.TheVariants as function
use Rattle.pm_elab.specs.Elab.{Checked, and_then, or_else}
use Rattle.pm_elab.specs.Values.{int, list, type_in, bits_of, bits_of_width, signal_type}

-- ---- names

-- the functions of state, calls and constraints, and their names
abbrev pub later_functions : List (List ℕ × Function)
later_functions =
    (codes "deque", function.Deque)
    ∷ (codes "CallerPort", function.CallerPort)
    ∷ (codes "CalleePort", function.CalleePort)
    ∷ (codes "U", function.Block)
    ∷ (codes "RD", function.Readers)
    ∷ (codes "WR", function.Writers)
    ∷ (codes "M", function.Callers)
    ∷ []

-- the functions and their names
abbrev pub functions : List (List ℕ × Function)
functions =
    (codes "InPort", function.InPort)
    ∷ (codes "OutPort", function.OutPort)
    ∷ (codes "Wire", function.Wire)
    ∷ (codes "mk_bits", function.MakeBits)
    ∷ (codes "clog2", function.CeilingLog)
    ∷ (codes "len", function.Length)
    ∷ (codes "connect", function.Connect)
    ∷ later_functions

-- the function of a name in a list
abbrev pub function_in : List (List ℕ × Function) → List ℕ → Option Function
function_in [] name = None
function_in (f ∷ fs) name = if bytes_eq name f.0 then Some f.1 else function_in fs name

-- the function of a name
unfoldable pub function_named : List ℕ → Option Function
function_named = function_in functions

-- ---- arguments

-- no argument names its parameter
unfoldable pub are_unnamed : List Given → Bool
are_unnamed = list_all (λ g. not (is_some g.name))

-- the value of the one argument, which names no parameter
abbrev pub only_of : ℕ → List Given → Checked Value
only_of line (g ∷ []) = if is_some g.name then Err (BadArguments line) else Ok g.value
only_of line _ = Err (BadArguments line)

-- the value of the one argument, which names no parameter
unfoldable pub only : ℕ → List Given → Checked Value
only = only_of

-- the values of the two arguments, which name no parameters
abbrev pub both_of : ℕ → List Given → Checked (Value × Value)
both_of line (g ∷ h ∷ []) = if is_some g.name || is_some h.name then Err (BadArguments line) else Ok (g.value, h.value)
both_of line _ = Err (BadArguments line)

-- the values of the two arguments, which name no parameters
unfoldable pub both : ℕ → List Given → Checked (Value × Value)
both = both_of

-- the argument names the parameter
abbrev pub names : List ℕ → Option (List ℕ) → Bool
names parameter None = false
names parameter (Some name) = bytes_eq name parameter

-- the argument names the parameter
unfoldable pub is_named : List ℕ → Given → Bool
is_named parameter g = names parameter g.name

-- the value that is given for a parameter by its name
unfoldable pub value_named : List Given → List ℕ → Option Value
value_named [] parameter = None
value_named (g ∷ gs) parameter = if is_named parameter g then Some g.value else value_named gs parameter

-- each argument names one of the two parameters, and no two arguments the same
unfoldable pub name_either : List ℕ → List ℕ → List Given → Bool
name_either a b [] = true
name_either a b (g ∷ gs) =
    (is_named a g && not (list_any (is_named a) gs) || is_named b g && not (list_any (is_named b) gs)) && name_either a b gs

-- the value of the one argument, which names the parameter
abbrev pub only_named_of : ℕ → List ℕ → List Given → Checked Value
only_named_of line parameter (g ∷ []) = if is_named parameter g then Ok g.value else Err (BadArguments line)
only_named_of line parameter _ = Err (BadArguments line)

-- the value of the one argument, which names the parameter
unfoldable pub only_named : ℕ → List ℕ → List Given → Checked Value
only_named = only_named_of

-- ---- signals, types and integers

-- a new signal
abbrev pub signal_of : Role → ValueType → Checked Value
signal_of role t = Ok (value.New (new.Signal role t))

-- a new signal, by default of one bit
abbrev pub new_signal_of : Role → ℕ → List Given → Checked Value
new_signal_of role line [] = signal_of role (bits_of 1)
new_signal_of role line gs = and_then (only line gs) (λ v. and_then (signal_type line v) (signal_of role))

-- `InPort( T )` and the like
unfoldable pub new_signal : Role → ℕ → List Given → Checked Value
new_signal = new_signal_of

-- `mk_bits( n )`
unfoldable pub make_bits : ℕ → List Given → Checked Value
make_bits line gs = and_then (only line gs) (λ v. and_then (int line v) (λ n. and_then (bits_of_width line n) (λ t. Ok (value.Type t))))

-- an integer
abbrev pub number : ℕ → Checked Value
number n = Ok (value.Int (pos n))

-- `clog2( n )`
unfoldable pub ceiling_log_of : ℕ → List Given → Checked Value
ceiling_log_of line gs = and_then (only line gs) (λ v. and_then (int line v) (λ n. and_then (or_else (ceiling_log n) (IntRange line)) number))

-- how many elements the list has
unfoldable pub length_in : ℕ → Value → Checked Value
length_in line v = and_then (list line v) (λ vs. number (length vs))

-- `len( x )`
unfoldable pub length_of : ℕ → List Given → Checked Value
length_of line gs = and_then (only line gs) (length_in line)

-- ---- state and ports for calls

-- how many items a deque may hold, 1 to 64
abbrev pub maxlen_in : ℕ → ℤ → Checked Value
maxlen_in line (pos n) = if nat_le 1 n && nat_le n 64 then Ok (value.New (new.Deque n)) else Err (IntRange line)
maxlen_in line (negsuc n) = Err (IntRange line)

-- a deque by its greatest length
unfoldable pub deque_of : ℕ → ℤ → Checked Value
deque_of = maxlen_in

-- `deque( maxlen = k )`
unfoldable pub new_deque : ℕ → List Given → Checked Value
new_deque line gs = and_then (only_named line (codes "maxlen") gs) (λ v. and_then (int line v) (deque_of line))

-- a type that may be missing
abbrev pub type_if : ℕ → Option Value → Checked (Option ValueType)
type_if line None = Ok None
type_if line (Some v) = and_then (type_in line v) (λ t. Ok (Some t))

-- a type that may be given by its name
unfoldable pub type_given : ℕ → List ℕ → List Given → Checked (Option ValueType)
type_given line parameter gs = type_if line (value_named gs parameter)

-- `CallerPort( Type = T, RetType = R )`, in which each may be missing
unfoldable pub new_caller : ℕ → List Given → Checked Value
new_caller line gs =
    if name_either (codes "Type") (codes "RetType") gs
    then and_then (type_given line (codes "Type") gs)
    (λ t. and_then (type_given line (codes "RetType") gs) (λ r. Ok (value.New (new.Caller (record { argument = t; result = r })))))
    else Err (BadArguments line)

-- a method, and no port for calls
abbrev pub method_of : ℕ → Callee → Checked Value
method_of line (callee.Own m) = Ok (value.New (new.Callee (callee.Own m)))
method_of line (callee.Child k m) = Ok (value.New (new.Callee (callee.Child k m)))
method_of line _ = Err (WrongKind line)

-- a port that is another name of a method
abbrev pub callee_at : ℕ → Value-F Value Member → Checked Value
callee_at line (Value-F.Taken (taken.Method c)) = method_of line c
callee_at line _ = Err (WrongKind line)

-- a port that is another name of a method
unfoldable pub callee_of : ℕ → Value → Checked Value
callee_of line v = callee_at line (out-Value v)

-- `CalleePort( method = m )`
unfoldable pub new_callee : ℕ → List Given → Checked Value
new_callee line gs = and_then (only_named line (codes "method") gs) (callee_of line)

-- ---- terms of constraints

-- the blocks that touch a signal: of an own signal or a port of a child; a state isn't a signal
abbrev pub bits_term_at : (Part → Term) → ℕ → Value-F Value Member → Checked Value
bits_term_at blocks line (Value-F.Taken (taken.Signal r)) = Ok (value.Term (blocks r.part))
bits_term_at blocks line (Value-F.Taken (taken.State n)) = Ok (value.Term term.Wrong)
bits_term_at blocks line (Value-F.Taken taken.FarState) = Ok (value.Term term.Wrong)
bits_term_at blocks line _ = Err (WrongKind line)

-- the blocks that read a signal
unfoldable pub readers_of : ℕ → Value → Checked Value
readers_of line v = bits_term_at term.Reads line (out-Value v)

-- `RD( x )`
unfoldable pub readers_term : ℕ → List Given → Checked Value
readers_term line gs = and_then (only line gs) (readers_of line)

-- the blocks that write a signal
unfoldable pub writers_of : ℕ → Value → Checked Value
writers_of line v = bits_term_at term.Writes line (out-Value v)

-- `WR( x )`
unfoldable pub writers_term : ℕ → List Given → Checked Value
writers_term line gs = and_then (only line gs) (writers_of line)

-- the blocks that call a method
abbrev pub callers_at : ℕ → Value-F Value Member → Checked Value
callers_at line (Value-F.Taken (taken.Method c)) = Ok (value.Term (term.Calls c))
callers_at line _ = Err (WrongKind line)

-- the blocks that call a method
unfoldable pub callers_of : ℕ → Value → Checked Value
callers_of line v = callers_at line (out-Value v)

-- `M( m )`
unfoldable pub callers_term : ℕ → List Given → Checked Value
callers_term line gs = and_then (only line gs) (callers_of line)

-- ---- all functions

-- `U( .. )` of anything but the name of a block
unfoldable pub no_block : ℕ → List Given → Checked Value
no_block line gs = and_then (only line gs) (λ v. Err (WrongKind line))

-- a connection is a statement, and no value
unfoldable pub no_value : ℕ → List Given → Checked Value
no_value line gs = and_then (both line gs) (λ vs. Err (WrongKind line))

-- what a function gives for its arguments
abbrev pub called_by : Function → ℕ → List Given → Checked Value
called_by function.InPort = new_signal Input
called_by function.OutPort = new_signal Output
called_by function.Wire = new_signal Inner
called_by function.MakeBits = make_bits
called_by function.CeilingLog = ceiling_log_of
called_by function.Length = length_of
called_by function.Connect = no_value
called_by function.Deque = new_deque
called_by function.CallerPort = new_caller
called_by function.CalleePort = new_callee
called_by function.Block = no_block
called_by function.Readers = readers_term
called_by function.Writers = writers_term
called_by function.Callers = callers_term

-- what a function gives for its arguments
unfoldable pub called : Function → ℕ → List Given → Checked Value
called = called_by
