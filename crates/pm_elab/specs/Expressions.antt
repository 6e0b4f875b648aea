-- What an expression gives, by its tree: operands from left to right, and the first fault.
use Rattle.std.specs.Prelude.{ℕ, ◌+◌, ◌^◌, ℤ, pos, Bool, true, false, not, if◌then◌else◌, nat_lt, List, [], ◌∷◌, ◌++◌, Option, Some, None, is_some, Ok, Err}
use Rattle.std.specs.Str.{bytes_eq}
use Rattle.pm_design.specs.declared.body.Block.{Block}
use Rattle.pm_design.specs.declared.body.BlockSort.{BlockSort}
use Rattle.pm_design.specs.declared.body.BlockSort.TheVariants as sort
use Rattle.pm_design.specs.declared.connection.Term.{Term}
use Rattle.pm_design.specs.declared.connection.Term.TheVariants as term
use Rattle.pm_syn.specs.declared.expression.Arg.{Arg, Arg-F, fold-Arg}
use Rattle.pm_syn.specs.declared.expression.BinaryOp.{BinaryOp}
use Rattle.pm_syn.specs.declared.expression.BinaryOp.TheVariants as op
use Rattle.pm_syn.specs.declared.expression.Expr.{Expr, Expr-F, fold-Expr}
use Rattle.pm_syn.specs.declared.expression.UnaryOp.{UnaryOp}
use Rattle.pm_values.specs.declared.fault.BuildFault.TheVariants.{BadArguments, Unbound, WrongKind, IntRange}
use Rattle.pm_values.specs.declared.value.Member.{Member}
use Rattle.pm_values.specs.declared.value.Value.{Value, Value-F, out-Value}
use Rattle.pm_values.specs.declared.value.Value.TheVariants as value
use Rattle.pm_values.specs.Integers.{is_zero, operated, applied, truth}
use Rattle.pm_values.specs.Ranges.{range_list}
use Rattle.pm_elab.specs.declared.call.Called.{Called}
use Rattle.pm_elab.specs.declared.call.Called.TheVariants as calls
use Rattle.pm_elab.specs.declared.call.Given.{Given}
use Rattle.pm_elab.specs.declared.frame.Frame.{Frame}
use Rattle.pm_elab.specs.declared.function.Function.{Function}
use Rattle.pm_elab.specs.declared.function.Function.TheVariants as function
use Rattle.pm_elab.specs.Attributes.{attribute, indexable, sliceable, element, slice}
use Rattle.pm_elab.specs.Elab.{Checked, and_then, or_else, Elab, ◌>>=◌, ◌>>◌, pure, fail, lift, reading, step}
use Rattle.pm_elab.specs.Functions.{called, function_named, only}
use Rattle.pm_elab.specs.Sites.{Site, named, with_turn}
use Rattle.pm_elab.specs.Values.{int, constant, literal_constant}

-- what the call of a class does at a place, by the class's name and the arguments
abbrev pub Make : Type 0
Make = Site → List ℕ → List Given → Elab Value

-- an expression: its name if it is a name alone, its number if it is a literal alone, and what it gives at a place
pub record Meaning : Type 0 where
  pub name : Option (List ℕ)
  pub literal : Option ℕ
  pub value : Site → Elab Value

-- an argument of a call, before it has a value
pub record Passed : Type 0 where
  pub parameter : Option (List ℕ)
  pub meaning : Meaning

-- an expression that is neither a name nor a literal
abbrev pub compound : (Site → Elab Value) → Meaning
compound f = record { name = None; literal = None; value = f }

-- the integer that an expression gives
abbrev pub int_of : Meaning → Site → Elab ℤ
int_of e site = e.value site >>= (λ v. lift (int site.line v))

-- ---- names and literals

-- what a name gives
unfoldable pub name_value : List ℕ → Site → Elab Value
name_value name site = lift (or_else (named site name) (Unbound site.line))

-- a literal has at most 63 bits
unfoldable pub literal : ℕ → ℕ → Checked Value
literal line n = if nat_lt n (2 ^ 63) then Ok (value.Int (pos n)) else Err (IntRange line)

-- ---- operators

-- an integer, or else the fault of a result that is out of range
abbrev pub integer_or : ℕ → Option ℤ → Checked Value
integer_or line n = and_then (or_else n (IntRange line)) (λ k. Ok (value.Int k))

-- `-e`, `+e`, `~e` and `not e`
unfoldable pub unary : UnaryOp → Meaning → Site → Elab Value
unary o e site = int_of e site >>= (λ n. lift (integer_or site.line (applied o n)))

-- the first operand settles `or` and `and`
unfoldable pub settles : BinaryOp → ℤ → Bool
settles op.Or a = not (is_zero a)
settles op.And a = is_zero a
settles _ a = false

-- an operator on integers; the second operand runs only where the first doesn't settle the result
unfoldable pub int_operation : BinaryOp → Value → Meaning → Site → Elab Value
int_operation o v right site =
    lift (int site.line v) >>= (λ a. if settles o a then pure (value.Int a)
    else (int_of right site >>= (λ b. lift (integer_or site.line (operated o a b)))))

-- the term
abbrev pub term_at : Value-F Value Member → Option Term
term_at (Value-F.Term t) = Some t
term_at _ = None

-- the term of a constraint that a value is
unfoldable pub term_in : Value → Option Term
term_in v = term_at (out-Value v)

-- a constraint of two terms, by `<` or `>`
abbrev pub rule_by : ℕ → BinaryOp → Term → Option Term → Checked Value
rule_by line op.Lt t (Some u) = Ok (value.Rule t u)
rule_by line op.Gt t (Some u) = Ok (value.Rule u t)
rule_by line _ t _ = Err (WrongKind line)

-- a constraint of two terms
unfoldable pub rule : ℕ → BinaryOp → Term → Value → Checked Value
rule line o t v = rule_by line o t (term_in v)

-- terms are compared by `<` and `>` alone
unfoldable pub orders : BinaryOp → Bool
orders op.Lt = true
orders op.Gt = true
orders _ = false

-- a comparison of a term with what stands right of it
unfoldable pub comparison : BinaryOp → Term → Meaning → Site → Elab Value
comparison o t right site = if orders o then right.value site >>= (λ v. lift (rule site.line o t v)) else fail (WrongKind site.line)

-- an operator, once its left operand is a term, or else an integer
abbrev pub operation_by : Option Term → BinaryOp → Value → Meaning → Site → Elab Value
operation_by (Some t) o v right site = comparison o t right site
operation_by None o v right site = int_operation o v right site

-- an operator, once its left operand has a value
unfoldable pub operation_on : BinaryOp → Value → Meaning → Site → Elab Value
operation_on o v right site = operation_by (term_in v) o v right site

-- an operator
unfoldable pub operation : BinaryOp → Meaning → Meaning → Site → Elab Value
operation o left right site = left.value site >>= (λ v. operation_on o v right site)

-- `a if c else b` runs one of a and b
unfoldable pub choice : Meaning → Meaning → Meaning → Site → Elab Value
choice this c other site = int_of c site >>= (λ n. if is_zero n then other.value site else this.value site)

-- ---- attributes, elements and slices

-- `e.name`
unfoldable pub attribute_of : Meaning → List ℕ → Site → Elab Value
attribute_of e name site = e.value site >>= (λ v. reading (λ m. attribute m site name v))

-- an element, once the value has elements
unfoldable pub element_of : Value → Meaning → Site → Elab Value
element_of v i site = lift (indexable site.line v) >> int_of i site >>= (λ k. lift (element site.line v k))

-- `e[i]`
unfoldable pub index : Meaning → Meaning → Site → Elab Value
index e i site = e.value site >>= (λ v. element_of v i site)

-- the bounds of a slice
unfoldable pub bounds : Meaning → Meaning → Site → Elab (ℤ × ℤ)
bounds lo hi site = int_of lo site >>= (λ a. int_of hi site >>= (λ b. pure (a, b)))

-- a slice, once the value has slices
unfoldable pub slice_of : Value → Meaning → Meaning → Site → Elab Value
slice_of v lo hi site = lift (sliceable site.line v) >> bounds lo hi site >>= (λ b. lift (slice site.line v b.0 b.1))

-- `e[lo:hi]`
unfoldable pub slice_expression : Meaning → Meaning → Meaning → Site → Elab Value
slice_expression e lo hi site = e.value site >>= (λ v. slice_of v lo hi site)

-- ---- lists

-- the elements of a list from left to right, behind those that stand; each costs a step
unfoldable pub items_from : List Value → List Meaning → Site → Elab (List Value)
items_from done [] site = pure done
items_from done (e ∷ es) site = (step site.line >> e.value site) >>= (λ v. items_from (done ++ v ∷ []) es site)

-- `[ a, b, .. ]`
unfoldable pub items : List Meaning → Site → Elab Value
items es site = items_from [] es site >>= (λ vs. pure (value.Items vs))

-- integers from left to right, behind those that stand
unfoldable pub ints_from : List ℤ → List Meaning → Site → Elab (List ℤ)
ints_from done [] site = pure done
ints_from done (e ∷ es) site = int_of e site >>= (λ n. ints_from (done ++ n ∷ []) es site)

-- the integers from the start to the stop by the step, which isn't 0
abbrev pub range_by : ℕ → ℤ → ℤ → ℤ → Checked (List ℤ)
range_by line start stop by = if is_zero by then Err (IntRange line) else Ok (range_list start stop by)

-- `range( .. )` of one to three integers
abbrev pub range_at : ℕ → List ℤ → Checked (List ℤ)
range_at line (stop ∷ []) = range_by line (pos 0) stop (pos 1)
range_at line (start ∷ stop ∷ []) = range_by line start stop (pos 1)
range_at line (start ∷ stop ∷ by ∷ []) = range_by line start stop by
range_at line _ = Err (BadArguments line)

-- `range( .. )` of one to three integers
unfoldable pub range_of : ℕ → List ℤ → Checked (List ℤ)
range_of = range_at

-- the integers of a range
unfoldable pub range : List Meaning → Site → Elab (List ℤ)
range es site = ints_from [] es site >>= (λ ns. lift (range_of site.line ns))

-- the element of a comprehension at one of its turns, which costs a step
unfoldable pub turn : Meaning → List ℕ → ℤ → Site → Elab Value
turn e name n site = step site.line >> e.value (with_turn site name n)

-- the elements of a comprehension, behind those that stand
unfoldable pub turns_from : List Value → Meaning → List ℕ → List ℤ → Site → Elab (List Value)
turns_from done e name [] site = pure done
turns_from done e name (n ∷ ns) site = turn e name n site >>= (λ v. turns_from (done ++ v ∷ []) e name ns site)

-- a comprehension over the integers of a range
unfoldable pub turns : Meaning → List ℕ → List ℤ → Site → Elab Value
turns e name ns site = turns_from [] e name ns site >>= (λ vs. pure (value.Items vs))

-- `[ e for name in range( .. ) ]`
unfoldable pub comprehension : Meaning → List ℕ → List Meaning → Site → Elab Value
comprehension e name es site = range es site >>= (λ ns. turns e name ns site)

-- ---- calls

-- a name that means nothing else may be a function's
abbrev pub unless_named : Option Value → Option Function → Option Function
unless_named (Some v) f = None
unless_named None f = f

-- the function that an expression names
abbrev pub function_by : Site → Option (List ℕ) → Option Function
function_by site None = None
function_by site (Some name) = unless_named (named site name) (function_named name)

-- a function, or else a value
abbrev pub called_by : Option Function → Meaning → Site → Elab Called
called_by (Some f) e site = pure (calls.Function f)
called_by None e site = e.value site >>= (λ v. pure (calls.Value v))

-- what is called
unfoldable pub callee : Meaning → Site → Elab Called
callee e site = called_by (function_by site e.name) e site

-- the value of an argument
unfoldable pub one_given : Passed → Site → Elab Given
one_given p site = p.meaning.value site >>= (λ v. pure (record { name = p.parameter; value = v }))

-- the values of arguments from left to right, behind those that stand
unfoldable pub given_from : List Given → List Passed → Site → Elab (List Given)
given_from done [] site = pure done
given_from done (p ∷ ps) site = one_given p site >>= (λ g. given_from (done ++ g ∷ []) ps site)

-- the values of arguments
abbrev pub given : List Passed → Site → Elab (List Given)
given = given_from []

-- the term of a block; a block of the clock edge is of the wrong sort
abbrev pub block_term : ℕ → BlockSort → Term
block_term k sort.Edge = term.Wrong
block_term k _ = term.Block k

-- the term of the block of a name, where k blocks stand before
abbrev pub block_from : ℕ → List Block → List ℕ → Option Term
block_from k [] name = None
block_from k (b ∷ bs) name = if bytes_eq b.name name then Some (block_term k b.sort) else block_from (k + 1) bs name

-- the blocks so far
abbrev pub blocks_of : Option Frame → List Block
blocks_of None = []
blocks_of (Some f) = f.kind.blocks

-- the term of the block of a name
unfoldable pub block_named : Site → List ℕ → Option Term
block_named site name = block_from 0 (blocks_of site.frame) name

-- the name that is the one argument, which names no parameter
abbrev pub only_name : List Passed → Option (List ℕ)
only_name (p ∷ []) = if is_some p.parameter then None else p.meaning.name
only_name _ = None

-- the block that the one argument names
abbrev pub named_block : Site → Option (List ℕ) → Option Term
named_block site None = None
named_block site (Some name) = block_named site name

-- the call of a function on values
unfoldable pub function_call : Function → List Passed → Site → Elab Value
function_call f ps site = given ps site >>= (λ gs. lift (called f site.line gs))

-- the term of a block, or else the call on values
abbrev pub block_call_by : Option Term → List Passed → Site → Elab Value
block_call_by (Some t) ps site = pure (value.Term t)
block_call_by None ps site = function_call function.Block ps site

-- `U( f )`, where f is the name of a block
unfoldable pub block_call : List Passed → Site → Elab Value
block_call ps site = block_call_by (named_block site (only_name ps)) ps site

-- the literal that is the one argument, which names no parameter
abbrev pub only_literal : List Passed → Option ℕ
only_literal (p ∷ []) = if is_some p.parameter then None else p.meaning.literal
only_literal _ = None

-- the constant of the one value
unfoldable pub constant_given : ℕ → ℕ → List Given → Checked Value
constant_given line width gs = and_then (only line gs) (λ v. and_then (constant line width v) (λ w. Ok (value.Const w)))

-- the constant of the one argument
unfoldable pub constant_call : ℕ → List Passed → Site → Elab Value
constant_call width ps site = given ps site >>= (λ gs. lift (constant_given site.line width gs))

-- the constant that a literal is
unfoldable pub constant_literal : ℕ → ℕ → ℕ → Checked Value
constant_literal line width n = and_then (literal_constant line width n) (λ w. Ok (value.Const w))

-- a literal, or else an integer
abbrev pub type_call_by : Option ℕ → ℕ → List Passed → Site → Elab Value
type_call_by (Some n) width ps site = lift (constant_literal site.line width n)
type_call_by None width ps site = constant_call width ps site

-- `BitsN( c )`
unfoldable pub type_call : ℕ → List Passed → Site → Elab Value
type_call width ps site = type_call_by (only_literal ps) width ps site

-- the call of a class
unfoldable pub class_call : Make → List ℕ → List Passed → Site → Elab Value
class_call make class ps site = given ps site >>= (λ gs. make site class gs)

-- the call of a type, which isn't a bitstruct, or of a class
abbrev pub value_call_at : Make → Value-F Value Member → List Passed → Site → Elab Value
value_call_at make (Value-F.Type t) ps site = if is_some t.shape then fail (WrongKind site.line) else type_call t.width ps site
value_call_at make (Value-F.Class n) ps site = class_call make n ps site
value_call_at make _ ps site = fail (WrongKind site.line)

-- the call of a value
unfoldable pub value_call : Make → Value → List Passed → Site → Elab Value
value_call make v ps site = value_call_at make (out-Value v) ps site

-- a call, once it is known what is called
abbrev pub call_by : Make → Called → List Passed → Site → Elab Value
call_by make (calls.Function function.Block) ps site = block_call ps site
call_by make (calls.Function f) ps site = function_call f ps site
call_by make (calls.Value v) ps site = value_call make v ps site

-- a call, once it is known what is called
unfoldable pub call_of : Make → Called → List Passed → Site → Elab Value
call_of = call_by

-- `f( .. )`
unfoldable pub call : Make → Meaning → List Passed → Site → Elab Value
call make f ps site = callee f site >>= (λ c. call_of make c ps site)

-- ---- all expressions

-- what an expression means, by what its parts mean
abbrev pub meaning_of : Make → Expr-F Meaning Passed → Meaning
meaning_of make (Expr-F.Name n) = record { name = Some n; literal = None; value = name_value n }
meaning_of make (Expr-F.Int n) = record { name = None; literal = Some n; value = λ site. lift (literal site.line n) }
meaning_of make (Expr-F.Bool b) = compound (λ site. pure (value.Int (truth b)))
meaning_of make (Expr-F.Unary o e) = compound (unary o e)
meaning_of make (Expr-F.Binary o a b) = compound (operation o a b)
meaning_of make (Expr-F.Cond a c b) = compound (choice a c b)
meaning_of make (Expr-F.Attr e n) = compound (attribute_of e n)
meaning_of make (Expr-F.Call f ps) = compound (call make f ps)
meaning_of make (Expr-F.Index e i) = compound (index e i)
meaning_of make (Expr-F.Slice e lo hi) = compound (slice_expression e lo hi)
meaning_of make (Expr-F.Items es) = compound (items es)
meaning_of make (Expr-F.Each e n es) = compound (comprehension e n es)

-- an argument, by what its expression means
abbrev pub passed_of : Arg-F Meaning Passed → Passed
passed_of a = record { parameter = a.name; meaning = a.value }

-- what an expression means, where a call of a class does what `make` says
unfoldable pub meaning : Make → Expr → Meaning
meaning make = fold-Expr Meaning Passed (meaning_of make) passed_of

-- what an argument means
unfoldable pub passed : Make → Arg → Passed
passed make = fold-Arg Meaning Passed (meaning_of make) passed_of

-- what an expression gives at a place
abbrev pub eval : Make → Expr → Site → Elab Value
eval make e = (meaning make e).value
