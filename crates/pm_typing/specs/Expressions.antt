-- What an expression gives, by its tree: operands from left to right, then the node, and the first fault.
use Rattle.std.specs.Prelude.{ℕ, Bool, true, false, if◌then◌else◌, is_some, List, [], ◌∷◌, ◌++◌, Option, Some, None}
use Rattle.std.specs.List.{list_any}
use Rattle.pm_design.specs.declared.body.Ex.{Ex}
use Rattle.pm_syn.specs.declared.expression.Arg.{Arg, Arg-F, fold-Arg}
use Rattle.pm_syn.specs.declared.expression.BinaryOp.{BinaryOp}
use Rattle.pm_syn.specs.declared.expression.Expr.{Expr, Expr-F, fold-Expr}
use Rattle.pm_syn.specs.declared.expression.UnaryOp.{UnaryOp}
use Rattle.pm_values.specs.declared.reference.ValueType.{ValueType}
use Rattle.pm_values.specs.Integers.{is_zero, truth}
use Rattle.pm_typing.specs.declared.fault.TypeFault.TheVariants.{NotAllowedHere}
use Rattle.pm_typing.specs.declared.thing.BodyFunction.{BodyFunction}
use Rattle.pm_typing.specs.declared.thing.BodyFunction.TheVariants as functions
use Rattle.pm_typing.specs.declared.operand.Effected.{Effected}
use Rattle.pm_typing.specs.declared.operand.Effected.TheVariants as effected
use Rattle.pm_typing.specs.declared.operand.Operand.{Operand}
use Rattle.pm_typing.specs.declared.operand.Operand.TheVariants as operands
use Rattle.pm_typing.specs.Calls.{literal_constant, constant_call, field_types, struct_value, ready_call}
use Rattle.pm_typing.specs.Counted.{Counted, ◌>>=◌, pure, fail, lift}
use Rattle.pm_typing.specs.Functions.{called, length_of}
use Rattle.pm_typing.specs.Names.{name_thing}
use Rattle.pm_typing.specs.Operands.{value_of, bits_value, condition}
use Rattle.pm_typing.specs.Operators.{literal, operation, application, either}
use Rattle.pm_typing.specs.Picks.{element, dynamic}
use Rattle.pm_typing.specs.References.{attribute, sliced}
use Rattle.pm_typing.specs.Sites.{Site, within_index}
use Rattle.pm_typing.specs.Things as things
use Rattle.pm_typing.specs.Things.{Thing, Right}

-- an expression: its number if it is a literal alone, what it is at a place, and what it is as a whole right side
pub record Meaning : Type 0 where
  pub literal : Option ℕ
  pub thing : Site → Counted Thing
  pub right : Site → Counted Right

-- an argument of a call, before it is anything
pub record Passed : Type 0 where
  pub named : Bool
  pub meaning : Meaning

-- what gives a thing, as a right side
abbrev pub plainly : (Site → Counted Thing) → Site → Counted Right
plainly f site = f site >>= (λ t. pure (things.plain t))

-- an expression that is neither a literal nor a call
abbrev pub compound : (Site → Counted Thing) → Meaning
compound f = record { literal = None; thing = f; right = plainly f }

-- an expression as a value
unfoldable pub operand : Meaning → Site → Counted Operand
operand e site = e.thing site >>= (λ t. value_of site.scope site.line t)

-- ---- operators

-- `-e`, `+e`, `~e` and `not e`
unfoldable pub unary : UnaryOp → Meaning → Site → Counted Thing
unary o e site = operand e site >>= (λ x. application site.line o x)

-- an operator between operands
unfoldable pub binary : BinaryOp → Meaning → Meaning → Site → Counted Thing
binary o a b site = operand a site >>= (λ x. operand b site >>= (λ y. operation site.line o x y))

-- both branches, and then their choice
unfoldable pub branches : Ex → Meaning → Meaning → Site → Counted Thing
branches c a b site = operand a site >>= (λ x. operand b site >>= (λ y. either site.line c x y))

-- an integer condition keeps one branch, whatever it is; the other isn't typed
abbrev pub choice_at : Operand → Meaning → Meaning → Site → Counted Thing
choice_at (operands.Int n) a b site = if is_zero n then b.thing site else a.thing site
choice_at (operands.Bits e ty) a b site = condition site.line e ty >>= (λ c. branches c a b site)

-- a choice by a condition
unfoldable pub choice_by : Operand → Meaning → Meaning → Site → Counted Thing
choice_by = choice_at

-- `a if c else b`
unfoldable pub choice : Meaning → Meaning → Meaning → Site → Counted Thing
choice a c b site = operand c site >>= (λ x. choice_by x a b site)

-- ---- attributes, elements and slices

-- `e.name`
unfoldable pub attribute_of : Meaning → List ℕ → Site → Counted Thing
attribute_of e name site = e.thing site >>= (λ t. lift (attribute site.scope site.line name t))

-- an index is an integer or Bits
abbrev pub indexed_at : Site → Thing → Thing → Counted Thing
indexed_at site t (things.integer k) = element site.scope site.line k t
indexed_at site t i = bits_value site.scope site.line i >>= (λ e. dynamic site.line site.inside_index e t)

-- an index is an integer or Bits
unfoldable pub indexed : Site → Thing → Thing → Counted Thing
indexed = indexed_at

-- `e[i]`
unfoldable pub index : Meaning → Meaning → Site → Counted Thing
index e i site = e.thing site >>= (λ t. i.thing (within_index site) >>= (λ k. indexed site t k))

-- `e[lo:hi]`
unfoldable pub slice_expression : Meaning → Meaning → Meaning → Site → Counted Thing
slice_expression e lo hi site =
    e.thing site >>= (λ t. lo.thing site >>= (λ a. hi.thing site >>= (λ b. lift (sliced site.line a b t))))

-- ---- calls

-- the values of arguments, from left to right, behind those that stand
unfoldable pub operands_from : List Operand → List Passed → Site → Counted (List Operand)
operands_from done [] site = pure done
operands_from done (p ∷ ps) site = operand p.meaning site >>= (λ x. operands_from (done ++ x ∷ []) ps site)

-- the values of arguments
abbrev pub operands_of : List Passed → Site → Counted (List Operand)
operands_of = operands_from []

-- an argument names a parameter
unfoldable pub any_named : List Passed → Bool
any_named ps = list_any (λ p. p.named) ps

-- a function on the values of its arguments
unfoldable pub values_call : BodyFunction → List Passed → Site → Counted Thing
values_call f ps site = operands_of ps site >>= (λ xs. called f site.line (any_named ps) xs)

-- the length of what an expression is
unfoldable pub length_meant : Meaning → Site → Counted Thing
length_meant e site = e.thing site >>= (λ t. length_of site.scope site.line t)

-- `len( x )`, whose argument names no parameter
abbrev pub length_call_at : List Passed → Site → Counted Thing
length_call_at (p ∷ []) site = if p.named then fail (NotAllowedHere site.line) else length_meant p.meaning site
length_call_at _ site = fail (NotAllowedHere site.line)

-- `len( x )`
unfoldable pub length_call : List Passed → Site → Counted Thing
length_call = length_call_at

-- the call of a function
abbrev pub function_call_at : BodyFunction → List Passed → Site → Counted Thing
function_call_at functions.Length ps site = length_call ps site
function_call_at f ps site = values_call f ps site

-- the call of a function
unfoldable pub function_call : BodyFunction → List Passed → Site → Counted Thing
function_call = function_call_at

-- the literal that is the one argument, which names no parameter
abbrev pub only_literal : List Passed → Option ℕ
only_literal (p ∷ []) = if p.named then None else p.meaning.literal
only_literal _ = None

-- a constant of an argument that isn't a literal
unfoldable pub integer_call : ℕ → List Passed → Site → Counted Thing
integer_call width ps site = operands_of ps site >>= (λ xs. constant_call site.line width (any_named ps) xs)

-- a literal, or else an integer
abbrev pub width_call_by : Option ℕ → ℕ → List Passed → Site → Counted Thing
width_call_by (Some n) width ps site = literal_constant site.line width n
width_call_by None width ps site = integer_call width ps site

-- `BitsN( c )`
unfoldable pub width_call : ℕ → List Passed → Site → Counted Thing
width_call width ps site = width_call_by (only_literal ps) width ps site

-- `T( a, b, .. )` of a bitstruct
unfoldable pub struct_call : ValueType → ℕ → List Passed → Site → Counted Thing
struct_call ty k ps site =
    operands_of ps site >>= (λ xs. struct_value site.line ty (field_types site.scope k) (any_named ps) xs)

-- the call of a type, by its bitstruct if it is one
abbrev pub type_call_by : Option ℕ → ValueType → List Passed → Site → Counted Thing
type_call_by (Some k) ty ps site = struct_call ty k ps site
type_call_by None ty ps site = width_call ty.width ps site

-- the call of a type
unfoldable pub type_call : ValueType → List Passed → Site → Counted Thing
type_call ty ps site = type_call_by ty.shape ty ps site

-- there is no argument
abbrev pub is_bare : List Passed → Bool
is_bare [] = true
is_bare (p ∷ ps) = false

-- a call within an expression: what changes states is not allowed there
abbrev pub call_at : Thing → List Passed → Site → Counted Thing
call_at (things.function f) ps site = function_call f ps site
call_at (things.of_type ty) ps site = type_call ty ps site
call_at (things.ready c) ps site = ready_call site.line c (is_bare ps)
call_at _ ps site = fail (NotAllowedHere site.line)

-- a call within an expression
unfoldable pub call_of : Thing → List Passed → Site → Counted Thing
call_of = call_at

-- `f( .. )` within an expression
unfoldable pub call : Meaning → List Passed → Site → Counted Thing
call f ps site = f.thing site >>= (λ t. call_of t ps site)

-- a call that may change states, and its arguments
unfoldable pub effect_of : Effected → List Passed → Site → Counted Right
effect_of what ps site =
    operands_of ps site >>= (λ xs. pure (things.effect (record { what = what; arguments = xs; named = any_named ps })))

-- a call that is a whole right side
abbrev pub right_call_at : Thing → List Passed → Site → Counted Right
right_call_at (things.method c) ps site = effect_of (effected.Method c) ps site
right_call_at (things.change k c) ps site = effect_of (effected.Deque k c) ps site
right_call_at t ps site = call_of t ps site >>= (λ x. pure (things.plain x))

-- a call that is a whole right side
unfoldable pub right_call_of : Thing → List Passed → Site → Counted Right
right_call_of = right_call_at

-- `f( .. )` as a whole right side
unfoldable pub right_call : Meaning → List Passed → Site → Counted Right
right_call f ps site = f.thing site >>= (λ t. right_call_of t ps site)

-- ---- all expressions

-- 1 for true and 0 for false
abbrev pub truth_thing : Bool → Thing
truth_thing b = things.integer (truth b)

-- what an expression means, by what its parts mean; lists are no values of a body
abbrev pub meaning_of : Expr-F Meaning Passed → Meaning
meaning_of (Expr-F.Name n) = compound (λ site. lift (name_thing n site))
meaning_of (Expr-F.Int n) = record {
  literal = Some n;
  thing = λ site. lift (literal site.line n);
  right = plainly (λ site. lift (literal site.line n));
}
meaning_of (Expr-F.Bool b) = compound (λ site. pure (truth_thing b))
meaning_of (Expr-F.Unary o e) = compound (unary o e)
meaning_of (Expr-F.Binary o a b) = compound (binary o a b)
meaning_of (Expr-F.Cond a c b) = compound (choice a c b)
meaning_of (Expr-F.Attr e n) = compound (attribute_of e n)
meaning_of (Expr-F.Call f ps) = record { literal = None; thing = call f ps; right = right_call f ps }
meaning_of (Expr-F.Index e i) = compound (index e i)
meaning_of (Expr-F.Slice e lo hi) = compound (slice_expression e lo hi)
meaning_of (Expr-F.Items es) = compound (λ site. fail (NotAllowedHere site.line))
meaning_of (Expr-F.Each e n es) = compound (λ site. fail (NotAllowedHere site.line))

-- an argument, by what its expression means
abbrev pub passed_of : Arg-F Meaning Passed → Passed
passed_of a = record { named = is_some a.name; meaning = a.value }

-- what an expression means
unfoldable pub meaning : Expr → Meaning
meaning = fold-Expr Meaning Passed meaning_of passed_of

-- what an argument means
unfoldable pub passed : Arg → Passed
passed = fold-Arg Meaning Passed meaning_of passed_of

-- what an expression is at a place
abbrev pub eval : Expr → Site → Counted Thing
eval e = (meaning e).thing
