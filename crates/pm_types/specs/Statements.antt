-- What a line of a body does, by what those below it and behind it do.
use Rattle.std.specs.Prelude.{ℕ, ◌==◌, ℤ, pos, ◌&&◌, if◌then◌else◌, List, [], ◌∷◌, ◌++◌, map, Option, Some, None, Ok, Err}
use Rattle.pm_design.specs.declared.body.Ex.{Ex}
use Rattle.pm_design.specs.declared.body.St.{St}
use Rattle.pm_design.specs.declared.body.St.TheVariants as st
use Rattle.pm_syn.specs.declared.statement.Node.{Node, Node-F, fold-Node, out-Node}
use Rattle.pm_syn.specs.declared.statement.Stmt.{Stmt, Stmt-F, out-Stmt}
use Rattle.pm_values.specs.Integers.{is_zero, equal}
use Rattle.pm_values.specs.Ranges.{range_list}
use Rattle.pm_values.specs.Tables.{get}
use Rattle.pm_typing.specs.declared.fault.TypeFault.TheVariants.{ConstRange, MaybeUnbound, NotAllowedHere}
use Rattle.pm_typing.specs.declared.frame.Bound.{Bound}
use Rattle.pm_typing.specs.declared.frame.Bound.TheVariants as bound
use Rattle.pm_typing.specs.declared.frame.Frame.{Frame}
use Rattle.pm_typing.specs.declared.operand.Operand.{Operand}
use Rattle.pm_typing.specs.declared.operand.Operand.TheVariants as operands
use Rattle.pm_typing.specs.Counted.{Checked, and_then, Counted, ◌>>=◌, ◌>>◌, pure, fail, lift, node}
use Rattle.pm_typing.specs.Expressions.{Meaning, meaning, operand}
use Rattle.pm_typing.specs.Operands.{condition, same_type}
use Rattle.pm_typing.specs.Sites.{Scope}
use Rattle.pm_types.specs.Assignments.{Move, here, assigned, alone, with_bound}

-- ---- `if`

-- a name that two paths leave alike keeps its meaning
abbrev pub met : Bound → Bound → Bound
met (bound.Int a) (bound.Int b) = if equal a b then bound.Int a else bound.Unassigned
met (bound.Temp t ty) (bound.Temp u other) = if t == u && same_type ty other then bound.Temp t ty else bound.Unassigned
met _ _ = bound.Unassigned

-- the names that two paths leave alike keep their meanings, behind those that stand
unfoldable pub meet_from : List Bound → List Bound → List Bound → List Bound
meet_from done (a ∷ as') (b ∷ bs) = meet_from (done ++ met a b ∷ []) as' bs
meet_from done _ _ = done

-- the names that two paths leave alike keep their meanings
abbrev pub meet : List Bound → List Bound → List Bound
meet = meet_from []

-- the statements that this makes, by themselves
unfoldable pub apart : Move → Frame → Counted (Frame × List St)
apart p f = p (record f { out = [] }) >>= (λ g. pure (record g { out = f.out }, g.out))

-- an `if` and what stands behind it
abbrev pub rejoined_frame : Ex → List St → List Bound → List St → Frame → Frame
rejoined_frame c xs after ys f = record f { bounds = meet after f.bounds; out = f.out ++ st.If c xs ys ∷ [] }

-- the other branch, and then the names that both leave alike
unfoldable pub rejoined : Ex → List St → List Bound → Move → Move
rejoined c xs after other f = apart other f >>= (λ y. pure (rejoined_frame c xs after y.1 y.0))

-- both branches, each from the same names
unfoldable pub forked : Ex → Move → Move → Move
forked c this other f = apart this f >>= (λ x. rejoined c x.1 x.0.bounds other (record x.0 { bounds = f.bounds }))

-- an integer condition keeps one branch, and the other isn't typed
abbrev pub branched_at : ℕ → Operand → Move → Move → Move
branched_at line (operands.Int n) this other f = if is_zero n then other f else this f
branched_at line (operands.Bits e ty) this other f = condition line e ty >>= (λ c. node >> forked c this other f)

-- one of two branches, or both
unfoldable pub branched : ℕ → Operand → Move → Move → Move
branched = branched_at

-- `if` and `elif`
unfoldable pub branch : Scope → ℕ → Meaning → Move → Move → Move
branch scope line c this other f = operand c (here scope line f) >>= (λ x. branched line x this other f)

-- ---- `for`

-- a turn, which counts as a node
unfoldable pub turn : ℕ → Move → ℤ → Move
turn k body n f = node >> body (with_bound k (bound.Int n) f)

-- the turns, one behind the other
unfoldable pub turns : ℕ → Move → List ℤ → Move
turns k body [] f = pure f
turns k body (n ∷ ns) f = turn k body n f >>= (λ g. turns k body ns g)

-- the integer that a bound of a range is
abbrev pub integer_of : ℕ → Operand → Checked ℤ
integer_of line (operands.Int n) = Ok n
integer_of line (operands.Bits e ty) = Err (NotAllowedHere line)

-- the values of expressions from left to right, behind those that stand
unfoldable pub values_from : List Operand → List Meaning → Scope → ℕ → Frame → Counted (List Operand)
values_from done [] scope line f = pure done
values_from done (e ∷ es) scope line f = operand e (here scope line f) >>= (λ x. values_from (done ++ x ∷ []) es scope line f)

-- the integers that values are, behind those that stand
unfoldable pub integers_from : ℕ → List ℤ → List Operand → Checked (List ℤ)
integers_from line done [] = Ok done
integers_from line done (x ∷ xs) = and_then (integer_of line x) (λ n. integers_from line (done ++ n ∷ []) xs)

-- the integers of a range, whose step isn't 0
abbrev pub range_by : ℕ → ℤ → ℤ → ℤ → Checked (List ℤ)
range_by line start stop step = if is_zero step then Err (ConstRange line) else Ok (range_list start stop step)

-- `range( .. )` of one to three integers
abbrev pub range_at : ℕ → List ℤ → Checked (List ℤ)
range_at line (stop ∷ []) = range_by line (pos 0) stop (pos 1)
range_at line (start ∷ stop ∷ []) = range_by line start stop (pos 1)
range_at line (start ∷ stop ∷ step ∷ []) = range_by line start stop step
range_at line _ = Err (NotAllowedHere line)

-- `range( .. )` of one to three integers
unfoldable pub range_of : ℕ → List ℤ → Checked (List ℤ)
range_of = range_at

-- the integers of a range
unfoldable pub range_in : ℕ → List Operand → Checked (List ℤ)
range_in line xs = and_then (integers_from line [] xs) (λ ns. range_of line ns)

-- the integers of `range( .. )`
unfoldable pub range : Scope → ℕ → List Meaning → Frame → Counted (List ℤ)
range scope line es f = values_from [] es scope line f >>= (λ xs. lift (range_in line xs))

-- a loop over the name at a place
unfoldable pub repeat_at : Scope → ℕ → ℕ → List Meaning → Move → Move
repeat_at scope line k es body f = range scope line es f >>= (λ ns. turns k body ns f)

-- a loop over a name of the body
abbrev pub repeat_if : Scope → ℕ → Option ℕ → List Meaning → Move → Move
repeat_if scope line (Some k) es body f = repeat_at scope line k es body f
repeat_if scope line None es body f = fail (MaybeUnbound line)

-- `for name in range( .. )`
unfoldable pub repeat : Scope → ℕ → List ℕ → List Meaning → Move → Move
repeat scope line name es body = repeat_if scope line (get scope.own name) es body

-- ---- lines

-- a statement that is no header
abbrev pub simple_at : Scope → ℕ → Stmt-F Stmt → Move
simple_at scope line Stmt-F.Pass f = pure f
simple_at scope line Stmt-F.Doc f = pure f
simple_at scope line (Stmt-F.Assign o to e) f = assigned scope line o to e f
simple_at scope line (Stmt-F.Do e) f = alone scope line e f
simple_at scope line _ f = fail (NotAllowedHere line)

-- a statement that is no header
unfoldable pub simple : Scope → ℕ → Stmt → Move
simple scope line s = simple_at scope line (out-Stmt s)

-- the statement behind the colon, or the lines below
abbrev pub within_by : Scope → ℕ → Option Stmt → Move → Move
within_by scope line (Some s) below f = simple scope line s f
within_by scope line None below f = below f

-- the statement behind the colon, or the lines below
unfoldable pub within : Scope → ℕ → Option Stmt → Move → Move
within = within_by

-- a line, from what the lines behind it do where it is an `if` or `elif` whose condition fails
pub record Line : Type 0 where
  pub does : Move → Move
  -- what it does as the other branch of the line before it
  pub instead : Move → Move

-- what the lines from here on do as the other branch of the line before them
unfoldable pub instead_of : List Line → Move
instead_of [] f = pure f
instead_of (l ∷ ls) f = l.instead (instead_of ls) f

-- lines, one behind the other
unfoldable pub block : List Line → Move
block [] f = pure f
block (l ∷ ls) f = l.does (instead_of ls) f >>= (λ g. block ls g)

-- what a line does: an `elif` or `else` by itself does nothing
abbrev pub does_at : Scope → ℕ → Stmt-F Stmt → Stmt → Move → Move → Move
does_at scope line (Stmt-F.If c after) s below other f = branch scope line (meaning c) (within scope line after below) other f
does_at scope line (Stmt-F.Elif c after) s below other f = pure f
does_at scope line (Stmt-F.Else after) s below other f = pure f
does_at scope line (Stmt-F.For name es after) s below other f =
    repeat scope line name (map meaning es) (within scope line after below) f
does_at scope line _ s below other f = simple scope line s f

-- what a line does
unfoldable pub does : Scope → ℕ → Stmt → Move → Move → Move
does scope line s below other = does_at scope line (out-Stmt s) s below other

-- what a line does as the other branch of the line before it
abbrev pub instead_at : Scope → ℕ → Stmt-F Stmt → Move → Move → Move
instead_at scope line (Stmt-F.Elif c after) below other f = branch scope line (meaning c) (within scope line after below) other f
instead_at scope line (Stmt-F.Else after) below other f = within scope line after below f
instead_at scope line _ below other f = pure f

-- what a line does as the other branch of the line before it
unfoldable pub instead : Scope → ℕ → Stmt → Move → Move → Move
instead scope line s below other = instead_at scope line (out-Stmt s) below other

-- a line, by the lines below it
abbrev pub line_of : Scope → Node-F Line → Line
line_of scope n = record { does = does scope n.line n.stmt (block n.body); instead = instead scope n.line n.stmt (block n.body) }

-- a line
unfoldable pub line : Scope → Node → Line
line scope = fold-Node Line (line_of scope)

-- lines
abbrev pub lines : Scope → List Node → Move
lines scope nodes = block (map (line scope) nodes)

-- the lines below the first of these, and what the lines behind it do in its place
abbrev pub first_body : Scope → List Node → Move
first_body scope [] f = pure f
first_body scope (n ∷ ns) f = block (map (line scope) (out-Node n).body) f

-- what the lines behind the first of these do as its other branch
abbrev pub others : Scope → List Node → Move
others scope [] f = pure f
others scope (n ∷ ns) f = instead_of (map (line scope) ns) f

-- what the first of these lines does
abbrev pub first_line : Scope → List Node → Move
first_line scope [] f = pure f
first_line scope (n ∷ ns) f = does scope (out-Node n).line (out-Node n).stmt (first_body scope (n ∷ ns)) (others scope (n ∷ ns)) f

-- what the first of these lines does as the other branch of the line before it
abbrev pub first_instead : Scope → List Node → Move
first_instead scope [] f = pure f
first_instead scope (n ∷ ns) f = instead scope (out-Node n).line (out-Node n).stmt (first_body scope (n ∷ ns)) (others scope (n ∷ ns)) f
