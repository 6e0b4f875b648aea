-- The equations of `nodes` and `statement_nodes`, one for each form of expression and of statement.
use Rattle.std.proofs.Common.{◌≡◌, ◌∙◌, ◌+◌, ◌<◌, arith, ℕ, List, map, sym, ap, length, Option}
use Rattle.pm_bits.specs.Word.{Word}
use Rattle.pm_bits.specs.declared.operator.Op.{Op}
use Rattle.pm_bits.specs.declared.operator.Fold.{Fold}
use Rattle.pm_design.specs.declared.body.Side.{Side}
use Rattle.pm_design.specs.declared.connection.Callee.{Callee}
use Rattle.pm_design.specs.declared.connection.Part.{Part}
use Rattle.pm_design.specs.declared.body.Ex.{Ex, Ex-F, fold-Ex, fold-roll-Ex, fold_out-Ex}
use Rattle.pm_design.specs.declared.body.Ex.TheVariants as ex
use Rattle.pm_design.specs.declared.body.Ex.TheFolds.{map-Ex}
use Rattle.pm_design.specs.declared.body.Ex.TheViews.{out-Ex}
use Rattle.pm_design.specs.declared.body.St.{St, St-F, fold-St, fold-roll-St, fold_out-St}
use Rattle.pm_design.specs.declared.body.St.TheVariants as st
use Rattle.pm_design.specs.declared.body.St.TheFolds.{map-St}
use Rattle.pm_design.specs.declared.body.St.TheViews.{out-St}
use Rattle.pm_design.specs.Nodes.{Inside, nodes, nodes_step, statement_nodes, statement_nodes_step}
use Rattle.pm_design.specs.Widths.{total}

pub nodes_const : (guard : Callee → ℕ) (c : Word) → nodes guard (ex.Const c) ≡ (1)
unfolding nodes
nodes_const guard c = ap (nodes guard) (sym (ex.rolls-Const c)) ∙ fold-roll-Ex ℕ (nodes_step guard) (Ex-F.Const c)

pub nodes_get : (guard : Callee → ℕ) (p : Part) → nodes guard (ex.Get p) ≡ (1)
unfolding nodes
nodes_get guard p = ap (nodes guard) (sym (ex.rolls-Get p)) ∙ fold-roll-Ex ℕ (nodes_step guard) (Ex-F.Get p)

pub nodes_temp : (guard : Callee → ℕ) (t : ℕ) (lo : ℕ) (n : ℕ) → nodes guard (ex.Temp t lo n) ≡ (1)
unfolding nodes
nodes_temp guard t lo n = ap (nodes guard) (sym (ex.rolls-Temp t lo n)) ∙ fold-roll-Ex ℕ (nodes_step guard) (Ex-F.Temp t lo n)

pub nodes_pick : (guard : Callee → ℕ) (i : Ex) (ps : List Part) → nodes guard (ex.Pick i ps) ≡ (1 + (nodes guard i) + length ps)
unfolding nodes
nodes_pick guard i ps = ap (nodes guard) (sym (ex.rolls-Pick i ps)) ∙ fold-roll-Ex ℕ (nodes_step guard) (Ex-F.Pick i ps)

pub nodes_number : (guard : Callee → ℕ) (k : ℕ) → nodes guard (ex.Number k) ≡ (1)
unfolding nodes
nodes_number guard k = ap (nodes guard) (sym (ex.rolls-Number k)) ∙ fold-roll-Ex ℕ (nodes_step guard) (Ex-F.Number k)

pub nodes_count : (guard : Callee → ℕ) (k : ℕ) → nodes guard (ex.Count k) ≡ (1)
unfolding nodes
nodes_count guard k = ap (nodes guard) (sym (ex.rolls-Count k)) ∙ fold-roll-Ex ℕ (nodes_step guard) (Ex-F.Count k)

pub nodes_item : (guard : Callee → ℕ) (k : ℕ) (i : ℕ) → nodes guard (ex.Item k i) ≡ (1)
unfolding nodes
nodes_item guard k i = ap (nodes guard) (sym (ex.rolls-Item k i)) ∙ fold-roll-Ex ℕ (nodes_step guard) (Ex-F.Item k i)

pub nodes_last : (guard : Callee → ℕ) (k : ℕ) → nodes guard (ex.Last k) ≡ (1)
unfolding nodes
nodes_last guard k = ap (nodes guard) (sym (ex.rolls-Last k)) ∙ fold-roll-Ex ℕ (nodes_step guard) (Ex-F.Last k)

pub nodes_ready : (guard : Callee → ℕ) (m : Callee) → nodes guard (ex.Ready m) ≡ (1 + guard m)
unfolding nodes
nodes_ready guard m = ap (nodes guard) (sym (ex.rolls-Ready m)) ∙ fold-roll-Ex ℕ (nodes_step guard) (Ex-F.Ready m)

pub nodes_not : (guard : Callee → ℕ) (a : Ex) → nodes guard (ex.Not a) ≡ (1 + (nodes guard a))
unfolding nodes
nodes_not guard a = ap (nodes guard) (sym (ex.rolls-Not a)) ∙ fold-roll-Ex ℕ (nodes_step guard) (Ex-F.Not a)

pub nodes_fold : (guard : Callee → ℕ) (f : Fold) (a : Ex) → nodes guard (ex.Fold f a) ≡ (1 + (nodes guard a))
unfolding nodes
nodes_fold guard f a = ap (nodes guard) (sym (ex.rolls-Fold f a)) ∙ fold-roll-Ex ℕ (nodes_step guard) (Ex-F.Fold f a)

pub nodes_bin : (guard : Callee → ℕ) (op : Op) (a : Ex) (b : Ex) → nodes guard (ex.Bin op a b) ≡ (1 + (nodes guard a) + (nodes guard b))
unfolding nodes
nodes_bin guard op a b = ap (nodes guard) (sym (ex.rolls-Bin op a b)) ∙ fold-roll-Ex ℕ (nodes_step guard) (Ex-F.Bin op a b)

pub nodes_cat : (guard : Callee → ℕ) (es : List Ex) → nodes guard (ex.Cat es) ≡ (1 + total (map (nodes guard) es))
unfolding nodes
nodes_cat guard es = ap (nodes guard) (sym (ex.rolls-Cat es)) ∙ fold-roll-Ex ℕ (nodes_step guard) (Ex-F.Cat es)

pub nodes_zext : (guard : Callee → ℕ) (a : Ex) (n : ℕ) → nodes guard (ex.Zext a n) ≡ (1 + (nodes guard a))
unfolding nodes
nodes_zext guard a n = ap (nodes guard) (sym (ex.rolls-Zext a n)) ∙ fold-roll-Ex ℕ (nodes_step guard) (Ex-F.Zext a n)

pub nodes_sext : (guard : Callee → ℕ) (a : Ex) (n : ℕ) → nodes guard (ex.Sext a n) ≡ (1 + (nodes guard a))
unfolding nodes
nodes_sext guard a n = ap (nodes guard) (sym (ex.rolls-Sext a n)) ∙ fold-roll-Ex ℕ (nodes_step guard) (Ex-F.Sext a n)

pub nodes_trunc : (guard : Callee → ℕ) (a : Ex) (n : ℕ) → nodes guard (ex.Trunc a n) ≡ (1 + (nodes guard a))
unfolding nodes
nodes_trunc guard a n = ap (nodes guard) (sym (ex.rolls-Trunc a n)) ∙ fold-roll-Ex ℕ (nodes_step guard) (Ex-F.Trunc a n)

pub nodes_cond : (guard : Callee → ℕ) (c : Ex) (a : Ex) (b : Ex) → nodes guard (ex.Cond c a b) ≡ (1 + (nodes guard c) + (nodes guard a) + (nodes guard b))
unfolding nodes
nodes_cond guard c a b = ap (nodes guard) (sym (ex.rolls-Cond c a b)) ∙ fold-roll-Ex ℕ (nodes_step guard) (Ex-F.Cond c a b)

-- all of them
pub ruleset nodes_equations = (nodes_const, nodes_get, nodes_temp, nodes_pick, nodes_number, nodes_count, nodes_item, nodes_last, nodes_ready, nodes_not, nodes_fold, nodes_bin, nodes_cat, nodes_zext, nodes_sext, nodes_trunc, nodes_cond)

pub nodes_of_set : (inside : Inside) (p : Part) (e : Ex) → statement_nodes inside (st.Set p e) ≡ (1 + nodes inside.guard e)
unfolding statement_nodes
nodes_of_set inside p e = ap (statement_nodes inside) (sym (st.rolls-Set p e)) ∙ fold-roll-St ℕ (statement_nodes_step inside) (St-F.Set p e)

pub nodes_of_set_pick : (inside : Inside) (i : Ex) (ps : List Part) (e : Ex) → statement_nodes inside (st.SetPick i ps e) ≡ (1 + nodes inside.guard i + length ps + nodes inside.guard e)
unfolding statement_nodes
nodes_of_set_pick inside i ps e = ap (statement_nodes inside) (sym (st.rolls-SetPick i ps e)) ∙ fold-roll-St ℕ (statement_nodes_step inside) (St-F.SetPick i ps e)

pub nodes_of_set_temp : (inside : Inside) (t : ℕ) (e : Ex) → statement_nodes inside (st.SetTemp t e) ≡ (1 + nodes inside.guard e)
unfolding statement_nodes
nodes_of_set_temp inside t e = ap (statement_nodes inside) (sym (st.rolls-SetTemp t e)) ∙ fold-roll-St ℕ (statement_nodes_step inside) (St-F.SetTemp t e)

pub nodes_of_set_number : (inside : Inside) (k : ℕ) (e : Ex) → statement_nodes inside (st.SetNumber k e) ≡ (1 + nodes inside.guard e)
unfolding statement_nodes
nodes_of_set_number inside k e = ap (statement_nodes inside) (sym (st.rolls-SetNumber k e)) ∙ fold-roll-St ℕ (statement_nodes_step inside) (St-F.SetNumber k e)

pub nodes_of_push : (inside : Inside) (k : ℕ) (side : Side) (e : Ex) → statement_nodes inside (st.Push k side e) ≡ (1 + nodes inside.guard e)
unfolding statement_nodes
nodes_of_push inside k side e = ap (statement_nodes inside) (sym (st.rolls-Push k side e)) ∙ fold-roll-St ℕ (statement_nodes_step inside) (St-F.Push k side e)

pub nodes_of_pop : (inside : Inside) (k : ℕ) (side : Side) (target : Option ℕ) → statement_nodes inside (st.Pop k side target) ≡ (1)
unfolding statement_nodes
nodes_of_pop inside k side target = ap (statement_nodes inside) (sym (st.rolls-Pop k side target)) ∙ fold-roll-St ℕ (statement_nodes_step inside) (St-F.Pop k side target)

pub nodes_of_clear : (inside : Inside) (k : ℕ) → statement_nodes inside (st.Clear k) ≡ (1)
unfolding statement_nodes
nodes_of_clear inside k = ap (statement_nodes inside) (sym (st.rolls-Clear k)) ∙ fold-roll-St ℕ (statement_nodes_step inside) (St-F.Clear k)

pub nodes_of_call : (inside : Inside) (m : Callee) (es : List Ex) (target : Option ℕ) → statement_nodes inside (st.Call m es target) ≡ (1 + total (map (nodes inside.guard) es) + inside.body m)
unfolding statement_nodes
nodes_of_call inside m es target = ap (statement_nodes inside) (sym (st.rolls-Call m es target)) ∙ fold-roll-St ℕ (statement_nodes_step inside) (St-F.Call m es target)

pub nodes_of_if : (inside : Inside) (c : Ex) (xs : List St) (ys : List St) → statement_nodes inside (st.If c xs ys) ≡ (1 + nodes inside.guard c + total (map (statement_nodes inside) xs) + total (map (statement_nodes inside) ys))
unfolding statement_nodes
nodes_of_if inside c xs ys = ap (statement_nodes inside) (sym (st.rolls-If c xs ys)) ∙ fold-roll-St ℕ (statement_nodes_step inside) (St-F.If c xs ys)

-- all of them
pub ruleset nodes_of_equations = (nodes_of_set, nodes_of_set_pick, nodes_of_set_temp, nodes_of_set_number, nodes_of_push, nodes_of_pop, nodes_of_clear, nodes_of_call, nodes_of_if)

some_nodes_step : (z : Ex-F ℕ) (guard : Callee → ℕ) → 0 < nodes_step guard z
some_nodes_step (Ex-F.Const c) guard = omega arith
some_nodes_step (Ex-F.Get p) guard = omega arith
some_nodes_step (Ex-F.Temp t lo n) guard = omega arith
some_nodes_step (Ex-F.Pick i ps) guard = omega arith
some_nodes_step (Ex-F.Number k) guard = omega arith
some_nodes_step (Ex-F.Count k) guard = omega arith
some_nodes_step (Ex-F.Item k i) guard = omega arith
some_nodes_step (Ex-F.Last k) guard = omega arith
some_nodes_step (Ex-F.Ready m) guard = omega arith
some_nodes_step (Ex-F.Not a) guard = omega arith
some_nodes_step (Ex-F.Fold f a) guard = omega arith
some_nodes_step (Ex-F.Bin op a b) guard = omega arith
some_nodes_step (Ex-F.Cat es) guard = omega arith
some_nodes_step (Ex-F.Zext a n) guard = omega arith
some_nodes_step (Ex-F.Sext a n) guard = omega arith
some_nodes_step (Ex-F.Trunc a n) guard = omega arith
some_nodes_step (Ex-F.Cond c a b) guard = omega arith

-- an expression has a node
pub some_nodes : (guard : Callee → ℕ) (e : Ex) → 0 < nodes guard e
unfolding nodes
some_nodes guard e = rw (fold_out-Ex ℕ (nodes_step guard) e) (some_nodes_step (map-Ex Ex ℕ (fold-Ex ℕ (nodes_step guard)) (out-Ex e)) guard)

some_statement_nodes_step : (z : St-F ℕ) (inside : Inside) → 0 < statement_nodes_step inside z
some_statement_nodes_step (St-F.Set p e) inside = omega arith
some_statement_nodes_step (St-F.SetPick i ps e) inside = omega arith
some_statement_nodes_step (St-F.SetTemp t e) inside = omega arith
some_statement_nodes_step (St-F.SetNumber k e) inside = omega arith
some_statement_nodes_step (St-F.Push k side e) inside = omega arith
some_statement_nodes_step (St-F.Pop k side target) inside = omega arith
some_statement_nodes_step (St-F.Clear k) inside = omega arith
some_statement_nodes_step (St-F.Call m es target) inside = omega arith
some_statement_nodes_step (St-F.If c xs ys) inside = omega arith

-- a statement has a node
pub some_statement_nodes : (inside : Inside) (x : St) → 0 < statement_nodes inside x
unfolding statement_nodes
some_statement_nodes inside x = rw (fold_out-St ℕ (statement_nodes_step inside) x) (some_statement_nodes_step (map-St St ℕ (fold-St ℕ (statement_nodes_step inside)) (out-St x)) inside)
