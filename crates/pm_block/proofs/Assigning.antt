-- The equations of `assignments`, one for each form of statement.
use Rattle.std.proofs.Common.{◌≡◌, ◌∙◌, ◌+◌, ℕ, List, map, sym, ap, Option}
use Rattle.pm_design.specs.declared.body.Side.{Side}
use Rattle.pm_design.specs.declared.connection.Callee.{Callee}
use Rattle.pm_design.specs.declared.connection.Part.{Part}
use Rattle.pm_design.specs.declared.body.Ex.{Ex}
use Rattle.pm_design.specs.declared.body.St.{St, St-F, fold-roll-St}
use Rattle.pm_design.specs.declared.body.St.TheVariants as st
use Rattle.pm_design.specs.Widths.{total}
use Rattle.pm_block.specs.Assignments.{assignments, assignments_step}

pub assignments_set : (p : Part) (e : Ex) → assignments (st.Set p e) ≡ (1)
unfolding assignments
assignments_set p e = ap assignments (sym (st.rolls-Set p e)) ∙ fold-roll-St ℕ assignments_step (St-F.Set p e)

pub assignments_set_pick : (i : Ex) (ps : List Part) (e : Ex) → assignments (st.SetPick i ps e) ≡ (1)
unfolding assignments
assignments_set_pick i ps e = ap assignments (sym (st.rolls-SetPick i ps e)) ∙ fold-roll-St ℕ assignments_step (St-F.SetPick i ps e)

pub assignments_set_temp : (t : ℕ) (e : Ex) → assignments (st.SetTemp t e) ≡ (0)
unfolding assignments
assignments_set_temp t e = ap assignments (sym (st.rolls-SetTemp t e)) ∙ fold-roll-St ℕ assignments_step (St-F.SetTemp t e)

pub assignments_set_number : (k : ℕ) (e : Ex) → assignments (st.SetNumber k e) ≡ (0)
unfolding assignments
assignments_set_number k e = ap assignments (sym (st.rolls-SetNumber k e)) ∙ fold-roll-St ℕ assignments_step (St-F.SetNumber k e)

pub assignments_push : (k : ℕ) (side : Side) (e : Ex) → assignments (st.Push k side e) ≡ (0)
unfolding assignments
assignments_push k side e = ap assignments (sym (st.rolls-Push k side e)) ∙ fold-roll-St ℕ assignments_step (St-F.Push k side e)

pub assignments_pop : (k : ℕ) (side : Side) (target : Option ℕ) → assignments (st.Pop k side target) ≡ (0)
unfolding assignments
assignments_pop k side target = ap assignments (sym (st.rolls-Pop k side target)) ∙ fold-roll-St ℕ assignments_step (St-F.Pop k side target)

pub assignments_clear : (k : ℕ) → assignments (st.Clear k) ≡ (0)
unfolding assignments
assignments_clear k = ap assignments (sym (st.rolls-Clear k)) ∙ fold-roll-St ℕ assignments_step (St-F.Clear k)

pub assignments_call : (m : Callee) (es : List Ex) (target : Option ℕ) → assignments (st.Call m es target) ≡ (0)
unfolding assignments
assignments_call m es target = ap assignments (sym (st.rolls-Call m es target)) ∙ fold-roll-St ℕ assignments_step (St-F.Call m es target)

pub assignments_if : (c : Ex) (xs : List St) (ys : List St) → assignments (st.If c xs ys) ≡ (total (map assignments xs) + total (map assignments ys))
unfolding assignments
assignments_if c xs ys = ap assignments (sym (st.rolls-If c xs ys)) ∙ fold-roll-St ℕ assignments_step (St-F.If c xs ys)

-- all of them
pub ruleset assignments_equations = (assignments_set, assignments_set_pick, assignments_set_temp, assignments_set_number, assignments_push, assignments_pop, assignments_clear, assignments_call, assignments_if)
