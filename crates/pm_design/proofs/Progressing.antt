-- The equations of `reads_assigned` and `progress`, one for each form of expression and of statement.
use Rattle.std.proofs.Common.{◌≡◌, ◌∙◌, ◌&&◌, ℕ, List, map, sym, ap, Bool, true, Option, Some}
use Rattle.std.specs.List.{list_all}
use Rattle.pm_bits.specs.Word.{Word}
use Rattle.pm_bits.specs.declared.operator.Op.{Op}
use Rattle.pm_bits.specs.declared.operator.Fold.{Fold}
use Rattle.pm_design.specs.declared.body.Side.{Side}
use Rattle.pm_design.specs.declared.connection.Callee.{Callee}
use Rattle.pm_design.specs.declared.connection.Part.{Part}
use Rattle.pm_design.specs.declared.body.Ex.{Ex, Ex-F, fold-roll-Ex}
use Rattle.pm_design.specs.declared.body.Ex.TheVariants as ex
use Rattle.pm_design.specs.declared.body.St.{St, St-F, fold-roll-St}
use Rattle.pm_design.specs.declared.body.St.TheVariants as st
use Rattle.pm_design.specs.Settings.{Progress, reads_assigned, reads_assigned_step, progress, progress_step, behind_reading, behind_setting, behind_either, in_turn}

pub reads_const : (assigned : ℕ → Bool) (c : Word) → reads_assigned assigned (ex.Const c) ≡ (true)
unfolding reads_assigned
reads_const assigned c = ap (reads_assigned assigned) (sym (ex.rolls-Const c)) ∙ fold-roll-Ex Bool (reads_assigned_step assigned) (Ex-F.Const c)

pub reads_get : (assigned : ℕ → Bool) (p : Part) → reads_assigned assigned (ex.Get p) ≡ (true)
unfolding reads_assigned
reads_get assigned p = ap (reads_assigned assigned) (sym (ex.rolls-Get p)) ∙ fold-roll-Ex Bool (reads_assigned_step assigned) (Ex-F.Get p)

pub reads_temp : (assigned : ℕ → Bool) (t : ℕ) (lo : ℕ) (n : ℕ) → reads_assigned assigned (ex.Temp t lo n) ≡ (assigned t)
unfolding reads_assigned
reads_temp assigned t lo n = ap (reads_assigned assigned) (sym (ex.rolls-Temp t lo n)) ∙ fold-roll-Ex Bool (reads_assigned_step assigned) (Ex-F.Temp t lo n)

pub reads_pick : (assigned : ℕ → Bool) (i : Ex) (ps : List Part) → reads_assigned assigned (ex.Pick i ps) ≡ ((reads_assigned assigned i))
unfolding reads_assigned
reads_pick assigned i ps = ap (reads_assigned assigned) (sym (ex.rolls-Pick i ps)) ∙ fold-roll-Ex Bool (reads_assigned_step assigned) (Ex-F.Pick i ps)

pub reads_number : (assigned : ℕ → Bool) (k : ℕ) → reads_assigned assigned (ex.Number k) ≡ (true)
unfolding reads_assigned
reads_number assigned k = ap (reads_assigned assigned) (sym (ex.rolls-Number k)) ∙ fold-roll-Ex Bool (reads_assigned_step assigned) (Ex-F.Number k)

pub reads_count : (assigned : ℕ → Bool) (k : ℕ) → reads_assigned assigned (ex.Count k) ≡ (true)
unfolding reads_assigned
reads_count assigned k = ap (reads_assigned assigned) (sym (ex.rolls-Count k)) ∙ fold-roll-Ex Bool (reads_assigned_step assigned) (Ex-F.Count k)

pub reads_item : (assigned : ℕ → Bool) (k : ℕ) (i : ℕ) → reads_assigned assigned (ex.Item k i) ≡ (true)
unfolding reads_assigned
reads_item assigned k i = ap (reads_assigned assigned) (sym (ex.rolls-Item k i)) ∙ fold-roll-Ex Bool (reads_assigned_step assigned) (Ex-F.Item k i)

pub reads_last : (assigned : ℕ → Bool) (k : ℕ) → reads_assigned assigned (ex.Last k) ≡ (true)
unfolding reads_assigned
reads_last assigned k = ap (reads_assigned assigned) (sym (ex.rolls-Last k)) ∙ fold-roll-Ex Bool (reads_assigned_step assigned) (Ex-F.Last k)

pub reads_ready : (assigned : ℕ → Bool) (m : Callee) → reads_assigned assigned (ex.Ready m) ≡ (true)
unfolding reads_assigned
reads_ready assigned m = ap (reads_assigned assigned) (sym (ex.rolls-Ready m)) ∙ fold-roll-Ex Bool (reads_assigned_step assigned) (Ex-F.Ready m)

pub reads_not : (assigned : ℕ → Bool) (a : Ex) → reads_assigned assigned (ex.Not a) ≡ ((reads_assigned assigned a))
unfolding reads_assigned
reads_not assigned a = ap (reads_assigned assigned) (sym (ex.rolls-Not a)) ∙ fold-roll-Ex Bool (reads_assigned_step assigned) (Ex-F.Not a)

pub reads_fold : (assigned : ℕ → Bool) (f : Fold) (a : Ex) → reads_assigned assigned (ex.Fold f a) ≡ ((reads_assigned assigned a))
unfolding reads_assigned
reads_fold assigned f a = ap (reads_assigned assigned) (sym (ex.rolls-Fold f a)) ∙ fold-roll-Ex Bool (reads_assigned_step assigned) (Ex-F.Fold f a)

pub reads_bin : (assigned : ℕ → Bool) (op : Op) (a : Ex) (b : Ex) → reads_assigned assigned (ex.Bin op a b) ≡ ((reads_assigned assigned a) && (reads_assigned assigned b))
unfolding reads_assigned
reads_bin assigned op a b = ap (reads_assigned assigned) (sym (ex.rolls-Bin op a b)) ∙ fold-roll-Ex Bool (reads_assigned_step assigned) (Ex-F.Bin op a b)

pub reads_cat : (assigned : ℕ → Bool) (es : List Ex) → reads_assigned assigned (ex.Cat es) ≡ (list_all (λ e. e) (map (reads_assigned assigned) es))
unfolding reads_assigned
reads_cat assigned es = ap (reads_assigned assigned) (sym (ex.rolls-Cat es)) ∙ fold-roll-Ex Bool (reads_assigned_step assigned) (Ex-F.Cat es)

pub reads_zext : (assigned : ℕ → Bool) (a : Ex) (n : ℕ) → reads_assigned assigned (ex.Zext a n) ≡ ((reads_assigned assigned a))
unfolding reads_assigned
reads_zext assigned a n = ap (reads_assigned assigned) (sym (ex.rolls-Zext a n)) ∙ fold-roll-Ex Bool (reads_assigned_step assigned) (Ex-F.Zext a n)

pub reads_sext : (assigned : ℕ → Bool) (a : Ex) (n : ℕ) → reads_assigned assigned (ex.Sext a n) ≡ ((reads_assigned assigned a))
unfolding reads_assigned
reads_sext assigned a n = ap (reads_assigned assigned) (sym (ex.rolls-Sext a n)) ∙ fold-roll-Ex Bool (reads_assigned_step assigned) (Ex-F.Sext a n)

pub reads_trunc : (assigned : ℕ → Bool) (a : Ex) (n : ℕ) → reads_assigned assigned (ex.Trunc a n) ≡ ((reads_assigned assigned a))
unfolding reads_assigned
reads_trunc assigned a n = ap (reads_assigned assigned) (sym (ex.rolls-Trunc a n)) ∙ fold-roll-Ex Bool (reads_assigned_step assigned) (Ex-F.Trunc a n)

pub reads_cond : (assigned : ℕ → Bool) (c : Ex) (a : Ex) (b : Ex) → reads_assigned assigned (ex.Cond c a b) ≡ ((reads_assigned assigned c) && ((reads_assigned assigned a) && (reads_assigned assigned b)))
unfolding reads_assigned
reads_cond assigned c a b = ap (reads_assigned assigned) (sym (ex.rolls-Cond c a b)) ∙ fold-roll-Ex Bool (reads_assigned_step assigned) (Ex-F.Cond c a b)

-- all of them
pub ruleset reads_equations = (reads_const, reads_get, reads_temp, reads_pick, reads_number, reads_count, reads_item, reads_last, reads_ready, reads_not, reads_fold, reads_bin, reads_cat, reads_zext, reads_sext, reads_trunc, reads_cond)

pub progress_set : (part : Part) (e : Ex) (p : Progress) → progress (st.Set part e) p ≡ (behind_reading e p)
unfolding progress
progress_set part e p = ap (λ (run : Progress → Progress). run p) (ap progress (sym (st.rolls-Set part e)) ∙ fold-roll-St (Progress → Progress) progress_step (St-F.Set part e))

pub progress_set_pick : (i : Ex) (ps : List Part) (e : Ex) (p : Progress) → progress (st.SetPick i ps e) p ≡ (behind_reading e (behind_reading i p))
unfolding progress
progress_set_pick i ps e p = ap (λ (run : Progress → Progress). run p) (ap progress (sym (st.rolls-SetPick i ps e)) ∙ fold-roll-St (Progress → Progress) progress_step (St-F.SetPick i ps e))

pub progress_set_temp : (t : ℕ) (e : Ex) (p : Progress) → progress (st.SetTemp t e) p ≡ (behind_setting (Some t) (behind_reading e p))
unfolding progress
progress_set_temp t e p = ap (λ (run : Progress → Progress). run p) (ap progress (sym (st.rolls-SetTemp t e)) ∙ fold-roll-St (Progress → Progress) progress_step (St-F.SetTemp t e))

pub progress_set_number : (k : ℕ) (e : Ex) (p : Progress) → progress (st.SetNumber k e) p ≡ (behind_reading e p)
unfolding progress
progress_set_number k e p = ap (λ (run : Progress → Progress). run p) (ap progress (sym (st.rolls-SetNumber k e)) ∙ fold-roll-St (Progress → Progress) progress_step (St-F.SetNumber k e))

pub progress_push : (k : ℕ) (side : Side) (e : Ex) (p : Progress) → progress (st.Push k side e) p ≡ (behind_reading e p)
unfolding progress
progress_push k side e p = ap (λ (run : Progress → Progress). run p) (ap progress (sym (st.rolls-Push k side e)) ∙ fold-roll-St (Progress → Progress) progress_step (St-F.Push k side e))

pub progress_pop : (k : ℕ) (side : Side) (target : Option ℕ) (p : Progress) → progress (st.Pop k side target) p ≡ (behind_setting target p)
unfolding progress
progress_pop k side target p = ap (λ (run : Progress → Progress). run p) (ap progress (sym (st.rolls-Pop k side target)) ∙ fold-roll-St (Progress → Progress) progress_step (St-F.Pop k side target))

pub progress_clear : (k : ℕ) (p : Progress) → progress (st.Clear k) p ≡ (p)
unfolding progress
progress_clear k p = ap (λ (run : Progress → Progress). run p) (ap progress (sym (st.rolls-Clear k)) ∙ fold-roll-St (Progress → Progress) progress_step (St-F.Clear k))

pub progress_call : (m : Callee) (es : List Ex) (target : Option ℕ) (p : Progress) → progress (st.Call m es target) p ≡ (behind_setting target (in_turn (map behind_reading es) p))
unfolding progress
progress_call m es target p = ap (λ (run : Progress → Progress). run p) (ap progress (sym (st.rolls-Call m es target)) ∙ fold-roll-St (Progress → Progress) progress_step (St-F.Call m es target))

pub progress_if : (c : Ex) (xs : List St) (ys : List St) (p : Progress) → progress (st.If c xs ys) p ≡ (let q = behind_reading c p in behind_either (in_turn (map progress xs) q) (in_turn (map progress ys) q))
unfolding progress
progress_if c xs ys p = ap (λ (run : Progress → Progress). run p) (ap progress (sym (st.rolls-If c xs ys)) ∙ fold-roll-St (Progress → Progress) progress_step (St-F.If c xs ys))

-- all of them
pub ruleset progress_equations = (progress_set, progress_set_pick, progress_set_temp, progress_set_number, progress_push, progress_pop, progress_clear, progress_call, progress_if)
