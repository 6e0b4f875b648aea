-- The equations of what is named, one for each form of expression and of statement.
use Rattle.std.proofs.Common.{◌≡◌, ◌∙◌, ℕ, List, [], ◌∷◌, map, sym, ap, Option}
use Rattle.pm_bits.specs.Word.{Word}
use Rattle.pm_bits.specs.declared.operator.Op.{Op}
use Rattle.pm_bits.specs.declared.operator.Fold.{Fold}
use Rattle.pm_design.specs.declared.body.Side.{Side}
use Rattle.pm_design.specs.declared.connection.Callee.{Callee}
use Rattle.pm_design.specs.declared.connection.Part.{Part}
use Rattle.pm_design.specs.declared.body.Ex.{Ex, Ex-F, fold-roll-Ex}
use Rattle.pm_design.specs.declared.body.Ex.TheVariants as ex
use Rattle.pm_design.specs.declared.body.St.{St, St-F, fold-roll-St}
use Rattle.pm_design.specs.declared.body.St.TheVariants as st
use Rattle.pm_touched.specs.declared.named.Named.{Named}
use Rattle.pm_touched.specs.Naming.{nothing, reading_parts, writing_parts, reading_state, writing_state, asking, calling}
use Rattle.pm_touched.specs.Naming.{together, all_together, named_step, named_in, statement_step, statement_names, body_names}

pub named_const : (c : Word) → named_in (ex.Const c) ≡ nothing
unfolding named_in
named_const c = ap named_in (sym (ex.rolls-Const c)) ∙ fold-roll-Ex Named named_step (Ex-F.Const c)

pub named_get : (p : Part) → named_in (ex.Get p) ≡ reading_parts (p ∷ [])
unfolding named_in
named_get p = ap named_in (sym (ex.rolls-Get p)) ∙ fold-roll-Ex Named named_step (Ex-F.Get p)

pub named_temp : (t : ℕ) (lo : ℕ) (n : ℕ) → named_in (ex.Temp t lo n) ≡ nothing
unfolding named_in
named_temp t lo n = ap named_in (sym (ex.rolls-Temp t lo n)) ∙ fold-roll-Ex Named named_step (Ex-F.Temp t lo n)

pub named_pick : (i : Ex) (ps : List Part) → named_in (ex.Pick i ps) ≡ together (named_in i) (reading_parts ps)
unfolding named_in
named_pick i ps = ap named_in (sym (ex.rolls-Pick i ps)) ∙ fold-roll-Ex Named named_step (Ex-F.Pick i ps)

pub named_number : (k : ℕ) → named_in (ex.Number k) ≡ reading_state k
unfolding named_in
named_number k = ap named_in (sym (ex.rolls-Number k)) ∙ fold-roll-Ex Named named_step (Ex-F.Number k)

pub named_count : (k : ℕ) → named_in (ex.Count k) ≡ reading_state k
unfolding named_in
named_count k = ap named_in (sym (ex.rolls-Count k)) ∙ fold-roll-Ex Named named_step (Ex-F.Count k)

pub named_item : (k : ℕ) (i : ℕ) → named_in (ex.Item k i) ≡ reading_state k
unfolding named_in
named_item k i = ap named_in (sym (ex.rolls-Item k i)) ∙ fold-roll-Ex Named named_step (Ex-F.Item k i)

pub named_last : (k : ℕ) → named_in (ex.Last k) ≡ reading_state k
unfolding named_in
named_last k = ap named_in (sym (ex.rolls-Last k)) ∙ fold-roll-Ex Named named_step (Ex-F.Last k)

pub named_ready : (m : Callee) → named_in (ex.Ready m) ≡ asking m
unfolding named_in
named_ready m = ap named_in (sym (ex.rolls-Ready m)) ∙ fold-roll-Ex Named named_step (Ex-F.Ready m)

pub named_not : (a : Ex) → named_in (ex.Not a) ≡ named_in a
unfolding named_in
named_not a = ap named_in (sym (ex.rolls-Not a)) ∙ fold-roll-Ex Named named_step (Ex-F.Not a)

pub named_fold : (f : Fold) (a : Ex) → named_in (ex.Fold f a) ≡ named_in a
unfolding named_in
named_fold f a = ap named_in (sym (ex.rolls-Fold f a)) ∙ fold-roll-Ex Named named_step (Ex-F.Fold f a)

pub named_bin : (op : Op) (a : Ex) (b : Ex) → named_in (ex.Bin op a b) ≡ together (named_in a) (named_in b)
unfolding named_in
named_bin op a b = ap named_in (sym (ex.rolls-Bin op a b)) ∙ fold-roll-Ex Named named_step (Ex-F.Bin op a b)

pub named_cat : (es : List Ex) → named_in (ex.Cat es) ≡ all_together (map named_in es)
unfolding named_in
named_cat es = ap named_in (sym (ex.rolls-Cat es)) ∙ fold-roll-Ex Named named_step (Ex-F.Cat es)

pub named_zext : (a : Ex) (n : ℕ) → named_in (ex.Zext a n) ≡ named_in a
unfolding named_in
named_zext a n = ap named_in (sym (ex.rolls-Zext a n)) ∙ fold-roll-Ex Named named_step (Ex-F.Zext a n)

pub named_sext : (a : Ex) (n : ℕ) → named_in (ex.Sext a n) ≡ named_in a
unfolding named_in
named_sext a n = ap named_in (sym (ex.rolls-Sext a n)) ∙ fold-roll-Ex Named named_step (Ex-F.Sext a n)

pub named_trunc : (a : Ex) (n : ℕ) → named_in (ex.Trunc a n) ≡ named_in a
unfolding named_in
named_trunc a n = ap named_in (sym (ex.rolls-Trunc a n)) ∙ fold-roll-Ex Named named_step (Ex-F.Trunc a n)

pub named_cond : (c : Ex) (a : Ex) (b : Ex) → named_in (ex.Cond c a b) ≡ together (together (named_in c) (named_in a)) (named_in b)
unfolding named_in
named_cond c a b = ap named_in (sym (ex.rolls-Cond c a b)) ∙ fold-roll-Ex Named named_step (Ex-F.Cond c a b)

pub ruleset named_equations = (named_const, named_get, named_temp, named_pick, named_number, named_count, named_item, named_last, named_ready, named_not, named_fold, named_bin, named_cat, named_zext, named_sext, named_trunc, named_cond)

pub names_set : (p : Part) (e : Ex) → statement_names (st.Set p e) ≡ together (named_in e) (writing_parts (p ∷ []))
unfolding statement_names
names_set p e = ap statement_names (sym (st.rolls-Set p e)) ∙ fold-roll-St Named statement_step (St-F.Set p e)

pub names_set_pick : (i : Ex) (ps : List Part) (e : Ex) → statement_names (st.SetPick i ps e) ≡ together (together (named_in i) (named_in e)) (writing_parts ps)
unfolding statement_names
names_set_pick i ps e = ap statement_names (sym (st.rolls-SetPick i ps e)) ∙ fold-roll-St Named statement_step (St-F.SetPick i ps e)

pub names_set_temp : (t : ℕ) (e : Ex) → statement_names (st.SetTemp t e) ≡ named_in e
unfolding statement_names
names_set_temp t e = ap statement_names (sym (st.rolls-SetTemp t e)) ∙ fold-roll-St Named statement_step (St-F.SetTemp t e)

pub names_set_number : (k : ℕ) (e : Ex) → statement_names (st.SetNumber k e) ≡ together (named_in e) (writing_state k)
unfolding statement_names
names_set_number k e = ap statement_names (sym (st.rolls-SetNumber k e)) ∙ fold-roll-St Named statement_step (St-F.SetNumber k e)

pub names_push : (k : ℕ) (side : Side) (e : Ex) → statement_names (st.Push k side e) ≡ together (together (named_in e) (reading_state k)) (writing_state k)
unfolding statement_names
names_push k side e = ap statement_names (sym (st.rolls-Push k side e)) ∙ fold-roll-St Named statement_step (St-F.Push k side e)

pub names_pop : (k : ℕ) (side : Side) (target : Option ℕ) → statement_names (st.Pop k side target) ≡ together (reading_state k) (writing_state k)
unfolding statement_names
names_pop k side target = ap statement_names (sym (st.rolls-Pop k side target)) ∙ fold-roll-St Named statement_step (St-F.Pop k side target)

pub names_clear : (k : ℕ) → statement_names (st.Clear k) ≡ writing_state k
unfolding statement_names
names_clear k = ap statement_names (sym (st.rolls-Clear k)) ∙ fold-roll-St Named statement_step (St-F.Clear k)

pub names_call : (m : Callee) (es : List Ex) (target : Option ℕ) → statement_names (st.Call m es target) ≡ together (all_together (map named_in es)) (calling m)
unfolding statement_names
names_call m es target = ap statement_names (sym (st.rolls-Call m es target)) ∙ fold-roll-St Named statement_step (St-F.Call m es target)

pub names_if : (c : Ex) (xs : List St) (ys : List St) → statement_names (st.If c xs ys) ≡ together (together (named_in c) (body_names xs)) (body_names ys)
unfolding statement_names
names_if c xs ys = ap statement_names (sym (st.rolls-If c xs ys)) ∙ fold-roll-St Named statement_step (St-F.If c xs ys)

pub ruleset statement_equations = (names_set, names_set_pick, names_set_temp, names_set_number, names_push, names_pop, names_clear, names_call, names_if)
