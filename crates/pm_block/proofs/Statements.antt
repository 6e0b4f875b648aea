-- The equations of `run`, one for each form of statement.
use Rattle.std.proofs.Common.{◌≡◌, ◌∙◌, ◌==◌, ℕ, List, [], ◌∷◌, map, sym, ap, Bool, Option}
use Rattle.std.specs.Prelude.{if◌then◌else◌}
use Rattle.pm_design.specs.declared.body.Side.{Side}
use Rattle.pm_design.specs.declared.connection.Callee.{Callee}
use Rattle.pm_design.specs.declared.connection.Part.{Part}
use Rattle.pm_design.specs.declared.body.Ex.{Ex}
use Rattle.pm_design.specs.declared.body.St.{St, St-F, fold-roll-St}
use Rattle.pm_design.specs.declared.body.St.TheVariants as st
use Rattle.pm_block.specs.Run.{Scene, State, run, run_step, in_turn, assigned, put_part, picked_put, put_temp, put_target, pushed, popped, popped_place, value_in, with_items, words_of, returned}
use Rattle.pm_block.specs.Value.{item_of}

pub run_set : (clocked : Bool) (scene : Scene) (p : Part) (e : Ex) (s : State) → run clocked scene (st.Set p e) s ≡ (assigned clocked (put_part scene.frame.names p (value_in scene s e)) s)
unfolding run
run_set clocked scene p e s = ap (λ (run : State → State). run s) (ap (run clocked scene) (sym (st.rolls-Set p e)) ∙ fold-roll-St (State → State) (run_step clocked scene) (St-F.Set p e))

pub run_set_pick : (clocked : Bool) (scene : Scene) (i : Ex) (ps : List Part) (e : Ex) (s : State) → run clocked scene (st.SetPick i ps e) s ≡ (picked_put clocked scene.frame.names ps (value_in scene s i).value (value_in scene s e) s)
unfolding run
run_set_pick clocked scene i ps e s = ap (λ (run : State → State). run s) (ap (run clocked scene) (sym (st.rolls-SetPick i ps e)) ∙ fold-roll-St (State → State) (run_step clocked scene) (St-F.SetPick i ps e))

pub run_set_temp : (clocked : Bool) (scene : Scene) (t : ℕ) (e : Ex) (s : State) → run clocked scene (st.SetTemp t e) s ≡ (record s { temps = put_temp t (value_in scene s e) s.temps })
unfolding run
run_set_temp clocked scene t e s = ap (λ (run : State → State). run s) (ap (run clocked scene) (sym (st.rolls-SetTemp t e)) ∙ fold-roll-St (State → State) (run_step clocked scene) (St-F.SetTemp t e))

pub run_set_number : (clocked : Bool) (scene : Scene) (k : ℕ) (e : Ex) (s : State) → run clocked scene (st.SetNumber k e) s ≡ (with_items scene k (value_in scene s e ∷ []) s)
unfolding run
run_set_number clocked scene k e s = ap (λ (run : State → State). run s) (ap (run clocked scene) (sym (st.rolls-SetNumber k e)) ∙ fold-roll-St (State → State) (run_step clocked scene) (St-F.SetNumber k e))

pub run_push : (clocked : Bool) (scene : Scene) (k : ℕ) (end : Side) (e : Ex) (s : State) → run clocked scene (st.Push k end e) s ≡ (with_items scene k (pushed (scene.frame.holding k).maxlen end (value_in scene s e) (words_of scene s k)) s)
unfolding run
run_push clocked scene k end e s = ap (λ (run : State → State). run s) (ap (run clocked scene) (sym (st.rolls-Push k end e)) ∙ fold-roll-St (State → State) (run_step clocked scene) (St-F.Push k end e))

pub run_pop : (clocked : Bool) (scene : Scene) (k : ℕ) (end : Side) (target : Option ℕ) (s : State) → run clocked scene (st.Pop k end target) s ≡ (let word = item_of scene.frame s.items k (popped_place end (words_of scene s k)) in let left : State = with_items scene k (popped end (words_of scene s k)) s in record left { temps = put_target target word s.temps })
unfolding run
run_pop clocked scene k end target s = ap (λ (run : State → State). run s) (ap (run clocked scene) (sym (st.rolls-Pop k end target)) ∙ fold-roll-St (State → State) (run_step clocked scene) (St-F.Pop k end target))

pub run_clear : (clocked : Bool) (scene : Scene) (k : ℕ) (s : State) → run clocked scene (st.Clear k) s ≡ (with_items scene k [] s)
unfolding run
run_clear clocked scene k s = ap (λ (run : State → State). run s) (ap (run clocked scene) (sym (st.rolls-Clear k)) ∙ fold-roll-St (State → State) (run_step clocked scene) (St-F.Clear k))

pub run_call : (clocked : Bool) (scene : Scene) (m : Callee) (es : List Ex) (target : Option ℕ) (s : State) → run clocked scene (st.Call m es target) s ≡ (returned target s (scene.call m (map (value_in scene s) es) s))
unfolding run
run_call clocked scene m es target s = ap (λ (run : State → State). run s) (ap (run clocked scene) (sym (st.rolls-Call m es target)) ∙ fold-roll-St (State → State) (run_step clocked scene) (St-F.Call m es target))

pub run_if : (clocked : Bool) (scene : Scene) (c : Ex) (xs : List St) (ys : List St) (s : State) → run clocked scene (st.If c xs ys) s ≡ (if (value_in scene s c).value == 0 then in_turn (map (run clocked scene) ys) s else in_turn (map (run clocked scene) xs) s)
unfolding run
run_if clocked scene c xs ys s = ap (λ (run : State → State). run s) (ap (run clocked scene) (sym (st.rolls-If c xs ys)) ∙ fold-roll-St (State → State) (run_step clocked scene) (St-F.If c xs ys))

-- all of them
pub ruleset run_equations = (run_set, run_set_pick, run_set_temp, run_set_number, run_push, run_pop, run_clear, run_call, run_if)
