-- The equations of `is_sound`, one for each form of statement.
use Rattle.std.proofs.Common.{◌≡◌, ◌∙◌, ◌&&◌, ℕ, List, map, sym, ap, Bool, Option, Some}
use Rattle.std.specs.List.{list_all}
use Rattle.pm_design.specs.declared.body.Side.{Side}
use Rattle.pm_design.specs.declared.connection.Callee.{Callee}
use Rattle.pm_design.specs.declared.connection.Part.{Part}
use Rattle.pm_design.specs.declared.body.Ex.{Ex}
use Rattle.pm_design.specs.declared.body.St.{St, St-F, fold-roll-St}
use Rattle.pm_design.specs.declared.body.St.TheVariants as st
use Rattle.pm_design.specs.Typing.{Sight, typing, is_sound, is_sound_step, has_width, have_widths, takes_answer, are_elements, state_of, is_number, is_deque, is_temp}

pub sound_set : (s : Sight) (p : Part) (e : Ex) → is_sound s (st.Set p e) ≡ (s.writes p && has_width s p.width e)
unfolding is_sound
sound_set s p e = ap (is_sound s) (sym (st.rolls-Set p e)) ∙ fold-roll-St Bool (is_sound_step s) (St-F.Set p e)

pub sound_set_pick : (s : Sight) (i : Ex) (ps : List Part) (e : Ex) → is_sound s (st.SetPick i ps e) ≡ ((typing s i).fine && ((typing s e).fine && are_elements s.writes (typing s i).width (typing s e).width ps))
unfolding is_sound
sound_set_pick s i ps e = ap (is_sound s) (sym (st.rolls-SetPick i ps e)) ∙ fold-roll-St Bool (is_sound_step s) (St-F.SetPick i ps e)

pub sound_set_temp : (s : Sight) (t : ℕ) (e : Ex) → is_sound s (st.SetTemp t e) ≡ ((typing s e).fine && is_temp s (typing s e).width t)
unfolding is_sound
sound_set_temp s t e = ap (is_sound s) (sym (st.rolls-SetTemp t e)) ∙ fold-roll-St Bool (is_sound_step s) (St-F.SetTemp t e)

pub sound_set_number : (s : Sight) (k : ℕ) (e : Ex) → is_sound s (st.SetNumber k e) ≡ (s.changes && (is_number s k && has_width s (state_of s k).width e))
unfolding is_sound
sound_set_number s k e = ap (is_sound s) (sym (st.rolls-SetNumber k e)) ∙ fold-roll-St Bool (is_sound_step s) (St-F.SetNumber k e)

pub sound_push : (s : Sight) (k : ℕ) (side : Side) (e : Ex) → is_sound s (st.Push k side e) ≡ (s.changes && (is_deque s 0 k && has_width s (state_of s k).width e))
unfolding is_sound
sound_push s k side e = ap (is_sound s) (sym (st.rolls-Push k side e)) ∙ fold-roll-St Bool (is_sound_step s) (St-F.Push k side e)

pub sound_pop : (s : Sight) (k : ℕ) (side : Side) (target : Option ℕ) → is_sound s (st.Pop k side target) ≡ (s.changes && (is_deque s 0 k && takes_answer s (Some (state_of s k).width) target))
unfolding is_sound
sound_pop s k side target = ap (is_sound s) (sym (st.rolls-Pop k side target)) ∙ fold-roll-St Bool (is_sound_step s) (St-F.Pop k side target)

pub sound_clear : (s : Sight) (k : ℕ) → is_sound s (st.Clear k) ≡ (s.changes && is_deque s 0 k)
unfolding is_sound
sound_clear s k = ap (is_sound s) (sym (st.rolls-Clear k)) ∙ fold-roll-St Bool (is_sound_step s) (St-F.Clear k)

pub sound_call : (s : Sight) (m : Callee) (es : List Ex) (target : Option ℕ) → is_sound s (st.Call m es target) ≡ (s.changes && ((s.calls m).there && (have_widths s (s.calls m).arguments es && takes_answer s (s.calls m).answer target)))
unfolding is_sound
sound_call s m es target = ap (is_sound s) (sym (st.rolls-Call m es target)) ∙ fold-roll-St Bool (is_sound_step s) (St-F.Call m es target)

pub sound_if : (s : Sight) (c : Ex) (xs : List St) (ys : List St) → is_sound s (st.If c xs ys) ≡ ((typing s c).fine && (list_all (λ b. b) (map (is_sound s) xs) && list_all (λ b. b) (map (is_sound s) ys)))
unfolding is_sound
sound_if s c xs ys = ap (is_sound s) (sym (st.rolls-If c xs ys)) ∙ fold-roll-St Bool (is_sound_step s) (St-F.If c xs ys)

-- all of them
pub ruleset sound_equations = (sound_set, sound_set_pick, sound_set_temp, sound_set_number, sound_push, sound_pop, sound_clear, sound_call, sound_if)
